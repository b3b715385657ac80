-- A whole list: what its bytes know of each interval on the way.
use Rattle.std.proofs.Common.{◌≡◌, ℕ, ◌+◌, ◌*◌, ◌^◌, ◌<◌, ◌≤◌, Bool, true, false, List, [], ◌∷◌, refl, sym, ◌∙◌, arith, subst, ⊎_elim, ◌⊎◌, inl, inr, mul-le-mul_right}
use Rattle.std.proofs.lemmas.Bool.{cases_Bool}
use Rattle.jbig2_coder.specs.Coder.{Context}
use Rattle.jbig2_coder.specs.Encoder.{Writer, EncoderState, initial_coding, renorme, encoding, flush_coder, with_context, encode_from}
use Rattle.jbig2_coder.specs.inner.EncoderViews.{Contexts, Encoding}
use Rattle.jbig2_coder.proofs.Encoders.{encoding-quiet, encoding-renorm}
use Rattle.jbig2_coder.proofs.InverseByteOut.{low, time, Room-le, Bounded}
use Rattle.jbig2_coder.proofs.InverseKnows.{Knows-wider}
use Rattle.jbig2_coder.proofs.InverseShift.{KnowsAt, Resting, Renorm, renorm}
use Rattle.jbig2_coder.proofs.InverseNarrow.{Narrowing, narrowing}
use Rattle.jbig2_coder.proofs.InverseFlush.{Flush, flush}

-- What holds between two decisions, and before the first one too.
pub record BetweenDecisions (s : EncoderState) : Type 0 where
  pub bounded : Bounded s.range s.writer
  pub some : 1 ≤ s.writer.wait
  pub few : (s.writer.wait ≤ 11) ⊎ (s.range ≡ 0x8000)
  pub normal : 0x8000 ≤ s.range
  pub below : s.range < 0x10000

pub resting-between : (s : EncoderState) → Resting s → BetweenDecisions s
resting-between s r = record { bounded = r.bounded; some = r.some; few = inl r.few; normal = r.normal; below = r.below }

pub initial-between : BetweenDecisions initial_coding
unfolding initial_coding
initial-between =
    record {
      bounded = record { some = omega arith; few = omega arith; room = omega arith; valid = tt };
      some = omega arith;
      few = inr refl;
      normal = omega arith;
      below = omega arith;
    }

-- the writer in the part of the interval that a decision takes
abbrev pub at_part : (x : Context) (d : Bool) (s : EncoderState) → Narrowing x d s.range s.writer.register → Writer
at_part x d s n = record s.writer { register = n.register }

-- a decision, and what the end knows of the interval after it goes back to its part, and to the one before it
pub record Entry (x : Context) (d : Bool) (s : EncoderState) (n : Narrowing x d s.range s.writer.register) (t : EncoderState) : Type 0 where
  pub resting : Resting t
  pub renorm : (f : ℕ → ℕ) (m : ℕ) → KnowsAt f m t.range t.writer → KnowsAt f m n.range (at_part x d s n)
  pub narrow : (f : ℕ → ℕ) (m : ℕ) → KnowsAt f m n.range (at_part x d s n) → KnowsAt f m s.range s.writer

pub part-bounded : (x : Context) (d : Bool) (s : EncoderState) (n : Narrowing x d s.range s.writer.register) → BetweenDecisions s → Bounded n.range (at_part x d s n)
part-bounded x d s n b =
    let h : (n.register + n.range) * 2 ^ s.writer.wait ≤ (s.writer.register + s.range) * 2 ^ s.writer.wait =
    mul-le-mul_right (2 ^ s.writer.wait) n.high in
    record {
      some = n.some;
      few = b.bounded.few;
      room = Room-le ((n.register + n.range) * 2 ^ s.writer.wait) ((s.writer.register + s.range) * 2 ^ s.writer.wait) s.writer.out h b.bounded.room;
      valid = b.bounded.valid;
    }

part-back : (x : Context) (d : Bool) (s : EncoderState) (n : Narrowing x d s.range s.writer.register) (f : ℕ → ℕ) (m : ℕ)
    → KnowsAt f m n.range (at_part x d s n) → KnowsAt f m s.range s.writer
part-back x d s n f m k =
    let w : Writer = s.writer in
    Knows-wider f m (low w) (low w + s.range) (time w) (low (at_part x d s n)) (low (at_part x d s n) + n.range) w.out
    (omega (arith, n.low)) (omega (arith, n.high)) k

entry-quiet : (x : Context) (d : Bool) (s : EncoderState) (n : Narrowing x d s.range s.writer.register) → BetweenDecisions s → n.renorm ≡ false
    → Entry x d s n (record { range = n.range; writer = at_part x d s n })
entry-quiet x d s n b e =
    let q = n.quiet e in
    record {
      resting = record { bounded = part-bounded x d s n b; some = b.some; few = omega (arith, q, b.few, b.normal); normal = q.0; below = n.below };
      renorm = λ f m k. k;
      narrow = part-back x d s n;
    }

entry-renorm : (x : Context) (d : Bool) (s : EncoderState) (n : Narrowing x d s.range s.writer.register) → BetweenDecisions s → n.renorm ≡ true
    → Entry x d s n (renorme 15 n.range (at_part x d s n))
entry-renorm x d s n b e =
    let r : Renorm n.range (at_part x d s n) (renorme 15 n.range (at_part x d s n)) =
    renorm 15 n.range (at_part x d s n) (part-bounded x d s n b) b.some (inr (n.moves e)) n.below (omega (arith, n.some)) in
    record { resting = r.resting; renorm = r.back; narrow = part-back x d s n }

-- what a decision makes of the encoder
pub encoding-quiet_is : (x : Context) (d : Bool) (s : EncoderState) (n : Narrowing x d s.range s.writer.register) → n.renorm ≡ false
    → encoding x d s ≡ record { coding = record { range = n.range; writer = at_part x d s n }; context = n.next }
encoding-quiet_is x d s n e =
    encoding-quiet s x n.next d n.range n.register
    (n.is ∙ (λ i. record { range = n.range; register = n.register; context = n.next; renorm = e i }))

pub encoding-renorm_is : (x : Context) (d : Bool) (s : EncoderState) (n : Narrowing x d s.range s.writer.register) → n.renorm ≡ true
    → encoding x d s ≡ record { coding = renorme 15 n.range (at_part x d s n); context = n.next }
encoding-renorm_is x d s n e =
    encoding-renorm s x n.next d n.range n.register
    (n.is ∙ (λ i. record { range = n.range; register = n.register; context = n.next; renorm = e i }))

pub entry : (x : Context) (d : Bool) (s : EncoderState) (n : Narrowing x d s.range s.writer.register) → BetweenDecisions s → Entry x d s n (encoding x d s).coding
entry x d s n b =
    ⊎_elim
    (λ (e : n.renorm ≡ true).
    subst (λ (t : Encoding). Entry x d s n t.coding) (sym (encoding-renorm_is x d s n e)) (entry-renorm x d s n b e))
    (λ (e : n.renorm ≡ false).
    subst (λ (t : Encoding). Entry x d s n t.coding) (sym (encoding-quiet_is x d s n e)) (entry-quiet x d s n b e))
    (cases_Bool n.renorm)

-- the narrowing of an encoder between two decisions
pub narrowing_of : (x : Context) (d : Bool) (s : EncoderState) → BetweenDecisions s → Narrowing x d s.range s.writer.register
narrowing_of x d s b = narrowing x d s.range s.writer.register b.normal b.below

pub encode_from-entry : (s : EncoderState) (contexts : Contexts) (e : ℕ × Bool) (es : List (ℕ × Bool))
    → encode_from s contexts (e ∷ es)
    ≡ encode_from (encoding (contexts e.0) e.1 s).coding (with_context contexts e.0 (encoding (contexts e.0) e.1 s).context) es
unfolding encode_from
encode_from-entry s contexts e es = refl

pub encode_from-none : (s : EncoderState) (contexts : Contexts) → encode_from s contexts [] ≡ s
unfolding encode_from
encode_from-none s contexts = refl

-- the bytes of a list from here on, and what they know of the interval here
pub encode-back : (es : List (ℕ × Bool)) (s : EncoderState) (contexts : Contexts) → Resting s → Flush s (flush_coder (encode_from s contexts es))
encode-back [] s contexts rest = subst (λ (t : EncoderState). Flush s (flush_coder t)) (sym (encode_from-none s contexts)) (flush s rest)
encode-back (e ∷ es) s contexts rest =
    let x : Context = contexts e.0 in
    let b : BetweenDecisions s = resting-between s rest in
    let n : Narrowing x e.1 s.range s.writer.register = narrowing_of x e.1 s b in
    let t : Encoding = encoding x e.1 s in
    let i : Entry x e.1 s n t.coding = entry x e.1 s n b in
    let h : Flush t.coding (flush_coder (encode_from t.coding (with_context contexts e.0 t.context) es)) =
    encode-back es t.coding (with_context contexts e.0 t.context) i.resting in
    subst (λ (z : EncoderState). Flush s (flush_coder z)) (sym (encode_from-entry s contexts e es))
    (record { valid = h.valid; back = λ f m len whole. i.narrow f m (i.renorm f m (h.back f m len whole)) })
