-- One decision on both sides: the decoder finds itself in the part that the encoder took.
use Rattle.std.proofs.Common.{◌≡◌, ℕ, ◌+◌, ◌-◌, ◌*◌, ◌%◌, ◌^◌, ◌<◌, ◌≤◌, Bool, true, false, List, refl, sym, ap, ◌∙◌, arith, subst, ⊎_elim, inr}
use Rattle.std.proofs.Math.Nat.{le_of_mul-le-mul_right}
use Rattle.std.proofs.lemmas.Nat.{pow_pos}
use Rattle.std.proofs.lemmas.Bool.{cases_Bool}
use Rattle.jbig2_coder.specs.Coder.{Context, Decision, Registers, byte_at, choice, decision, renormd}
use Rattle.jbig2_coder.specs.Encoder.{Writer, EncoderState, encoding, renorme}
use Rattle.jbig2_coder.specs.inner.EncoderViews.{Encoding}
use Rattle.jbig2_coder.specs.declared.arithmetic_decoder.registers.CodeRegister.{CodeRegister}
use Rattle.jbig2_coder.proofs.InverseByteOut.{low, time}
use Rattle.jbig2_coder.proofs.InverseKnows.{Fits, Seen-fits}
use Rattle.jbig2_coder.proofs.InverseShift.{KnowsAt}
use Rattle.jbig2_coder.proofs.InverseNarrow.{Narrowing, Upper, Lower}
use Rattle.jbig2_coder.proofs.InverseEncode.{BetweenDecisions, at_part, part-bounded, Entry, entry, narrowing_of, encoding-quiet_is, encoding-renorm_is}
use Rattle.jbig2_coder.proofs.InverseRead.{Closing}
use Rattle.jbig2_coder.proofs.InverseDraw.{FollowsAt, Follows-below, Together, together}

-- the decoder's choice, before RENORMD
record Picked (f : ℕ → ℕ) (m : ℕ) (x : Context) (d : Bool) (s : EncoderState) (n : Narrowing x d s.range s.writer.register) (r : CodeRegister) (v : ℕ) : Type 0 where
  c : ℕ
  chosen : choice x s.range r.c ≡ record { symbol = d; a = n.range; c = c; context = n.next; renorm = n.renorm }
  follows : FollowsAt f m n.range (at_part x d s n) (record r { c = c }) v

pick-upper : (f : ℕ → ℕ) (m : ℕ) (x : Context) (d : Bool) (s : EncoderState) (n : Narrowing x d s.range s.writer.register) (r : CodeRegister) (v : ℕ)
    → Upper x d s.range s.writer.register n.range n.register n.next n.renorm → FollowsAt f m s.range s.writer r v
    → KnowsAt f m n.range (at_part x d s n) → Picked f m x d s n r v
pick-upper f m x d s n r v u h know =
    let w : Writer = at_part x d s n in
    let top : low s.writer + s.range ≡ low w + n.range = omega (arith, u.top) in
    let code : r.c * 2 ^ r.ct + (v + 1) * 2 ^ 16 ≡ (low w + n.range) * 2 ^ r.ct * 2 ^ 16 = h.code ∙ ap (λ y. y * 2 ^ r.ct * 2 ^ 16) top in
    let follows : FollowsAt f m n.range w r v = record { few = h.few; seen = h.seen; code = code } in
    let below : r.c < n.range * 2 ^ 16 = Follows-below f m n.range w r v follows know in
    record { c = r.c; chosen = u.chosen r.c (omega arith); follows = follows }

lower-most : (c v p lo b u : ℕ) → c * p + (v + 1) * 2 ^ 16 ≡ (lo + (b + u)) * p * 2 ^ 16 → v + 1 ≤ (lo + b) * p → u * 2 ^ 16 * p ≤ c * p
lower-most c v p lo b u e h = omega arith

lower-code : (c v p lo b u : ℕ) → c * p + (v + 1) * 2 ^ 16 ≡ (lo + (b + u)) * p * 2 ^ 16 → u * 2 ^ 16 ≤ c
    → (c - u * 2 ^ 16) * p + (v + 1) * 2 ^ 16 ≡ (lo + b) * p * 2 ^ 16
lower-code c v p lo b u e h =
    let sum : c ≡ c - u * 2 ^ 16 + u * 2 ^ 16 = omega arith in
    let q : c * p ≡ (c - u * 2 ^ 16 + u * 2 ^ 16) * p = ap (λ y. y * p) sum in
    left (c - u * 2 ^ 16) q
  where
    left : (z : ℕ) → c * p ≡ (z + u * 2 ^ 16) * p → z * p + (v + 1) * 2 ^ 16 ≡ (lo + b) * p * 2 ^ 16
    left z q = omega arith

pick-lower : (f : ℕ → ℕ) (m : ℕ) (x : Context) (d : Bool) (s : EncoderState) (n : Narrowing x d s.range s.writer.register) (r : CodeRegister) (v : ℕ)
    → BetweenDecisions s → (l : Lower x d s.range s.writer.register n.range n.register n.next n.renorm) → FollowsAt f m s.range s.writer r v
    → KnowsAt f m n.range (at_part x d s n) → KnowsAt f m s.range s.writer → Picked f m x d s n r v
pick-lower f m x d s n r v b l h know before =
    let w : Writer = at_part x d s n in
    let k : low s.writer ≡ low w = omega (arith, l.bottom) in
    let fit : Fits (low w) (low w + n.range) v r.ct =
    Seen-fits f m (low w) (low w + n.range) (time w) w.out r.place v (time w + 15 + r.ct) r.ct know (omega arith) refl h.seen in
    let top : low s.writer + s.range ≡ low w + (n.range + l.upper) = omega (arith, k, l.whole) in
    let code : r.c * 2 ^ r.ct + (v + 1) * 2 ^ 16 ≡ (low w + (n.range + l.upper)) * 2 ^ r.ct * 2 ^ 16 =
    h.code ∙ ap (λ y. y * 2 ^ r.ct * 2 ^ 16) top in
    let most : l.upper * 2 ^ 16 ≤ r.c =
    le_of_mul-le-mul_right {k = 2 ^ r.ct} (lower-most r.c v (2 ^ r.ct) (low w) n.range l.upper code fit.under) (pow_pos r.ct) in
    let below : r.c < s.range * 2 ^ 16 = Follows-below f m s.range s.writer r v h before in
    let small : r.c < 2 ^ 32 = omega (arith, below, b.below) in
    let whole : (r.c + (2 ^ 32 - l.upper * 2 ^ 16)) % 2 ^ 32 ≡ r.c - l.upper * 2 ^ 16 = omega (arith, most, small) in
    record {
      c = (r.c + (2 ^ 32 - l.upper * 2 ^ 16)) % 2 ^ 32;
      chosen = l.chosen r.c (omega (arith, most));
      follows = record {
        few = h.few;
        seen = h.seen;
        code = ap (λ y. y * 2 ^ r.ct + (v + 1) * 2 ^ 16) whole ∙ lower-code r.c v (2 ^ r.ct) (low w) n.range l.upper code most;
      };
    }

pick : (f : ℕ → ℕ) (m : ℕ) (x : Context) (d : Bool) (s : EncoderState) (n : Narrowing x d s.range s.writer.register) (r : CodeRegister) (v : ℕ)
    → BetweenDecisions s → FollowsAt f m s.range s.writer r v → KnowsAt f m n.range (at_part x d s n) → KnowsAt f m s.range s.writer → Picked f m x d s n r v
pick f m x d s n r v b h know before =
    ⊎_elim
    (λ (u : Upper x d s.range s.writer.register n.range n.register n.next n.renorm). pick-upper f m x d s n r v u h know)
    (λ (l : Lower x d s.range s.writer.register n.range n.register n.next n.renorm). pick-lower f m x d s n r v b l h know before)
    n.part

-- a decision, by what is chosen
decision-quiet_is : (bytes : List ℕ) (r : Registers) (x y : Context) (d : Bool) (a c : ℕ)
    → choice x r.a r.code.c ≡ record { symbol = d; a = a; c = c; context = y; renorm = false }
    → decision bytes r x ≡ record { symbol = d; registers = record { a = a; code = record r.code { c = c } }; context = y }
unfolding decision
decision-quiet_is bytes r x y d a c e = rw e refl

decision-renorm_is : (bytes : List ℕ) (r : Registers) (x y : Context) (d : Bool) (a c : ℕ)
    → choice x r.a r.code.c ≡ record { symbol = d; a = a; c = c; context = y; renorm = true }
    → decision bytes r x ≡ record { symbol = d; registers = renormd bytes 15 a (record r.code { c = c }); context = y }
unfolding decision
decision-renorm_is bytes r x y d a c e = rw e refl

-- What the decoder returns in the encoder's context, and where both stand afterwards.
pub record IfResult (bytes : List ℕ) (m : ℕ) (d : Bool) (e : Encoding) (z : Decision) : Type 0 where
  pub symbol : z.symbol ≡ d
  pub context : z.context ≡ e.context
  pub follows : Together (byte_at bytes) m e.coding z.registers

tell-quiet : (bytes : List ℕ) (m : ℕ) (x : Context) (d : Bool) (s : EncoderState) (n : Narrowing x d s.range s.writer.register) (r : Registers) (v : ℕ)
    → r.a ≡ s.range → n.renorm ≡ false → Picked (byte_at bytes) m x d s n r.code v → IfResult bytes m d (encoding x d s) (decision bytes r x)
tell-quiet bytes m x d s n r v same e p =
    let chosen : choice x r.a r.code.c ≡ record { symbol = d; a = n.range; c = p.c; context = n.next; renorm = false } =
    ap (λ a. choice x a r.code.c) same ∙ p.chosen ∙ (λ i. record { symbol = d; a = n.range; c = p.c; context = n.next; renorm = e i }) in
    subst (λ (t : Encoding). IfResult bytes m d t (decision bytes r x)) (sym (encoding-quiet_is x d s n e))
    (subst (IfResult bytes m d (record { coding = record { range = n.range; writer = at_part x d s n }; context = n.next })) (sym (decision-quiet_is bytes r x n.next d n.range p.c chosen))
    (record { symbol = refl; context = refl; follows = record { number = v; same = refl; follows = p.follows } }))

tell-renorm : (bytes : List ℕ) (m : ℕ) (x : Context) (d : Bool) (s : EncoderState) (n : Narrowing x d s.range s.writer.register) (r : Registers) (v : ℕ)
    → Closing (byte_at bytes) m → BetweenDecisions s → r.a ≡ s.range → n.renorm ≡ true → Picked (byte_at bytes) m x d s n r.code v
    → KnowsAt (byte_at bytes) m (encoding x d s).coding.range (encoding x d s).coding.writer → IfResult bytes m d (encoding x d s) (decision bytes r x)
tell-renorm bytes m x d s n r v closing b same e p know =
    let w : Writer = at_part x d s n in
    let chosen : choice x r.a r.code.c ≡ record { symbol = d; a = n.range; c = p.c; context = n.next; renorm = true } =
    ap (λ a. choice x a r.code.c) same ∙ p.chosen ∙ (λ i. record { symbol = d; a = n.range; c = p.c; context = n.next; renorm = e i }) in
    let later : KnowsAt (byte_at bytes) m (renorme 15 n.range w).range (renorme 15 n.range w).writer =
    subst (λ (t : Encoding). KnowsAt (byte_at bytes) m t.coding.range t.coding.writer) (encoding-renorm_is x d s n e) know in
    subst (λ (t : Encoding). IfResult bytes m d t (decision bytes r x)) (sym (encoding-renorm_is x d s n e))
    (subst (IfResult bytes m d (record { coding = renorme 15 n.range w; context = n.next })) (sym (decision-renorm_is bytes r x n.next d n.range p.c chosen))
    (record {
      symbol = refl;
      context = refl;
      follows = together bytes m 15 n.range w (record r.code { c = p.c }) v closing (part-bounded x d s n b) b.some (inr (n.moves e)) n.below (omega (arith, n.some)) later p.follows;
    }))

pub tell : (bytes : List ℕ) (m : ℕ) (x : Context) (d : Bool) (s : EncoderState) (r : Registers) → Closing (byte_at bytes) m → BetweenDecisions s
    → Together (byte_at bytes) m s r
    → KnowsAt (byte_at bytes) m (encoding x d s).coding.range (encoding x d s).coding.writer → IfResult bytes m d (encoding x d s) (decision bytes r x)
tell bytes m x d s r closing b t know =
    let f : ℕ → ℕ = byte_at bytes in
    let n : Narrowing x d s.range s.writer.register = narrowing_of x d s b in
    let i : Entry x d s n (encoding x d s).coding = entry x d s n b in
    let here : KnowsAt f m n.range (at_part x d s n) = i.renorm f m know in
    let p : Picked f m x d s n r.code t.number = pick f m x d s n r.code t.number b t.follows here (i.narrow f m here) in
    ⊎_elim
    (λ (e : n.renorm ≡ true). tell-renorm bytes m x d s n r t.number closing b t.same e p know)
    (λ (e : n.renorm ≡ false). tell-quiet bytes m x d s n r t.number t.same e p)
    (cases_Bool n.renorm)
