-- The decoder's states along a list of decisions.
use Rattle.std.proofs.Common.{◌≡◌, ◌⊎◌, ℕ, zero, suc, ◌+◌, ◌<◌, ◌≤◌, eqb, Bool, false, List, [], ◌∷◌, ◌++◌, length, get_or, set, drop, replicate, refl, sym, ◌∙◌, ap, subst, arith, inl, inr, ⊎_elim, eq-eqb, ne_eqb, append_assoc, append-nil}
use Rattle.std.proofs.lemmas.List.{length_push}
use Rattle.std.proofs.lemmas.Bool.{cond-true, cond-false}
use Rattle.jbig2_coder.specs.Coder.{Context, Decision, fresh, decision}
use Rattle.jbig2_coder.specs.Encoder.{with_context, decoded_from, read_back, encoded_bytes}
use Rattle.jbig2_coder.specs.Integers.{Reading, next, read, read_more}
use Rattle.jbig2_coder.proofs.Inverse.{decodes_back}
use Rattle.jbig2_inverses.specs.CoderStates.{Entry, asked, State, state_on, state_after, initial_state, GivesDecisions, window}
use Rattle.jbig2_inverses.specs.IntegerWriter.{in_contexts}

-- windows
with-same : (contexts : ℕ → Context) (k : ℕ) (x : Context) → with_context contexts k x k ≡ x
unfolding with_context
with-same contexts k x = cond-true (eqb k k) x (contexts k) (eq-eqb k k refl)

with-other : (contexts : ℕ → Context) (k j : ℕ) (x : Context) → (j ≡ k → ⊥) → with_context contexts k x j ≡ contexts j
unfolding with_context
with-other contexts k j x o = cond-false (eqb j k) x (contexts j) (ne_eqb j k o)

pub window-get : (base count k : ℕ) (contexts : ℕ → Context) (d : Context) → k < count → get_or (window base count contexts) k d ≡ contexts (base + k)
unfolding window
window-get base zero k contexts d h = absurd (omega (arith, h))
window-get base (suc count) zero contexts d h = let e : base ≡ base + 0 = omega arith in ap contexts e
window-get base (suc count) (suc k) contexts d h =
    let e : base + 1 + k ≡ base + suc k = omega arith in window-get (base + 1) count k contexts d (omega (arith, h)) ∙ ap contexts e

pub window-apart : (base count k : ℕ) (contexts : ℕ → Context) (x : Context) → (k < base) ⊎ (base + count ≤ k) → window base count (with_context contexts k x) ≡ window base count contexts
unfolding window
window-apart base zero k contexts x h = refl
window-apart base (suc count) k contexts x h =
    let here : with_context contexts k x base ≡ contexts base = with-other contexts k base x (λ e. ⊎_elim (λ (a : k < base). omega (arith, a, e)) (λ (a : base + suc count ≤ k). omega (arith, a, e)) h) in
    let more : (k < base + 1) ⊎ (base + 1 + count ≤ k) = ⊎_elim (λ (a : k < base). inl (omega (arith, a))) (λ (a : base + suc count ≤ k). inr (omega (arith, a))) h in
    ap (λ (c : Context). c ∷ window (base + 1) count (with_context contexts k x)) here
    ∙ ap (λ (cs : List Context). contexts base ∷ cs) (window-apart (base + 1) count k contexts x more)

pub window-set : (base count k : ℕ) (contexts : ℕ → Context) (x : Context) → k < count → set (window base count contexts) k x ≡ window base count (with_context contexts (base + k) x)
unfolding window
window-set base zero k contexts x h = absurd (omega (arith, h))
window-set base (suc count) zero contexts x h =
    let e : base ≡ base + 0 = omega arith in
    let w : with_context contexts base x ≡ with_context contexts (base + 0) x = ap (λ (i : ℕ). with_context contexts i x) e in
    ap (λ (cs : List Context). x ∷ cs) (sym (window-apart (base + 1) count base contexts x (inl (omega arith))))
    ∙ ap (λ (c : Context). c ∷ window (base + 1) count (with_context contexts base x)) (sym (with-same contexts base x))
    ∙ ap (λ (f : ℕ → Context). f base ∷ window (base + 1) count f) w
window-set base (suc count) (suc k) contexts x h =
    let e : base + 1 + k ≡ base + suc k = omega arith in
    ap (λ (cs : List Context). contexts base ∷ cs) (window-set (base + 1) count k contexts x (omega (arith, h)))
    ∙ ap (λ (i : ℕ). contexts base ∷ window (base + 1) count (with_context contexts i x)) e
    ∙ ap (λ (c : Context). c ∷ window (base + 1) count (with_context contexts (base + suc k) x)) (sym (with-other contexts (base + suc k) base x (λ s. omega (arith, s))))

pub window-fresh : (base count : ℕ) → window base count (λ k. fresh) ≡ replicate count fresh
unfolding window
window-fresh base zero = refl
window-fresh base (suc count) = ap (λ (cs : List Context). fresh ∷ cs) (window-fresh (base + 1) count)

-- decisions, one after another
pub gives-first : (bytes : List ℕ) (s : State) (e : Entry) (es : List Entry) → GivesDecisions bytes s (e ∷ es) → (decision bytes s.registers (s.contexts e.0)).symbol ≡ e.1
unfolding decoded_from
gives-first bytes s e es g = ap (λ (ds : List Bool). get_or ds 0 false) g

pub gives-next : (bytes : List ℕ) (s : State) (e : Entry) (es : List Entry) → GivesDecisions bytes s (e ∷ es) → GivesDecisions bytes (state_on bytes s e.0) es
unfolding decoded_from state_on
gives-next bytes s e es g = ap (λ (ds : List Bool). drop 1 ds) g

pub after-next : (bytes : List ℕ) (s : State) (e : Entry) (es : List Entry) → state_after bytes s (asked (e ∷ es)) ≡ state_after bytes (state_on bytes s e.0) (asked es)
unfolding state_after
after-next bytes s e es = refl

pub after-none : (bytes : List ℕ) (s : State) → state_after bytes s [] ≡ s
unfolding state_after
after-none bytes s = refl

pub gives-after : (bytes : List ℕ) (s : State) (xs ys : List Entry) → GivesDecisions bytes s (xs ++ ys) → GivesDecisions bytes (state_after bytes s (asked xs)) ys
unfolding state_after
gives-after bytes s [] ys g = g
gives-after bytes s (x ∷ xs) ys g = gives-after bytes (state_on bytes s x.0) xs ys (gives-next bytes s x (xs ++ ys) g)

pub gives-before : (bytes : List ℕ) (s : State) (xs ys : List Entry) → GivesDecisions bytes s (xs ++ ys) → GivesDecisions bytes s xs
unfolding decoded_from state_on
gives-before bytes s [] ys g = refl
gives-before bytes s (x ∷ xs) ys g =
    let d = (decision bytes s.registers (s.contexts x.0)).symbol in
    ap (λ (b : Bool). b ∷ decoded_from bytes (state_on bytes s x.0).registers (state_on bytes s x.0).contexts (asked xs)) (gives-first bytes s x (xs ++ ys) g)
    ∙ ap (λ (ds : List Bool). x.1 ∷ ds) (gives-before bytes (state_on bytes s x.0) xs ys (gives-next bytes s x (xs ++ ys) g))

pub after-append : (bytes : List ℕ) (s : State) (xs ys : List Entry) → state_after bytes s (asked (xs ++ ys)) ≡ state_after bytes (state_after bytes s (asked xs)) (asked ys)
unfolding state_after
after-append bytes s [] ys = refl
after-append bytes s (x ∷ xs) ys = after-append bytes (state_on bytes s x.0) xs ys

pub gives-encoded : (es : List Entry) → GivesDecisions (encoded_bytes es) (initial_state (encoded_bytes es)) es
unfolding read_back
gives-encoded es = decodes_back es

pub gives-amid : (bytes : List ℕ) (before middle after : List Entry) → bytes ≡ encoded_bytes (before ++ middle ++ after)
    → GivesDecisions bytes (state_after bytes (initial_state bytes) (asked before)) middle
gives-amid bytes before middle after e =
    let es = before ++ middle ++ after in
    let all : GivesDecisions bytes (initial_state bytes) es = subst (λ (b : List ℕ). GivesDecisions b (initial_state b) es) (sym e) (gives-encoded es) in
    let split : before ++ middle ++ after ≡ before ++ (middle ++ after) = append_assoc before middle after in
    let turned : GivesDecisions bytes (initial_state bytes) (before ++ (middle ++ after)) = subst (λ (xs : List Entry). GivesDecisions bytes (initial_state bytes) xs) split all in
    gives-before bytes (state_after bytes (initial_state bytes) (asked before)) middle after (gives-after bytes (initial_state bytes) before (middle ++ after) turned)

-- readings bit by bit
module _ (name : List Bool → ℕ) (base count limit : ℕ) where
  abbrev pub Bound : Type 0
  Bound = (bits : List Bool) → length bits < limit → name bits < count

  abbrev pub reading_at : List Bool → State → Reading
  reading_at bits s = record { bits = bits; registers = s.registers; contexts = window base count s.contexts }

  next-is : (bytes : List ℕ) (bits : List Bool) (s : State) → name bits < count → next name bytes (reading_at bits s) ≡ decision bytes s.registers (s.contexts (base + name bits))
  unfolding next
  next-is bytes bits s h = ap (λ (x : Context). decision bytes s.registers x) (window-get base count (name bits) s.contexts fresh h)

  read-is : (bytes : List ℕ) (bits : List Bool) (s : State) → name bits < count
      → read name bytes (reading_at bits s) ≡ reading_at (bits ++ (decision bytes s.registers (s.contexts (base + name bits))).symbol ∷ []) (state_on bytes s (base + name bits))
  unfolding read state_on
  read-is bytes bits s h =
      let d = decision bytes s.registers (s.contexts (base + name bits)) in
      ap (λ (z : Decision). record { bits = bits ++ z.symbol ∷ []; registers = z.registers; contexts = set (window base count s.contexts) (name bits) z.context }) (next-is bytes bits s h)
      ∙ ap (λ (cs : List Context). record { bits = bits ++ d.symbol ∷ []; registers = d.registers; contexts = cs }) (window-set base count (name bits) s.contexts d.context h)

  pub next-gives : (bytes : List ℕ) (bits : List Bool) (s : State) (d : Bool) (es : List Entry) → name bits < count → GivesDecisions bytes s ((base + name bits, d) ∷ es)
      → (next name bytes (reading_at bits s)).symbol ≡ d
  next-gives bytes bits s d es h g = ap (λ (z : Decision). z.symbol) (next-is bytes bits s h) ∙ gives-first bytes s (base + name bits, d) es g

  pub read-gives : (bytes : List ℕ) (bits : List Bool) (s : State) (d : Bool) (es : List Entry) → name bits < count → GivesDecisions bytes s ((base + name bits, d) ∷ es)
      → read name bytes (reading_at bits s) ≡ reading_at (bits ++ d ∷ []) (state_on bytes s (base + name bits))
  read-gives bytes bits s d es h g =
      read-is bytes bits s h
      ∙ ap (λ (b : Bool). reading_at (bits ++ b ∷ []) (state_on bytes s (base + name bits))) (gives-first bytes s (base + name bits, d) es g)

  more-turn : (n : ℕ) (bytes : List ℕ) (r : Reading) → read_more name n bytes (read name bytes r) ≡ read name bytes (read_more name n bytes r)
  unfolding read_more
  more-turn zero bytes r = refl
  more-turn (suc n) bytes r = ap (λ (z : Reading). read name bytes z) (more-turn n bytes r)

  more-next : (n : ℕ) (bytes : List ℕ) (r : Reading) → read_more name (suc n) bytes r ≡ read_more name n bytes (read name bytes r)
  unfolding read_more
  more-next n bytes r = sym (more-turn n bytes r)

  more-none : (bytes : List ℕ) (r : Reading) → read_more name zero bytes r ≡ r
  unfolding read_more
  more-none bytes r = refl

  pub more-gives : (ds : List Bool) (bytes : List ℕ) (bits : List Bool) (s : State) → Bound → length bits + length ds ≤ limit
      → GivesDecisions bytes s (in_contexts name base bits ds)
      → read_more name (length ds) bytes (reading_at bits s) ≡ reading_at (bits ++ ds) (state_after bytes s (asked (in_contexts name base bits ds)))
  unfolding in_contexts
  more-gives [] bytes bits s bound h g =
      more-none bytes (reading_at bits s)
      ∙ ap (λ (z : State). reading_at bits z) (sym (after-none bytes s))
      ∙ ap (λ (b : List Bool). reading_at b (state_after bytes s [])) (sym (append-nil bits))
  more-gives (d ∷ ds) bytes bits s bound h g =
      let k = base + name bits in
      let es = in_contexts name base (bits ++ d ∷ []) ds in
      let low : name bits < count = bound bits (omega (arith, h)) in
      let size = length_push bits d in
      more-next (length ds) bytes (reading_at bits s)
      ∙ ap (λ (z : Reading). read_more name (length ds) bytes z) (read-gives bytes bits s d es low g)
      ∙ more-gives ds bytes (bits ++ d ∷ []) (state_on bytes s k) bound (omega (arith, h, size)) (gives-next bytes s (k, d) es g)
      ∙ ap (λ (z : State). reading_at ((bits ++ d ∷ []) ++ ds) z) (sym (after-next bytes s (k, d) es))
      ∙ ap (λ (b : List Bool). reading_at b (state_after bytes s (asked ((k, d) ∷ es)))) (append_assoc bits (d ∷ []) ds)

  pub contexts-append : (xs ys bits : List Bool) → in_contexts name base bits (xs ++ ys) ≡ in_contexts name base bits xs ++ in_contexts name base (bits ++ xs) ys
  unfolding in_contexts
  contexts-append [] ys bits = ap (λ (b : List Bool). in_contexts name base b ys) (sym (append-nil bits))
  contexts-append (x ∷ xs) ys bits =
      ap (λ (es : List Entry). (base + name bits, x) ∷ es)
      (contexts-append xs ys (bits ++ x ∷ []) ∙ ap (λ (b : List Bool). in_contexts name base (bits ++ x ∷ []) xs ++ in_contexts name base b ys) (append_assoc bits (x ∷ []) xs))
