-- Changing elements, found by the colours of pixels.
use Rattle.std.proofs.Common.{◌≡◌, ℕ, zero, suc, ◌+◌, ◌-◌, ◌<◌, ◌≤◌, ◌&&◌, Bool, true, false, not, refl, sym, ap, subst, ◌∙◌, ⊎_elim, arith}
use Rattle.std.proofs.lemmas.Bool.{true≢false, cases_lt}
use Rattle.jbig2_base.specs.Colour.{IsFirst}
use Rattle.jbig2_base.specs.Grid.{differ}
use Rattle.jbig2_base.specs.Search.{place_from}
use Rattle.jbig2_base.proofs.SearchLemmas.{place-is}
use Rattle.jbig2_mmr.specs.T6.{left_of, is_change, is_change_from}
use Rattle.jbig2_mmr.proofs.T6Rows.{left-here}

same-colour : (a b : Bool) → a ≡ not (not b) → differ a b ≡ false
same-colour true true e = refl
same-colour true false e = absurd (true≢false e)
same-colour false true e = absurd (true≢false (sym e))
same-colour false false e = refl

other-colour : (a b : Bool) → a ≡ not b → differ a b ≡ true
other-colour true true e = absurd (true≢false e)
other-colour true false e = refl
other-colour false true e = refl
other-colour false false e = absurd (true≢false (sym e))

twice-not : (b : Bool) → not (not b) ≡ b
twice-not true = refl
twice-not false = refl

pub turned : (a b : Bool) → not a ≡ b → a ≡ not b
turned a b e = sym (twice-not a) ∙ ap (λ (t : Bool). not t) e

not-own : (b : Bool) → b ≡ not b → ⊥
not-own true e = true≢false e
not-own false e = true≢false (sym e)

-- the next pixel of the other colour
pub next-is : (row : ℕ → Bool) (black : Bool) (from to place : ℕ) → from ≤ to → IsFirst row (not black) from to place → place ≡ place_from (λ i. differ (row i) black) from to
next-is row black from to place order first =
    sym (place-is (λ i. differ (row i) black) from to place order first.after first.within
    (λ i a b. same-colour (row i) black (first.before i a b)) (λ inside. other-colour (row place) black (first.found inside)))

-- the next pixel of the colour
pub same-is : (row : ℕ → Bool) (black : Bool) (from to place : ℕ) → from ≤ to → IsFirst row black from to place → place ≡ place_from (λ i. differ (row i) (not black)) from to
same-is row black from to place order first =
    next-is row (not black) from to place order (subst (λ (b : Bool). IsFirst row b from to place) (sym (twice-not black)) first)

-- the search goes on from a later place
pub first-later : (row : ℕ → Bool) (black : Bool) (from later to place : ℕ) → from ≤ later → later ≤ place → IsFirst row black from to place → IsFirst row black later to place
first-later row black from later to place forward left first = record {
  after = left;
  within = first.within;
  before = λ x low high. first.before x (omega (arith, forward, low)) high;
  found = first.found;
}

-- no change from a colour to itself, or between pixels of one colour
no-change-to : (row : ℕ → Bool) (black : Bool) (x : ℕ) → row x ≡ not (not black) → is_change_from row black x ≡ false
unfolding is_change_from
no-change-to row black x e = ap (λ (t : Bool). is_change row x && t) (same-colour (row x) black e) ∙ and-no (is_change row x)
  where
    and-no : (b : Bool) → (b && false) ≡ false
    and-no true = refl
    and-no false = refl

no-change : (row : ℕ → Bool) (black colour : Bool) (x : ℕ) → row x ≡ colour → left_of row x ≡ colour → is_change_from row black x ≡ false
unfolding is_change_from is_change
no-change row black colour x here left = ap (λ (t : Bool). t && differ (row x) black) (ap (λ (t : Bool). differ t (left_of row x)) here ∙ ap (λ (t : Bool). differ colour t) left ∙ own colour)
  where
    own : (b : Bool) → differ b b ≡ false
    own true = refl
    own false = refl

changes : (row : ℕ → Bool) (black : Bool) (x : ℕ) → row x ≡ not black → left_of row x ≡ black → is_change_from row black x ≡ true
unfolding is_change_from is_change
changes row black x here left =
    ap (λ (t : Bool). differ (row x) t && differ (row x) black) left
    ∙ ap (λ (t : Bool). t && t) (other-colour (row x) black here)

-- b1 before the first mode
pub b1-start : (row : ℕ → Bool) (black : Bool) (to place : ℕ) → black ≡ false → IsFirst row (not black) 0 to place → place ≡ place_from (is_change_from row black) 0 to
b1-start row black to place white first =
    sym (place-is (is_change_from row black) 0 to place (omega arith) first.after first.within
    (λ i a b. no-change-to row black i (first.before i a b))
    (λ inside. changes row black place (first.found inside) (left place (λ x a b. first.before x a b) refl)))
  where
    left : (x : ℕ) → ((i : ℕ) → 0 ≤ i → i < place → row i ≡ not (not black)) → x ≡ place → left_of row x ≡ black
    left zero before e = sym white
    left (suc x) before e = before x (omega arith) (omega (arith, e)) ∙ twice-not black

-- b1 after a mode: the first pixel of the other colour after the first of the colour
pub b1-after : (row : ℕ → Bool) (black : Bool) (a0 to p place : ℕ) → a0 < to → IsFirst row black a0 to p → IsFirst row (not black) p to place → place ≡ place_from (is_change_from row black) (a0 + 1) to
b1-after row black a0 to p place order one other =
    let moved : p < to → p ≡ place → ⊥ = λ inside e. not-own black (sym (one.found inside) ∙ ap row e ∙ other.found (omega (arith, inside, e))) in
    let later : a0 + 1 ≤ place = ⊎_elim
    (λ (inside : p < to). omega (arith, moved inside, one.after, other.after))
    (λ (past : to ≤ p). omega (arith, past, order, other.after))
    (cases_lt p to) in
    let beyond : place < to → p + 1 ≤ place = λ inside. omega (arith, inside, other.after, moved (omega (arith, inside, other.after))) in
    sym (place-is (is_change_from row black) (a0 + 1) to place (omega (arith, order)) later other.within
    (λ i a b. ⊎_elim
    (λ (early : i < p). no-change row black (not black) i (one.before i (omega (arith, a)) early) (left-here row i (omega (arith, a)) ∙ one.before (i - 1) (omega (arith, a)) (omega (arith, a, early))))
    (λ (late : p ≤ i). no-change-to row black i (other.before i late b))
    (cases_lt i p))
    (λ inside. changes row black place (other.found inside)
    (left-here row place (omega (arith, later)) ∙ other.before (place - 1) (omega (arith, beyond inside)) (omega (arith, later)) ∙ twice-not black)))
