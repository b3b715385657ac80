-- The sum of runs, and how many may still be empty.
use Rattle.std.proofs.Common.{◌≡◌, ℕ, suc, ◌+◌, ◌-◌, ◌<◌, ◌≤◌, Bool, eqb, List, [], ◌∷◌, ◌++◌, ap, ◌∙◌, ⊎_elim, arith}
use Rattle.std.specs.Prelude.{sum}
use Rattle.std.proofs.lemmas.Bool.{cases_eq, eq-eqb, ne_eqb}
use Rattle.std.proofs.lemmas.List.Sums.{sum_by-append}
use Rattle.jbig2_base.specs.Bits.{bit_number}

pub sum-pushed : (runs after : List ℕ) (last : ℕ) → after ≡ runs ++ last ∷ [] → sum after ≡ sum runs + last
sum-pushed runs after last pushed =
    let zero_more : 0 + last ≡ last = omega arith in
    ap (λ (rs : List ℕ). sum rs) pushed ∙ sum_by-append (λ (n : ℕ). n) runs (last ∷ []) ∙ ap (λ (n : ℕ). sum runs + n) zero_more

-- one run more of length 0, or one that covers a symbol
pub room-left : (empty run e left most : ℕ) → e ≡ bit_number (eqb run 0) → (run ≡ 0 → empty < 1048576) → empty ≤ 1048576 → run ≤ left → left + (1048576 - empty) ≤ suc most → (empty + e ≤ 1048576) × (left - run + (1048576 - (empty + e)) ≤ most)
room-left empty run e left most is few below within enough =
    ⊎_elim
    (λ (none : run ≡ 0).
    let one : e ≡ 1 = is ∙ ap (λ (b : Bool). bit_number b) (eq-eqb run 0 none) in
    let more : empty < 1048576 = few none in
    (omega arith, omega arith))
    (λ (some : run ≡ 0 → ⊥).
    let zero_more : e ≡ 0 = is ∙ ap (λ (b : Bool). bit_number b) (ne_eqb run 0 some) in
    (omega arith, omega arith))
    (cases_eq run 0)
