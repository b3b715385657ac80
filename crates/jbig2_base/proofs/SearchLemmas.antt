-- The least number that passes a test.
use Rattle.std.proofs.Common.{◌≡◌, ℕ, zero, suc, ◌-◌, ◌<◌, ◌≤◌, Bool, true, false, ◌∙◌, ap, arith, ⊎_elim}
use Rattle.std.proofs.lemmas.Bool.{cases_eq, cond-true, cond-false, cond_both}
use Rattle.jbig2_base.specs.Search.{least, place_from}

least-is : (n : ℕ) (p : ℕ → Bool) (to place : ℕ) → n ≤ to → to - n ≤ place → place ≤ to → ((i : ℕ) → to - n ≤ i → i < place → p i ≡ false) → (place < to → p place ≡ true) → least p n to ≡ place
unfolding least
least-is zero p to place fits after within before found = omega arith
least-is (suc n) p to place fits after within before found =
    ⊎_elim
    (λ (here : to - suc n ≡ place). cond-true (p (to - suc n)) (to - suc n) (least p n to) (ap p here ∙ found (omega arith)) ∙ here)
    (λ (o : to - suc n ≡ place → ⊥).
    cond-false (p (to - suc n)) (to - suc n) (least p n to) (before (to - suc n) (omega arith) (omega (arith, o)))
    ∙ least-is n p to place (omega arith) (omega (arith, o)) within (λ i a b. before i (omega arith) b) found)
    (cases_eq (to - suc n) place)

pub place-is : (p : ℕ → Bool) (from to place : ℕ) → from ≤ to → from ≤ place → place ≤ to → ((i : ℕ) → from ≤ i → i < place → p i ≡ false) → (place < to → p place ≡ true) → place_from p from to ≡ place
place-is p from to place order after within before found =
    let at : to - (to - from) ≡ from = omega arith in
    least-is (to - from) p to place (omega arith) (omega arith) within (λ i a b. before i (omega arith) b) found

pub place-past : (p : ℕ → Bool) (from to : ℕ) → to ≤ from → place_from p from to ≡ to
unfolding least
place-past p from to past = let none : to - from ≡ 0 = omega arith in ap (λ (n : ℕ). least p n to) none

-- the place that is found passes
least-found : (n : ℕ) (p : ℕ → Bool) (to : ℕ) → least p n to < to → p (least p n to) ≡ true
unfolding least
least-found zero p to below = absurd (omega (arith, below))
least-found (suc n) p to below = cond_both (p (to - suc n)) (to - suc n) (least p n to) (λ m. m < to → p m ≡ true) (λ here inside. here) (λ other inside. least-found n p to inside) below

pub place-found : (p : ℕ → Bool) (to : ℕ) → place_from p 0 to < to → p (place_from p 0 to) ≡ true
place-found p to below = least-found (to - 0) p to below

-- where none is found none passes
least-none : (n : ℕ) (p : ℕ → Bool) (to i : ℕ) → n ≤ to → to ≤ least p n to → to - n ≤ i → i < to → p i ≡ false
unfolding least
least-none zero p to i fits past after below = absurd (omega (arith, after, below))
least-none (suc n) p to i fits past after below =
    cond_both (p (to - suc n)) (to - suc n) (least p n to) (λ m. to ≤ m → p i ≡ false)
    (λ here large. absurd (omega (arith, large, fits)))
    (λ other large. ⊎_elim (λ (same : i ≡ to - suc n). ap p same ∙ other) (λ (differs : i ≡ to - suc n → ⊥). least-none n p to i (omega arith) large (omega (arith, after, differs)) below) (cases_eq i (to - suc n)))
    past

pub place-none : (p : ℕ → Bool) (to i : ℕ) → to ≤ place_from p 0 to → i < to → p i ≡ false
place-none p to i past below = least-none (to - 0) p to i (omega arith) past (omega arith) below
