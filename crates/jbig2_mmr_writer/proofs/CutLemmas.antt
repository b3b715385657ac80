-- A search that ends early finds the same place, or its own end.
use Rattle.std.proofs.Common.{◌≡◌, ℕ, zero, suc, ◌+◌, ◌-◌, ◌≤◌, min, Bool, true, false, cond, sym, ap, ◌∙◌, ⊎_elim, arith}
use Rattle.std.proofs.lemmas.Bool.{cases_Bool, cond-true, cond-false, cond_both}
use Rattle.jbig2_base.specs.Search.{least, place_from}

least-low : (n : ℕ) (p : ℕ → Bool) (to : ℕ) → n ≤ to → to - n ≤ least p n to
unfolding least
least-low zero p to fits = omega arith
least-low (suc n) p to fits =
    cond_both (p (to - suc n)) (to - suc n) (least p n to) (λ (x : ℕ). to - suc n ≤ x)
    (λ here. omega arith)
    (λ other. let low = least-low n p to (omega (arith, fits)) in omega (arith, low))

least-high : (n : ℕ) (p : ℕ → Bool) (to : ℕ) → least p n to ≤ to
unfolding least
least-high zero p to = omega arith
least-high (suc n) p to =
    cond_both (p (to - suc n)) (to - suc n) (least p n to) (λ (x : ℕ). x ≤ to)
    (λ here. omega arith)
    (λ other. least-high n p to)

-- k more numbers at the end
least-cut : (n k : ℕ) (p : ℕ → Bool) (to w : ℕ) → n ≤ to → w ≡ to + k → least p n to ≡ min to (least p (n + k) w)
unfolding least
least-cut zero k p to w fits is =
    let same : 0 + k ≡ k = omega arith in
    let low = least-low k p w (omega (arith, is)) in
    let cut : to ≡ min to (least p k w) = omega (arith, low, is) in
    cut ∙ ap (λ (m : ℕ). min to (least p m w)) (sym same)
least-cut (suc n) k p to w fits is =
    let x : ℕ = to - suc n in
    let same : suc n + k ≡ suc (n + k) = omega arith in
    let at : w - suc (n + k) ≡ to - suc n = omega (arith, is, fits) in
    let further : ℕ = least p (n + k) w in
    let opened : min to (least p (suc n + k) w) ≡ min to (cond (p (to - suc n)) (to - suc n) (least p (n + k) w)) =
    ap (λ (m : ℕ). min to (least p m w)) same ∙ ap (λ (i : ℕ). min to (cond (p i) i (least p (n + k) w))) at in
    ⊎_elim
    (λ (here : p (to - suc n) ≡ true).
    let cut : to - suc n ≡ min to (to - suc n) = omega arith in
    cond-true (p x) x (least p n to) here ∙ cut ∙ sym (ap (λ (i : ℕ). min to i) (cond-true (p x) x further here)) ∙ sym opened)
    (λ (other : p (to - suc n) ≡ false).
    cond-false (p x) x (least p n to) other ∙ least-cut n k p to w (omega (arith, fits)) is ∙ sym (ap (λ (i : ℕ). min to i) (cond-false (p x) x further other)) ∙ sym opened)
    (cases_Bool (p (to - suc n)))

pub place-after : (p : ℕ → Bool) (from to : ℕ) → from ≤ to → from ≤ place_from p from to
place-after p from to order = let low = least-low (to - from) p to (omega arith) in omega (arith, low, order)

pub place-within : (p : ℕ → Bool) (from to : ℕ) → place_from p from to ≤ to
place-within p from to = least-high (to - from) p to

pub place-cut : (p : ℕ → Bool) (from to w : ℕ) → from ≤ to → to ≤ w → place_from p from to ≡ min to (place_from p from w)
place-cut p from to w order within =
    let rest : to - from + (w - to) ≡ w - from = omega (arith, order, within) in
    least-cut (to - from) (w - to) p to w (omega arith) (omega (arith, within)) ∙ ap (λ (m : ℕ). min to (least p m w)) rest
