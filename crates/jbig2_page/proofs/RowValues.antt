-- Values of the places of rows, which are written into a list one row after the other.
use Rattle.std.proofs.Common.{⊎_elim, get_or, ◌≡◌, ℕ, ◌+◌, ◌-◌, ◌*◌, ◌/◌, ◌%◌, ◌<◌, ◌≤◌, List, sym, ap, ◌∙◌, arith}
use Rattle.std.proofs.lemmas.Bool.{cases_lt}
use Rattle.std.proofs.lemmas.Nat.{div-mul-add, mod-mul-add}

-- some values more after those of the first places
pub values-more : (value : ℕ → ℕ) (place count : ℕ) (before after : List ℕ)
    → ((k : ℕ) → k < place → get_or before k 0 ≡ value k)
    → ((k : ℕ) → k < place → get_or after k 0 ≡ get_or before k 0)
    → ((i : ℕ) → i < count → get_or after (place + i) 0 ≡ value (place + i))
    → (k : ℕ) → k < place + count → get_or after k 0 ≡ value k
values-more value place count before after written kept put k below =
    ⊎_elim
    (λ (early : k < place). kept k early ∙ written k early)
    (λ (late : place ≤ k).
    let at : place + (k - place) ≡ k = omega (arith, late) in
    ap (λ (n : ℕ). get_or after n 0) (sym at) ∙ put (k - place) (omega (arith, late, below)) ∙ ap value at)
    (cases_lt k place)

-- the place after y rows and x columns
pub value-at : (value : ℕ → ℕ → ℕ) (wide n y x : ℕ) → n ≡ y * wide + x → x < wide → value x y ≡ value (n % wide) (n / wide)
value-at value wide n y x whole inside =
    let column : n % wide ≡ x = ap (λ (m : ℕ). m % wide) whole ∙ mod-mul-add y wide x inside in
    let row : n / wide ≡ y = ap (λ (m : ℕ). m / wide) whole ∙ div-mul-add y wide x inside in
    ap (λ (m : ℕ). value m y) (sym column) ∙ ap (λ (m : ℕ). value (n % wide) m) (sym row)
