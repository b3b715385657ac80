-- A list that is made entry by entry.
use Rattle.std.proofs.Common.{◌≡◌, ℕ, suc, ◌+◌, ◌-◌, ◌<◌, ◌≤◌, Bool, List, [], ◌∷◌, ◌++◌, append_assoc, refl, sym, ap, ◌∙◌, arith}
use Rattle.std.proofs.lemmas.List.{append-nil}
use Rattle.jbig2_rows.specs.Generator.{after, entry_after, list_after}

list_after-entry : (n m x : ℕ) → n ≡ suc m → list_after n x ≡ entry_after x ∷ list_after m (after (after x))
unfolding list_after
list_after-entry n m x e = rw e refl

list_after-none : (n x : ℕ) → n ≡ 0 → list_after n x ≡ []
unfolding list_after
list_after-none n x e = rw e refl

pub list_after-begin : (list : List (ℕ × Bool)) (n x y : ℕ) → list ≡ [] → x ≡ y → list ++ list_after (n - 0) x ≡ list_after n y
list_after-begin list n x y e s =
    let whole : n - 0 ≡ n = omega arith in
    λ i. e i ++ list_after (whole i) (s i)

pub list_after-more : (list more : List (ℕ × Bool)) (n i x y : ℕ) → i < n → more ≡ list ++ entry_after x ∷ [] → y ≡ after (after x)
    → more ++ list_after (n - (i + 1)) y ≡ list ++ list_after (n - i) x
list_after-more list more n i x y h e s =
    let rest : List (ℕ × Bool) = list_after (n - (i + 1)) (after (after x)) in
    (λ j. e j ++ list_after (n - (i + 1)) (s j))
    ∙ append_assoc list (entry_after x ∷ []) rest
    ∙ ap (λ (ys : List (ℕ × Bool)). list ++ ys) (sym (list_after-entry (n - i) (n - (i + 1)) x (omega arith)))

pub list_after-end : (list whole : List (ℕ × Bool)) (n i x : ℕ) → n ≤ i → list ++ list_after (n - i) x ≡ whole → list ≡ whole
list_after-end list whole n i x h e =
    sym (append-nil list) ∙ ap (λ (ys : List (ℕ × Bool)). list ++ ys) (sym (list_after-none (n - i) x (omega arith))) ∙ e
