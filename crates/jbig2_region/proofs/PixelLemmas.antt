-- A template's pixels that lie side by side, put together one by one.
use Rattle.std.proofs.Common.{◌≡◌, ℕ, suc, ◌+◌, ◌-◌, ◌<◌, ℤ, pos, ◌-ℤ◌, List, [], ◌∷◌, ◌++◌, sym, ap, ◌∙◌, arith}
use Rattle.std.proofs.lemmas.Int.{ints}
use Rattle.std.proofs.lemmas.List.{append_assoc}
use Rattle.jbig2_region.specs.declared.template.AdaptiveTemplatePixel.{AdaptiveTemplatePixel}
use Rattle.jbig2_region.specs.inner.Neighbours.{side_by_side}

pixel-is : (p : AdaptiveTemplatePixel) (x y : ℤ) → p.x ≡ x → p.y ≡ y → p ≡ record { x = x; y = y }
pixel-is p x y column row =
    ap (λ (n : ℤ). let made : AdaptiveTemplatePixel = record { x = n; y = p.y } in made) column
    ∙ ap (λ (n : ℤ). let made : AdaptiveTemplatePixel = record { x = x; y = n } in made) row

-- one pixel more, and the rest of the row
pub side-next : (xs ys all : List AdaptiveTemplatePixel) (x : ℤ) (rows index count : ℕ) (p : AdaptiveTemplatePixel) → index < count → p.x ≡ x -ℤ pos index → p.y ≡ pos 0 -ℤ pos rows
    → ys ≡ xs ++ p ∷ [] → xs ++ side_by_side (x -ℤ pos index) rows (count - index) ≡ all → ys ++ side_by_side (x -ℤ pos (index + 1)) rows (count - (index + 1)) ≡ all
side-next xs ys all x rows index count p more column row pushed before =
    let left : count - index ≡ suc (count - (index + 1)) = omega arith in
    let place : x -ℤ pos (index + 1) ≡ x -ℤ pos index -ℤ pos 1 = omega (arith, ints) in
    let rest : List AdaptiveTemplatePixel = side_by_side (x -ℤ pos index -ℤ pos 1) rows (count - (index + 1)) in
    ap (λ (zs : List AdaptiveTemplatePixel). zs ++ side_by_side (x -ℤ pos (index + 1)) rows (count - (index + 1))) pushed
    ∙ append_assoc xs (p ∷ []) (side_by_side (x -ℤ pos (index + 1)) rows (count - (index + 1)))
    ∙ ap (λ (z : ℤ). xs ++ (p ∷ side_by_side z rows (count - (index + 1)))) place
    ∙ ap (λ (q : AdaptiveTemplatePixel). xs ++ (q ∷ rest)) (pixel-is p (x -ℤ pos index) (pos 0 -ℤ pos rows) column row)
    ∙ ap (λ (n : ℕ). xs ++ side_by_side (x -ℤ pos index) rows n) (sym left)
    ∙ before
