-- The number of a context, bit by bit.
use Rattle.std.proofs.Common.{pow-suc, subst, pos, ◌+ℤ◌, ◌≡◌, ℕ, ◌+◌, ◌*◌, ◌^◌, ◌<◌, ◌≤◌, Bool, true, false, List, [], ◌∷◌, length, drop, map, get_or, add-one, sym, ap, arith}
use Rattle.std.proofs.Math.Seq.{drop-cons, drop-length}
use Rattle.std.proofs.lemmas.List.{length-drop, length-map}
use Rattle.std.proofs.Math.Nat.{pow-le-pow_right}
use Rattle.jbig2_base.specs.Grid.{Grid, pixel}
use Rattle.jbig2_base.specs.Bits.{bit_number, number_of}
use Rattle.jbig2_region.specs.Generic.{context_at}
use Rattle.jbig2_region.specs.declared.template.AdaptiveTemplatePixel.{AdaptiveTemplatePixel}

pub context-step : (pixels : List AdaptiveTemplatePixel) (g : Grid) (x y k : ℕ) (p : AdaptiveTemplatePixel) (n b : ℕ) → k < length pixels → n ≡ context_at (drop (k + 1) pixels) g x y → b ≡ bit_number (pixel g (pos x +ℤ (get_or pixels k p).x) (pos y +ℤ (get_or pixels k p).y)) → 2 * n + b ≡ context_at (drop k pixels) g x y
unfolding context_at
context-step pixels g x y k p n b inside is_n is_b = rw (drop-cons pixels k p inside, is_n, is_b, add-one) (omega arith)

pub context-none : (pixels : List AdaptiveTemplatePixel) (g : Grid) (x y : ℕ) → 0 ≡ context_at (drop (length pixels) pixels) g x y
unfolding context_at
context-none pixels g x y = ap (λ (l : List AdaptiveTemplatePixel). number_of (map (λ (p : AdaptiveTemplatePixel). pixel g (pos x +ℤ p.x) (pos y +ℤ p.y)) l)) (sym (drop-length pixels))

pub number_of-lt : (bits : List Bool) → number_of bits < 2 ^ length bits
number_of-lt [] = omega arith
number_of-lt (true ∷ bits) = rw pow-suc (omega (arith, number_of-lt bits))
number_of-lt (false ∷ bits) = rw pow-suc (omega (arith, number_of-lt bits))

pub context-lt : (pixels : List AdaptiveTemplatePixel) (g : Grid) (x y : ℕ) → context_at pixels g x y < 2 ^ length pixels
unfolding context_at
context-lt pixels g x y =
    let bits : List Bool = map (λ (p : AdaptiveTemplatePixel). pixel g (pos x +ℤ p.x) (pos y +ℤ p.y)) pixels in
    subst (λ (n : ℕ). number_of bits < 2 ^ n) (length-map pixels (λ (p : AdaptiveTemplatePixel). pixel g (pos x +ℤ p.x) (pos y +ℤ p.y))) (number_of-lt bits)

pub context-small : (pixels : List AdaptiveTemplatePixel) (g : Grid) (x y k : ℕ) → length pixels ≤ 16 → context_at (drop k pixels) g x y < 65536
context-small pixels g x y k few =
    let short : length (drop k pixels) ≤ 16 = omega (arith, length-drop k pixels) in
    let below : 2 ^ length (drop k pixels) ≤ 2 ^ 16 = pow-le-pow_right (omega arith) short in
    omega (arith, context-lt (drop k pixels) g x y)
