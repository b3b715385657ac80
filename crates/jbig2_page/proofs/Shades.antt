-- A page as bytes, word by word.
use Rattle.std.proofs.Common.{get_or, ◌≡◌, ℕ, ◌+◌, ◌-◌, ◌*◌, ◌/◌, ◌%◌, ◌<◌, ◌≤◌, List, ap, ◌∙◌, arith}
use Rattle.jbig2_base.specs.Grid.{Grid, pixel_at}
use Rattle.jbig2_base.specs.Bits.{bit}
use Rattle.jbig2_page.specs.Image.{shade}
use Rattle.jbig2_page.proofs.RowValues.{value-at, values-more}

-- some bytes more, of the pixels from column x of row y on, which a word holds
pub shades-more : (g : Grid) (w place x y count word : ℕ) (before after : List ℕ)
    → place ≡ y * w + x → x + count ≤ w → count ≤ 64
    → ((j : ℕ) → j < 64 → bit word (63 - j) ≡ pixel_at g (x + j) y)
    → ((k : ℕ) → k < place → get_or before k 0 ≡ shade (pixel_at g (k % w) (k / w)))
    → ((k : ℕ) → k < place → get_or after k 0 ≡ get_or before k 0)
    → ((i : ℕ) → i < count → get_or after (place + i) 0 ≡ shade (bit word (63 - i)))
    → (k : ℕ) → k < place + count → get_or after k 0 ≡ shade (pixel_at g (k % w) (k / w))
shades-more g w place x y count word before after counted narrow few loaded written kept put =
    let value : ℕ → ℕ → ℕ = λ i j. shade (pixel_at g i j) in
    values-more (λ k. value (k % w) (k / w)) place count before after written kept
    (λ i small. put i small ∙ ap (λ b. shade b) (loaded i (omega (arith, small, few)))
    ∙ value-at value w (place + i) y (x + i) (omega (arith, counted)) (omega (arith, small, narrow)))
