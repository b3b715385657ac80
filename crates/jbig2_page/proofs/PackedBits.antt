-- A bit of the packed rows is the byte of the image.
use Rattle.std.proofs.Common.{◌≡◌, ℕ, zero, suc, ◌+◌, ◌-◌, ◌*◌, ◌/◌, ◌%◌, ◌^◌, ◌<◌, ◌≤◌, Bool, true, false, map, get_or, refl, sym, ◌∙◌, ap, arith}
use Rattle.std.specs.List.{range_with_len}
use Rattle.std.proofs.lemmas.List.FromFn.{get_or-map-range_with_len}
use Rattle.std.proofs.lemmas.Nat.{mul-add-lt, div-mul-add, mod-mul-add}
use Rattle.jbig2_base.specs.Bits.{bit, bit_number, value_of_bits}
use Rattle.jbig2_base.specs.Grid.{Grid, pixel_at}
use Rattle.jbig2_base.proofs.BitLemmas.{bit_number-bit}
use Rattle.jbig2_page.specs.Image.{PackedBitsAreBytes, image_of, packed_byte, packed_of, packed_part, packed_size, row_bytes, shade}

number-small : (b : Bool) → bit_number b ≤ 1
number-small true = omega arith
number-small false = omega arith

number-tells : (a b : Bool) → bit_number a ≡ bit_number b → a ≡ b
number-tells true true is = refl
number-tells false false is = refl
number-tells true false is = absurd (omega (arith, is))
number-tells false true is = absurd (omega (arith, is))

-- the digits of a number that is put together from these
digits : (a b c d e f g h n : ℕ) → a ≤ 1 → b ≤ 1 → c ≤ 1 → d ≤ 1 → e ≤ 1 → f ≤ 1 → g ≤ 1 → h ≤ 1
    → n ≡ a * 128 + (b * 64 + (c * 32 + (d * 16 + (e * 8 + (f * 4 + (g * 2 + (h * 1 + 0)))))))
    → (n / 128 % 2 ≡ a) × (n / 64 % 2 ≡ b) × (n / 32 % 2 ≡ c) × (n / 16 % 2 ≡ d) × (n / 8 % 2 ≡ e) × (n / 4 % 2 ≡ f) × (n / 2 % 2 ≡ g) × (n / 1 % 2 ≡ h)
digits a b c d e f g h n sa sb sc sd se sf sg sh is = (omega arith, omega arith, omega arith, omega arith, omega arith, omega arith, omega arith, omega arith)

byte-digit : (p : ℕ → Bool) (k : ℕ) → k < 8 → value_of_bits (map p (range_with_len 0 8)) / 2 ^ (7 - k) % 2 ≡ bit_number (p k)
unfolding value_of_bits
byte-digit p k small =
    at k small
  where
    each : (let n = value_of_bits (map p (range_with_len 0 8)) in (n / 128 % 2 ≡ bit_number (p 0)) × (n / 64 % 2 ≡ bit_number (p 1)) × (n / 32 % 2 ≡ bit_number (p 2)) × (n / 16 % 2 ≡ bit_number (p 3)) × (n / 8 % 2 ≡ bit_number (p 4)) × (n / 4 % 2 ≡ bit_number (p 5)) × (n / 2 % 2 ≡ bit_number (p 6)) × (n / 1 % 2 ≡ bit_number (p 7)))
    each = digits _ _ _ _ _ _ _ _ (value_of_bits (map p (range_with_len 0 8))) (number-small (p 0)) (number-small (p 1)) (number-small (p 2)) (number-small (p 3)) (number-small (p 4)) (number-small (p 5)) (number-small (p 6)) (number-small (p 7)) refl

    at : (j : ℕ) → j < 8 → value_of_bits (map p (range_with_len 0 8)) / 2 ^ (7 - j) % 2 ≡ bit_number (p j)
    at zero low = each.0
    at (suc zero) low = each.1
    at (suc (suc zero)) low = each.2
    at (suc (suc (suc zero))) low = each.3
    at (suc (suc (suc (suc zero)))) low = each.4
    at (suc (suc (suc (suc (suc zero))))) low = each.5
    at (suc (suc (suc (suc (suc (suc zero)))))) low = each.6
    at (suc (suc (suc (suc (suc (suc (suc zero))))))) low = each.7
    at (suc (suc (suc (suc (suc (suc (suc (suc j)))))))) low = absurd (omega (arith, low))

-- the bits of a byte, the first the highest
byte-bit : (p : ℕ → Bool) (j : ℕ) → j < 8 → bit (value_of_bits (map p (range_with_len 0 8))) (7 - j) ≡ p j
byte-bit p j low = number-tells _ (p j) (bit_number-bit (value_of_bits (map p (range_with_len 0 8))) (7 - j) ∙ byte-digit p j low)

image-at : (w h : ℕ) (g : Grid) (x y : ℕ) → x < w → y < h → get_or (image_of w h g) (y * w + x) 0 ≡ shade (pixel_at g x y)
unfolding image_of
image-at w h g x y left above =
    get_or-map-range_with_len (λ n. shade (pixel_at g (n % w) (n / w))) 0 (w * h) (y * w + x) (y * w + x) 0 (mul-add-lt y w x h above left) (omega arith)
    ∙ ap (λ (i : ℕ). shade (pixel_at g i ((y * w + x) / w))) (mod-mul-add y w x left)
    ∙ ap (λ (j : ℕ). shade (pixel_at g x j)) (div-mul-add y w x left)

packed-at : (w h : ℕ) (g : Grid) (k y : ℕ) → k < row_bytes w → y < h → get_or (packed_of w h g) (y * row_bytes w + k) 0 ≡ packed_byte g k y
unfolding packed_of packed_part
packed-at w h g k y left above =
    let b : ℕ = row_bytes w in
    get_or-map-range_with_len (λ n. packed_byte g (n % b) (n / b)) 0 (packed_size w h) (y * b + k) (y * b + k) 0 (mul-add-lt y b k h above left) (omega arith)
    ∙ ap (λ (i : ℕ). packed_byte g i ((y * b + k) / b)) (mod-mul-add y b k left)
    ∙ ap (λ (j : ℕ). packed_byte g k j) (div-mul-add y b k left)

pixel-bit : (g : Grid) (x y : ℕ) → bit (packed_byte g (x / 8) y) (7 - x % 8) ≡ pixel_at g x y
unfolding packed_byte
pixel-bit g x y =
    let place : 8 * (x / 8) + x % 8 ≡ x = omega arith in
    byte-bit (λ i. pixel_at g (8 * (x / 8) + i) y) (x % 8) (omega arith) ∙ ap (λ (i : ℕ). pixel_at g i y) place

pub packed_bits_are_bytes : PackedBitsAreBytes
packed_bits_are_bytes w h g x y left above =
    image-at w h g x y left above
    ∙ ap (λ (b : Bool). shade b) (sym (pixel-bit g x y))
    ∙ ap (λ (n : ℕ). shade (bit n (7 - x % 8))) (sym (packed-at w h g (x / 8) y (omega arith) above))
