-- How rows of pixels lie in words of 64 bits (our own rule): each row begins with a new word, the leftmost pixel of a
-- word is its highest bit, and the bits past the width are zero.
use Rattle.std.specs.Prelude.{◌≡◌, ℕ, ◌+◌, ◌-◌, ◌*◌, ◌/◌, ◌%◌, ◌^◌, ◌<◌, ◌≤◌, ◌==◌, Bool, true, false, if◌then◌else◌}
use Rattle.std.specs.Prelude.{nat_lt, List, length, map, slice_index}
use Rattle.std.specs.List.{range_with_len}
use Rattle.jbig2_base.specs.Grid.{Grid, grid_of}
use Rattle.jbig2_base.specs.Bits.{bit}

-- the number of words of a row
abbrev pub stride_of : ℕ → ℕ
stride_of w = (w + 63) / 64

-- the pixel at column x of row y
unfoldable pub packed_pixel : ℕ → List ℕ → ℕ → ℕ → Bool
packed_pixel stride words x y = bit (slice_index words (y * stride + x / 64)) (63 - x % 64)

-- the bitmap of these words
abbrev pub packed_grid : ℕ → ℕ → ℕ → List ℕ → Grid
packed_grid w h stride words = grid_of w h (packed_pixel stride words)

pub record IsPacked (w h stride : ℕ) (words : List ℕ) : Type 0 where
  pub strided : stride ≡ stride_of w
  pub sized : length words ≡ stride * h
  pub padded : (x y : ℕ) → w ≤ x → x < 64 * stride → y < h → packed_pixel stride words x y ≡ false

-- word k of rows of one colour
unfoldable pub blank_word : ℕ → Bool → ℕ → ℕ
blank_word w false k = 0
blank_word w true k = if k % stride_of w + 1 == stride_of w then 2 ^ 64 - 2 ^ (64 * stride_of w - w) else 2 ^ 64 - 1

-- the words of a bitmap of one colour
unfoldable pub blank_words : ℕ → ℕ → Bool → List ℕ
blank_words w h black = map (λ k. blank_word w black k) (range_with_len 0 (stride_of w * h))

-- bit x of a row of `stride` words; the leftmost bit of a word is its highest, and past the row there is none
unfoldable pub row_bit : List ℕ → ℕ → ℕ → ℕ → Bool
row_bit words first stride x =
    if nat_lt (x / 64) stride then bit (slice_index words (first + x / 64)) (63 - x % 64) else false
