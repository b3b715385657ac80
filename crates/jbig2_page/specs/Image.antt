-- A page as bytes (our own rule): the bytes of the grid that it decodes to, or its error.
use Rattle.std.specs.Prelude.{◌≡◌, ◌<◌, ℕ, ◌+◌, ◌-◌, ◌*◌, ◌/◌, ◌%◌, Bool, List, map, slice_index, Result, Ok}
use Rattle.std.specs.Prelude.{if◌then◌else◌}
use Rattle.std.specs.List.{range_with_len}
use Rattle.jbig2_base.specs.Results.{◌>>=◌}
use Rattle.jbig2_base.specs.Bits.{bit, value_of_bits}
use Rattle.jbig2_base.specs.Grid.{Grid, pixel_at}
use Rattle.jbig2_base.specs.declared.error.DecodeError.{DecodeError}
use Rattle.jbig2_page.specs.Page.{ReadPage, grid_of_page}

abbrev pub shade : Bool → ℕ
shade black = if black then 0 else 255

-- A byte for each pixel, row by row from the top, each row from the left, as image traits require.
unfoldable pub image_of : ℕ → ℕ → Grid → List ℕ
image_of width height g = map (λ n. shade (pixel_at g (n % width) (n / width))) (range_with_len 0 (width * height))

abbrev pub image_of_page : ReadPage → Result (List ℕ) DecodeError
image_of_page page = grid_of_page page >>= λ g. Ok (image_of page.initial_page.width page.initial_page.height g)

abbrev pub row_bytes : ℕ → ℕ  -- the bytes of a packed row: eight pixels each; white fills up the last one
row_bytes width = (width + 7) / 8

abbrev pub packed_size : ℕ → ℕ → ℕ
packed_size width height = row_bytes width * height

-- Byte k of row y: the pixels from column 8k on, 1 for black, the first in the highest bit; 0 after the row's end.
unfoldable pub packed_byte : Grid → ℕ → ℕ → ℕ
packed_byte g k y = value_of_bits (map (λ i. pixel_at g (8 * k + i) y) (range_with_len 0 8))

-- `count` bytes of all the packed rows, from the top, beginning with byte `start`.
unfoldable pub packed_part : ℕ → Grid → ℕ → ℕ → List ℕ
packed_part width g start count =
    map (λ n. packed_byte g (n % row_bytes width) (n / row_bytes width)) (range_with_len start count)

unfoldable pub packed_of : ℕ → ℕ → Grid → List ℕ
packed_of width height g = packed_part width g 0 (packed_size width height)

abbrev pub packed_of_page : ReadPage → Result (List ℕ) DecodeError
packed_of_page page = grid_of_page page >>= λ g. Ok (packed_of page.initial_page.width page.initial_page.height g)

-- The packed rows and the image agree: the bit of column x of row y has the shade that its byte in the image has.
abbrev pub PackedBitsAreBytes : Type 0
PackedBitsAreBytes = (width height : ℕ) (g : Grid) (x y : ℕ) → x < width → y < height
    → slice_index (image_of width height g) (y * width + x)
    ≡ shade (bit (slice_index (packed_of width height g) (y * row_bytes width + x / 8)) (7 - x % 8))
