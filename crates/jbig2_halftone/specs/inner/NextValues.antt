-- The values of a gray-scale image after one more plane (our own rule).
use Rattle.std.specs.Prelude.{◌≡◌, ℕ, ◌+◌, ◌*◌, ◌/◌, ◌%◌, ◌<◌, ◌==◌, Bool, List, slice_index_or}
use Rattle.jbig2_base.specs.Grid.{Grid, pixel_at, differ}
use Rattle.jbig2_base.specs.Bits.{bit_number}

-- The highest plane comes first, so each plane moves a value's bits up by one. The new lowest bit is the plane's pixel,
-- inverted if the bit above it is set.
abbrev pub next_value : ℕ → Bool → ℕ
next_value v black = 2 * v + bit_number (differ black (v % 2 == 1))

-- a row of values after it takes row y of a plane
abbrev pub TakesRow : Grid → ℕ → List ℕ → List ℕ → Type 0
TakesRow plane y old new =
    (k : ℕ) → k < plane.width → slice_index_or new k 0 ≡ next_value (slice_index_or old k 0) (pixel_at plane k y)

-- all values after they take a plane, row by row
abbrev pub TakesPlane : Grid → List ℕ → List ℕ → Type 0
TakesPlane plane old new =
    (k : ℕ) → k < plane.width * plane.height →
    slice_index_or new k 0 ≡ next_value (slice_index_or old k 0) (pixel_at plane (k % plane.width) (k / plane.width))
