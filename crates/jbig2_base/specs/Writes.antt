-- Bitmaps after a write of some pixels (our own rule).
use Rattle.std.specs.Prelude.{ℕ, ◌+◌, ◌-◌, ◌==◌, Bool, ◌&&◌, ◌||◌, nat_le, nat_lt, if◌then◌else◌}
use Rattle.jbig2_base.specs.Grid.{Grid, grid_of, pixel_at}
use Rattle.jbig2_base.specs.Bits.{bit}

-- the same pixels, but the pixel at column x of row y is black if `black` is true
abbrev pub with_pixel : Grid → ℕ → ℕ → Bool → Grid
with_pixel g x y black = grid_of g.width g.height (λ i j. pixel_at g i j || (black && i == x && j == y))

-- the pixels from column x of row y on are now the lowest `count` bits of a number, high bit first
abbrev pub with_pixels : Grid → ℕ → ℕ → ℕ → ℕ → Grid
with_pixels g x y count bits =
    grid_of g.width g.height
    (λ i j. if j == y && nat_le x i && nat_lt i (x + count) then bit bits (x + count - 1 - i) else pixel_at g i j)
