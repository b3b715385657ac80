-- A bitmap that is filled from the top, each row from the left, and a part of another one with which it is filled (our
-- own rule).
use Rattle.std.specs.Prelude.{ℕ, ◌+◌, Bool, ◌&&◌, ◌||◌, ◌==◌, nat_lt}
use Rattle.jbig2_base.specs.Grid.{Grid, grid_of, pixel_at}
use Rattle.jbig2_base.specs.declared.bitmap.part.Area.{Area}

-- whether column i of row j comes before column x of row y
unfoldable pub is_before : ℕ → ℕ → ℕ → ℕ → Bool
is_before y x i j = nat_lt j y || (j == y && nat_lt i x)

-- the pixels of f before column x of row y, and white from there on
abbrev pub grid_before : ℕ → ℕ → (ℕ → ℕ → Bool) → ℕ → ℕ → Grid
grid_before w h f y x = grid_of w h (λ i j. is_before y x i j && f i j)

-- the pixel at column x of row y of a part
abbrev pub pixel_of_part : Grid → Area → ℕ → ℕ → Bool
pixel_of_part g area x y = pixel_at g (area.left + x) (area.top + y)
