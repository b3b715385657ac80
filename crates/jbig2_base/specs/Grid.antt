-- Bitmaps (T.88, 6): a width, a height and a pixel at each pair of whole numbers, white outside. `grid_of` makes one
-- from a function of column and row, and `pixel` reads one pixel of it. Parts are cut out of bitmaps for symbols
-- (6.5.9), patterns (6.7.5) and refinements (7.4.7.4). Some sizes are refused (our own rule).
use Rattle.std.specs.Prelude.{ℕ, ◌+◌, ◌*◌, ◌/◌, ◌%◌, Bool, true, false, not, ◌&&◌, if◌then◌else◌, nat_lt, List, map}
use Rattle.std.specs.Prelude.{slice_index_or, ℤ, pos, ◌||◌, Result, Ok, ◌≡◌}
use Rattle.std.specs.List.{range_with_len}
use Rattle.jbig2_base.specs.Results.{◌>>=◌, refuse_if}
use Rattle.jbig2_base.specs.declared.bitmap.part.Area.{Area}
use Rattle.jbig2_base.specs.declared.error.DecodeError.{DecodeError}
use Rattle.jbig2_base.specs.declared.error.DecodeError.TheVariants.{Overflow}
use Rattle.jbig2_base.specs.declared.error.OverflowError.TheVariants.{BitmapDimension}

pub record Grid : Type 0 where  -- the pixels are row by row from the top, each row from the left; `true` is black
  pub width : ℕ
  pub height : ℕ
  pub pixels : List Bool

unfoldable pub table : ℕ → ℕ → (ℕ → ℕ → Bool) → List Bool  -- the pixel at column x of row y is f x y
table w h f = map (λ n. f (n % w) (n / w)) (range_with_len 0 (w * h))

abbrev pub grid_of : ℕ → ℕ → (ℕ → ℕ → Bool) → Grid
grid_of w h f = record { width = w; height = h; pixels = table w h f }

unfoldable pub pixel_at : Grid → ℕ → ℕ → Bool  -- the pixel at column x of row y, white outside
pixel_at g x y = nat_lt x g.width && nat_lt y g.height && slice_index_or g.pixels (y * g.width + x) false

abbrev pub pixel : Grid → ℤ → ℤ → Bool  -- the same at any pair of whole numbers
pixel g (pos x) (pos y) = pixel_at g x y
pixel g _ _ = false

abbrev pub blank : ℕ → ℕ → Bool → Grid  -- a grid of one colour
blank w h black = grid_of w h (λ _ _. black)

abbrev pub same_colour : Bool → Bool → Bool
same_colour one other = if one then other else not other

abbrev pub differ : Bool → Bool → Bool
differ true b = not b
differ false b = b

-- No bitmap that is asked for by its sides has a longer one (our own rule). The code calls it `MAX_DIMENSION`.
abbrev pub max_side : ℕ
max_side = 65535

-- Whether a bitmap may have these sides: a width or a height above `max_side` is refused.
abbrev pub check_sides : ℕ → ℕ → Result (Unit {0}) DecodeError
check_sides width height = refuse_if (nat_lt max_side width || nat_lt max_side height) (Overflow BitmapDimension)

abbrev pub part_of : Grid → Area → Grid  -- a part may go past the sides, and is white there
part_of g area = grid_of area.width area.height (λ x y. pixel_at g (area.left + x) (area.top + y))

abbrev pub part_or_overflow : Grid → Area → Result Grid DecodeError  -- neither side may be above 65535 (our own rule)
part_or_overflow g area =
    check_sides area.width area.height >>= λ _. Ok (part_of g area)

abbrev pub blank_or_overflow : ℕ → ℕ → Bool → Result Grid DecodeError  -- neither side may be above 65535
blank_or_overflow w h black = check_sides w h >>= λ _. Ok (blank w h black)

-- all white; one side may be above 65535 if the area is at most 65535 * 65535
abbrev pub wide_or_overflow : ℕ → ℕ → Result Grid DecodeError
wide_or_overflow w h =
    refuse_if (nat_lt (max_side * max_side) (w * h)) (Overflow BitmapDimension) >>= λ _. Ok (blank w h false)

-- The list has exactly one pixel for each column of each row (our own rule).
abbrev pub IsTable : Grid → Type 0
IsTable g = g ≡ grid_of g.width g.height (pixel_at g)
