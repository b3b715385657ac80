-- The combination operators, and a bitmap that is combined with another by them (T.88, 7.4.1.5). `operator_of` takes a
-- number from a region's flags. `combined_grid` takes an operator, the page, a source and the place of its top left
-- pixel, any pair of whole numbers. It gives the page afterwards. Where the source has no pixel, the page stays as it
-- was.
use Rattle.std.specs.Prelude.{ℕ, Bool, false, ◌&&◌, nat_lt, if◌then◌else◌, ℤ, pos, negsuc, ◌-ℤ◌, ◌||◌, ◌==◌, not}
use Rattle.std.specs.Prelude.{Result, Ok, Err}
use Rattle.jbig2_base.specs.declared.bitmap.operator.CombinationOperator.{CombinationOperator}
use Rattle.jbig2_base.specs.declared.bitmap.operator.CombinationOperator.TheVariants.{Or, And, Xor, Xnor, Replace}
use Rattle.jbig2_base.specs.declared.error.DecodeError.{DecodeError}
use Rattle.jbig2_base.specs.declared.error.DecodeError.TheVariants.{Region}
use Rattle.jbig2_base.specs.declared.error.RegionError.TheVariants.{InvalidCombinationOperator}
use Rattle.jbig2_base.specs.Grid.{Grid, grid_of, pixel_at, pixel}

abbrev pub operator_of : ℕ → Result CombinationOperator DecodeError
operator_of n =
    if n == 0 then Ok Or
    else if n == 1 then Ok And
    else if n == 2 then Ok Xor
    else if n == 3 then Ok Xnor
    else if n == 4 then Ok Replace
    else Err (Region InvalidCombinationOperator)

-- the page's new pixel, from its pixel p and the source's pixel s
abbrev pub combined_pixel : CombinationOperator → Bool → Bool → Bool
combined_pixel Or p s = p || s
combined_pixel And p s = p && s
combined_pixel Xor p s = if p then not s else s
combined_pixel Xnor p s = if p then s else not s
combined_pixel Replace p s = s

abbrev pub is_below : ℕ → ℤ → Bool  -- whether a whole number is at least 0 and below a size
is_below size (pos n) = nat_lt n size
is_below size (negsuc n) = false

-- The pixel at column i of row j, if the source begins at column x of row y: combined where the source has a pixel.
unfoldable pub drawn_pixel : CombinationOperator → Grid → Grid → ℤ → ℤ → ℕ → ℕ → Bool
drawn_pixel operator page source x y i j =
    if is_below source.width (pos i -ℤ x) && is_below source.height (pos j -ℤ y)
    then combined_pixel operator (pixel_at page i j) (pixel source (pos i -ℤ x) (pos j -ℤ y))
    else pixel_at page i j

abbrev pub combined_grid : CombinationOperator → Grid → Grid → ℤ → ℤ → Grid
combined_grid operator page source x y = grid_of page.width page.height (drawn_pixel operator page source x y)
