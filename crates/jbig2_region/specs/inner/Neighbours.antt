-- Templates of generic regions as neighbours that lie side by side, with adaptive pixels between them (our own rule).
use Rattle.std.specs.Prelude.{◌≡◌, ◌==◌, ℕ, zero, suc, ◌+◌, ◌-◌, ◌*◌, ◌/◌, ◌%◌, ◌^◌, ◌<◌, ◌≤◌, ℤ, pos, negsuc, ◌-ℤ◌}
use Rattle.std.specs.Prelude.{List, [], ◌∷◌, ◌++◌, length, Bool, true, ◌&&◌, if◌then◌else◌, Option, Some, None}
use Rattle.jbig2_base.specs.Grid.{Grid, pixel_at}
use Rattle.jbig2_region.specs.Generic.{context_at, known_colour}
use Rattle.jbig2_region.specs.inner.RegionStates.{HasDecoded, RegionState}
use Rattle.jbig2_region.specs.inner.Rows.{after_pixels}
use Rattle.jbig2_region.specs.Raster.{Coding, Region}
use Rattle.jbig2_region.specs.declared.template.layouts.Adaptives.{Adaptives}
use Rattle.jbig2_region.specs.declared.template.neighbours.Neighbours.{Neighbours}
use Rattle.jbig2_region.specs.declared.template.neighbours.Stretch.{Stretch}
use Rattle.jbig2_region.specs.declared.template.AdaptiveTemplatePixel.{AdaptiveTemplatePixel}
use Rattle.jbig2_region.specs.declared.generic_kernel.windows.Windows.{Windows}

-- this many pixels in the row this many rows up, the rightmost first
abbrev pub side_by_side : ℤ → ℕ → ℕ → List AdaptiveTemplatePixel
side_by_side x rows zero = []
side_by_side x rows (suc count) = record { x = x; y = pos 0 -ℤ pos rows } ∷ side_by_side (x -ℤ pos 1) rows count

abbrev pub stretch_pixels : Stretch → ℕ → List AdaptiveTemplatePixel
stretch_pixels s rows = side_by_side (pos s.reach) rows s.count

module _ (n : Neighbours) where
  abbrev pub left_pixels : List AdaptiveTemplatePixel
  left_pixels = side_by_side (negsuc 0) 0 n.left

  -- the pixels without adaptive ones, or with nominal ones, which are neighbours too
  abbrev pub nominal_pixels : List AdaptiveTemplatePixel
  nominal_pixels = left_pixels ++ (stretch_pixels n.above 1 ++ stretch_pixels n.top 2)

  abbrev pub mixed_pixels : Adaptives → List AdaptiveTemplatePixel
  mixed_pixels a =
      left_pixels
      ++ (a.first.now ++ (stretch_pixels n.above 1 ++ (a.middle.now ++ (stretch_pixels n.top 2 ++ a.last.now))))

  abbrev pub optional_pixels : Option Adaptives → List AdaptiveTemplatePixel
  optional_pixels None = nominal_pixels
  optional_pixels (Some a) = mixed_pixels a

abbrev pub neighbour_count : Neighbours → ℕ
neighbour_count n = n.left + (n.above.count + n.top.count)

-- small enough for the windows
pub record IsNear (n : Neighbours) : Type 0 where
  pub left : n.left ≤ 4
  pub some : 1 ≤ n.left
  pub above_reach : n.above.reach ≤ 3
  pub above_count : n.above.count ≤ 7
  pub top_reach : n.top.reach ≤ 3
  pub top_count : n.top.count ≤ 7
  pub few : neighbour_count n ≤ 16

-- the same pixels in all rows above row y
abbrev pub SameAbove : Grid → Grid → ℕ → Type 0
SameAbove g g' y = (i j : ℕ) → j < y → pixel_at g i j ≡ pixel_at g' i j

-- how the pixels of a row are coded
abbrev pub row_coding : List AdaptiveTemplatePixel → Coding
row_coding template = record { context = context_at template; known = known_colour None; row_context = None }

-- A region before and after n pixels of row y, from column x on.
abbrev pub DecodesPixels : List AdaptiveTemplatePixel → Bool → ℕ → ℕ → ℕ → RegionState → RegionState → Type 0
DecodesPixels template predicted x y n start end =
    (w h : ℕ) (input : List ℕ) (r : Region) → length r.pixels ≡ y * w + x → r.predicted ≡ predicted
    → HasDecoded w h input r start → HasDecoded w h input (after_pixels (row_coding template) w h input n r) end

-- the part of a context that a window has for a stretch, seen from `offset` columns right of the window's column
abbrev pub stretch_bits : Stretch → ℕ → ℕ → ℕ
stretch_bits s word offset = word / 2 ^ (55 - offset - s.reach) % 2 ^ s.count

-- whether this many bits of a number all have one colour
abbrev pub is_field : ℕ → ℕ → ℕ → Bool → Bool
is_field word shift count colour = word / 2 ^ shift % 2 ^ count == (if colour then 2 ^ count - 1 else 0)

-- whether a stretch has the colour, from the window's column and each of the m columns right of it; yes if it is empty
abbrev pub stretch_stays : Stretch → ℕ → Bool → ℕ → Bool
stretch_stays s m colour word = if s.count == 0 then true else is_field word (55 - m - s.reach) (s.count + m) colour

module _ (n : Neighbours) where
  -- the same for both stretches, and then also for the pixels on the left
  abbrev pub stretches_stay : ℕ → Bool → Windows → Bool
  stretches_stay m colour w = stretch_stays n.above m colour w.above && stretch_stays n.top m colour w.top

  abbrev pub neighbours_stay : ℕ → Bool → ℕ → Windows → Bool
  neighbours_stay m colour left w = is_field left 0 n.left colour && stretches_stay m colour w

  -- the pixels of the stretches in the windows, in one number that moves on by doubling
  abbrev pub register_of : Windows → ℕ
  register_of w =
      w.above / 2 ^ (48 - n.above.reach) % 2 ^ 16 * 2 ^ 16 + w.top / 2 ^ (48 - n.top.reach) % 2 ^ 16 * 2 ^ 40

  -- the stretches' part of a context, from this number
  abbrev pub stretches_of : ℕ → ℕ
  stretches_of register =
      register / 2 ^ 23 % 2 ^ n.above.count + register / 2 ^ 47 % 2 ^ n.top.count * 2 ^ n.above.count

  -- the context, with the pixels on the left from another number
  abbrev pub cut_of : ℕ → ℕ → ℕ
  cut_of register beside = beside % 2 ^ n.left + stretches_of register * 2 ^ n.left

abbrev pub adaptive_count : Adaptives → ℕ
adaptive_count a = length a.first.now + (length a.middle.now + length a.last.now)

abbrev pub mixed_count : Neighbours → Adaptives → ℕ
mixed_count n a =
    n.left + (length a.first.now + (n.above.count + (length a.middle.now + (n.top.count + length a.last.now))))

-- near neighbours, and no more adaptive pixels than a context has room for
pub record IsMixed (n : Neighbours) (a : Adaptives) : Type 0 where
  pub near : IsNear n
  pub few : mixed_count n a ≤ 16
