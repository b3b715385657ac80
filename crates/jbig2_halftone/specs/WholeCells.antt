-- What is drawn of a halftone region whose data is cut off (our own rule): the cells of the whole rows of its grid. The
-- planes of the cells' values are coded one after the other, so a row is whole if it is whole in the last plane.
use Rattle.std.specs.Prelude.{ℕ, ◌-◌, ◌*◌, ◌==◌, ◌||◌, false, if◌then◌else◌, List, length, take}
use Rattle.std.specs.Prelude.{Result, Ok}
use Rattle.jbig2_base.specs.Results.{◌>>=◌}
use Rattle.jbig2_base.specs.Grid.{blank, check_sides}
use Rattle.jbig2_base.specs.declared.error.DecodeError.{DecodeError}
use Rattle.jbig2_mmr.specs.T6.{rows_of}
use Rattle.jbig2_region.specs.Generic.{skipping_coding}
use Rattle.jbig2_region.specs.Raster.{no_pixels, source}
use Rattle.jbig2_region.specs.RegionInfo.{PlacedRegion, at_location}
use Rattle.jbig2_region.specs.Templates.{nominal_adaptive_pixels, template_pixels}
use Rattle.jbig2_region.specs.WholeRows.{whole_rows}
use Rattle.jbig2_halftone.specs.GrayScale.{GrayScale, after_planes, gray_scale_image, mmr_left}
use Rattle.jbig2_halftone.specs.Halftone.{cells_drawn, gray_params}
use Rattle.jbig2_halftone.specs.HalftoneHeader.{HalftoneHeader}
use Rattle.jbig2_halftone.specs.Patterns.{Patterns}

module _ (p : GrayScale) where
  -- How many rows of a gray-scale image are whole: those of its last plane (our own rule). An image without planes or
  -- without columns has all its rows.
  abbrev pub whole_image_rows : List ℕ → ℕ
  whole_image_rows bytes =
      let count = p.bits_per_pixel - 1 in
      let before = after_planes p bytes count in
      let start = no_pixels before.registers before.contexts in
      let coding = skipping_coding (template_pixels false p.template (nominal_adaptive_pixels p.template)) p.skip_mask in
      if p.bits_per_pixel == 0 || p.width == 0 then p.height
      else if p.use_mmr then length (rows_of p.width p.height (mmr_left p bytes count)).rows
      else whole_rows coding (source p.width p.height bytes start) p.height

module _ (h : HalftoneHeader) (d : Patterns) where
  -- A halftone region whose data is cut off: the cells of the whole rows of its grid are drawn, and the rest keeps its
  -- initial colour (our own rule). A value that has no pattern takes the last one, as in lenient reading.
  unfoldable pub halftone_part : Result PlacedRegion DecodeError
  halftone_part = do
    let info = h.region_info
    let lenient : HalftoneHeader = record h { strict = false }
    let image = gray_params lenient d
    fits ← check_sides info.width info.height
    values ← gray_scale_image image h.bytes
    let cells = whole_image_rows image h.bytes * h.grid_position_and_size.width
    grid ← cells_drawn lenient d 0 (take cells values) (blank info.width info.height h.flags.initial_pixel_color)
    Ok (at_location info grid)
