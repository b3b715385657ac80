-- Regions that fill a whole page by themselves (our own rule).
use Rattle.std.specs.Prelude.{◌≡◌, ◌≤◌, Bool}
use Rattle.std.specs.Int.{w32, cast_signed}
use Rattle.jbig2_base.specs.Combination.{combined_grid}
use Rattle.jbig2_base.specs.Grid.{Grid, blank, max_side, IsTable}
use Rattle.jbig2_region.specs.declared.region_info.RegionSegmentInfo.{RegionSegmentInfo}

-- a page that is all of one colour, as at its beginning
pub record IsBlankPage (black : Bool) (page : Grid) : Type 0 where
  pub blank : page ≡ blank page.width page.height black
  pub columns : page.width ≤ max_side
  pub rows : page.height ≤ max_side

-- A page of a region's size and initial colour. Once the region is drawn, the page shows the region's own pixels.
pub record IsWhole (info : RegionSegmentInfo) (initial_pixel : Bool) (page : Grid) : Type 0 where
  pub columns : info.width ≤ max_side
  pub rows : info.height ≤ max_side
  pub coloured : page ≡ blank info.width info.height initial_pixel
  pub over : (g : Grid) → IsTable g → g.width ≡ info.width → g.height ≡ info.height
      → combined_grid info.combination_operator page g
      (cast_signed w32 info.x_location) (cast_signed w32 info.y_location) ≡ g
