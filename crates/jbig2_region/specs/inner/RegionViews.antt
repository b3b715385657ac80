-- A decoded region of the code and its mask of skipped pixels, as the definitions have them.
use Rattle.jbig2_region.specs.declared.decoded_region.DecodedRegion.{DecodedRegion}
use Rattle.jbig2_region.specs.RegionInfo.{PlacedRegion}
use Rattle.std.specs.Prelude.{Option, Some, None}
use Rattle.std.specs.Borrow.{Bor}
use Rattle.jbig2_base.specs.Grid.{Grid}

abbrev pub region_view : {A : Type 0} → DecodedRegion A → PlacedRegion
region_view r = record {
  grid = r.bitmap;
  x_location = r.x_location;
  y_location = r.y_location;
  combination_operator = r.combination_operator;
}

abbrev pub skip_of : Option (Bor Grid) → Option Grid
skip_of None = None
skip_of (Some skip) = Some skip.now
