-- The names of a page's globals, and the page's area as the code returns it.
use Rattle.std.specs.Prelude.{◌||◌, Option, Some, None, Result, Ok, Err}
use Rattle.std.specs.Borrow.{Bor}
use Rattle.jbig2_base.specs.Results.{◌>>=◌, refuse_if}
use Rattle.jbig2_base.specs.Grid.{Grid}
use Rattle.jbig2_base.specs.declared.error.DecodeError.{DecodeError}
use Rattle.jbig2_base.specs.declared.error.DecodeError.TheVariants.{Overflow}
use Rattle.jbig2_base.specs.declared.error.OverflowError.TheVariants.{ReferenceOffset}
use Rattle.jbig2_region.specs.RegionInfo.{PlacedRegion, is_far}
use Rattle.jbig2_region.specs.declared.region_info.RegionSegmentInfo.{RegionSegmentInfo}
use Rattle.jbig2_page.specs.Names.{Names, no_names}
use Rattle.jbig2_page.specs.Regions.{page_area}
use Rattle.jbig2_page.specs.Globals.{KeptGlobals}

-- the page's area, unless it lies too far to be refined
abbrev pub near_area : Grid → RegionSegmentInfo → Result PlacedRegion DecodeError
near_area page info =
    refuse_if (is_far info.x_location || is_far info.y_location) (Overflow ReferenceOffset)
    >>= λ near. Ok (page_area page info)

-- the names of globals, where there are any
abbrev pub given_names : Option (Bor KeptGlobals) → Names
given_names None = no_names
given_names (Some globals) = globals.now.names

-- what decoding the globals returned
abbrev pub kept_names : Result (Option (Bor KeptGlobals)) DecodeError → Result Names DecodeError
kept_names (Ok globals) = Ok (given_names globals)
kept_names (Err e) = Err e
