-- What the decoder holds of a region during decoding (our own rule).
use Rattle.std.specs.Prelude.{◌≡◌, ◌≤◌, ◌^◌, ℕ, Bool, false, List, Option, length}
use Rattle.jbig2_base.specs.Counts.{Counts}
use Rattle.jbig2_base.specs.Grid.{Grid, blank, max_side}
use Rattle.jbig2_coder.specs.Coder.{Coder, Context}
use Rattle.jbig2_region.specs.Raster.{Coding, Region, Source, so_far, after_ltp, decoded_region, no_pixels, source}

-- ---- what is in progress, as one value
-- an arithmetic decoder: its coder and its contexts
pub record DecoderState : Type 0 where
  pub coder : Coder
  pub contexts : List Context

-- the same, with the steps counted so far
pub record CountedDecoder : Type 0 where
  pub coder : Coder
  pub contexts : List Context
  pub counts : Counts

-- a bitmap, and the arithmetic decoder by which it is decoded
pub record RegionState : Type 0 where
  pub grid : Grid
  pub coder : Coder
  pub contexts : List Context

-- the same, with the steps counted so far
pub record CountedRegion : Type 0 where
  pub grid : Grid
  pub coder : Coder
  pub contexts : List Context
  pub counts : Counts

abbrev pub decoder_state : Coder → List Context → DecoderState
decoder_state coder contexts = record { coder = coder; contexts = contexts }

abbrev pub counted_decoder : Coder → List Context → Counts → CountedDecoder
counted_decoder coder contexts counts = record { coder = coder; contexts = contexts; counts = counts }

abbrev pub region_state : Grid → Coder → List Context → RegionState
region_state grid coder contexts = record { grid = grid; coder = coder; contexts = contexts }

abbrev pub counted_region : Grid → Coder → List Context → Counts → CountedRegion
counted_region grid coder contexts counts =
    record { grid = grid; coder = coder; contexts = contexts; counts = counts }

-- this bitmap, with the decoder
abbrev pub region_with : Grid → DecoderState → RegionState
region_with grid d = region_state grid d.coder d.contexts

-- the region without its counts
abbrev pub without_counts : CountedRegion → RegionState
without_counts s = region_state s.grid s.coder s.contexts

-- what a region is decoded from, if this is how it begins
abbrev pub source_of : RegionState → Source
source_of s = source s.grid.width s.grid.height s.coder.bytes (no_pixels s.coder.registers s.contexts)

-- ---- what it holds
-- A white bitmap whose sides a region may have, and as many contexts as a number of this many bits has values.
pub record IsReady (bits : ℕ) (grid : Grid) (states : List Context) : Type 0 where
  pub columns : grid.width ≤ max_side
  pub rows : grid.height ≤ max_side
  pub white : grid ≡ blank grid.width grid.height false
  pub contexts : length states ≡ 2 ^ bits

-- the code holds the definitions' region
pub record HasDecoded (w h : ℕ) (input : List ℕ) (r : Region) (held : RegionState) : Type 0 where
  pub pixels : held.grid ≡ so_far w h r.pixels
  pub bytes : held.coder.bytes ≡ input
  pub registers : held.coder.registers ≡ r.registers
  pub contexts : held.contexts ≡ r.contexts

-- the same after the start of a row, and whether the row is predicted
pub record BeginsRow (w h : ℕ) (row_context : Option ℕ) (r : Region) (is_predicted : Bool) (before : Coder)
    (held : RegionState) : Type 0 where
  pub has_decoded : HasDecoded w h before.bytes (after_ltp row_context before.bytes r) held
  pub predicted : (after_ltp row_context before.bytes r).predicted ≡ is_predicted

-- A whole region is decoded, from the present state of the coder and the contexts.
abbrev pub DecodesRegion : Coding → RegionState → RegionState → Type 0
DecodesRegion coding start end =
    let bytes = start.coder.bytes in
    let first = no_pixels start.coder.registers start.contexts in
    HasDecoded start.grid.width start.grid.height bytes
    (decoded_region coding start.grid.width start.grid.height bytes first) end
