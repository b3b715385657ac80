-- Some decoded pixels of a row, and their decisions (our own rule).
use Rattle.std.specs.Prelude.{◌≡◌, ◌+◌, ◌*◌, ℕ, Bool, List, Option, Some, None, length, slice_index_or, slice_set}
use Rattle.jbig2_base.specs.Counts.{Counts}
use Rattle.jbig2_base.specs.Bits.{bit_number}
use Rattle.jbig2_coder.specs.Coder.{Decision, fresh, decision}
use Rattle.jbig2_region.specs.inner.RowCounts.{decided_pixels}
use Rattle.jbig2_region.specs.inner.RegionStates.{CountedDecoder, CountedRegion, HasDecoded, RegionState, without_counts}
use Rattle.jbig2_region.specs.inner.Rows.{after_pixels}
use Rattle.jbig2_region.specs.Raster.{Coding, Region}

-- n pixels of row y, from column x on, and the region before them
module _ (coding : Coding) (predicted : Bool) (x y n : ℕ) (start : RegionState) where
  -- the region after the pixels
  abbrev pub DecodesPart : RegionState → Type 0
  DecodesPart end =
      (w h : ℕ) (input : List ℕ) (r : Region) → length r.pixels ≡ y * w + x → r.predicted ≡ predicted
      → HasDecoded w h input r start → HasDecoded w h input (after_pixels coding w h input n r) end

  -- The decisions taken for these pixels: one for each pixel that takes one.
  abbrev pub CountsPart : ℕ → ℕ → Type 0
  CountsPart before after =
      (w h : ℕ) (input : List ℕ) (r : Region) → length r.pixels ≡ y * w + x → r.predicted ≡ predicted
      → HasDecoded w h input r start → after ≡ before + decided_pixels coding w h input n r

-- what one decision leaves
pub record Decides (e : Decision) (k : ℕ) (before : CountedDecoder) (n : ℕ) (after : CountedDecoder) : Type 0 where
  pub symbol : n ≡ bit_number e.symbol
  pub coder : after.coder ≡ record before.coder { registers = e.registers }
  pub states : after.contexts ≡ slice_set before.contexts k e.context
  pub steps : after.counts ≡ record before.counts { decisions = before.counts.decisions + 1 }

-- what a known colour leaves
pub record Knows (colour : Bool) (before : CountedDecoder) (n : ℕ) (after : CountedDecoder) : Type 0 where
  pub symbol : n ≡ bit_number colour
  pub coder : after.coder ≡ before.coder
  pub states : after.contexts ≡ before.contexts
  pub steps : after.counts ≡ before.counts

-- the next pixel: of a known colour, or else decided in the context with number k
abbrev pub TakesPixel : Option Bool → ℕ → CountedDecoder → ℕ → CountedDecoder → Type 0
TakesPixel (Some colour) k before n after = Knows colour before n after
TakesPixel None k before n after =
    let context = slice_index_or before.contexts k fresh in
    Decides (decision before.coder.bytes before.coder.registers context) k before n after

-- what no pixel of a raster counts: run tests, groups of lanes, single pixels and cleared words
abbrev pub rest_of : Counts → ℕ × ℕ × ℕ × ℕ
rest_of c = (c.run_tests, c.groups, c.pixels, c.cleared)

-- The n pixels of row y from column x on are decoded, and their decisions are counted. The bitmap keeps its size, and
-- the coder keeps its bytes.
pub record DecodesPixels (coding : Coding) (predicted : Bool) (x y n : ℕ) (start end : CountedRegion) : Type 0 where
  pub has_decoded : DecodesPart coding predicted x y n (without_counts start) (without_counts end)
  pub width : end.grid.width ≡ start.grid.width
  pub height : end.grid.height ≡ start.grid.height
  pub bytes : end.coder.bytes ≡ start.coder.bytes
  pub decisions : CountsPart coding predicted x y n (without_counts start) start.counts.decisions end.counts.decisions
  pub rest : rest_of end.counts ≡ rest_of start.counts
