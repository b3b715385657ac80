-- Rows, and whole regions of few columns, of a template without adaptive pixels: what must hold before, and what
-- decoding leaves and counts (our own rule).
use Rattle.std.specs.Prelude.{◌≡◌, ℕ, ◌+◌, ◌-◌, ◌*◌, ◌/◌, ◌^◌, ◌<◌, ◌≤◌, true, false, List, length}
use Rattle.jbig2_base.specs.Counts.{Counts, KeepsLanes}
use Rattle.jbig2_base.specs.Grid.{Grid, blank}
use Rattle.jbig2_coder.specs.Coder.{Context}
use Rattle.jbig2_region.specs.Steps.{CountsRegion}
use Rattle.jbig2_region.specs.inner.Neighbours.{DecodesPixels, IsNear, neighbour_count, nominal_pixels, row_coding}
use Rattle.jbig2_region.specs.inner.RegionStates.{CountedRegion, RegionState, source_of, without_counts}
use Rattle.jbig2_region.specs.inner.RowCounts.{CountsRuns}
use Rattle.jbig2_region.specs.declared.template.neighbours.Neighbours.{Neighbours}

-- ---- one row
pub record FitsRow (n : Neighbours) (y : ℕ) (g : Grid) (s : List Context) : Type 0 where
  pub near : IsNear n
  pub contexts : length s ≡ 2 ^ neighbour_count n
  pub some : 1 ≤ g.width
  pub row : y < g.height

pub record DecodesRow (n : Neighbours) (y : ℕ) (start end : CountedRegion) : Type 0 where
  pub has_decoded :
      DecodesPixels (nominal_pixels n) false 0 y start.grid.width (without_counts start) (without_counts end)
  pub width : end.grid.width ≡ start.grid.width
  pub height : end.grid.height ≡ start.grid.height
  pub bytes : end.coder.bytes ≡ start.coder.bytes
  pub contexts : length end.contexts ≡ length start.contexts
  pub decisions :
      CountsRuns (nominal_pixels n) 0 y start.grid.width (without_counts start) start.counts.decisions
      end.counts.decisions
  pub run_tests : end.counts.run_tests ≤ start.counts.run_tests + (start.grid.width - 1) / 8
  pub loads : end.counts.loads ≤ start.counts.loads + 2 * ((start.grid.width - 1) / 64 + 2)
  pub words : end.counts.words ≤ start.counts.words + ((start.grid.width - 1) / 8 + 1)
  pub lanes : KeepsLanes start.counts end.counts

-- ---- a region of few columns
pub record FitsNarrow (n : Neighbours) (g : Grid) (s : List Context) : Type 0 where
  pub near : IsNear n
  pub contexts : length s ≡ 2 ^ neighbour_count n
  pub some : 1 ≤ g.width
  pub few : g.width ≤ 48
  pub white : g ≡ blank g.width g.height false

abbrev pub CountsNarrow : Neighbours → RegionState → Counts → Counts → Type 0
CountsNarrow n start before after =
    CountsRegion (nominal_pixels n) true 0 (row_coding (nominal_pixels n)) (source_of start) before after
