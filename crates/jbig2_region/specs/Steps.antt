-- The step bounds of regions (our own rule): decisions, run bytes, words and loads. Each `Counts..` takes how a region
-- is coded, what it is decoded from, and the counts before and after it.
use Rattle.std.specs.Prelude.{◌≡◌, ℕ, zero, suc, ◌+◌, ◌-◌, ◌*◌, ◌/◌, ◌%◌, ◌≤◌, ◌==◌, Bool, false, true, not, ◌&&◌, ◌||◌}
use Rattle.std.specs.Prelude.{nat_lt, if◌then◌else◌, List, ◌++◌, length, replicate, slice_index_or, is_none, Option}
use Rattle.jbig2_base.specs.Counts.{Counts, KeepsLanes, bitmap_made}
use Rattle.jbig2_base.specs.Grid.{same_colour, Grid}
use Rattle.jbig2_base.specs.Bits.{bit_number, number_of}
use Rattle.jbig2_coder.specs.Coder.{fresh, all_quiet, initial_registers}
use Rattle.jbig2_region.specs.Generic.{context_at, is_skipped}
use Rattle.jbig2_region.specs.Raster.{Coding, Region, Source, source, so_far, at_pixel, no_pixels}
use Rattle.jbig2_coder.specs.Coder.{fresh_contexts}
use Rattle.jbig2_region.specs.Raster.{row_decisions}
use Rattle.jbig2_region.specs.Refinement.{reference_of, refinement_coding}
use Rattle.jbig2_region.specs.RefinementHeader.{RefinementHeader}
use Rattle.jbig2_region.specs.RefinementTemplates.{is_nominal, refinement_bits}
use Rattle.jbig2_region.specs.RegionInfo.{PlacedRegion}
use Rattle.jbig2_region.specs.declared.region_info.RegionSegmentInfo.{RegionSegmentInfo}
use Rattle.jbig2_region.specs.declared.template.AdaptiveTemplatePixel.{AdaptiveTemplatePixel}
use Rattle.jbig2_region.specs.declared.template.RefinementTemplate.{RefinementTemplate}

abbrev pub region_made : RegionSegmentInfo → Counts → Counts  -- the counts after the bitmap of a region is made
region_made info = bitmap_made info.width info.height

unfoldable pub how_many : (ℕ → Bool) → ℕ → ℕ  -- how many of the first n places of a raster have a property
how_many has zero = 0
how_many has (suc n) = how_many has n + bit_number (has n)

-- ---- regions in which each pixel that is not known takes a decision
-- whether the next pixel takes a decision: its colour is not known
unfoldable pub takes_decision : Coding → ℕ → ℕ → Region → Bool
takes_decision coding w h r =
    let n = length r.pixels in
    is_none (coding.known r.predicted (so_far w h r.pixels) (n % w) (n / w))

unfoldable pub pixel_decisions : Coding → ℕ → ℕ → List ℕ → Region → ℕ
pixel_decisions coding w h bytes start =
    how_many (λ n. takes_decision coding w h (at_pixel coding w h bytes start n)) (w * h)

-- One decision for each pixel that takes one, and for each row that begins with one. No run test and no lanes. At most
-- one word a pixel, and this many loads a row. An empty region takes no step.
pub record CountsDecided (coding : Coding) (row_loads : ℕ) (s : Source) (before after : Counts) : Type 0 where
  pub empty : s.columns * s.rows ≡ 0 → after ≡ before
  pub decisions : 1 ≤ s.columns →
      after.decisions
      ≡ before.decisions
      + (s.rows * row_decisions coding.row_context + pixel_decisions coding s.columns s.rows s.bytes s.start)
  pub run_tests : after.run_tests ≡ before.run_tests
  pub words : after.words ≤ before.words + s.rows * s.columns
  pub loads : after.loads ≤ before.loads + s.rows * row_loads
  pub lanes : KeepsLanes before after

-- The steps of counting the whole rows of a region (`whole_rows`), as in `CountsDecided`, but perhaps of fewer rows: at
-- most one decision a pixel and one a row, and no run test and no lanes.
pub record CountsWholeRows (row_loads : ℕ) (s : Source) (before after : Counts) : Type 0 where
  pub decisions : after.decisions ≤ before.decisions + s.rows * (s.columns + 1)
  pub run_tests : after.run_tests ≡ before.run_tests
  pub words : after.words ≤ before.words + s.rows * s.columns
  pub loads : after.loads ≤ before.loads + s.rows * row_loads
  pub lanes : KeepsLanes before after

-- the loads of a row of a refinement, if its pixels are taken from windows of 64 pixels
abbrev pub window_loads : ℕ → ℕ
window_loads w = 5 * (w / 32 + 2)

-- if an adaptive pixel is not nominal, all pixels of the template and the nine of the prediction are read one by one
abbrev pub refinement_loads : RefinementTemplate → List AdaptiveTemplatePixel → ℕ → ℕ
refinement_loads template a w = if is_nominal template a then window_loads w else w * (refinement_bits template + 9)

abbrev pub CountsRefined : RefinementHeader → PlacedRegion → Counts → Counts → Type 0
CountsRefined h from before after =
    CountsDecided (refinement_coding h.template h.tpgron h.adaptive_template_pixels (reference_of h from))
    (refinement_loads h.template h.adaptive_template_pixels h.region_info.width)
    (source h.region_info.width h.region_info.height h.bytes
    (no_pixels (initial_registers h.bytes) (fresh_contexts (refinement_bits h.template)))) before after

-- ---- run bytes of generic regions: eight likely pixels, for which the coder only lowers A
module _ (template : List AdaptiveTemplatePixel) where
  -- the context of a template whose pixels all have one colour
  abbrev pub all_of : Bool → ℕ
  all_of colour = number_of (replicate (length template) colour)

  module _ (w h : ℕ) where
    -- whether the pixel after these has that context
    unfoldable pub has_all : Bool → List Bool → Bool
    has_all colour bits =
        context_at template (so_far w h bits) (length bits % w) (length bits / w) == all_of colour

    -- whether the next n pixels, if they have that colour, and the pixel after them all have that context
    unfoldable pub keeps_context : Bool → ℕ → List Bool → Bool
    keeps_context colour zero bits = has_all colour bits
    keeps_context colour (suc n) bits = keeps_context colour n bits && has_all colour (bits ++ replicate (suc n) colour)

    -- whether the next eight pixels are a run of a colour: likely symbols, quiet, and in one context
    unfoldable pub is_run_of : List ℕ → Region → Bool → Bool
    is_run_of bytes r colour =
        let context = slice_index_or r.contexts (all_of colour) fresh in
        keeps_context colour 8 r.pixels && (same_colour colour context.likely && all_quiet 8 bytes r.registers context)

    -- whether the next pixel begins a run byte, which is not the last byte of its row
    unfoldable pub is_run_byte : List ℕ → Region → Bool
    is_run_byte bytes r =
        let x = length r.pixels % w in
        (x % 8 == 0 && nat_lt (x + 8) w) && (is_run_of bytes r false || is_run_of bytes r true)

-- how many pixels of a region lie in rows that are not predicted
unfoldable pub coded_pixels : Coding → ℕ → ℕ → List ℕ → Region → ℕ
coded_pixels coding w h bytes start = how_many (λ n. not (at_pixel coding w h bytes start n).predicted) (w * h)

-- how many of these begin a run byte; `nominal` says whether the template has run bytes
unfoldable pub coded_runs : List AdaptiveTemplatePixel → Bool → Coding → ℕ → ℕ → List ℕ → Region → ℕ
coded_runs template nominal coding w h bytes start =
    let at = at_pixel coding w h bytes start in
    if nominal then how_many (λ n. not (at n).predicted && is_run_byte template w h bytes (at n)) (w * h) else 0

-- the loads of a row without those of adaptive pixels; its run tests; and its written words, one for each byte or pixel
abbrev pub row_loads : Bool → ℕ → ℕ
row_loads nominal w = if nominal then 2 * ((w - 1) / 64 + 2) else 3 * (w / 32 + 2)

abbrev pub row_tests : Bool → ℕ → ℕ
row_tests nominal w = if nominal then (w - 1) / 8 else 0

abbrev pub row_words : Bool → ℕ → ℕ
row_words nominal w = if nominal then (w - 1) / 8 + 1 else w

-- One decision for each coded pixel, less eight for each run byte, and one for each row that begins with one. No lanes.
-- An empty region takes no step.
pub record CountsRegion (template : List AdaptiveTemplatePixel) (nominal : Bool) (adaptive : ℕ) (coding : Coding)
    (s : Source) (before after : Counts) : Type 0 where
  pub empty : s.columns * s.rows ≡ 0 → after ≡ before
  pub decisions : 1 ≤ s.columns →
      after.decisions + 8 * coded_runs template nominal coding s.columns s.rows s.bytes s.start
      ≡ before.decisions
      + (s.rows * row_decisions coding.row_context + coded_pixels coding s.columns s.rows s.bytes s.start)
  pub run_tests : after.run_tests ≤ before.run_tests + s.rows * row_tests nominal s.columns
  pub words : after.words ≤ before.words + s.rows * row_words nominal s.columns
  pub loads :
      after.loads
      ≤ before.loads
      + (s.rows * row_loads nominal s.columns + coded_pixels coding s.columns s.rows s.bytes s.start * adaptive)
  pub lanes : KeepsLanes before after

-- ---- steps (our own rule), if the adaptive pixels are nominal: the pixels that are not skipped
unfoldable pub kept_pixels : Option Grid → ℕ → ℕ → ℕ
kept_pixels skip w h = how_many (λ n. not (is_skipped skip (n % w) (n / w))) (w * h)

-- the loads of a row of w pixels, for 32 columns a window of the mask and of each of the two rows above; and its words
abbrev pub skipping_loads : ℕ → ℕ
skipping_loads w = 3 * (w / 32 + 2)

abbrev pub skipping_words : ℕ → ℕ
skipping_words w = w / 32 + 1

-- one decision for each pixel that is not skipped, no run test and no lanes
pub record CountsSkipping (skip : Option Grid) (w h : ℕ) (before after : Counts) : Type 0 where
  pub decisions : after.decisions ≡ before.decisions + kept_pixels skip w h
  pub run_tests : after.run_tests ≡ before.run_tests
  pub words : after.words ≤ before.words + h * skipping_words w
  pub loads : after.loads ≤ before.loads + h * skipping_loads w
  pub lanes : KeepsLanes before after
