-- Decisions and run bytes as the decoder counts them, by the pixels of a row and by whole rows (our own rule).
use Rattle.std.specs.Prelude.{◌≡◌, ℕ, zero, suc, ◌+◌, ◌*◌, Bool, false, if◌then◌else◌, List, length}
use Rattle.jbig2_region.specs.Steps.{takes_decision, is_run_byte}
use Rattle.jbig2_region.specs.Raster.{Coding, Region, after_ltp}
use Rattle.jbig2_region.specs.inner.RegionStates.{HasDecoded, RegionState}
use Rattle.jbig2_region.specs.inner.Neighbours.{row_coding}
use Rattle.jbig2_region.specs.inner.Rows.{after_pixels, after_rows}
use Rattle.jbig2_region.specs.declared.template.AdaptiveTemplatePixel.{AdaptiveTemplatePixel}
use Rattle.jbig2_base.specs.Bits.{bit_number}

-- ---- decisions
module _ (coding : Coding) (w h : ℕ) (bytes : List ℕ) where
  -- how many of the next n pixels take a decision
  unfoldable pub decided_pixels : ℕ → Region → ℕ
  decided_pixels zero r = 0
  decided_pixels (suc n) r =
      decided_pixels n r + bit_number (takes_decision coding w h (after_pixels coding w h bytes n r))

  -- how many pixels of the first n rows take a decision
  unfoldable pub decided_rows : ℕ → Region → ℕ
  decided_rows zero r = 0
  decided_rows (suc n) r =
      decided_rows n r + decided_pixels w (after_ltp coding.row_context bytes (after_rows coding w h bytes n r))

  -- how many of the first n rows are coded, not predicted
  unfoldable pub coded_rows : ℕ → Region → ℕ
  coded_rows zero r = 0
  coded_rows (suc n) r =
      coded_rows n r
      + (if (after_ltp coding.row_context bytes (after_rows coding w h bytes n r)).predicted then 0 else 1)

-- ---- run bytes
module _ (template : List AdaptiveTemplatePixel) where
  -- how many of the next n pixels begin a run byte
  unfoldable pub run_bytes : ℕ → ℕ → List ℕ → ℕ → Region → ℕ
  run_bytes w h bytes zero r = 0
  run_bytes w h bytes (suc n) r =
      run_bytes w h bytes n r
      + bit_number (is_run_byte template w h bytes (after_pixels (row_coding template) w h bytes n r))

  -- the decisions taken for n pixels of row y, from column x on: one for each, less eight for each run byte
  abbrev pub CountsRuns : ℕ → ℕ → ℕ → RegionState → ℕ → ℕ → Type 0
  CountsRuns x y n start before after =
      (w h : ℕ) (input : List ℕ) (r : Region) → length r.pixels ≡ y * w + x → r.predicted ≡ false
      → HasDecoded w h input r start → after + 8 * run_bytes w h input n r ≡ before + n

  -- The same for the whole row y, in a template with run bytes or without. A predicted row takes no decision.
  abbrev pub CountsRow : Bool → Bool → ℕ → RegionState → ℕ → ℕ → Type 0
  CountsRow nominal predicted y start before after =
      (w h : ℕ) (input : List ℕ) (r : Region) → length r.pixels ≡ y * w → r.predicted ≡ predicted
      → HasDecoded w h input r start
      → after + 8 * (if predicted then 0 else if nominal then run_bytes w h input w r else 0)
      ≡ before + (if predicted then 0 else w)

  -- how many run bytes the first n rows have, in a template with run bytes or without
  unfoldable pub rows_runs : Bool → Coding → ℕ → ℕ → List ℕ → ℕ → Region → ℕ
  rows_runs nominal coding w h bytes zero r = 0
  rows_runs nominal coding w h bytes (suc n) r =
      let opening = after_ltp coding.row_context bytes (after_rows coding w h bytes n r) in
      rows_runs nominal coding w h bytes n r
      + (if opening.predicted then 0 else if nominal then run_bytes w h bytes w opening else 0)
