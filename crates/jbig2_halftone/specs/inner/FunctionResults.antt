-- What single functions of the code take and give. The definitions have it as a part of something larger.
use Rattle.std.specs.Prelude.{ℕ, ◌≡◌, ◌≤◌, ◌+◌, ◌*◌, ◌/◌, ◌%◌, Bool, true, false, ◌||◌, if◌then◌else◌, List, map, None}
use Rattle.std.specs.Prelude.{is_some, length, ◌⊎◌, Result, Ok}
use Rattle.std.specs.List.{range_with_len}
use Rattle.jbig2_base.specs.Counts.{Counts, KeepsLanes, words_cleared, words_copied, words_made}
use Rattle.jbig2_base.specs.Results.{◌>>=◌}
use Rattle.jbig2_base.specs.Grid.{Grid, grid_of, part_of}
use Rattle.jbig2_base.specs.declared.error.DecodeError.{DecodeError}
use Rattle.jbig2_coder.specs.Coder.{Context}
use Rattle.jbig2_mmr.specs.Steps.{MovesWithin}
use Rattle.jbig2_mmr.specs.T6.{rows_of}
use Rattle.jbig2_region.specs.Generic.{coding_of, skipping_coding}
use Rattle.jbig2_region.specs.Raster.{Coding, Region, so_far, no_pixels, source}
use Rattle.jbig2_region.specs.Steps.{CountsRegion, CountsSkipping}
use Rattle.jbig2_region.specs.Templates.{template_pixels, nominal_adaptive_pixels}
use Rattle.jbig2_region.specs.declared.template.AdaptiveTemplatePixel.{AdaptiveTemplatePixel}
use Rattle.jbig2_region.specs.WholeRows.{whole_rows}
use Rattle.jbig2_halftone.specs.GrayScale.{GrayScale, after_planes, gray_values, mmr_planes, mmr_left}
use Rattle.jbig2_halftone.specs.Halftone.{column_of, gray_params, row_of, is_beyond}
use Rattle.jbig2_halftone.specs.HalftoneHeader.{HalftoneHeader}
use Rattle.jbig2_halftone.specs.Patterns.{Patterns}
use Rattle.jbig2_halftone.specs.Steps.{CountsPlanes, CountsMasked, StopsImage, TakesLanes, after_mask, taking_loads}
use Rattle.jbig2_halftone.specs.Steps.{words_of_plane}

-- ---- patterns
-- pattern k: the columns from k * width on
abbrev pub pattern_of : Grid → ℕ → ℕ → ℕ → Grid
pattern_of collective width height k =
    part_of collective (record { left = k * width; top = 0; width = width; height = height })

-- bitmaps for this many patterns were made, of `cleared` words, and this many were cut out, of `words` words
abbrev pub patterns_cut : ℕ → ℕ → ℕ → ℕ → Counts → Counts
patterns_cut made cut cleared words before = words_copied (cut * words) (words_cleared (made * cleared) before)

-- some of this many patterns were cut out, or all
abbrev pub StopsCut : ℕ → ℕ → ℕ → Counts → Counts → Type 0
StopsCut count cleared words before after =
    (made : ℕ) × ((made ≤ count) × ((cut : ℕ) × ((cut ≤ count) × (after ≡ patterns_cut made cut cleared words before))))

-- ---- planes
module _ (p : GrayScale) where
  -- a plane is a generic region without typical prediction
  abbrev pub plane_coding : Coding
  plane_coding = skipping_coding (template_pixels false p.template (nominal_adaptive_pixels p.template)) p.skip_mask

  -- the plane after the k highest ones, the highest ones, and all of them
  abbrev pub coded_plane : List ℕ → ℕ → Grid
  coded_plane bytes k = so_far p.width p.height (after_planes p bytes (k + 1)).pixels

  abbrev pub coded_planes : List ℕ → ℕ → List Grid
  coded_planes bytes count = map (coded_plane bytes) (range_with_len 0 count)

  abbrev pub planes_by_coder : List ℕ → Result (List Grid) DecodeError
  planes_by_coder bytes = Ok (coded_planes bytes p.bits_per_pixel)

  -- all planes, with MMR
  abbrev pub planes_by_mmr : List ℕ → Result (List Grid) DecodeError
  planes_by_mmr bytes = mmr_planes p bytes p.bits_per_pixel

  -- the values of an image from its planes
  abbrev pub values_of : Result (List Grid) DecodeError → Result (List ℕ) DecodeError
  values_of read = do
    planes ← read
    Ok (gray_values p.width p.height planes)

  -- where the plane after the k highest ones begins
  abbrev pub coded_plane_start : List ℕ → ℕ → Region
  coded_plane_start bytes k = no_pixels (after_planes p bytes k).registers (after_planes p bytes k).contexts

  -- how many rows of the plane after the k highest ones are whole, with either coding
  abbrev pub whole_coded_rows : List ℕ → ℕ → ℕ
  whole_coded_rows bytes k = whole_rows plane_coding (source p.width p.height bytes (coded_plane_start bytes k)) p.height

  abbrev pub mmr_rows_left : List ℕ → ℕ → ℕ
  mmr_rows_left bytes k = length (rows_of p.width p.height (mmr_left p bytes k)).rows

  -- the contexts after all planes; MMR leaves them as they were
  abbrev pub planes_contexts : List ℕ → List Context → List Context
  planes_contexts bytes contexts = if p.use_mmr then contexts else (after_planes p bytes p.bits_per_pixel).contexts

-- ---- the skip mask
-- the pattern of cell (m, n) would lie wholly outside the region
abbrev pub lies_outside : HalftoneHeader → Patterns → ℕ → ℕ → Bool
lies_outside h d m n =
    is_beyond (column_of h m n) d.width h.region_info.width || is_beyond (row_of h m n) d.height h.region_info.height

-- black where a cell is skipped
abbrev pub skip_grid : HalftoneHeader → Patterns → Grid
skip_grid h d = grid_of h.grid_position_and_size.width h.grid_position_and_size.height (λ n m. lies_outside h d m n)

-- ---- steps
module _ (p : GrayScale) where
  -- a plane without skipped pixels, as a generic region
  abbrev pub plane_pixels : List AdaptiveTemplatePixel
  plane_pixels = template_pixels false p.template (nominal_adaptive_pixels p.template)

  abbrev pub plain_coding : Coding
  plain_coding = coding_of false p.template plane_pixels

  -- one such plane
  abbrev pub CountsPlane : ℕ → ℕ → List ℕ → Region → Counts → Counts → Type 0
  CountsPlane w h bytes start before after =
      CountsRegion plane_pixels true 0 plain_coding (source w h bytes start) before after

  -- one plane that the arithmetic coder wrote
  pub record CountsOne (w h : ℕ) (bytes : List ℕ) (start : Region) (before after : Counts) : Type 0 where
    pub plain : p.skip_mask ≡ None → CountsPlane w h bytes start before after
    pub masked : is_some p.skip_mask ≡ true → CountsSkipping p.skip_mask w h before after
    pub lanes : KeepsLanes before after

  -- the highest of them, read and taken
  pub record CountsCoded (bytes : List ℕ) (count : ℕ) (before after : Counts) : Type 0 where
    pub plain : p.skip_mask ≡ None → CountsPlanes p bytes count (count * taking_loads p) before after
    pub masked : is_some p.skip_mask ≡ true → CountsMasked p count (count * taking_loads p) before after
    pub lanes : TakesLanes p count before after

  -- some of these planes, or all
  abbrev pub StopsCoded : List ℕ → Counts → Counts → Type 0
  StopsCoded bytes before after = (count : ℕ) × ((count ≤ p.bits_per_pixel) × CountsCoded bytes count before after)

  -- all planes of MMR data are read, at most, and this many are taken
  pub record CountsMmr (bytes : List ℕ) (taken : ℕ) (before after : Counts) : Type 0 where
    pub moves : MovesWithin (3 * (p.bits_per_pixel * words_of_plane p + 8 * length bytes) + taken * taking_loads p)
        before after
    pub lanes : TakesLanes p taken before after

  -- no more than all of them
  abbrev pub StopsMmr : List ℕ → Counts → Counts → Type 0
  StopsMmr bytes before after = (taken : ℕ) × ((taken ≤ p.bits_per_pixel) × CountsMmr bytes taken before after)

-- This many planes of MMR data are read, and `left` of `all` bytes are left. There are at most three loads and words
-- together for each word of a plane and each bit of the bytes that were used, and loads besides.
pub record MovesByMmr (words count all left loads : ℕ) (before after : Counts) : Type 0 where
  pub moves :
      after.loads + after.words + 24 * left ≤ before.loads + before.words + (3 * (count * words + 8 * all) + loads)
  pub decisions : after.decisions ≡ before.decisions
  pub run_tests : after.run_tests ≡ before.run_tests

-- a region whose cells can't be read: no step but cleared words, or the mask and some planes
abbrev pub StopsCells : HalftoneHeader → Patterns → Counts → Counts → Type 0
StopsCells h d before after =
    ((words : ℕ) × (after ≡ words_cleared words before)) ⊎ StopsImage (gray_params h d) h.bytes (after_mask h d before) after

-- this many rows of w pixels, taken from planes: one load for each group of eight lanes and for each single pixel
abbrev pub after_lane_rows : ℕ → ℕ → Counts → Counts
after_lane_rows rows w before = record before {
  loads = before.loads + rows * (w / 8 + w % 8);
  groups = before.groups + rows * (w / 8);
  pixels = before.pixels + rows * (w % 8);
}

-- one such row
abbrev pub after_lanes : ℕ → Counts → Counts
after_lanes w before = record before {
  loads = before.loads + (w / 8 + w % 8);
  groups = before.groups + w / 8;
  pixels = before.pixels + w % 8;
}
