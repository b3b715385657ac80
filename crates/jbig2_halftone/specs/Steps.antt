-- What the step bounds of gray-scale images, halftone regions and pattern dictionaries count (our own rule): planes
-- that are read, values that are taken from them in lanes of eight pixels, patterns that are drawn, and patterns that
-- are cut out. Each `Counts..` takes an image, a region or a dictionary, and the counts before and after it. `Stops..`
-- is the same for one that is refused: until then it did no more than a part of what `Counts..` counts. The cleared words
-- are not among them, since a bitmap is made before it is read: `cleared_by_planes` and `cleared_by_cells` have those.
use Rattle.std.specs.Prelude.{ℕ, zero, suc, ◌≡◌, ◌≤◌, ◌+◌, ◌*◌, ◌/◌, ◌%◌, true, false, if◌then◌else◌, List, length}
use Rattle.std.specs.Prelude.{None, is_some, ◌⊎◌}
use Rattle.jbig2_steps.specs.Work.{price_of_bitmap}
use Rattle.jbig2_base.specs.Counts.{WritesWithin, bitmap_made, overlap, most_words, words_cleared, words_copied, words_made, Counts}
use Rattle.jbig2_mmr.specs.Steps.{MovesWithin}
use Rattle.jbig2_region.specs.Generic.{coding_of}
use Rattle.jbig2_region.specs.GenericSteps.{CountsGeneric}
use Rattle.jbig2_region.specs.Raster.{no_pixels}
use Rattle.jbig2_region.specs.Steps.{coded_runs, region_made, row_loads, row_tests, row_words, kept_pixels, skipping_loads}
use Rattle.jbig2_region.specs.Steps.{skipping_words}
use Rattle.jbig2_region.specs.Templates.{template_pixels, nominal_adaptive_pixels}
use Rattle.jbig2_halftone.specs.GrayScale.{GrayScale, after_planes}
use Rattle.jbig2_halftone.specs.Halftone.{column_of, gray_params, row_of, skip_mask}
use Rattle.jbig2_halftone.specs.HalftoneHeader.{HalftoneHeader}
use Rattle.jbig2_halftone.specs.PatternHeader.{PatternHeader}
use Rattle.jbig2_halftone.specs.Patterns.{Patterns, collective_header}

module _ (p : GrayScale) where
  -- the number of run bytes of the highest planes, where no pixel is skipped
  unfoldable pub plane_runs : List ℕ → ℕ → ℕ
  plane_runs bytes zero = 0
  plane_runs bytes (suc count) =
      let pixels = template_pixels false p.template (nominal_adaptive_pixels p.template) in
      let before = after_planes p bytes count in
      plane_runs bytes count
      + coded_runs pixels true (coding_of false p.template pixels) p.width p.height bytes
      (no_pixels before.registers before.contexts)

  abbrev pub words_of_plane : ℕ  -- the number of words of 64 pixels in a plane
  words_of_plane = (p.width + 63) / 64 * p.height

  abbrev pub cleared_by_planes : ℕ  -- the cleared words of all planes: each is a bitmap of its own
  cleared_by_planes = p.bits_per_pixel * words_made p.width p.height

  -- the loads of a plane that is taken into the values: one for each whole eight pixels of a row, and for each other one
  abbrev pub taking_loads : ℕ
  taking_loads = p.height * (p.width / 8 + p.width % 8)

  -- The highest planes are read, and some of them taken, which makes `taking` loads. No pixel is skipped: a decision for
  -- each pixel, but eight fewer for each run byte. Empty planes take no step.
  pub record CountsPlanes (bytes : List ℕ) (count taking : ℕ) (before after : Counts) : Type 0 where
    pub empty : p.width * p.height ≡ 0 → after ≡ before
    pub decisions : 1 ≤ p.width →
        after.decisions + 8 * plane_runs bytes count ≡ before.decisions + count * (p.width * p.height)
    pub run_tests : after.run_tests ≤ before.run_tests + count * (p.height * row_tests true p.width)
    pub words : after.words ≤ before.words + count * (p.height * row_words true p.width)
    pub loads : after.loads ≤ before.loads + (count * (p.height * row_loads true p.width) + taking)

  -- the same, with skipped pixels: a decision for each pixel that is not skipped, and no run test
  pub record CountsMasked (count taking : ℕ) (before after : Counts) : Type 0 where
    pub decisions : after.decisions ≡ before.decisions + count * kept_pixels p.skip_mask p.width p.height
    pub run_tests : after.run_tests ≡ before.run_tests
    pub words : after.words ≤ before.words + count * (p.height * skipping_words p.width)
    pub loads : after.loads ≤ before.loads + (count * (p.height * skipping_loads p.width) + taking)

  -- From each row of each plane that is taken: one group for each whole eight pixels, and the other pixels one by one.
  pub record TakesLanes (taken : ℕ) (before after : Counts) : Type 0 where
    pub groups : after.groups ≡ before.groups + p.height * taken * (p.width / 8)
    pub pixels : after.pixels ≡ before.pixels + p.height * taken * (p.width % 8)

  -- `count` of the highest planes are read, and `taken` of them are taken into the values. MMR data makes at most three
  -- loads and words together for each word of a plane and each bit of the bytes. No plane uses bytes that a plane before
  -- it has used.
  pub record CountsRead (bytes : List ℕ) (count taken : ℕ) (before after : Counts) : Type 0 where
    pub plain : p.use_mmr ≡ false → p.skip_mask ≡ None →
        CountsPlanes bytes count (taken * taking_loads) before after
    pub masked : p.use_mmr ≡ false → is_some p.skip_mask ≡ true →
        CountsMasked count (taken * taking_loads) before after
    pub mmr : p.use_mmr ≡ true →
        MovesWithin (3 * (count * words_of_plane + 8 * length bytes) + taken * taking_loads) before after
    pub lanes : TakesLanes taken before after

  -- an image: all planes are read and taken
  abbrev pub CountsImage : List ℕ → Counts → Counts → Type 0
  CountsImage bytes before after = CountsRead bytes p.bits_per_pixel p.bits_per_pixel before after

  -- an image that is refused: some of the highest planes or all of them were read, and no more of them taken
  abbrev pub StopsImage : List ℕ → Counts → Counts → Type 0
  StopsImage bytes before after =
      (count : ℕ)
      × ((count ≤ p.bits_per_pixel) × ((taken : ℕ) × ((taken ≤ count) × CountsRead bytes count taken before after)))

  -- the groups and single pixels of an image, together at most seven more than its groups for each row of each plane
  pub record CountsLanes (before after : Counts) : Type 0 where
    pub taken : TakesLanes p.bits_per_pixel before after
    pub both :
        after.groups + after.pixels ≤ before.groups + before.pixels + p.height * p.bits_per_pixel * (p.width / 8 + 7)

module _ (h : HalftoneHeader) (d : Patterns) where
  -- The words that drawing cell k may write. For each row inside the region: two words for up to 64 columns inside, and
  -- one more for each further 64 or part of 64. So a cell that lies wholly outside writes none.
  unfoldable pub cell_words : ℕ → ℕ
  cell_words k =
      let columns = h.grid_position_and_size.width in
      overlap h.region_info.height d.height (row_of h (k / columns) (k % columns))
      * most_words (overlap h.region_info.width d.width (column_of h (k / columns) (k % columns)))

  unfoldable pub words_of_cells : ℕ → ℕ → ℕ  -- the same for n cells from cell k on
  words_of_cells k zero = 0
  words_of_cells k (suc n) = words_of_cells k n + cell_words (k + n)

  abbrev pub cleared_by_mask : ℕ  -- the cleared words of the skip mask, where there is one
  cleared_by_mask =
      let grid = h.grid_position_and_size in
      if is_some (skip_mask h d) then words_made grid.width grid.height else 0

  abbrev pub cleared_by_cells : ℕ  -- those of the skip mask and of all planes
  cleared_by_cells = cleared_by_mask + cleared_by_planes (gray_params h d)

  -- a skip mask is made, where there is one, and a word is written for each of its cells
  abbrev pub after_mask : Counts → Counts
  after_mask before =
      let cells = h.grid_position_and_size.height * h.grid_position_and_size.width in
      let words = if is_some (skip_mask h d) then cells else 0 in
      record before { words = before.words + words; cleared = before.cleared + cleared_by_mask }

  -- after the mask, planes are read and taken; then cells are drawn, two loads for each word
  abbrev pub CountsDrawn : ℕ → ℕ → Counts → Counts → Type 0
  CountsDrawn count taken before after =
      let cells = h.grid_position_and_size.height * h.grid_position_and_size.width in
      (image : Counts)
      × (CountsRead (gray_params h d) h.bytes count taken (after_mask before) image
      × WritesWithin (words_of_cells 0 cells) image after)

  -- a region: all planes and all cells
  abbrev pub CountsHalftone : Counts → Counts → Type 0
  CountsHalftone before after =
      CountsDrawn (gray_params h d).bits_per_pixel (gray_params h d).bits_per_pixel before after

  -- a region that is refused: no step but cleared words, or at most all planes and all cells
  abbrev pub StopsHalftone : Counts → Counts → Type 0
  StopsHalftone before after =
      ((words : ℕ) × (after ≡ words_cleared words before))
      ⊎ ((count : ℕ) × ((count ≤ (gray_params h d).bits_per_pixel)
      × ((taken : ℕ) × ((taken ≤ count) × CountsDrawn count taken before after))))

module _ (h : PatternHeader) where
  -- bitmaps for `made` patterns are made, and `count` are cut out of their collective bitmap: a load and a word for each
  -- of their words
  abbrev pub after_patterns : ℕ → ℕ → Counts → Counts
  after_patterns made count before =
      words_copied (count * ((h.pattern_width + 63) / 64 * h.pattern_height))
      (words_cleared (made * words_made h.pattern_width h.pattern_height) before)

  abbrev pub collective_made : Counts → Counts  -- the bitmap of a collective bitmap is made
  collective_made = region_made (collective_header h).region_info

  -- a collective bitmap, a generic region, and patterns that are cut out of it
  abbrev pub CountsCut : ℕ → ℕ → Counts → Counts → Type 0
  CountsCut made count before after =
      (collective : Counts)
      × (CountsGeneric (collective_header h) (collective_made before) collective
      × (after ≡ after_patterns made count collective))

  -- a dictionary: all patterns
  abbrev pub CountsDictionary : Counts → Counts → Type 0
  CountsDictionary before after = CountsCut (h.gray_max + 1) (h.gray_max + 1) before after

  -- a dictionary that is refused: no step, its collective bitmap alone, or at most all patterns
  abbrev pub StopsDictionary : Counts → Counts → Type 0
  StopsDictionary before after =
      (after ≡ before) ⊎ ((after ≡ collective_made before)
      ⊎ ((made : ℕ) × ((made ≤ h.gray_max + 1)
      × ((count : ℕ) × ((count ≤ h.gray_max + 1) × CountsCut made count before after)))))

-- no group of lanes and no single pixel is counted
pub record TakesNoLanes (before after : Counts) : Type 0 where
  pub groups : after.groups ≡ before.groups
  pub pixels : after.pixels ≡ before.pixels

-- ---- prices: the units that pay for what is counted, whatever the result
-- an image: a bitmap of its size for each plane, and a unit for each byte
abbrev pub price_of_image : GrayScale → List ℕ → ℕ
price_of_image p bytes = price_of_bitmap p.width p.height * p.bits_per_pixel + length bytes

-- a region: the planes of its values, a pattern for each cell, and a unit for each byte
abbrev pub price_of_halftone : HalftoneHeader → Patterns → ℕ
price_of_halftone h d =
    let grid = h.grid_position_and_size in
    price_of_bitmap grid.width grid.height * (gray_params h d).bits_per_pixel
    + price_of_bitmap d.width d.height * (grid.width * grid.height)
    + length h.bytes

-- a dictionary: two patterns for each pattern, in the collective bitmap and cut out of it, and a unit for each byte
abbrev pub price_of_patterns : PatternHeader → ℕ
price_of_patterns h = price_of_bitmap h.pattern_width h.pattern_height * (2 * (h.gray_max + 1)) + length h.bytes
