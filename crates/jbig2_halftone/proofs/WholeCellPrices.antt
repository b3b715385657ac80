-- What counting the whole rows of a grid of cells takes is within the price of a region.
use Rattle.std.specs.Prelude.{is_some}
use Rattle.std.proofs.Common.{◌≡◌, inl, ◌∙◌, ℕ, ◌+◌, ◌*◌, ◌≤◌, true, false, List, length, Option, Some, None, refl, sym, ap, subst, arith}
use Rattle.std.proofs.Math.Nat.{mul-le-mul_left, mul-le-mul_right}
use Rattle.jbig2_steps.specs.Work.{CountsBeside, CountsWithin, paid_words, price_of_bitmap, sum_of_counts, words_of_row}
use Rattle.jbig2_steps.proofs.WorkLemmas.{room-paid}
use Rattle.jbig2_base.specs.Counts.{Counts, KeepsLanes, WritesWithin, bitmap_made, words_cleared, words_made, words_of}
use Rattle.jbig2_base.specs.Grid.{Grid, blank}
use Rattle.jbig2_base.proofs.MadeLemmas.{made-counted, made-paid, words-same}
use Rattle.jbig2_base.proofs.Prices.{price-same}
use Rattle.jbig2_mmr.specs.Steps.{MovesWithin}
use Rattle.jbig2_region.specs.Raster.{Region}
use Rattle.jbig2_region.specs.Steps.{kept_pixels, skipping_loads, skipping_words}
use Rattle.jbig2_region.proofs.GenericPrices.{region-paid}
use Rattle.jbig2_region.proofs.Prices.{how_many-most, row-some, row-wide}
use Rattle.jbig2_halftone.specs.GrayScale.{GrayScale}
use Rattle.jbig2_halftone.specs.Halftone.{gray_params}
use Rattle.jbig2_halftone.specs.HalftoneHeader.{HalftoneHeader}
use Rattle.jbig2_halftone.specs.Patterns.{Patterns}
use Rattle.jbig2_halftone.specs.Steps.{CountsImage, TakesLanes, after_mask, cleared_by_cells, cleared_by_mask, cleared_by_planes, price_of_halftone, price_of_image, taking_loads, words_of_cells, words_of_plane}
use Rattle.jbig2_halftone.specs.inner.FunctionResults.{CountsOne, MovesByMmr, StopsCells, plain_coding, plane_pixels}
use Rattle.jbig2_halftone.proofs.DrawSteps.{cells-stop, region-stops, rows-within}
use Rattle.jbig2_halftone.proofs.GrayCounts.{cleared-most, mmr-read, mmr-refused, mmr-some, mmr-then, moves-before, moves-made, taken-kept, taken-made}
use Rattle.jbig2_halftone.proofs.Prices.{cells-paid, halftone-stops-paid, image-stops-paid, mask-cleared, mask-counted, masked-row}

-- ---- planes by the coder
one-paid : (p : GrayScale) (w h : ℕ) (bytes : List ℕ) (start : Region) (old new : Counts) → CountsOne p w h bytes start old new → CountsBeside (paid_words w h) (price_of_bitmap w h) old new
unfolding kept_pixels
one-paid p w h bytes start old new counts = by p.skip_mask refl
  where
    masked-few : (m kept words loads : ℕ) → kept ≤ w * h → w + words + loads ≤ 90 * m → kept + h * words + h * loads ≤ 2047 * (m * h)
    masked-few m kept words loads less row =
        let rows : h * (w + words + loads) ≤ h * (90 * m) = mul-le-mul_left h row in
        omega (arith, less, rows)

    kept-few : (mask : Option Grid) → kept_pixels mask w h ≤ w * h
    kept-few mask = how_many-most _ (w * h)

    by : (mask : Option Grid) → p.skip_mask ≡ mask → CountsBeside (paid_words w h) (price_of_bitmap w h) old new
    by None none = region-paid (plane_pixels p) true 0 (plain_coding p) w h bytes start old new (omega arith) (counts.plain none)
    by (Some mask) is =
        let one = counts.masked (ap is_some is) in
        let paid = room-paid w h _ (masked-few (words_of_row w) (kept_pixels p.skip_mask w h) (skipping_words w) (skipping_loads w) (kept-few p.skip_mask) (masked-row w (words_of_row w) (row-wide w) (row-some w))) in
        omega (arith, paid, one.decisions, one.run_tests, one.words, one.loads, one.lanes.groups, one.lanes.pixels, one.lanes.cleared)

white-price : (p : GrayScale) (plane : Grid) → plane ≡ blank p.width p.height false → price_of_bitmap plane.width plane.height ≡ price_of_bitmap p.width p.height
white-price p plane white = price-same plane.width p.width plane.height p.height (ap (λ (g : Grid). g.width) white) (ap (λ (g : Grid). g.height) white)

white-words : (p : GrayScale) (plane : Grid) → plane ≡ blank p.width p.height false → paid_words plane.width plane.height ≡ paid_words p.width p.height
white-words p plane white = words-same plane.width p.width plane.height p.height (ap (λ (g : Grid). g.width) white) (ap (λ (g : Grid). g.height) white)

-- no more planes than there are
pub planes-within : (price i count : ℕ) (old new : Counts) → i ≤ count → CountsWithin (i * price) old new → CountsWithin (price * count) old new
planes-within price i count old new few within = omega (arith, within, mul-le-mul_right {m = i} {n = count} price few)

-- a plane more, which is made and then read
pub plane-paid : (p : GrayScale) (i : ℕ) (plane : Grid) (bytes : List ℕ) (start : Region) (old mid made new : Counts) → plane ≡ blank p.width p.height false → CountsWithin (i * price_of_bitmap p.width p.height) old mid → made ≡ bitmap_made p.width p.height mid → CountsOne p plane.width plane.height bytes start made new → CountsWithin ((i + 1) * price_of_bitmap p.width p.height) old new
plane-paid p i plane bytes start old mid made new white before is counts = omega (arith, before, made-counted p.width p.height mid made is, one-paid p plane.width plane.height bytes start made new counts, white-price p plane white, white-words p plane white)

-- one that is made and not read
pub plane-made-paid : (w h i count : ℕ) (old mid made : Counts) → i + 1 ≤ count → CountsWithin (i * price_of_bitmap w h) old mid → made ≡ bitmap_made w h mid → CountsWithin (price_of_bitmap w h * count) old made
plane-made-paid w h i count old mid made few before is =
    let more : CountsWithin ((i + 1) * price_of_bitmap w h) old made = omega (arith, before, made-paid w h mid made is) in
    planes-within (price_of_bitmap w h) (i + 1) count old made few more

-- the last plane
pub last-paid : (p : GrayScale) (i : ℕ) (plane : Grid) (old mid made new : Counts) → plane ≡ blank p.width p.height false → i + 1 ≤ p.bits_per_pixel → CountsWithin (i * price_of_bitmap p.width p.height) old mid → made ≡ bitmap_made p.width p.height mid
    → sum_of_counts new + paid_words plane.width plane.height ≤ sum_of_counts made + 32 * price_of_bitmap plane.width plane.height → CountsWithin (price_of_bitmap p.width p.height * p.bits_per_pixel) old new
last-paid p i plane old mid made new white few before is one =
    planes-within (price_of_bitmap p.width p.height) (i + 1) p.bits_per_pixel old new few (omega (arith, before, made-counted p.width p.height mid made is, one, white-price p plane white, white-words p plane white))

-- ---- planes by MMR
pub mmr-paid : (p : GrayScale) (bytes : List ℕ) (i left : ℕ) (old new : Counts) → p.use_mmr ≡ true → i ≤ p.bits_per_pixel → MovesByMmr (words_of_plane p) i (length bytes) left 0 old new → TakesLanes p 0 old new → new.cleared ≤ old.cleared + cleared_by_planes p → CountsWithin (price_of_image p bytes) old new
mmr-paid p bytes i left old new is few moves lanes most =
    let none : 0 ≡ 0 * taking_loads p = omega arith in
    let taken = subst (λ (n : ℕ). MovesByMmr (words_of_plane p) i (length bytes) left n old new) none moves in
    image-stops-paid p bytes old new (p.bits_per_pixel, (omega arith, (0, (omega arith, mmr-read p bytes 0 old new is (mmr-some p bytes i left 0 old new few taken lanes))))) most

-- one that is refused
pub mmr-fault-paid : (p : GrayScale) (bytes : List ℕ) (i left : ℕ) (old mid new : Counts) → p.use_mmr ≡ true → i + 1 ≤ p.bits_per_pixel → MovesByMmr (words_of_plane p) i (length bytes) left 0 old mid → TakesLanes p 0 old mid → MovesByMmr (words_of_plane p) 1 left 0 0 mid new → new.groups ≡ mid.groups → new.pixels ≡ mid.pixels → new.cleared ≤ old.cleared + cleared_by_planes p → CountsWithin (price_of_image p bytes) old new
mmr-fault-paid p bytes i left old mid new is few moves lanes one groups pixels most =
    mmr-paid p bytes (i + 1) 0 old new is few (mmr-then (words_of_plane p) i (length bytes) left 0 0 old mid new moves one) (taken-kept p 0 old mid new lanes groups pixels) most

-- the last plane
pub mmr-last-paid : (p : GrayScale) (bytes : List ℕ) (i left : ℕ) (plane : Grid) (old mid made new : Counts) → plane ≡ blank p.width p.height false → p.use_mmr ≡ true → i + 1 ≤ p.bits_per_pixel → MovesByMmr (words_of_plane p) i (length bytes) left 0 old mid → TakesLanes p 0 old mid
    → mid.cleared ≡ old.cleared + i * words_made p.width p.height → made ≡ bitmap_made p.width p.height mid → MovesWithin (3 * (words_of plane + 8 * left)) made new → KeepsLanes made new → CountsWithin (price_of_image p bytes) old new
mmr-last-paid p bytes i left plane old mid made new white is few moves lanes before made_is one stays =
    let refused = moves-before (words_made p.width p.height) (words_of_plane p) 1 left 0 0 mid made new made_is (mmr-refused p plane left made new white one) in
    let more : new.cleared ≡ mid.cleared + words_made p.width p.height = stays.cleared ∙ ap (λ (c : Counts). c.cleared) made_is in
    mmr-fault-paid p bytes i left old mid new is few moves lanes refused (stays.groups ∙ ap (λ (c : Counts). c.groups) made_is) (stays.pixels ∙ ap (λ (c : Counts). c.pixels) made_is) (cleared-most i p.bits_per_pixel (words_made p.width p.height) old.cleared mid.cleared new.cleared few before more)

-- one that is made and not read
pub mmr-made-paid : (p : GrayScale) (bytes : List ℕ) (i left : ℕ) (old mid made : Counts) → p.use_mmr ≡ true → i + 1 ≤ p.bits_per_pixel → MovesByMmr (words_of_plane p) i (length bytes) left 0 old mid → TakesLanes p 0 old mid
    → mid.cleared ≡ old.cleared + i * words_made p.width p.height → made ≡ bitmap_made p.width p.height mid → CountsWithin (price_of_image p bytes) old made
mmr-made-paid p bytes i left old mid made is few moves lanes before made_is =
    let more : made.cleared ≡ mid.cleared + words_made p.width p.height = ap (λ (c : Counts). c.cleared) made_is in
    mmr-paid p bytes i left old made is (omega arith) (moves-made (words_made p.width p.height) (words_of_plane p) i (length bytes) left 0 old mid made made_is moves) (taken-made (words_made p.width p.height) p 0 old mid made made_is lanes) (cleared-most i p.bits_per_pixel (words_made p.width p.height) old.cleared mid.cleared made.cleared few before more)

-- ---- regions
-- the mask, and the planes
pub counted-paid : (h : HalftoneHeader) (d : Patterns) (old mid new : Counts) → mid ≡ after_mask h d old → CountsWithin (price_of_image (gray_params h d) h.bytes) mid new → CountsWithin (price_of_halftone h d) old new
counted-paid h d old mid new masked counted =
    let both : sum_of_counts (after_mask h d old) ≤ sum_of_counts old + 2 * (h.grid_position_and_size.height * h.grid_position_and_size.width) = omega (arith, mask-counted h d old, mask-cleared h d) in
    let mask = subst (λ (c : Counts). sum_of_counts c ≤ sum_of_counts old + 2 * (h.grid_position_and_size.height * h.grid_position_and_size.width)) (sym masked) both in
    let cells = cells-paid d.width d.height (h.grid_position_and_size.height * h.grid_position_and_size.width) 0 (omega arith) in
    together (price_of_bitmap h.grid_position_and_size.width h.grid_position_and_size.height * (gray_params h d).bits_per_pixel) (price_of_bitmap d.width d.height) h.grid_position_and_size.width h.grid_position_and_size.height (length h.bytes) (sum_of_counts old) (sum_of_counts mid) (sum_of_counts new) mask counted cells
  where
    together : (planes pattern w h bytes old mask new : ℕ) → mask ≤ old + 2 * (h * w) → new ≤ mask + 32 * (planes + bytes) → 3 * 0 + 2 * (h * w) ≤ 32 * (pattern * (h * w)) → new ≤ old + 32 * (planes + pattern * (w * h) + bytes)
    together planes pattern w h bytes old mask new a b c = omega arith

pub nothing-paid : (units : ℕ) (old : Counts) → CountsWithin units old old
nothing-paid units old = omega arith

-- one price after the other: the rows are counted, and then the region is drawn
paid-twice : (price : ℕ) (old mid new : Counts) → CountsWithin price old mid → CountsWithin price mid new → CountsWithin (2 * price) old new
paid-twice price old mid new one two = omega (arith, one, two)

pub unread-paid : (h : HalftoneHeader) (d : Patterns) (old mid new : Counts) → CountsWithin (price_of_halftone h d) old mid → StopsCells h d mid new → new.cleared ≤ mid.cleared + cleared_by_cells h d → CountsWithin (2 * price_of_halftone h d) old new
unread-paid h d old mid new counted stops most = paid-twice (price_of_halftone h d) old mid new counted (halftone-stops-paid h d mid new (cells-stop h d mid new stops) most)

-- a mask that is made, and no memory for it
pub mask-paid : (h : HalftoneHeader) (d : Patterns) (old new : Counts) → new ≡ words_cleared (cleared_by_mask h d) old → CountsWithin (price_of_halftone h d) old new
mask-paid h d old new cleared = halftone-stops-paid h d old new (inl (cleared_by_mask h d, cleared)) (let more : new.cleared ≡ old.cleared + cleared_by_mask h d = ap (λ (c : Counts). c.cleared) cleared in omega arith)

pub part-paid : (h : HalftoneHeader) (d : Patterns) (rows : ℕ) (old mid image new : Counts) → rows ≤ h.grid_position_and_size.height → CountsWithin (price_of_halftone h d) old mid → CountsImage (gray_params h d) h.bytes (after_mask h d mid) image
    → image.cleared ≤ mid.cleared + cleared_by_cells h d → WritesWithin (words_of_cells h d 0 (rows * h.grid_position_and_size.width)) image new → CountsWithin (2 * price_of_halftone h d) old new
part-paid h d rows old mid image new few counted reads most draws =
    let all = rows-within h d rows h.grid_position_and_size.height h.grid_position_and_size.width image new few draws in
    paid-twice (price_of_halftone h d) old mid new counted (halftone-stops-paid h d mid new (region-stops h d mid image new reads all) (omega (arith, most, draws.cleared)))
