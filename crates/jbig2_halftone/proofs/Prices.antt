-- What is counted for gray-scale images, halftone regions and pattern dictionaries is within their prices.
use Rattle.std.specs.Prelude.{if◌then◌else◌, is_some, ◌||◌, OnErr, OnOk}
use Rattle.std.proofs.Common.{inl, inr, ◌≡◌, ℕ, zero, suc, ◌+◌, ◌*◌, ◌/◌, ◌%◌, ◌≤◌, Bool, true, false, List, length, Option, Some, None, Result, Ok, Err, ltb, refl, ap, subst, ◌∙◌, arith}
use Rattle.std.proofs.Math.Nat.{mul-le-mul_left, mul-le-mul_right}
use Rattle.jbig2_base.specs.Counts.{Counts, most_words, overlap, words_made}
use Rattle.jbig2_base.specs.Grid.{Grid}
use Rattle.jbig2_base.proofs.MadeLemmas.{made-few}
use Rattle.jbig2_base.proofs.Prices.{most_words-few, overlap-within, price-same}
use Rattle.jbig2_steps.specs.Work.{CountsWithin, paid_words, sum_of_counts, price_of_bitmap, words_of_row}
use Rattle.jbig2_region.specs.GenericSteps.{price_of_region}
use Rattle.jbig2_region.specs.Steps.{kept_pixels, row_loads, row_tests, row_words, skipping_loads, skipping_words}
use Rattle.jbig2_region.proofs.Prices.{how_many-most, row-some, row-wide}
use Rattle.jbig2_halftone.specs.GrayScale.{GrayScale}
use Rattle.jbig2_halftone.specs.Halftone.{column_of, gray_params, row_of, skip_mask}
use Rattle.jbig2_halftone.specs.HalftoneHeader.{HalftoneHeader}
use Rattle.jbig2_halftone.specs.PatternHeader.{PatternHeader}
use Rattle.jbig2_halftone.specs.Patterns.{Patterns, collective_header}
use Rattle.jbig2_halftone.specs.Steps.{CountsDrawn, CountsHalftone, CountsImage, CountsMasked, CountsPlanes, CountsRead, StopsHalftone, StopsImage, TakesLanes, after_mask, cell_words, cleared_by_cells, cleared_by_mask, cleared_by_planes, price_of_halftone, price_of_image, price_of_patterns, taking_loads, words_of_cells}
use Rattle.jbig2_halftone.specs.inner.FunctionResults.{StopsCut, patterns_cut}

abbrev pub other_counts : Counts → ℕ  -- all counts but the cleared words
other_counts c = c.loads + c.words + c.decisions + c.run_tests + c.groups + c.pixels

-- ---- planes, each of h rows of m words
-- what a row counts, of which no pixel is skipped
plain-row : (w m : ℕ) → w ≤ 64 * m → 1 ≤ m → w + row_tests true w + row_words true w + row_loads true w ≤ 90 * m
plain-row w m wide some = omega arith

pub masked-row : (w m : ℕ) → w ≤ 64 * m → 1 ≤ m → w + skipping_words w + skipping_loads w ≤ 90 * m
masked-row w m wide some = omega arith

-- the rows of all planes
all-rows : (count h a b : ℕ) → a ≤ b → count * (h * a) ≤ count * (h * b)
all-rows count h a b less = mul-le-mul_left count (mul-le-mul_left h less)

plain-few : (count w h m tests words loads : ℕ) → w + tests + words + loads ≤ 90 * m → count * (w * h) + count * (h * tests) + count * (h * words) + count * (h * loads) ≤ 90 * (count * (m * h))
plain-few count w h m tests words loads few = omega (arith, all-rows count h (w + tests + words + loads) (90 * m) few)

masked-few : (count w h m words loads : ℕ) → w + words + loads ≤ 90 * m → count * (w * h) + count * (h * words) + count * (h * loads) ≤ 90 * (count * (m * h))
masked-few count w h m words loads few = omega (arith, all-rows count h (w + words + loads) (90 * m) few)

-- planes that are taken by lanes
lanes-row : (w m : ℕ) → w ≤ 64 * m → 1 ≤ m → w / 8 + w % 8 + w / 8 + w % 8 ≤ 30 * m
lanes-row w m wide some = omega arith

lanes-few : (taken h w m : ℕ) → w / 8 + w % 8 + w / 8 + w % 8 ≤ 30 * m → taken * (h * (w / 8 + w % 8)) + h * taken * (w / 8) + h * taken * (w % 8) ≤ 30 * (taken * (m * h))
lanes-few taken h w m few =
    let all : h * taken * (w / 8 + w % 8 + w / 8 + w % 8) ≤ h * taken * (30 * m) = mul-le-mul_left (h * taken) few in
    omega (arith, all)

lanes-counted : (p : GrayScale) (taken : ℕ) → taken * taking_loads p + p.height * taken * (p.width / 8) + p.height * taken * (p.width % 8) ≤ 30 * (taken * (words_of_row p.width * p.height))
lanes-counted p taken = lanes-few taken p.height p.width (words_of_row p.width) (lanes-row p.width (words_of_row p.width) (row-wide p.width) (row-some p.width))

plain-counted : (p : GrayScale) (bytes : List ℕ) (count taken w : ℕ) (before after : Counts) → w ≡ p.width → CountsPlanes p bytes count (taken * taking_loads p) before after → TakesLanes p taken before after
    → other_counts after ≤ other_counts before + (90 * (count * (words_of_row p.width * p.height)) + 30 * (taken * (words_of_row p.width * p.height)))
plain-counted p bytes count taken zero before after is counts lanes =
    let none : p.width * p.height ≡ 0 = rw (← is) (omega arith) in
    let kept : other_counts after ≡ other_counts before = ap (λ (c : Counts). other_counts c) (counts.empty none) in
    omega (arith, kept)
plain-counted p bytes count taken (suc k) before after is counts lanes =
    let some : 1 ≤ p.width = omega arith in
    let few = plain-few count p.width p.height (words_of_row p.width) (row_tests true p.width) (row_words true p.width) (row_loads true p.width) (plain-row p.width (words_of_row p.width) (row-wide p.width) (row-some p.width)) in
    omega (arith, few, lanes-counted p taken, counts.decisions some, counts.run_tests, counts.words, counts.loads, lanes.groups, lanes.pixels)

masked-counted : (p : GrayScale) (count taken : ℕ) (before after : Counts) → CountsMasked p count (taken * taking_loads p) before after → TakesLanes p taken before after
    → other_counts after ≤ other_counts before + (90 * (count * (words_of_row p.width * p.height)) + 30 * (taken * (words_of_row p.width * p.height)))
unfolding kept_pixels
masked-counted p count taken before after counts lanes =
    let kept : count * kept_pixels p.skip_mask p.width p.height ≤ count * (p.width * p.height) = mul-le-mul_left count (how_many-most _ (p.width * p.height)) in
    let few = masked-few count p.width p.height (words_of_row p.width) (skipping_words p.width) (skipping_loads p.width) (masked-row p.width (words_of_row p.width) (row-wide p.width) (row-some p.width)) in
    omega (arith, kept, few, lanes-counted p taken, counts.decisions, counts.run_tests, counts.words, counts.loads, lanes.groups, lanes.pixels)

mmr-few : (count w h : ℕ) → count * ((w + 63) / 64 * h) ≤ count * (words_of_row w * h)
mmr-few count w h = mul-le-mul_left count (mul-le-mul_right h (omega arith))

-- planes that are read, and taken
read-counted : (p : GrayScale) (bytes : List ℕ) (count taken : ℕ) (before after : Counts) → CountsRead p bytes count taken before after
    → other_counts after ≤ other_counts before + (90 * (count * (words_of_row p.width * p.height)) + 30 * (taken * (words_of_row p.width * p.height)) + 24 * length bytes)
read-counted p bytes count taken before after read = by_mmr p.use_mmr refl
  where
    by_mask : (m : Option Grid) → p.use_mmr ≡ false → p.skip_mask ≡ m
        → other_counts after ≤ other_counts before + (90 * (count * (words_of_row p.width * p.height)) + 30 * (taken * (words_of_row p.width * p.height)) + 24 * length bytes)
    by_mask None coded is = omega (arith, plain-counted p bytes count taken p.width before after refl (read.plain coded is) read.lanes)
    by_mask (Some mask) coded is = omega (arith, masked-counted p count taken before after (read.masked coded (ap is_some is)) read.lanes)

    by_mmr : (b : Bool) → p.use_mmr ≡ b
        → other_counts after ≤ other_counts before + (90 * (count * (words_of_row p.width * p.height)) + 30 * (taken * (words_of_row p.width * p.height)) + 24 * length bytes)
    by_mmr true is =
        let moves = read.mmr is in
        omega (arith, mmr-few count p.width p.height, lanes-counted p taken, moves.moves, moves.decisions, moves.run_tests, read.lanes.groups, read.lanes.pixels)
    by_mmr false coded = by_mask p.skip_mask coded refl

-- ---- images
fewer : (count bits n : ℕ) → count ≤ bits → count * n ≤ bits * n
fewer count bits n few = mul-le-mul_right n few

-- each plane is made, too
made-all : (w h bits : ℕ) → bits * words_made w h ≤ bits * paid_words w h
made-all w h bits = mul-le-mul_left bits (made-few w h)

room-all : (w h bits n : ℕ) → n ≤ 2047 * (bits * (words_of_row w * h)) → n + bits * paid_words w h ≤ 32 * (price_of_bitmap w h * bits)
unfolding paid_words price_of_bitmap
room-all w h bits n few = within (words_of_row w) few
  where
    within : (m : ℕ) → n ≤ 2047 * (bits * (m * h)) → n + bits * (m * h) ≤ 32 * ((64 * m * h + 64) * bits)
    within m few = omega arith

planes-paid : (w h bits n : ℕ) → n ≤ 2047 * (bits * (words_of_row w * h)) → n + bits * words_made w h ≤ 32 * (price_of_bitmap w h * bits)
planes-paid w h bits n few = omega (arith, room-all w h bits n few, made-all w h bits)

image-counted : (p : GrayScale) (bytes : List ℕ) (count taken : ℕ) (before after : Counts) → count ≤ p.bits_per_pixel → taken ≤ count → CountsRead p bytes count taken before after → other_counts after + cleared_by_planes p ≤ other_counts before + (32 * (price_of_bitmap p.width p.height * p.bits_per_pixel) + 24 * length bytes)
image-counted p bytes count taken before after few less read =
    let plane : ℕ = words_of_row p.width * p.height in
    let all : ℕ = p.bits_per_pixel * plane in
    let a : count * plane ≤ all = fewer count p.bits_per_pixel plane few in
    let b : taken * plane ≤ all = fewer taken p.bits_per_pixel plane (omega arith) in
    let paid : 120 * all + cleared_by_planes p ≤ 32 * (price_of_bitmap p.width p.height * p.bits_per_pixel) = planes-paid p.width p.height p.bits_per_pixel (120 * all) (omega arith) in
    omega (arith, read-counted p bytes count taken before after read, a, b, paid)

pub image-paid : (p : GrayScale) (bytes : List ℕ) (old new : Counts) → CountsImage p bytes old new → new.cleared ≤ old.cleared + cleared_by_planes p → CountsWithin (price_of_image p bytes) old new
image-paid p bytes old new counts most =
    let all = image-counted p bytes p.bits_per_pixel p.bits_per_pixel old new (omega arith) (omega arith) counts in
    omega (arith, all)

pub image-stops-paid : (p : GrayScale) (bytes : List ℕ) (old new : Counts) → StopsImage p bytes old new → new.cleared ≤ old.cleared + cleared_by_planes p → CountsWithin (price_of_image p bytes) old new
image-stops-paid p bytes old new (count, (few, (taken, (less, read)))) most =
    let all = image-counted p bytes count taken old new few less read in
    omega (arith, all)

-- ---- cells
cell-few : (h : HalftoneHeader) (d : Patterns) (k : ℕ) → cell_words h d k ≤ d.height * (3 * words_of_row d.width)
unfolding cell_words
cell-few h d k =
    let columns : ℕ = h.grid_position_and_size.width in
    within (overlap h.region_info.height d.height (row_of h (k / columns) (k % columns))) (most_words (overlap h.region_info.width d.width (column_of h (k / columns) (k % columns))))
    (overlap-within h.region_info.height d.height (row_of h (k / columns) (k % columns)))
    (most_words-few (overlap h.region_info.width d.width (column_of h (k / columns) (k % columns))) d.width (overlap-within h.region_info.width d.width (column_of h (k / columns) (k % columns))))
  where
    within : (rows words : ℕ) → rows ≤ d.height → words ≤ 3 * words_of_row d.width → rows * words ≤ d.height * (3 * words_of_row d.width)
    within rows words high wide =
        let a : rows * words ≤ d.height * words = mul-le-mul_right words high in
        let b : d.height * words ≤ d.height * (3 * words_of_row d.width) = mul-le-mul_left d.height wide in
        omega (arith, a, b)

cells-few : (h : HalftoneHeader) (d : Patterns) (k n : ℕ) → words_of_cells h d k n ≤ n * (d.height * (3 * words_of_row d.width))
unfolding words_of_cells
cells-few h d k zero = omega arith
cells-few h d k (suc n) =
    let before = cells-few h d k n in
    let here = cell-few h d (k + n) in
    sum n (d.height * (3 * words_of_row d.width)) (words_of_cells h d k n) (cell_words h d (k + n)) before here
  where
    sum : (n most words one : ℕ) → words ≤ n * most → one ≤ most → words + one ≤ suc n * most
    sum n most words one before here =
        let all : suc n ≡ n + 1 = omega arith in
        rw all (omega arith)

-- the cells of a grid, and two words of the skip mask for each
pub cells-paid : (w h cells words : ℕ) → words ≤ cells * (h * (3 * words_of_row w)) → 3 * words + 2 * cells ≤ 32 * (price_of_bitmap w h * cells)
unfolding price_of_bitmap
cells-paid w h cells words few = within (words_of_row w) few
  where
    within : (m : ℕ) → words ≤ cells * (h * (3 * m)) → 3 * words + 2 * cells ≤ 32 * ((64 * m * h + 64) * cells)
    within m few = omega arith

mask-few : (b : Bool) (cells : ℕ) → (if b then cells else 0) ≤ cells
mask-few true cells = omega arith
mask-few false cells = omega arith

pub mask-counted : (h : HalftoneHeader) (d : Patterns) (old : Counts) → other_counts (after_mask h d old) ≤ other_counts old + h.grid_position_and_size.height * h.grid_position_and_size.width
mask-counted h d old =
    let few = mask-few (is_some (skip_mask h d)) (h.grid_position_and_size.height * h.grid_position_and_size.width) in
    omega (arith, few)

-- the cleared words of a mask are no more than its cells
either-mask : (b : Bool) (words cells : ℕ) → words ≤ cells → (if b then words else 0) ≤ cells
either-mask true words cells few = few
either-mask false words cells few = omega arith

grid-few : (w h : ℕ) → words_made w h ≤ h * w
unfolding words_made
grid-few w h = either (ltb 65535 w || ltb 65535 h)
  where
    across : (w + 63) / 64 * h ≤ w * h
    across = mul-le-mul_right h (omega arith)

    either : (b : Bool) → (if b then 0 else (w + 63) / 64 * h) ≤ h * w
    either true = omega arith
    either false = omega (arith, across)

pub mask-cleared : (h : HalftoneHeader) (d : Patterns) → cleared_by_mask h d ≤ h.grid_position_and_size.height * h.grid_position_and_size.width
mask-cleared h d = either-mask (is_some (skip_mask h d)) _ _ (grid-few h.grid_position_and_size.width h.grid_position_and_size.height)

-- ---- regions
drawn-paid : (h : HalftoneHeader) (d : Patterns) (count taken : ℕ) (old new : Counts) → count ≤ (gray_params h d).bits_per_pixel → taken ≤ count → CountsDrawn h d count taken old new → new.cleared ≤ old.cleared + cleared_by_cells h d → CountsWithin (price_of_halftone h d) old new
drawn-paid h d count taken old new few less (image, (read, drawn)) most =
    let cells : ℕ = h.grid_position_and_size.height * h.grid_position_and_size.width in
    let words : ℕ = words_of_cells h d 0 cells in
    let mask = mask-counted h d old in
    let values = image-counted (gray_params h d) h.bytes count taken (after_mask h d old) image few less read in
    let draws : other_counts new ≤ other_counts image + 3 * words = omega (arith, drawn.words, drawn.loads, drawn.decisions, drawn.run_tests, drawn.groups, drawn.pixels) in
    let paid : 3 * words + 2 * cells ≤ 32 * (price_of_bitmap d.width d.height * cells) = cells-paid d.width d.height cells words (cells-few h d 0 cells) in
    together (price_of_bitmap h.grid_position_and_size.width h.grid_position_and_size.height * (gray_params h d).bits_per_pixel) (price_of_bitmap d.width d.height) h.grid_position_and_size.width h.grid_position_and_size.height (length h.bytes) words (other_counts old) (other_counts (after_mask h d old)) (other_counts image) (other_counts new) old.cleared new.cleared (cleared_by_mask h d) (cleared_by_planes (gray_params h d)) mask values draws paid most (mask-cleared h d)
  where
    together : (planes pattern w h bytes words old mask image new before after first rest : ℕ) → mask ≤ old + h * w → image + rest ≤ mask + (32 * planes + 24 * bytes) → new ≤ image + 3 * words → 3 * words + 2 * (h * w) ≤ 32 * (pattern * (h * w)) → after ≤ before + (first + rest) → first ≤ h * w → new + after ≤ old + before + 32 * (planes + pattern * (w * h) + bytes)
    together planes pattern w h bytes words old mask image new before after first rest a b c d e f = omega arith

pub halftone-stops-paid : (h : HalftoneHeader) (d : Patterns) (old new : Counts) → StopsHalftone h d old new → new.cleared ≤ old.cleared + cleared_by_cells h d → CountsWithin (price_of_halftone h d) old new
halftone-stops-paid h d old new (inl (words, cleared)) most =
    let kept : other_counts new ≡ other_counts old = ap (λ (c : Counts). other_counts c) cleared in
    let cells : ℕ = h.grid_position_and_size.height * h.grid_position_and_size.width in
    let paid = cells-paid d.width d.height cells 0 (omega arith) in
    let planes = planes-paid h.grid_position_and_size.width h.grid_position_and_size.height (gray_params h d).bits_per_pixel 0 (omega arith) in
    together (price_of_bitmap h.grid_position_and_size.width h.grid_position_and_size.height * (gray_params h d).bits_per_pixel) (price_of_bitmap d.width d.height) h.grid_position_and_size.width h.grid_position_and_size.height (length h.bytes) (other_counts old) (other_counts new) old.cleared new.cleared (cleared_by_mask h d) (cleared_by_planes (gray_params h d)) kept planes paid most (mask-cleared h d)
  where
    together : (planes pattern w h bytes old new before after first rest : ℕ) → new ≡ old → 0 + rest ≤ 32 * planes → 3 * 0 + 2 * (h * w) ≤ 32 * (pattern * (h * w)) → after ≤ before + (first + rest) → first ≤ h * w → new + after ≤ old + before + 32 * (planes + pattern * (w * h) + bytes)
    together planes pattern w h bytes old new before after first rest a b c d e = omega arith
halftone-stops-paid h d old new (inr (count, (few, (taken, (less, drawn))))) most = drawn-paid h d count taken old new few less drawn most

pub halftone-paid : {X E : Type 0} (result : Result X E) (h : HalftoneHeader) (d : Patterns) (old new : Counts) → OnOk result (CountsHalftone h d old new) → OnErr result (StopsHalftone h d old new) → new.cleared ≤ old.cleared + cleared_by_cells h d → CountsWithin (price_of_halftone h d) old new
halftone-paid (Ok x) h d old new counts stops most = drawn-paid h d (gray_params h d).bits_per_pixel (gray_params h d).bits_per_pixel old new (omega arith) (omega arith) counts most
halftone-paid (Err e) h d old new counts stops most = halftone-stops-paid h d old new stops most

-- ---- dictionaries
-- the words of a row of n patterns side by side
words-beside : (n w m : ℕ) → 1 ≤ n → w ≤ 64 * m → 1 ≤ m → words_of_row (n * w) ≤ n * m
words-beside n w m many wide some =
    let all : n * w ≤ n * (64 * m) = mul-le-mul_left n wide in
    let least : 1 * 1 ≤ n * m = both in
    opening (n * w) (n * m) (omega (arith, all)) (omega (arith, least))
  where
    both : 1 * 1 ≤ n * m
    both = let a : 1 * m ≤ n * m = mul-le-mul_right m many in omega (arith, a)

    opening : (x k : ℕ) → x ≤ 64 * k → 1 ≤ k → words_of_row x ≤ k
    opening x k wide some = omega arith

collective-price : (n w h : ℕ) → 1 ≤ n → price_of_bitmap (n * w) h ≤ price_of_bitmap w h * n
unfolding price_of_bitmap
collective-price n w h many = within (words_of_row (n * w)) (words_of_row w) (words-beside n w (words_of_row w) many (row-wide w) (row-some w))
  where
    within : (all m : ℕ) → all ≤ n * m → 64 * all * h + 64 ≤ (64 * m * h + 64) * n
    within all m few =
        let rows : all * h ≤ n * m * h = mul-le-mul_right h few in
        omega (arith, rows)

-- patterns that are made and cut out: a load and a word for each of their words
cut-price : (made cut n w h : ℕ) → made ≤ n → cut ≤ n → 2 * (cut * ((w + 63) / 64 * h)) + made * words_made w h ≤ 32 * (price_of_bitmap w h * n)
cut-price made cut n w h fewer few =
    let one : (w + 63) / 64 * h ≤ words_of_row w * h = mul-le-mul_right h (omega arith) in
    let all : cut * ((w + 63) / 64 * h) ≤ cut * (words_of_row w * h) = mul-le-mul_left cut one in
    let more : cut * (words_of_row w * h) ≤ n * (words_of_row w * h) = mul-le-mul_right (words_of_row w * h) few in
    let cleared : made * words_made w h ≤ n * words_made w h = mul-le-mul_right (words_made w h) fewer in
    omega (arith, cleared, planes-paid w h n (2 * (cut * ((w + 63) / 64 * h))) (omega (arith, all, more)))

pub collective-paid : (h : PatternHeader) (old new : Counts) → CountsWithin (price_of_region (collective_header h)) old new → CountsWithin (price_of_patterns h) old new
collective-paid h old new within =
    let price = collective-price (h.gray_max + 1) h.pattern_width h.pattern_height (omega arith) in
    omega (arith, price, within)

pub cut-paid : (h : PatternHeader) (made cut w rows : ℕ) (old mid new : Counts) → w ≡ h.pattern_width → rows ≡ h.pattern_height → made ≤ h.gray_max + 1 → cut ≤ h.gray_max + 1 → CountsWithin (price_of_region (collective_header h)) old mid → new ≡ patterns_cut made cut (words_made w rows) ((w + 63) / 64 * rows) mid → CountsWithin (price_of_patterns h) old new
cut-paid h made cut w rows old mid new wide high fewer few within copied =
    let price = collective-price (h.gray_max + 1) h.pattern_width h.pattern_height (omega arith) in
    let here = cut-price made cut (h.gray_max + 1) w rows fewer few in
    let same : price_of_bitmap w rows ≡ price_of_bitmap h.pattern_width h.pattern_height = price-same w h.pattern_width rows h.pattern_height wide high in
    let all : price_of_bitmap w rows * (h.gray_max + 1) ≡ price_of_bitmap h.pattern_width h.pattern_height * (h.gray_max + 1) = ap (λ (n : ℕ). n * (h.gray_max + 1)) same in
    let more : sum_of_counts new ≡ sum_of_counts mid + (2 * (cut * ((w + 63) / 64 * rows)) + made * words_made w rows) = ap (λ (c : Counts). sum_of_counts c) copied ∙ omega arith in
    omega (arith, price, here, all, more, within)

pub cut-stops-paid : (h : PatternHeader) (w rows : ℕ) (old mid new : Counts) → w ≡ h.pattern_width → rows ≡ h.pattern_height → CountsWithin (price_of_region (collective_header h)) old mid → StopsCut (h.gray_max + 1) (words_made w rows) ((w + 63) / 64 * rows) mid new → CountsWithin (price_of_patterns h) old new
cut-stops-paid h w rows old mid new wide high within (made, (fewer, (cut, (few, copied)))) = cut-paid h made cut w rows old mid new wide high fewer few within copied
