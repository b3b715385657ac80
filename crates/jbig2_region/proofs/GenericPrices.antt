-- What is counted for a generic region, and for making its bitmap, is within the price of a bitmap of its size.
use Rattle.std.specs.Prelude.{if◌then◌else◌}
use Rattle.std.proofs.Common.{◌≡◌, ℕ, zero, suc, ◌+◌, ◌*◌, ◌≤◌, Bool, true, false, List, ap, arith}
use Rattle.std.proofs.Math.Nat.{mul-le-mul_left}
use Rattle.jbig2_base.specs.Counts.{Counts}
use Rattle.jbig2_steps.specs.Work.{paid_words, sum_of_counts, price_of_bitmap, words_of_row}
use Rattle.jbig2_steps.proofs.WorkLemmas.{room-paid}
use Rattle.jbig2_region.specs.GenericSteps.{CountsCoded, read_pixels}
use Rattle.jbig2_region.specs.Raster.{Coding, Region, row_decisions, source}
use Rattle.jbig2_region.specs.Steps.{CountsRegion, coded_pixels, row_loads, row_tests, row_words, CountsWholeRows}
use Rattle.jbig2_region.specs.Templates.{adaptive_pixel_count, context_bits, is_nominal}
use Rattle.jbig2_region.specs.declared.template.AdaptiveTemplatePixel.{AdaptiveTemplatePixel}
use Rattle.jbig2_region.specs.declared.template.Template.{Template}
use Rattle.jbig2_region.specs.declared.template.Template.TheVariants.{Template0, Template1, Template2, Template3}
use Rattle.jbig2_region.proofs.Prices.{decided-paid, how_many-most, row-decides, row-some, row-wide}

pixels-coded : (coding : Coding) (w h : ℕ) (bytes : List ℕ) (start : Region) → coded_pixels coding w h bytes start ≤ w * h
unfolding coded_pixels
pixels-coded coding w h bytes start = how_many-most _ (w * h)

-- ---- a row
tests-few : (nominal : Bool) (w : ℕ) → row_tests nominal w ≤ 64 * words_of_row w
tests-few true w = omega arith
tests-few false w = omega arith

words-few : (nominal : Bool) (w : ℕ) → row_words nominal w ≤ 64 * words_of_row w
words-few true w = omega arith
words-few false w = omega arith

loads-few : (nominal : Bool) (w : ℕ) → row_loads nominal w ≤ 12 * words_of_row w
loads-few true w = omega arith
loads-few false w = omega arith

-- ---- a region
rows-few : (w h m row pixels tests words loads adaptive : ℕ) → w ≤ 64 * m → 1 ≤ m → row ≤ 1 → pixels ≤ w * h → tests ≤ 64 * m → words ≤ 64 * m → loads ≤ 12 * m → adaptive ≤ 4 → h * row + pixels + h * tests + h * words + (h * loads + pixels * adaptive) ≤ 2047 * (m * h)
rows-few w h m row pixels tests words loads adaptive wide some opening coded tested written loaded few =
    let across : h * w ≤ h * (64 * m) = mul-le-mul_left h wide in
    let high : h * 1 ≤ h * m = mul-le-mul_left h some in
    let a : h * row ≤ h * 1 = mul-le-mul_left h opening in
    let b : h * tests ≤ h * (64 * m) = mul-le-mul_left h tested in
    let c : h * words ≤ h * (64 * m) = mul-le-mul_left h written in
    let d : h * loads ≤ h * (12 * m) = mul-le-mul_left h loaded in
    let e : pixels * adaptive ≤ pixels * 4 = mul-le-mul_left pixels few in
    omega (arith, across, high, a, b, c, d, e)

counted-more : (template : List AdaptiveTemplatePixel) (nominal : Bool) (adaptive : ℕ) (coding : Coding) (w h : ℕ) (bytes : List ℕ) (start : Region) (before after : Counts) → 1 ≤ w → CountsRegion template nominal adaptive coding (source w h bytes start) before after → (n : ℕ) → h * row_decisions coding.row_context + coded_pixels coding w h bytes start + h * row_tests nominal w + h * row_words nominal w + (h * row_loads nominal w + coded_pixels coding w h bytes start * adaptive) ≤ n → sum_of_counts after ≤ sum_of_counts before + n
counted-more template nominal adaptive coding w h bytes start before after some counts n all =
    omega (arith, counts.decisions some, counts.run_tests, counts.words, counts.loads, counts.lanes.groups, counts.lanes.pixels, counts.lanes.cleared)

pub region-paid : (template : List AdaptiveTemplatePixel) (nominal : Bool) (adaptive : ℕ) (coding : Coding) (w h : ℕ) (bytes : List ℕ) (start : Region) (before after : Counts) → adaptive ≤ 4 → CountsRegion template nominal adaptive coding (source w h bytes start) before after → sum_of_counts after + paid_words w h ≤ sum_of_counts before + 32 * price_of_bitmap w h
region-paid template nominal adaptive coding zero h bytes start before after few counts =
    let none : sum_of_counts after ≡ sum_of_counts before = ap (λ (c : Counts). sum_of_counts c) (counts.empty (omega arith)) in
    omega (arith, none, room-paid zero h 0 (omega arith))
region-paid template nominal adaptive coding (suc k) h bytes start before after few counts =
    let w : ℕ = suc k in
    let all = rows-few w h (words_of_row w) (row_decisions coding.row_context) (coded_pixels coding w h bytes start) (row_tests nominal w) (row_words nominal w) (row_loads nominal w) adaptive (row-wide w) (row-some w) (row-decides coding.row_context) (pixels-coded coding w h bytes start) (tests-few nominal w) (words-few nominal w) (loads-few nominal w) few in
    let paid = room-paid w h _ all in
    let more = counted-more template nominal adaptive coding w h bytes start before after (omega arith) counts _ (same _) in
    omega (arith, paid, more)
  where
    same : (n : ℕ) → n ≤ n
    same n = omega arith

-- ---- by the template
adaptive-few : (template : Template) → adaptive_pixel_count false false template ≤ 4
adaptive-few Template0 = omega arith
adaptive-few Template1 = omega arith
adaptive-few Template2 = omega arith
adaptive-few Template3 = omega arith

pub read_pixels-few : (template : Template) (a : List AdaptiveTemplatePixel) → read_pixels template a ≤ 4
read_pixels-few template a = either (is_nominal template a)
  where
    either : (b : Bool) → (if b then 0 else adaptive_pixel_count false false template) ≤ 4
    either true = omega arith
    either false = adaptive-few template

bits-most : (template : Template) → context_bits template ≤ 16
bits-most Template0 = omega arith
bits-most Template1 = omega arith
bits-most Template2 = omega arith
bits-most Template3 = omega arith

all-read : (w bits : ℕ) → bits ≤ 16 → w * (bits + 1) ≤ 1408 * words_of_row w
all-read w bits most =
    let each : w * (bits + 1) ≤ w * 17 = mul-le-mul_left w (omega arith) in
    omega (arith, each)

pub coded-paid : (extended : Bool) (template : Template) (a : List AdaptiveTemplatePixel) (coding : Coding) (w h : ℕ) (bytes : List ℕ) (start : Region) (before after : Counts) → CountsCoded extended template a coding (source w h bytes start) before after → sum_of_counts after + paid_words w h ≤ sum_of_counts before + 32 * price_of_bitmap w h
coded-paid true template a coding w h bytes start before after counts = decided-paid coding (w * (context_bits template + 1)) w h bytes start before after (all-read w (context_bits template) (bits-most template)) counts
coded-paid false template a coding w h bytes start before after counts = region-paid _ (is_nominal template a) (read_pixels template a) coding w h bytes start before after (read_pixels-few template a) counts

-- ---- whole rows
rows-most : (w h m loads decisions words loaded : ℕ) → w ≤ 64 * m → 1 ≤ m → loads ≤ 1408 * m → decisions ≤ h * (w + 1) → words ≤ h * w → loaded ≤ h * loads → decisions + words + loaded ≤ 2047 * (m * h)
rows-most w h m loads decisions words loaded wide some few decided written read =
    let all : h * loads ≤ h * (1408 * m) = mul-le-mul_left h few in
    let across : h * w ≤ h * (64 * m) = mul-le-mul_left h wide in
    let high : h * 1 ≤ h * m = mul-le-mul_left h some in
    omega (arith, decided, written, read, all, across, high)

pub counted-rows-paid : (loads w h : ℕ) (bytes : List ℕ) (start : Region) (before after : Counts) → loads ≤ 1408 * words_of_row w → CountsWholeRows loads (source w h bytes start) before after → sum_of_counts after + paid_words w h ≤ sum_of_counts before + 32 * price_of_bitmap w h
counted-rows-paid loads w h bytes start before after few counts =
    let all = rows-most w h (words_of_row w) loads (h * (w + 1)) (h * w) (h * loads) (row-wide w) (row-some w) few (same (h * (w + 1))) (same (h * w)) (same (h * loads)) in
    let paid = room-paid w h _ all in
    omega (arith, paid, counts.decisions, counts.run_tests, counts.words, counts.loads, counts.lanes.groups, counts.lanes.pixels, counts.lanes.cleared)
  where
    same : (n : ℕ) → n ≤ n
    same n = omega arith

pub whole-rows-paid : (template : Template) (w h : ℕ) (bytes : List ℕ) (start : Region) (before after : Counts) → CountsWholeRows (w * (context_bits template + 1)) (source w h bytes start) before after → sum_of_counts after + paid_words w h ≤ sum_of_counts before + 32 * price_of_bitmap w h
whole-rows-paid template w h bytes start before after counts =
    counted-rows-paid (w * (context_bits template + 1)) w h bytes start before after (all-read w (context_bits template) (bits-most template)) counts
