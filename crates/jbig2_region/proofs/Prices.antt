-- What is counted for a refinement, and for making its bitmap, is within the price of a bitmap of its size.
use Rattle.std.specs.Prelude.{if◌then◌else◌}
use Rattle.std.proofs.Common.{◌≡◌, ℕ, zero, suc, ◌+◌, ◌*◌, ◌≤◌, Bool, true, false, List, Option, Some, None, ap, arith}
use Rattle.std.proofs.Math.Nat.{mul-le-mul_left}
use Rattle.jbig2_base.specs.Counts.{Counts}
use Rattle.jbig2_base.specs.Bits.{bit_number}
use Rattle.jbig2_steps.specs.Work.{paid_words, sum_of_counts, price_of_bitmap, words_of_row}
use Rattle.jbig2_steps.proofs.WorkLemmas.{room-paid}
use Rattle.jbig2_region.specs.Raster.{Coding, Region, row_decisions, source}
use Rattle.jbig2_region.specs.RefinementTemplates.{is_nominal, refinement_bits}
use Rattle.jbig2_region.specs.Steps.{CountsDecided, how_many, pixel_decisions, refinement_loads, window_loads}
use Rattle.jbig2_region.specs.declared.template.AdaptiveTemplatePixel.{AdaptiveTemplatePixel}
use Rattle.jbig2_region.specs.declared.template.RefinementTemplate.{RefinementTemplate}
use Rattle.jbig2_region.specs.declared.template.RefinementTemplate.TheVariants.{Template0, Template1}

bit-most : (b : Bool) → bit_number b ≤ 1
bit-most true = omega arith
bit-most false = omega arith

pub how_many-most : (has : ℕ → Bool) (n : ℕ) → how_many has n ≤ n
unfolding how_many
how_many-most has zero = omega arith
how_many-most has (suc n) = omega (arith, how_many-most has n, bit-most (has n))

pub row-decides : (o : Option ℕ) → row_decisions o ≤ 1
row-decides None = omega arith
row-decides (Some k) = omega arith

pixels-decide : (coding : Coding) (w h : ℕ) (bytes : List ℕ) (start : Region) → pixel_decisions coding w h bytes start ≤ w * h
unfolding pixel_decisions
pixels-decide coding w h bytes start = how_many-most _ (w * h)

-- ---- loads of a row
bits-most : (template : RefinementTemplate) → refinement_bits template ≤ 13
bits-most Template0 = omega arith
bits-most Template1 = omega arith

windows-few : (w : ℕ) → window_loads w ≤ 1408 * words_of_row w
windows-few w = omega arith

read-few : (w bits : ℕ) → bits ≤ 13 → w * (bits + 9) ≤ 1408 * words_of_row w
read-few w bits most =
    let each : w * (bits + 9) ≤ w * 22 = mul-le-mul_left w (omega arith) in
    omega (arith, each)

pub counted_loads-few : (template : RefinementTemplate) (w : ℕ) → w * (refinement_bits template + 9) ≤ 1408 * words_of_row w
counted_loads-few template w = read-few w (refinement_bits template) (bits-most template)

pub refinement_loads-few : (template : RefinementTemplate) (a : List AdaptiveTemplatePixel) (w : ℕ) → refinement_loads template a w ≤ 1408 * words_of_row w
refinement_loads-few template a w = either (is_nominal template a)
  where
    either : (b : Bool) → (if b then window_loads w else w * (refinement_bits template + 9)) ≤ 1408 * words_of_row w
    either true = windows-few w
    either false = read-few w (refinement_bits template) (bits-most template)

-- ---- a region
-- decisions, words and loads of h rows of w pixels, each of m words
rows-few : (w h m row pixels loads words loaded : ℕ) → w ≤ 64 * m → 1 ≤ m → row ≤ h * 1 → pixels ≤ w * h → words ≤ h * w → loads ≤ 1408 * m → loaded ≤ h * loads → row + pixels + words + loaded ≤ 2047 * (m * h)
rows-few w h m row pixels loads words loaded wide some opening decided written few read =
    let across : h * w ≤ h * (64 * m) = mul-le-mul_left h wide in
    let each : h * loads ≤ h * (1408 * m) = mul-le-mul_left h few in
    let high : h * 1 ≤ h * m = mul-le-mul_left h some in
    omega (arith, across, each, high)

pub row-wide : (w : ℕ) → w ≤ 64 * words_of_row w
row-wide w = omega arith

pub row-some : (w : ℕ) → 1 ≤ words_of_row w
row-some w = omega arith

counted-more : (coding : Coding) (loads w h : ℕ) (bytes : List ℕ) (start : Region) (before after : Counts) → 1 ≤ w → CountsDecided coding loads (source w h bytes start) before after → (n : ℕ) → h * row_decisions coding.row_context + pixel_decisions coding w h bytes start + h * w + h * loads ≤ n → sum_of_counts after ≤ sum_of_counts before + n
counted-more coding loads w h bytes start before after some counts n all =
    omega (arith, counts.decisions some, counts.run_tests, counts.words, counts.loads, counts.lanes.groups, counts.lanes.pixels, counts.lanes.cleared)

pub decided-paid : (coding : Coding) (loads w h : ℕ) (bytes : List ℕ) (start : Region) (before after : Counts) → loads ≤ 1408 * words_of_row w → CountsDecided coding loads (source w h bytes start) before after → sum_of_counts after + paid_words w h ≤ sum_of_counts before + 32 * price_of_bitmap w h
decided-paid coding loads zero h bytes start before after few counts =
    let none : sum_of_counts after ≡ sum_of_counts before = ap (λ (c : Counts). sum_of_counts c) (counts.empty (omega arith)) in
    omega (arith, none, room-paid zero h 0 (omega arith))
decided-paid coding loads (suc k) h bytes start before after few counts =
    let w : ℕ = suc k in
    let opening : h * row_decisions coding.row_context ≤ h * 1 = mul-le-mul_left h (row-decides coding.row_context) in
    let all : h * row_decisions coding.row_context + pixel_decisions coding w h bytes start + h * w + h * loads ≤ 2047 * (words_of_row w * h) =
    rows-few w h (words_of_row w) _ _ loads _ _ (row-wide w) (row-some w) opening (pixels-decide coding w h bytes start) (same (h * w)) few (same (h * loads)) in
    let paid = room-paid w h _ all in
    let more = counted-more coding loads w h bytes start before after (omega arith) counts _ (same _) in
    omega (arith, paid, more)
  where
    same : (n : ℕ) → n ≤ n
    same n = omega arith
