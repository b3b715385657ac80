-- What is counted for a bitmap is within its price.
use Rattle.std.proofs.Common.{◌≡◌, ℕ, zero, suc, ◌+◌, ◌*◌, ◌≤◌, ℤ, pos, negsuc, refl, ap, ◌∙◌, arith}
use Rattle.std.proofs.Math.Nat.{mul-le-mul_left, mul-le-mul_right}
use Rattle.jbig2_base.specs.Counts.{Counts, WritesWithin, bitmap_made, most_words, overlap, words_copied, words_of}
use Rattle.jbig2_base.specs.Grid.{Grid}
use Rattle.jbig2_steps.specs.Work.{paid_words, sum_of_counts, price_of_bitmap, words_of_row}
use Rattle.jbig2_steps.proofs.WorkLemmas.{room-paid}
use Rattle.jbig2_base.proofs.MadeLemmas.{made-counted}

pub overlap-within : (page source : ℕ) (x : ℤ) → overlap page source x ≤ source
overlap-within page source (pos x) = omega arith
overlap-within page source (negsuc x) = omega arith

pub most_words-few : (n width : ℕ) → n ≤ width → most_words n ≤ 3 * words_of_row width
most_words-few zero width within = omega arith
most_words-few (suc n) width within = omega arith

pub written-counted : (n : ℕ) (old new : Counts) → WritesWithin n old new → sum_of_counts new ≤ sum_of_counts old + 3 * n
written-counted n old new written = omega arith

thrice : (n height words : ℕ) → n ≤ height * (3 * words) → 3 * n ≤ 2047 * (words * height)
thrice n height words few = omega arith

-- a source that is combined with a page
pub combined-paid : (page source : Grid) (x y : ℤ) (old new : Counts) → WritesWithin (overlap page.height source.height y * most_words (overlap page.width source.width x)) old new → sum_of_counts new + paid_words source.width source.height ≤ sum_of_counts old + 32 * price_of_bitmap source.width source.height
combined-paid page source x y old new written =
    let rows = overlap page.height source.height y in
    let words = most_words (overlap page.width source.width x) in
    let few : words ≤ 3 * words_of_row source.width = most_words-few (overlap page.width source.width x) source.width (overlap-within page.width source.width x) in
    let high : rows * words ≤ source.height * words = mul-le-mul_right words (overlap-within page.height source.height y) in
    let wide : source.height * words ≤ source.height * (3 * words_of_row source.width) = mul-le-mul_left source.height few in
    let all : rows * words ≤ source.height * (3 * words_of_row source.width) = omega (arith, high, wide) in
    let paid : 3 * (rows * words) + paid_words source.width source.height ≤ 32 * price_of_bitmap source.width source.height = room-paid source.width source.height (3 * (rows * words)) (thrice (rows * words) source.height (words_of_row source.width) all) in
    let more : sum_of_counts new ≤ sum_of_counts old + 3 * (rows * words) = written-counted (rows * words) old new written in
    omega (arith, more, paid)

pub price-same : (w v h k : ℕ) → w ≡ v → h ≡ k → price_of_bitmap w h ≡ price_of_bitmap v k
price-same w v h k e f = ap (λ (n : ℕ). price_of_bitmap n h) e ∙ ap (λ (n : ℕ). price_of_bitmap v n) f

-- a bitmap that is made, and whose words are copied
twice : (n words height : ℕ) → n ≤ words * height → 2 * n ≤ 2047 * (words * height)
twice n words height few = omega arith

pub copied-paid : (g : Grid) (old new : Counts) → new ≡ words_copied (words_of g) (bitmap_made g.width g.height old) → sum_of_counts new ≤ sum_of_counts old + 32 * price_of_bitmap g.width g.height
copied-paid g old new copied =
    let few : words_of g ≤ words_of_row g.width * g.height = mul-le-mul_right g.height (omega arith) in
    let paid : 2 * words_of g + paid_words g.width g.height ≤ 32 * price_of_bitmap g.width g.height = room-paid g.width g.height (2 * words_of g) (twice (words_of g) (words_of_row g.width) g.height few) in
    let made : Counts = bitmap_made g.width g.height old in
    let more : sum_of_counts new ≡ sum_of_counts made + 2 * words_of g = ap (λ (c : Counts). sum_of_counts c) copied ∙ omega arith in
    omega (arith, more, paid, made-counted g.width g.height old made refl)

-- words that are written one after the other
pub written-none : (c : Counts) → WritesWithin 0 c c
written-none c = record { words = omega arith; loads = omega arith; decisions = refl; run_tests = refl; groups = refl; pixels = refl; cleared = refl }

pub written-word : (n : ℕ) (old mid new : Counts) → WritesWithin n old mid → new ≡ record mid { words = mid.words + 1 } → WritesWithin (n + 1) old new
written-word n old mid new before more = record {
  words = omega (arith, before.words, ap (λ (c : Counts). c.words) more);
  loads = omega (arith, before.loads, ap (λ (c : Counts). c.loads) more);
  decisions = ap (λ (c : Counts). c.decisions) more ∙ before.decisions;
  run_tests = ap (λ (c : Counts). c.run_tests) more ∙ before.run_tests;
  groups = ap (λ (c : Counts). c.groups) more ∙ before.groups;
  pixels = ap (λ (c : Counts). c.pixels) more ∙ before.pixels;
  cleared = ap (λ (c : Counts). c.cleared) more ∙ before.cleared;
}
