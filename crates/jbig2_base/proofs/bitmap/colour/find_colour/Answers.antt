use Rattle.std.proofs.Common.{◌≡◌, ℕ, ◌+◌, ◌-◌, ◌/◌, arith}
use Rattle.jbig2_base.specs.Counts.{words_searched}
use Rattle.jbig2_base.specs.Grid.{pixel_at}
use Rattle.jbig2_base.proofs.ColourLemmas.{search-before, search-found}
use Rattle.jbig2_base.proofs.CountLemmas.{loaded-as, loaded-more, loaded-none, search-ends, search-goes, search-stops}
use Rattle.jbig2_base.proofs.bitmap.colour.find_colour.Goals as goal

pub returns-then-others-count-clause-value : goal.returns-then-others-count-clause-value
returns-then-others-count-clause-value g c =
    search-found (λ (x : ℕ). pixel_at c.args.bitmap.now x c.args.y) c.load_pixels-pixels.result c.min-count.result c.leading_others-others.result c.args.from c.args.to c.loop-x.x c.args.black
    c.loop-x.invariant.opening (omega (arith, c.min-count.ensures)) c.load_pixels-pixels.ensures.bits c.if-others-count.true c.leading_others-others.ensures.before (c.leading_others-others.ensures.found c.if-others-count.true) c.loop-x.invariant.before

pub returns-then-others-count-clause-steps : goal.returns-then-others-count-clause-steps
returns-then-others-count-clause-steps g c =
    let from : ℕ = c.args.from in
    let x : ℕ = c.loop-x.x in
    let whole = c.loop-x.invariant.whole c.loop-x-test.true in
    loaded-more c.args.steps.now c.loop-x.steps c.load_pixels-pixels.new.steps ((x - from + 63) / 64) _ c.loop-x.invariant.steps c.load_pixels-pixels.ensures.steps
    (let stops : (x - from + 63) / 64 + 1 ≡ words_searched from c.args.to (x + c.leading_others-others.result) = search-stops from c.args.to x c.leading_others-others.result c.loop-x.invariant.opening whole (omega (arith, c.min-count.ensures, c.if-others-count.true)) (omega (arith, c.min-count.ensures, c.if-others-count.true)) in omega (arith, stops))

pub loop-x-init : goal.loop-x-init
loop-x-init g c = record {
  opening = omega arith;
  within = omega (arith, c.requires.order);
  before = λ x low high. absurd (omega (arith, low, high));
  whole = λ inside. omega arith;
  steps = loaded-none c.args.steps.now _ (omega arith);
}

pub loop-x-preserved : goal.loop-x-preserved
loop-x-preserved g c =
    let from : ℕ = c.args.from in
    let x : ℕ = c.loop-x.x in
    let all : c.leading_others-others.result ≡ c.min-count.result = omega (arith, c.if-others-count.false, c.leading_others-others.ensures.within) in
    let whole = c.loop-x.invariant.whole c.loop-x-test.true in
    let goes = search-goes from c.args.to x c.min-count.result c.loop-x.invariant.opening c.loop-x-test.true whole c.min-count.ensures in
    record {
      opening = omega arith;
      within = omega (arith, c.min-count.ensures, c.leading_others-others.ensures.within);
      before = search-before (λ (x : ℕ). pixel_at c.args.bitmap.now x c.args.y) c.load_pixels-pixels.result c.min-count.result c.leading_others-others.result c.args.from c.loop-x.x c.args.black c.load_pixels-pixels.ensures.bits c.leading_others-others.ensures.within c.leading_others-others.ensures.before c.loop-x.invariant.before;
      whole = λ inside. omega (arith, inside, all, whole, c.min-count.ensures);
      steps = loaded-more c.args.steps.now c.loop-x.steps c.load_pixels-pixels.new.steps ((x - from + 63) / 64) _ c.loop-x.invariant.steps c.load_pixels-pixels.ensures.steps (omega (arith, all, goes));
    }

pub returns-clause-steps : goal.returns-clause-steps
returns-clause-steps g c =
    let from : ℕ = c.args.from in
    let last : c.loop-x.x ≡ c.args.to = omega (arith, c.loop-x-test.false, c.loop-x.invariant.within) in
    let ends = search-ends from c.args.to (omega (arith, c.requires.order)) in
    loaded-as c.args.steps.now c.loop-x.steps ((c.loop-x.x - from + 63) / 64) _ c.loop-x.invariant.steps (omega (arith, last, ends))
