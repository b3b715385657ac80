use Rattle.std.proofs.Common.{◌≡◌, ℕ, ◌+◌, ◌-◌, ◌*◌, ◌/◌, ◌<◌, ◌≤◌, ap, sym, ◌∙◌, arith}
use Rattle.jbig2_base.specs.Counts.{words_searched}
use Rattle.std.specs.Int.Count.{count_leading_zeros}
use Rattle.jbig2_base.proofs.CountLemmas.{loaded-as, loaded-more, loaded-none}
use Rattle.jbig2_steps.proofs.LaneCounts.{lanes-none, lanes-then}
use Rattle.jbig2_mmr.proofs.T6Spans.{lanes-load}
use Rattle.jbig2_mmr.specs.T6.{left_of}
use Rattle.jbig2_mmr.specs.inner.T6Reading.{pixels_of_row}
use Rattle.jbig2_mmr.proofs.T6Changes.{IsChanges, changes-are, changes-none, changes-found, changes-past, last-left, leading-within}
use Rattle.jbig2_mmr.proofs.T6Steps.{found-words, all-words}
use Rattle.jbig2_mmr.proofs.mmr.change.find_change.Goals as goal

pub loop-index-init : goal.loop-index-init
loop-index-init g c = record {
  lanes = lanes-none c.args.steps.now;
  steps = loaded-none c.args.steps.now _ (omega arith);
  within = λ more. absurd (omega (arith, more));
  left = c.requires;
  none = λ i a b. absurd (omega arith);
}

pub loop-index-preserved : goal.loop-index-preserved
loop-index-preserved g c =
    let inv = c.loop-index.invariant in
    let next : 64 * c.loop-index.index + 64 ≡ 64 * (c.loop-index.index + 1) = omega arith in
    let is : IsChanges (pixels_of_row c.args.bitmap.now c.args.y) c.args.black (64 * c.args.first) (64 * c.loop-index.index) c.changes_from-changes.result =
    changes-are (pixels_of_row c.args.bitmap.now c.args.y) c.args.black (64 * c.args.first) (64 * c.loop-index.index) c.load_pixels-pixels.result c.loop-index.before c.left_neighbours.result c.changes_from-changes.result
    (omega (arith, c.loop-index.auto.index)) (omega (arith, c.changes_from-changes.type_inv)) c.load_pixels-pixels.ensures.bits inv.left c.left_neighbours.ensures.first c.left_neighbours.ensures.others c.changes_from-changes.ensures in
    record {
      lanes = lanes-then c.args.steps.now c.loop-index.steps c.load_pixels-pixels.new.steps inv.lanes (lanes-load c.loop-index.steps c.load_pixels-pixels.new.steps c.load_pixels-pixels.ensures.steps);
      steps = loaded-more c.args.steps.now c.loop-index.steps c.load_pixels-pixels.new.steps (c.loop-index.index - c.args.first) _ inv.steps c.load_pixels-pixels.ensures.steps (omega (arith, c.loop-index.auto.index));
      within = λ more. omega (arith, c.loop-index-test.true, c.div_ceil-index-end.ensures, c.width-width.ensures.value);
      left = last-left (pixels_of_row c.args.bitmap.now c.args.y) (64 * c.loop-index.index) c.load_pixels-pixels.result c.load_pixels-pixels.ensures.bits ∙ ap (λ (x : ℕ). left_of (pixels_of_row c.args.bitmap.now c.args.y) x) next;
      none = λ i a b. changes-none (pixels_of_row c.args.bitmap.now c.args.y) c.args.black (64 * c.args.first) (64 * c.loop-index.index) c.changes_from-changes.result is c.if-changes-ne0.false inv.none i a (omega arith);
    }

pub returns-then-changes-ne0-clause-lanes : goal.returns-then-changes-ne0-clause-lanes
returns-then-changes-ne0-clause-lanes g c = lanes-then c.args.steps.now c.loop-index.steps c.load_pixels-pixels.new.steps c.loop-index.invariant.lanes (lanes-load c.loop-index.steps c.load_pixels-pixels.new.steps c.load_pixels-pixels.ensures.steps)

pub returns-then-changes-ne0-clause-value : goal.returns-then-changes-ne0-clause-value
returns-then-changes-ne0-clause-value g c =
    let inv = c.loop-index.invariant in
    let is : IsChanges (pixels_of_row c.args.bitmap.now c.args.y) c.args.black (64 * c.args.first) (64 * c.loop-index.index) c.changes_from-changes.result =
    changes-are (pixels_of_row c.args.bitmap.now c.args.y) c.args.black (64 * c.args.first) (64 * c.loop-index.index) c.load_pixels-pixels.result c.loop-index.before c.left_neighbours.result c.changes_from-changes.result
    (omega (arith, c.loop-index.auto.index)) (omega (arith, c.changes_from-changes.type_inv)) c.load_pixels-pixels.ensures.bits inv.left c.left_neighbours.ensures.first c.left_neighbours.ensures.others c.changes_from-changes.ensures in
    omega (arith, changes-found (pixels_of_row c.args.bitmap.now c.args.y) c.args.black (64 * c.args.first) (64 * c.loop-index.index) c.changes_from-changes.result c.args.bitmap.now.width is c.if-changes-ne0.true (omega (arith, c.loop-index.auto.index, c.div_ceil-index-end.ensures, c.width-width.ensures.value)) inv.none, c.min.ensures, c.width-width.ensures.value)

pub returns-clause-value : goal.returns-clause-value
returns-clause-value g c = c.width-width.ensures.value ∙ changes-past (pixels_of_row c.args.bitmap.now c.args.y) c.args.black (64 * c.args.first) (64 * c.loop-index.index) c.args.bitmap.now.width (omega (arith, c.loop-index-test.false, c.div_ceil-index-end.ensures, c.width-width.ensures.value)) c.loop-index.invariant.none

pub returns-then-changes-ne0-clause-steps : goal.returns-then-changes-ne0-clause-steps
returns-then-changes-ne0-clause-steps g c =
    let lead : ℕ = count_leading_zeros 64 c.changes_from-changes.result in
    let few : count_leading_zeros 64 c.changes_from-changes.result < 64 = leading-within c.changes_from-changes.result (omega (arith, c.changes_from-changes.type_inv)) c.if-changes-ne0.true in
    let words = found-words c.args.first c.loop-index.index lead c.args.bitmap.now.width c.min.result (omega (arith, c.loop-index.auto.index)) (omega (arith, c.loop-index-test.true, c.div_ceil-index-end.ensures, c.width-width.ensures.value)) few (omega (arith, c.min.ensures, c.width-width.ensures.value)) in
    loaded-more c.args.steps.now c.loop-index.steps c.load_pixels-pixels.new.steps (c.loop-index.index - c.args.first) _ c.loop-index.invariant.steps c.load_pixels-pixels.ensures.steps (omega (arith, words, c.loop-index.auto.index))

pub returns-clause-steps : goal.returns-clause-steps
returns-clause-steps g c =
    let w : ℕ = c.args.bitmap.now.width in
    let past : (w + 63) / 64 ≤ c.loop-index.index = omega (arith, c.loop-index-test.false, c.div_ceil-index-end.ensures, c.width-width.ensures.value) in
    let words = all-words c.args.first c.loop-index.index w (omega (arith, c.loop-index.auto.index)) past c.loop-index.invariant.within in
    loaded-as c.args.steps.now c.loop-index.steps (c.loop-index.index - c.args.first) _ c.loop-index.invariant.steps (words ∙ ap (λ (n : ℕ). words_searched (64 * c.args.first) w n) (sym c.width-width.ensures.value))
