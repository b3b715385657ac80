use Rattle.std.proofs.Common.{◌≡◌, ◌+◌, ◌-◌, ap, arith, rules}
use Rattle.jbig2_mmr.specs.T6.{Head}
use Rattle.jbig2_mmr.specs.inner.T6Reading.{row_above, pixels_of_row}
use Rattle.jbig2_mmr_writer.specs.inner.Places.{head_of}
use Rattle.jbig2_mmr_writer.proofs.ModeLemmas.{place-ordered}
use Rattle.jbig2_mmr_writer.proofs.RowLemmas.{row-begins, row-ends, row-goes, row-out}
use Rattle.jbig2_mmr_writer.proofs.row.push_row.Goals as goal

pub loop-init : goal.loop-init
loop-init g c =
    let start : c.first_place-place.result.a0 ≡ 0 = ap (λ (h : Head). h.a0) c.first_place-place.ensures.head in
    record {
      place = c.first_place-place.ensures.place;
      bits = row-begins c.args.bitmap.now.width (pixels_of_row c.args.bitmap.now c.reference_row-above.result) (row_above c.args.bitmap.now c.args.y) (pixels_of_row c.args.bitmap.now c.args.y) (head_of c.first_place-place.result) c.args.writer.now c.reference_row-above.ensures c.first_place-place.ensures.head;
      loads = omega (arith, start, c.first_place-place.ensures.loads);
      steps = search rules;
    }

pub loop-preserved : goal.loop-preserved
loop-preserved g c = record {
  place = c.in_ok-place.ensures.mode.place;
  bits =
      row-goes c.args.bitmap.now.width (pixels_of_row c.args.bitmap.now c.reference_row-above.result) (pixels_of_row c.args.bitmap.now c.args.y) (head_of c.loop.place) (head_of c.in_ok-place.place) c.loop.counter _ c.loop.writer c.push_mode.new.writer
      (omega (arith, c.width-width.ensures.value)) (omega (arith, c.width-width.ensures.value, c.if-place-width.false)) c.in_ok-place.ensures.mode.bits c.in_ok-place.ensures.mode.head c.loop.invariant.bits;
  loads = omega (arith, c.loop.invariant.loads, c.in_ok-place.ensures.loads);
  steps = search rules;
}

pub returns-then-place-width-clause-row : goal.returns-then-place-width-clause-row
returns-then-place-width-clause-row g c =
    row-ends c.args.bitmap.now.width (pixels_of_row c.args.bitmap.now c.reference_row-above.result) (pixels_of_row c.args.bitmap.now c.args.y) (head_of c.loop.place) (c.args.bitmap.now.width + 1 - c.loop.counter) _ c.loop.writer
    (omega (arith, c.width-width.ensures.value, c.if-place-width.true)) c.loop.invariant.bits

pub returns-then-place-width-clause-loads : goal.returns-then-place-width-clause-loads
returns-then-place-width-clause-loads g c =
    let order = place-ordered c.args.bitmap.now c.args.y c.loop.place c.loop.invariant.place in
    omega (arith, order.0, order.1, c.width-width.ensures.value, c.loop.invariant.loads)

pub returns-in_err-place-clause-loads : goal.returns-in_err-place-clause-loads
returns-in_err-place-clause-loads g c =
    let order = place-ordered c.args.bitmap.now c.args.y c.loop.place c.loop.invariant.place in
    omega (arith, order.0, order.1, c.width-width.ensures.value, c.loop.invariant.loads, c.in_err-place.ensures.refused)

pub returns-clause-row : goal.returns-clause-row
returns-clause-row g c =
    row-out c.args.bitmap.now.width (pixels_of_row c.args.bitmap.now c.reference_row-above.result) (pixels_of_row c.args.bitmap.now c.args.y) (head_of c.loop.place) (c.args.bitmap.now.width + 1 - c.loop.counter) _ c.loop.writer
    (omega (arith, c.width-width.ensures.value)) c.loop.invariant.bits

pub returns-clause-loads : goal.returns-clause-loads
returns-clause-loads g c =
    let order = place-ordered c.args.bitmap.now c.args.y c.loop.place c.loop.invariant.place in
    omega (arith, order.0, order.1, c.width-width.ensures.value, c.loop.invariant.loads)
