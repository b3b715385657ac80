use Rattle.std.proofs.Common.{ℕ, ◌+◌, ◌-◌, Bool, not, false, length, refl, sym, ap, subst, ◌∙◌, arith}
use Rattle.std.proofs.lemmas.Bool.{true≢false}
use Rattle.jbig2_steps.proofs.LaneCounts.{lanes-then}
use Rattle.jbig2_mmr.specs.T6.{row}
use Rattle.jbig2_mmr.specs.inner.T6Reading.{pixels_of_row, row_above, IsSpan}
use Rattle.jbig2_mmr.specs.inner.T6Calls.{head_of, IsWordOf}
use Rattle.jbig2_mmr.proofs.T6Rows.{RowReading, row-start, row-next, row-done, row-fault, above-same, span-white, turn-within}
use Rattle.jbig2_mmr.specs.inner.T6Steps.{words_after, span_words}
use Rattle.jbig2_mmr.proofs.T6Steps.{row_moves, moves-loaded, moves-most, moves-then, turn-moves, fault-moves, last-moves}
use Rattle.jbig2_mmr.proofs.mmr.row.read_row.Goals as goal

pub loop-place-init : goal.loop-place-init
loop-place-init g c =
    let same = above-same c.args.bitmap.now c.args.bitmap.now c.args.y c.reference_row-above.result (λ x j o. refl) c.reference_row-above.ensures.apart c.reference_row-above.ensures.value in
    record {
      reading = row-start c.args.bitmap.now c.args.y c.args.reader.now.left c.width-width.ensures.table c.requires.white;
      word = subst (λ (row : ℕ → Bool). IsWordOf row c.load-word.result) same c.load-word.ensures.value;
      bytes = refl;
      lanes = c.load-word.ensures.lanes;
      work = moves-loaded 1 _ c.args.steps.now c.load-word.new.steps c.load-word.ensures.steps (omega arith);
      shorter = omega arith;
    }

pub at-word-requires : goal.at-word-requires
at-word-requires g c =
    let inv = c.loop-place.invariant in
    let same = above-same c.args.bitmap.now c.loop-place.bitmap c.args.y c.reference_row-above.result inv.reading.other c.reference_row-above.ensures.apart c.reference_row-above.ensures.value in
    subst (λ (row : ℕ → Bool). IsWordOf row c.loop-place.word) (sym same) inv.word

pub loop-place-preserved-then-place : goal.loop-place-preserved-then-place
loop-place-preserved-then-place g c =
    let inv = c.loop-place.invariant in
    let same = above-same c.args.bitmap.now c.loop-place.bitmap c.args.y c.reference_row-above.result inv.reading.other c.reference_row-above.ensures.apart c.reference_row-above.ensures.value in
    let within = turn-within c.loop-place.bitmap.width (pixels_of_row c.loop-place.bitmap c.reference_row-above.result) (head_of c.loop-place.place) c.loop-place.reader.left c.in-Some.turn c.read_turn.new.reader.left c.in-Some.ensures.value in
    let first = subst (λ (b : Bool). IsSpan c.loop-place.bitmap c.fill_span.new.bitmap c.args.y c.loop-place.place.a0 c.in-Some.turn.turn b) (sym c.if-place.true) c.fill_span.ensures.value in
    let second = span-white c.fill_span.new.bitmap c.args.y c.in-Some.turn.turn c.in-Some.turn.next.a0 (not c.loop-place.place.black) first.table (λ x a. first.right x a ∙ inv.reading.white x (omega (arith, within.0))) (ap (λ (b : Bool). not b) c.if-place.true) in
    let next = row-next c.args.bitmap.now c.loop-place.bitmap c.fill_span.new.bitmap c.fill_span.new.bitmap c.args.y (pixels_of_row c.loop-place.bitmap c.reference_row-above.result) (head_of c.loop-place.place) c.loop-place.reader.left c.read_turn.new.reader.left (row c.args.bitmap.now.width (row_above c.args.bitmap.now c.args.y) c.args.reader.now.left) c.in-Some.turn inv.reading (omega (arith, c.loop-place-test.true, c.width-width.ensures.value)) c.in-Some.ensures.shorter same c.in-Some.ensures.value first second in
    record {
      reading = subst (λ (b : Bool). RowReading c.args.bitmap.now c.fill_span.new.bitmap c.args.y (record { a0 = c.in-Some.turn.next.a0; past_start = b; black = c.in-Some.turn.next.black }) c.read_turn.new.reader.left (row c.args.bitmap.now.width (row_above c.args.bitmap.now c.args.y) c.args.reader.now.left)) within.3 next;
      word = subst (λ (row : ℕ → Bool). IsWordOf row c.at-word.result) same c.at-word.ensures.value;
      bytes = c.in-Some.ensures.bytes ∙ inv.bytes;
      work = moves-then (row_moves c.loop-place.place.a0 (length c.args.reader.now.left - length c.loop-place.reader.left)) (1 + (words_after c.loop-place.bitmap.width c.loop-place.place.a0 c.in-Some.turn.next.a0 + 1 + span_words c.loop-place.place.a0 c.in-Some.turn.turn)) _ c.args.steps.now c.loop-place.steps c.fill_span.new.steps inv.work
          (moves-then 1 (words_after c.loop-place.bitmap.width c.loop-place.place.a0 c.in-Some.turn.next.a0 + 1 + span_words c.loop-place.place.a0 c.in-Some.turn.turn) _ c.loop-place.steps c.at-word.new.steps c.fill_span.new.steps c.at-word.ensures.work
          (moves-then (words_after c.loop-place.bitmap.width c.loop-place.place.a0 c.in-Some.turn.next.a0 + 1) (span_words c.loop-place.place.a0 c.in-Some.turn.turn) _ c.at-word.new.steps c.read_turn.new.steps c.fill_span.new.steps c.in-Some.ensures.work c.fill_span.ensures.work (omega arith)) (omega arith))
          (turn-moves c.loop-place.bitmap.width c.loop-place.place.a0 c.loop-place.place.a0 c.in-Some.turn.turn c.in-Some.turn.next.a0 (length c.args.reader.now.left) (length c.loop-place.reader.left) (length c.read_turn.new.reader.left) (omega arith) (omega (arith, within.1)) (omega (arith, within.0, within.1)) c.in-Some.ensures.shorter inv.shorter);
      shorter = omega (arith, c.in-Some.ensures.shorter, inv.shorter);
      lanes = lanes-then c.args.steps.now c.read_turn.new.steps c.fill_span.new.steps (lanes-then c.args.steps.now c.at-word.new.steps c.read_turn.new.steps (lanes-then c.args.steps.now c.loop-place.steps c.at-word.new.steps inv.lanes c.at-word.ensures.lanes) c.in-Some.ensures.lanes) c.fill_span.ensures.lanes;
    }

pub loop-place-preserved : goal.loop-place-preserved
loop-place-preserved g c =
    let inv = c.loop-place.invariant in
    let same = above-same c.args.bitmap.now c.loop-place.bitmap c.args.y c.reference_row-above.result inv.reading.other c.reference_row-above.ensures.apart c.reference_row-above.ensures.value in
    let within = turn-within c.loop-place.bitmap.width (pixels_of_row c.loop-place.bitmap c.reference_row-above.result) (head_of c.loop-place.place) c.loop-place.reader.left c.in-Some.turn c.read_turn.new.reader.left c.in-Some.ensures.value in
    let first = span-white c.loop-place.bitmap c.args.y c.loop-place.place.a0 c.in-Some.turn.turn c.loop-place.place.black inv.reading.table inv.reading.white c.if-place.false in
    let second = subst (λ (b : Bool). IsSpan c.loop-place.bitmap c.fill_span-else-place.new.bitmap c.args.y c.in-Some.turn.turn c.in-Some.turn.next.a0 b) (sym (ap (λ (b : Bool). not b) c.if-place.false)) c.fill_span-else-place.ensures.value in
    let next = row-next c.args.bitmap.now c.loop-place.bitmap c.loop-place.bitmap c.fill_span-else-place.new.bitmap c.args.y (pixels_of_row c.loop-place.bitmap c.reference_row-above.result) (head_of c.loop-place.place) c.loop-place.reader.left c.read_turn.new.reader.left (row c.args.bitmap.now.width (row_above c.args.bitmap.now c.args.y) c.args.reader.now.left) c.in-Some.turn inv.reading (omega (arith, c.loop-place-test.true, c.width-width.ensures.value)) c.in-Some.ensures.shorter same c.in-Some.ensures.value first second in
    record {
      reading = subst (λ (b : Bool). RowReading c.args.bitmap.now c.fill_span-else-place.new.bitmap c.args.y (record { a0 = c.in-Some.turn.next.a0; past_start = b; black = c.in-Some.turn.next.black }) c.read_turn.new.reader.left (row c.args.bitmap.now.width (row_above c.args.bitmap.now c.args.y) c.args.reader.now.left)) within.3 next;
      word = subst (λ (row : ℕ → Bool). IsWordOf row c.at-word.result) same c.at-word.ensures.value;
      bytes = c.in-Some.ensures.bytes ∙ inv.bytes;
      work = moves-then (row_moves c.loop-place.place.a0 (length c.args.reader.now.left - length c.loop-place.reader.left)) (1 + (words_after c.loop-place.bitmap.width c.loop-place.place.a0 c.in-Some.turn.next.a0 + 1 + span_words c.in-Some.turn.turn c.in-Some.turn.next.a0)) _ c.args.steps.now c.loop-place.steps c.fill_span-else-place.new.steps inv.work
          (moves-then 1 (words_after c.loop-place.bitmap.width c.loop-place.place.a0 c.in-Some.turn.next.a0 + 1 + span_words c.in-Some.turn.turn c.in-Some.turn.next.a0) _ c.loop-place.steps c.at-word.new.steps c.fill_span-else-place.new.steps c.at-word.ensures.work
          (moves-then (words_after c.loop-place.bitmap.width c.loop-place.place.a0 c.in-Some.turn.next.a0 + 1) (span_words c.in-Some.turn.turn c.in-Some.turn.next.a0) _ c.at-word.new.steps c.read_turn.new.steps c.fill_span-else-place.new.steps c.in-Some.ensures.work c.fill_span-else-place.ensures.work (omega arith)) (omega arith))
          (turn-moves c.loop-place.bitmap.width c.loop-place.place.a0 c.in-Some.turn.turn c.in-Some.turn.next.a0 c.in-Some.turn.next.a0 (length c.args.reader.now.left) (length c.loop-place.reader.left) (length c.read_turn.new.reader.left) (omega (arith, within.0)) (omega arith) (omega (arith, within.0, within.1)) c.in-Some.ensures.shorter inv.shorter);
      shorter = omega (arith, c.in-Some.ensures.shorter, inv.shorter);
      lanes = lanes-then c.args.steps.now c.read_turn.new.steps c.fill_span-else-place.new.steps (lanes-then c.args.steps.now c.at-word.new.steps c.read_turn.new.steps (lanes-then c.args.steps.now c.loop-place.steps c.at-word.new.steps inv.lanes c.at-word.ensures.lanes) c.in-Some.ensures.lanes) c.fill_span-else-place.ensures.lanes;
    }

pub returns-in-None-clause-value : goal.returns-in-None-clause-value
returns-in-None-clause-value g c =
    let inv = c.loop-place.invariant in
    let same = above-same c.args.bitmap.now c.loop-place.bitmap c.args.y c.reference_row-above.result inv.reading.other c.reference_row-above.ensures.apart c.reference_row-above.ensures.value in
    row-fault c.args.bitmap.now c.loop-place.bitmap c.fill_span-in-None.new.bitmap c.args.y (pixels_of_row c.loop-place.bitmap c.reference_row-above.result) (head_of c.loop-place.place) c.loop-place.reader.left c.read_turn.new.reader.left (row c.args.bitmap.now.width (row_above c.args.bitmap.now c.args.y) c.args.reader.now.left) inv.reading (omega (arith, c.loop-place-test.true, c.width-width.ensures.value)) same c.in-None.ensures.value
    (subst (λ (w : ℕ). IsSpan c.loop-place.bitmap c.fill_span-in-None.new.bitmap c.args.y 0 w false) c.width-width.ensures.value c.fill_span-in-None.ensures.value)

pub returns-clause-value : goal.returns-clause-value
returns-clause-value g c = row-done c.args.bitmap.now c.loop-place.bitmap c.args.y (head_of c.loop-place.place) c.loop-place.reader.left (row c.args.bitmap.now.width (row_above c.args.bitmap.now c.args.y) c.args.reader.now.left) c.loop-place.invariant.reading (omega (arith, c.loop-place-test.false, c.width-width.ensures.value))

pub returns-in-None-clause-lanes : goal.returns-in-None-clause-lanes
returns-in-None-clause-lanes g c = lanes-then c.args.steps.now c.read_turn.new.steps c.fill_span-in-None.new.steps (lanes-then c.args.steps.now c.at-word.new.steps c.read_turn.new.steps (lanes-then c.args.steps.now c.loop-place.steps c.at-word.new.steps c.loop-place.invariant.lanes c.at-word.ensures.lanes) c.in-None.ensures.lanes) c.fill_span-in-None.ensures.lanes

pub returns-in-None-clause-shorter : goal.returns-in-None-clause-shorter
returns-in-None-clause-shorter g c = λ e. absurd (true≢false (sym e))

pub returns-clause-shorter : goal.returns-clause-shorter
returns-clause-shorter g c = λ e. c.loop-place.invariant.shorter

pub returns-in-None-clause-work : goal.returns-in-None-clause-work
returns-in-None-clause-work g c = λ wide.
    let inv = c.loop-place.invariant in
    let w : ℕ = c.args.bitmap.now.width in
    let here : ℕ = c.loop-place.bitmap.width in
    let to : ℕ = c.width-width.result in
    let a0 : ℕ = c.loop-place.place.a0 in
    moves-then (row_moves a0 (length c.args.reader.now.left - length c.loop-place.reader.left)) (1 + (words_after here a0 here + span_words 0 to)) _ c.args.steps.now c.loop-place.steps c.fill_span-in-None.new.steps inv.work
    (moves-then 1 (words_after here a0 here + span_words 0 to) _ c.loop-place.steps c.at-word.new.steps c.fill_span-in-None.new.steps c.at-word.ensures.work
    (moves-then (words_after here a0 here) (span_words 0 to) _ c.at-word.new.steps c.read_turn.new.steps c.fill_span-in-None.new.steps c.in-None.ensures.work c.fill_span-in-None.ensures.work (omega arith)) (omega arith))
    (fault-moves w here to a0 (length c.args.reader.now.left) (length c.loop-place.reader.left) inv.reading.width c.width-width.ensures.value (omega (arith, c.loop-place-test.true, c.width-width.ensures.value)))

pub returns-clause-work : goal.returns-clause-work
returns-clause-work g c = λ wide.
    let inv = c.loop-place.invariant in
    let read : ℕ = length c.args.reader.now.left - length c.loop-place.reader.left in
    moves-most (row_moves c.loop-place.place.a0 read) _ c.args.steps.now c.loop-place.steps inv.work (last-moves c.args.bitmap.now.width c.loop-place.place.a0 read wide inv.reading.inside)
