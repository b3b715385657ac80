use Rattle.std.proofs.Common.{◌≡◌, ℕ, ◌+◌, ◌-◌, ◌*◌, ◌/◌, ◌<◌, ◌≤◌, true, false, eqb, List, [], length, drop, refl, ap, sym, subst, ◌∙◌, arith}
use Rattle.std.specs.Prelude.{◌||◌}
use Rattle.std.proofs.lemmas.Bool.{eq-eqb, or_left, or_right}
use Rattle.jbig2_steps.proofs.LaneCounts.{lanes-none, lanes-then}
use Rattle.jbig2_mmr.specs.T6.{row, ends_block, rows_of}
use Rattle.jbig2_mmr.specs.inner.T6Reading.{Rest, after_end, row_above}
use Rattle.jbig2_mmr.specs.inner.T6Calls.{ReadRow}
use Rattle.jbig2_mmr.proofs.T6Bits.{end-after, end-none}
use Rattle.jbig2_mmr.proofs.T6Decoding.{RowsReading, rows-start, rows-grid, rows-early, rows-last, rows-fault, rows-next, rows-told, no-rows, drawn-none, drawn-rows}
use Rattle.jbig2_base.proofs.NumberLemmas.{length-bits}
use Rattle.jbig2_mmr.proofs.T6Steps.{rows_moves, moves-none, moves-most, moves-then, next-moves, stop-moves, all-moves, used-bits, row-bound, both, drop-shorter, end-shorter}
use Rattle.jbig2_mmr.proofs.mmr.read_rows.Goals as goal
use Rattle.jbig2_mmr.proofs.mmr.read_rows.Goals.{then-width-eq0-via-then-width-eq0, then-width-eq0-via-else-width-eq0+then-height-eq0}

pub returns-then-width-eq0 : goal.returns-then-width-eq0
returns-then-width-eq0 g c =
    let none : (eqb c.args.bitmap.now.width 0 || eqb c.args.bitmap.now.height 0) ≡ true =
    elim c.then-width-eq0.branch [
      | then-width-eq0-via-then-width-eq0 w ↦ or_left _ _ (eq-eqb c.args.bitmap.now.width 0 (sym c.width.ensures.value ∙ w.if-width-eq0.true))
      | then-width-eq0-via-else-width-eq0+then-height-eq0 w ↦ or_right _ _ (eq-eqb c.args.bitmap.now.height 0 (sym c.height-height.ensures.value ∙ w.if-height-eq0.true))
    ] in
    let bytes : List ℕ = c.args.bytes.now in
    let told = rows-told bytes (rows_of c.args.bitmap.now.width c.args.bitmap.now.height bytes) _ 0 0 (no-rows c.args.bitmap.now.width c.args.bitmap.now.height bytes none) refl (omega (arith, length-bits bytes)) in
    record {
      count = told.count;
      used = told.used;
      whole = told.whole;
      lanes = lanes-none c.args.steps.now;
      work = moves-none _ c.args.steps.now;
      grid = drawn-none c.args.bitmap.now bytes c.requires none;
    }

pub loop-y-init : goal.loop-y-init
loop-y-init g c =
    let meant = rows_of c.args.bitmap.now.width c.args.bitmap.now.height c.args.bytes.now in
    record {
      reading = subst (λ (r : Rest). RowsReading c.args.bitmap.now.width c.args.bitmap.now.height 0 r.left c.args.bitmap.now (rows_of c.args.bitmap.now.width c.args.bitmap.now.height c.args.bytes.now)) (sym c.new-reader.ensures)
          (rows-start c.args.bitmap.now c.args.bytes.now c.requires c.width.ensures.table (λ e. c.if-width-eq0.false (c.width.ensures.value ∙ e)) (λ e. c.if-height-eq0.false (c.height-height.ensures.value ∙ e)));
      lanes = lanes-none c.args.steps.now;
      work = moves-none _ c.args.steps.now;
      shorter = omega (arith, ap (λ (r : Rest). length r.left) c.new-reader.ensures, length-bits c.args.bytes.now);
      within = omega arith;
      bytes = ap (λ (r : Rest). r.bytes) c.new-reader.ensures;
    }

pub returns-then-skip_end_of_block : goal.returns-then-skip_end_of_block
returns-then-skip_end_of_block g c =
    let w : ℕ = c.args.bitmap.now.width in
    let h : ℕ = c.args.bitmap.now.height in
    let inv = c.loop-y.invariant in
    let bits : List ℕ = c.loop-y.reader.left in
    let ends : ends_block c.loop-y.reader.left ≡ true = sym c.if-skip_end_of_block.ensures.value in
    let used : c.bytes_used.result ≡ length c.args.bytes.now - length (drop 24 c.loop-y.reader.left) / 8 =
    c.bytes_used.ensures ∙ ap (λ (r : Rest). length r.bytes - length r.left / 8) c.skip_end_of_block.ensures.rest
    ∙ ap (λ (ys : List ℕ). length c.loop-y.reader.bytes - length ys / 8) (end-after c.loop-y.reader.left ends)
    ∙ ap (λ (bs : List ℕ). length bs - length (drop 24 c.loop-y.reader.left) / 8) inv.bytes in
    let early = rows-early w h c.loop-y.y c.loop-y.reader.left c.loop-y.bitmap (rows_of w h c.args.bytes.now) inv.reading (omega (arith, c.loop-y-test.true, c.height-height.ensures.value)) ends in
    let drawn = rows-grid w h c.loop-y.y c.loop-y.reader.left c.loop-y.bitmap (rows_of w h c.args.bytes.now) inv.reading in
    let told = rows-told c.args.bytes.now (rows_of w h c.args.bytes.now) _ c.loop-y.y c.bytes_used.result early inv.reading.count used in
    record {
      count = told.count;
      used = told.used;
      whole = told.whole;
      lanes = inv.lanes;
      work = moves-most (rows_moves ((w + 63) / 64) c.loop-y.y (8 * length c.args.bytes.now - length c.loop-y.reader.left)) _ c.args.steps.now c.loop-y.steps inv.work
          (all-moves ((w + 63) / 64) c.loop-y.y h (8 * length c.args.bytes.now - length c.loop-y.reader.left) _ inv.within
          (used-bits (length c.args.bytes.now) (length c.loop-y.reader.left) (length (drop 24 c.loop-y.reader.left)) c.bytes_used.result (drop-shorter 24 c.loop-y.reader.left) used));
      grid = drawn-rows w h c.args.bytes.now inv.reading.done false (drop 24 c.loop-y.reader.left) c.loop-y.bitmap early drawn;
    }

pub returns-then-not-read_row : goal.returns-then-not-read_row
returns-then-not-read_row g c =
    let w : ℕ = c.args.bitmap.now.width in
    let h : ℕ = c.args.bitmap.now.height in
    let wide : 0 < c.args.bitmap.now.width = omega (arith, c.if-width-eq0.false, c.width.ensures.value) in
    let inv = c.loop-y.invariant in
    let goes_on : ends_block c.loop-y.reader.left ≡ false = sym c.if-skip_end_of_block.ensures.value in
    let left : c.skip_end_of_block.new.self.left ≡ c.loop-y.reader.left = ap (λ (r : Rest). r.left) c.skip_end_of_block.ensures.rest ∙ end-none c.loop-y.reader.left goes_on in
    let read = subst (λ (ys : List ℕ). ReadRow (row c.loop-y.bitmap.width (row_above c.loop-y.bitmap c.loop-y.y) ys) false c.loop-y.bitmap c.read_row.new.bitmap c.loop-y.y c.read_row.new.reader.left) left c.if-not-read_row.ensures.value in
    let fault = rows-fault w h c.loop-y.y c.loop-y.reader.left c.read_row.new.reader.left c.loop-y.bitmap c.read_row.new.bitmap (rows_of w h c.args.bytes.now) inv.reading (omega (arith, c.loop-y-test.true, c.height-height.ensures.value)) goes_on read in
    let told = rows-told c.args.bytes.now (rows_of w h c.args.bytes.now) _ c.loop-y.y (length c.args.bytes.now) fault.0 inv.reading.count (omega arith) in
    record {
      count = told.count;
      used = told.used;
      whole = told.whole;
      lanes = lanes-then c.args.steps.now c.loop-y.steps c.read_row.new.steps inv.lanes c.if-not-read_row.ensures.lanes;
      work = moves-then (rows_moves ((w + 63) / 64) c.loop-y.y (8 * length c.args.bytes.now - length c.loop-y.reader.left)) (3 * ((w + 63) / 64 + length c.loop-y.reader.left)) _ c.args.steps.now c.loop-y.steps c.read_row.new.steps inv.work
          (row-bound w c.loop-y.bitmap.width (length c.skip_end_of_block.new.self.left) (length c.loop-y.reader.left) c.loop-y.steps c.read_row.new.steps inv.reading.width (ap (λ (ys : List ℕ). length ys) left) wide c.if-not-read_row.ensures.work)
          (both (stop-moves ((w + 63) / 64) c.loop-y.y (8 * length c.args.bytes.now) (length c.loop-y.reader.left) inv.shorter)
          (all-moves ((w + 63) / 64) (c.loop-y.y + 1) h (8 * length c.args.bytes.now) _ (omega (arith, c.loop-y-test.true, c.height-height.ensures.value)) (omega arith)));
      grid = drawn-rows w h c.args.bytes.now inv.reading.done false [] c.read_row.new.bitmap fault.0 fault.1;
    }

pub loop-y-preserved : goal.loop-y-preserved
loop-y-preserved g c =
    let w : ℕ = c.args.bitmap.now.width in
    let h : ℕ = c.args.bitmap.now.height in
    let wide : 0 < c.args.bitmap.now.width = omega (arith, c.if-width-eq0.false, c.width.ensures.value) in
    let inv = c.loop-y.invariant in
    let goes_on : ends_block c.loop-y.reader.left ≡ false = sym c.if-skip_end_of_block.ensures.value in
    let left : c.skip_end_of_block.new.self.left ≡ c.loop-y.reader.left = ap (λ (r : Rest). r.left) c.skip_end_of_block.ensures.rest ∙ end-none c.loop-y.reader.left goes_on in
    let read = subst (λ (ys : List ℕ). ReadRow (row c.loop-y.bitmap.width (row_above c.loop-y.bitmap c.loop-y.y) ys) true c.loop-y.bitmap c.read_row.new.bitmap c.loop-y.y c.read_row.new.reader.left) left c.if-not-read_row.ensures.value in
    let after : length c.read_row.new.reader.left ≤ length c.loop-y.reader.left = subst (λ (ys : List ℕ). length c.read_row.new.reader.left ≤ length ys) left (c.if-not-read_row.ensures.shorter refl) in
    record {
      reading = rows-next w h c.loop-y.y c.loop-y.reader.left c.read_row.new.reader.left c.loop-y.bitmap c.read_row.new.bitmap (rows_of w h c.args.bytes.now) inv.reading (omega (arith, c.loop-y-test.true, c.height-height.ensures.value)) goes_on read;
      lanes = lanes-then c.args.steps.now c.loop-y.steps c.read_row.new.steps inv.lanes c.if-not-read_row.ensures.lanes;
      work = moves-then (rows_moves ((w + 63) / 64) c.loop-y.y (8 * length c.args.bytes.now - length c.loop-y.reader.left)) (3 * ((w + 63) / 64 + (length c.loop-y.reader.left - length c.read_row.new.reader.left))) _ c.args.steps.now c.loop-y.steps c.read_row.new.steps inv.work
          (row-bound w c.loop-y.bitmap.width (length c.skip_end_of_block.new.self.left - length c.read_row.new.reader.left) (length c.loop-y.reader.left - length c.read_row.new.reader.left) c.loop-y.steps c.read_row.new.steps inv.reading.width (ap (λ (ys : List ℕ). length ys - length c.read_row.new.reader.left) left) wide c.if-not-read_row.ensures.work)
          (next-moves ((w + 63) / 64) c.loop-y.y (8 * length c.args.bytes.now) (length c.loop-y.reader.left) (length c.read_row.new.reader.left) after inv.shorter);
      shorter = omega (arith, after, inv.shorter);
      within = omega (arith, c.loop-y-test.true, c.height-height.ensures.value);
      bytes = c.if-not-read_row.ensures.bytes ∙ ap (λ (r : Rest). r.bytes) c.skip_end_of_block.ensures.rest ∙ inv.bytes;
    }

pub returns : goal.returns
returns g c =
    let w : ℕ = c.args.bitmap.now.width in
    let h : ℕ = c.args.bitmap.now.height in
    let inv = c.loop-y.invariant in
    let used : c.bytes_used-2.result ≡ length c.args.bytes.now - length (after_end c.loop-y.reader.left) / 8 =
    c.bytes_used-2.ensures ∙ ap (λ (r : Rest). length r.bytes - length r.left / 8) c.skip_end_of_block-2.ensures.rest
    ∙ ap (λ (bs : List ℕ). length bs - length (after_end c.loop-y.reader.left) / 8) inv.bytes in
    let last = rows-last w h c.loop-y.y c.loop-y.reader.left c.loop-y.bitmap (rows_of w h c.args.bytes.now) inv.reading (omega (arith, c.loop-y-test.false, c.height-height.ensures.value)) in
    let drawn = rows-grid w h c.loop-y.y c.loop-y.reader.left c.loop-y.bitmap (rows_of w h c.args.bytes.now) inv.reading in
    let told = rows-told c.args.bytes.now (rows_of w h c.args.bytes.now) _ c.height-height.result c.bytes_used-2.result last (omega (arith, inv.reading.count, inv.within, c.loop-y-test.false, c.height-height.ensures.value)) used in
    record {
      count = told.count;
      used = told.used;
      whole = told.whole;
      lanes = inv.lanes;
      work = moves-most (rows_moves ((w + 63) / 64) c.loop-y.y (8 * length c.args.bytes.now - length c.loop-y.reader.left)) _ c.args.steps.now c.loop-y.steps inv.work
          (all-moves ((w + 63) / 64) c.loop-y.y h (8 * length c.args.bytes.now - length c.loop-y.reader.left) _ inv.within
          (used-bits (length c.args.bytes.now) (length c.loop-y.reader.left) (length (after_end c.loop-y.reader.left)) c.bytes_used-2.result (end-shorter c.loop-y.reader.left) used));
      grid = drawn-rows w h c.args.bytes.now inv.reading.done true (after_end c.loop-y.reader.left) c.loop-y.bitmap last drawn;
    }
