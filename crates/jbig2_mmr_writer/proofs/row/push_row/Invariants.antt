use Rattle.std.proofs.Common.{◌≡◌, ◌+◌, ◌-◌, ◌*◌, ◌≤◌, ◌++◌}
use Rattle.jbig2_mmr.specs.inner.T6Reading.{row_above, pixels_of_row}
use Rattle.jbig2_inverses.specs.MmrRowWriter.{bits_from, row_bits}
use Rattle.jbig2_mmr_writer.specs.inner.Places.{IsPlace, head_of}
use Rattle.jbig2_mmr_writer.proofs.row.push_row.Given as goal

abbrev pub invariant-loop : goal.invariant-loop
invariant-loop g l = record {
  place : IsPlace l.bitmap l.y l.place;
  bits : l.writer ++ bits_from l.bitmap.width (pixels_of_row l.bitmap l.above) (pixels_of_row l.bitmap l.y) (l.bitmap.width + 1 - l.counter) (head_of l.place)
      ≡ l.fn.writer ++ row_bits l.bitmap.width (row_above l.bitmap l.y) (pixels_of_row l.bitmap l.y);
  loads : l.steps.loads ≤ l.fn.steps.loads + (5 * l.counter + l.place.a0 + l.place.a1 + 1);
  steps : l.steps ≡ record l.fn.steps { loads = l.steps.loads };
}
