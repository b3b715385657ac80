use Rattle.std.proofs.Common.{◌≡◌, ◌-◌, ◌≤◌, length}
use Rattle.jbig2_base.specs.Counts.{KeepsLanes}
use Rattle.jbig2_mmr.specs.T6.{row}
use Rattle.jbig2_mmr.specs.inner.T6Reading.{row_above}
use Rattle.jbig2_mmr.specs.inner.T6Calls.{head_of, IsWordOf}
use Rattle.jbig2_mmr.specs.Steps.{MovesWithin}
use Rattle.jbig2_mmr.proofs.T6Rows.{RowReading}
use Rattle.jbig2_mmr.proofs.T6Steps.{row_moves}
use Rattle.jbig2_mmr.proofs.mmr.row.read_row.Given as goal

abbrev pub invariant-loop-place : goal.invariant-loop-place
invariant-loop-place g l = record {
  lanes : KeepsLanes l.fn.steps l.steps;
  work : MovesWithin (row_moves l.place.a0 (length l.fn.reader.left - length l.reader.left)) l.fn.steps l.steps;
  shorter : length l.reader.left ≤ length l.fn.reader.left;
  reading : RowReading l.fn.bitmap l.bitmap l.y (head_of l.place) l.reader.left (row l.fn.bitmap.width (row_above l.fn.bitmap l.y) l.fn.reader.left);
  word : IsWordOf (row_above l.fn.bitmap l.y) l.word;
  bytes : l.reader.bytes ≡ l.fn.reader.bytes;
}

abbrev pub decreases-loop-place : goal.decreases-loop-place
decreases-loop-place g l = length l.reader.left
