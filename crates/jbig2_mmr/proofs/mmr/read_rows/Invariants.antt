use Rattle.std.proofs.Common.{◌≡◌, ◌+◌, ◌-◌, ◌*◌, ◌/◌, ◌≤◌, length}
use Rattle.jbig2_base.specs.Counts.{KeepsLanes}
use Rattle.jbig2_mmr.specs.T6.{rows_of}
use Rattle.jbig2_mmr.specs.Steps.{MovesWithin}
use Rattle.jbig2_mmr.proofs.T6Decoding.{RowsReading}
use Rattle.jbig2_mmr.proofs.T6Steps.{rows_moves}
use Rattle.jbig2_mmr.proofs.mmr.read_rows.Given as goal

abbrev pub invariant-loop-y : goal.invariant-loop-y
invariant-loop-y g l = record {
  lanes : KeepsLanes l.fn.steps l.steps;
  work : MovesWithin (rows_moves ((l.fn.bitmap.width + 63) / 64) l.y (8 * length l.bytes - length l.reader.left)) l.fn.steps l.steps;
  shorter : length l.reader.left ≤ 8 * length l.bytes;
  within : l.y ≤ l.fn.bitmap.height;
  reading : RowsReading l.fn.bitmap.width l.fn.bitmap.height l.y l.reader.left l.bitmap (rows_of l.fn.bitmap.width l.fn.bitmap.height l.bytes);
  bytes : l.reader.bytes ≡ l.bytes;
}
