use Rattle.std.proofs.Common.{◌≡◌, ◌+◌, ◌*◌, ◌≤◌, ◌++◌}
use Rattle.jbig2_mmr_writer.proofs.RowLemmas.{all_rows, rows_from}
use Rattle.jbig2_mmr_writer.proofs.bitmap.coded_mmr.Given as goal

abbrev pub invariant-loop-y : goal.invariant-loop-y
invariant-loop-y g l = record {
  bits : l.writer ++ rows_from l.bitmap l.y ≡ all_rows l.bitmap;
  loads : l.steps.loads ≤ l.fn.steps.loads + 7 * ((l.bitmap.width + 1) * l.y);
  steps : l.steps ≡ record l.fn.steps { loads = l.steps.loads };
}
