use Rattle.std.proofs.Common.{◌≡◌, ◌≤◌, ◌+◌, ◌*◌, ◌/◌}
use Rattle.jbig2_coder.specs.Encoder.{HasCoded}
use Rattle.jbig2_writer.specs.inner.Rows.{predicted_before, decisions_of_rows}
use Rattle.jbig2_writer.proofs.decisions.coded_rows.Given as goal

abbrev pub invariant-loop-y : goal.invariant-loop-y
invariant-loop-y g l = record {
  rows : HasCoded l.encoder (decisions_of_rows l.coding l.bitmap l.y);
  predicted : l.predicted ≡ predicted_before l.coding l.bitmap l.y;
  loads : l.steps.loads ≤ l.initial.steps.loads + 5 * ((l.bitmap.width + 31) / 32 * l.y);
  steps : l.steps ≡ record l.initial.steps { loads = l.steps.loads };
}
