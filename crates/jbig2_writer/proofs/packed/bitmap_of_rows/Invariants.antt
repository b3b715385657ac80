use Rattle.std.proofs.Common.{◌≡◌, ◌≤◌, ◌+◌, ◌*◌, ◌/◌}
use Rattle.jbig2_base.specs.inner.GridsBefore.{grid_before}
use Rattle.jbig2_writer.specs.Packed.{packed_pixel}
use Rattle.jbig2_writer.proofs.packed.bitmap_of_rows.Given as goal

abbrev pub invariant-loop-y : goal.invariant-loop-y
invariant-loop-y g l = record {
  bitmap : l.bitmap ≡ grid_before l.width l.height (packed_pixel l.width l.rows) l.y 0;
  words : l.steps.words ≤ l.initial.steps.words + (l.width + 63) / 64 * l.y;
  steps : l.steps ≡ record l.initial.steps { words = l.steps.words };
}
