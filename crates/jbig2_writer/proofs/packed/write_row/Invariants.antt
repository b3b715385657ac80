use Rattle.std.proofs.Common.{◌≡◌, ◌≤◌, ◌+◌, ◌*◌, min}
use Rattle.jbig2_base.specs.inner.GridsBefore.{grid_before}
use Rattle.jbig2_writer.specs.Packed.{packed_pixel}
use Rattle.jbig2_writer.proofs.packed.write_row.Given as goal

abbrev pub invariant-loop-word : goal.invariant-loop-word
invariant-loop-word g l = record {
  bitmap : l.bitmap ≡ grid_before l.initial.bitmap.width l.initial.bitmap.height (packed_pixel l.initial.bitmap.width l.rows) l.y (min l.initial.bitmap.width (64 * l.word));
  words : l.steps.words ≤ l.initial.steps.words + l.word;
  steps : l.steps ≡ record l.initial.steps { words = l.steps.words };
}
