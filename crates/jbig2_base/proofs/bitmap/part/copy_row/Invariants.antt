use Rattle.std.proofs.Common.{◌≡◌, ◌*◌, min}
use Rattle.jbig2_base.specs.Counts.{words_copied}
use Rattle.jbig2_base.specs.inner.GridsBefore.{grid_before, pixel_of_part}
use Rattle.jbig2_base.proofs.bitmap.part.copy_row.Given as goal

abbrev pub invariant-loop-word : goal.invariant-loop-word
invariant-loop-word g l = record {
  part : l.part ≡ grid_before l.area.width l.area.height (pixel_of_part l.bitmap l.area) l.y (min l.area.width (64 * l.word));
  steps : l.steps ≡ words_copied l.word l.fn.steps;
}
