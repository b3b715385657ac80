use Rattle.std.proofs.Common.{◌≡◌, ◌+◌, ◌*◌, ◌/◌}
use Rattle.jbig2_base.specs.Counts.{words_copied}
use Rattle.jbig2_base.specs.inner.GridsBefore.{grid_before, pixel_of_part}
use Rattle.jbig2_base.proofs.bitmap.Bitmap.part.Given as goal

abbrev pub invariant-loop-y : goal.invariant-loop-y
invariant-loop-y g l = record {
  part : l.part ≡ grid_before l.area.width l.area.height (pixel_of_part l.self l.area) l.y 0;
  steps : l.steps ≡ words_copied ((l.area.width + 63) / 64 * l.y) l.initial.steps;
}
