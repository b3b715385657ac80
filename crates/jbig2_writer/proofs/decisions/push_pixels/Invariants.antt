use Rattle.std.proofs.Common.{◌≡◌, ◌≤◌, ◌+◌, ◌*◌, min}
use Rattle.jbig2_coder.specs.Encoder.{Codes}
use Rattle.jbig2_writer.specs.inner.Rows.{decisions_of_pixels}
use Rattle.jbig2_region.specs.inner.Neighbours.{nominal_pixels}
use Rattle.jbig2_writer.proofs.decisions.push_pixels.Given as goal

abbrev pub invariant-loop-index : goal.invariant-loop-index
invariant-loop-index g l = record {
  pixels : Codes l.initial.encoder l.encoder (decisions_of_pixels (nominal_pixels l.neighbours) l.bitmap l.y (min (l.index * 32) l.bitmap.width));
  loads : l.steps.loads ≤ l.initial.steps.loads + 3 * l.index;
  steps : l.steps ≡ record l.initial.steps { loads = l.steps.loads };
}
