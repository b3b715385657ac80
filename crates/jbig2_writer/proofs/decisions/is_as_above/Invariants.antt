use Rattle.std.proofs.Common.{ℕ, ◌≡◌, ◌<◌, ◌≤◌, ◌+◌, ◌*◌}
use Rattle.jbig2_base.specs.Grid.{pixel_at}
use Rattle.jbig2_inverses.specs.RegionWriter.{row_above}
use Rattle.jbig2_writer.proofs.decisions.is_as_above.Given as goal

abbrev pub invariant-loop-index : goal.invariant-loop-index
invariant-loop-index g l = record {
  same : (i : ℕ) → i < l.index * 64 → pixel_at l.bitmap i l.y ≡ row_above (pixel_at l.bitmap) l.y i;
  loads : l.steps.loads ≤ l.initial.steps.loads + 2 * l.index;
  steps : l.steps ≡ record l.initial.steps { loads = l.steps.loads };
}
