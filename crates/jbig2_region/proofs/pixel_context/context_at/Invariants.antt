use Rattle.std.proofs.Common.{◌≡◌, ◌≤◌, ◌+◌, ◌-◌, length, drop}
use Rattle.jbig2_region.specs.Generic.{context_at}
use Rattle.jbig2_region.proofs.pixel_context.context_at.Given as goal

abbrev pub invariant-loop-left : goal.invariant-loop-left
invariant-loop-left g l = record {
  within : l.left ≤ length l.pixels;
  steps : l.steps ≡ record l.initial.steps { loads = l.initial.steps.loads + (length l.pixels - l.left) };
  value : l.context ≡ context_at (drop l.left l.pixels) l.bitmap l.x l.y;
}

abbrev pub decreases-loop-left : goal.decreases-loop-left
decreases-loop-left g l = l.left
