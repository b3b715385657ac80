use Rattle.std.proofs.Common.{◌≡◌, ◌<◌, ◌≤◌, ◌+◌, ◌-◌, ◌^◌, ◌++◌, Bool, List, length, drop, map}
use Rattle.jbig2_base.specs.Bits.{number_of}
use Rattle.jbig2_region.specs.Refinement.{reference_pixel}
use Rattle.jbig2_region.specs.inner.ReferenceViews.{reference_view}
use Rattle.jbig2_region.proofs.refinement_coding.RefinementCoding.number.Given as goal

abbrev pub invariant-loop-left : goal.invariant-loop-left
invariant-loop-left g l = record {
  within : l.left ≤ length l.pixels;
  steps : l.steps ≡ record l.initial.steps { loads = l.initial.steps.loads + (length l.pixels - l.left) };
  bound : l.number < 2 ^ (13 - l.left);
  value : (bits : List Bool) → l.high ≡ number_of bits → l.number ≡ number_of (map (reference_pixel (reference_view l.self.reference.now) l.x l.y) (drop l.left l.pixels) ++ bits);
}

abbrev pub decreases-loop-left : goal.decreases-loop-left
decreases-loop-left g l = l.left
