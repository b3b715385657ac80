use Rattle.std.proofs.Common.{arith, ◌/◌, ◌%◌}
use Rattle.jbig2_region.proofs.RefinementLaneLemmas.{gathered-1}
use Rattle.jbig2_region.proofs.refinement_kernel.lanes.gathered_1.Goals as goal

pub returns : goal.returns
returns c = gathered-1 (c.args.below % 4) c.args.here (c.args.above / 2 % 2) c.args.region (omega arith) c.requires.here (omega arith) c.requires.region
