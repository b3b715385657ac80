use Rattle.jbig2_region.proofs.RefinementLaneLemmas.{gathered-0}
use Rattle.jbig2_region.proofs.refinement_kernel.lanes.gathered_0.Goals as goal

pub returns : goal.returns
returns c = gathered-0 c.args.below c.args.here c.args.above c.args.region c.requires.below c.requires.here c.requires.above c.requires.region
