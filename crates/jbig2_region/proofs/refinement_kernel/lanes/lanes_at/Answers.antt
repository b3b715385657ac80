use Rattle.std.proofs.Common.{arith, refl}
use Rattle.jbig2_region.proofs.RefinementLaneLemmas.{lanes-made}
use Rattle.jbig2_region.proofs.refinement_kernel.lanes.lanes_at.Goals as goal

pub returns : goal.returns
returns c =
    lanes-made c.args.windows c.args.offset _ _ _ _ _ c.requires.offset refl refl refl refl (omega arith) (omega arith) (omega arith) refl
