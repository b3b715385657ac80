use Rattle.jbig2_halftone.proofs.LaneLemmas.{spread-lanes}
use Rattle.jbig2_halftone.proofs.gray_scale.groups.spread.Goals as goal

pub returns-clause-value : goal.returns-clause-value
returns-clause-value c = spread-lanes c.args.byte
