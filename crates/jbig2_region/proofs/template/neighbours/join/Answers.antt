use Rattle.jbig2_region.proofs.ContextBits.{joined-lt}
use Rattle.jbig2_region.proofs.template.neighbours.join.Goals as goal

pub returns-clause-bound : goal.returns-clause-bound
returns-clause-bound c = λ m less. joined-lt c.args.low c.args.high c.args.count m c.requires.low less c.requires.few
