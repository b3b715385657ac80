use Rattle.std.proofs.Common.{arith}
use Rattle.jbig2_mmr.proofs.T6Changes.{neighbours-first, neighbours-others}
use Rattle.jbig2_mmr.proofs.mmr.change.left_neighbours.Goals as goal

pub returns-clause-first : goal.returns-clause-first
returns-clause-first c = neighbours-first c.args.pixels c.args.before (omega (arith, c.ranges.pixels))

pub returns-clause-others : goal.returns-clause-others
returns-clause-others c = λ k inside. neighbours-others c.args.pixels c.args.before k inside
