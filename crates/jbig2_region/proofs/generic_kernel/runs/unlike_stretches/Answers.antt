use Rattle.std.proofs.Common.{◌-◌}
use Rattle.jbig2_region.specs.inner.Neighbours.{stretch_stays}
use Rattle.jbig2_region.proofs.UnlikeLemmas.{both-unlike}
use Rattle.jbig2_region.proofs.generic_kernel.runs.unlike_stretches.Goals as goal

pub returns : goal.returns
returns c = λ m within.
    both-unlike (stretch_stays c.args.neighbours.above m c.args.black c.args.windows.above) (stretch_stays c.args.neighbours.top m c.args.black c.args.windows.top) (56 - m) c.unlike_stretch-above.result c.unlike_stretch-top.result
    (c.unlike_stretch-above.ensures m within) (c.unlike_stretch-top.ensures m within)
