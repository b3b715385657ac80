use Rattle.std.proofs.Common.{rules}
use Rattle.jbig2_region.proofs.RefinementWindowLemmas.{sees-at}
use Rattle.jbig2_region.proofs.refinement_kernel.windows.window_below.Goals as goal

pub returns-clause-value : goal.returns-clause-value
returns-clause-value g c = sees-at c.args.reference.now.bitmap.now _ _ _ _ c.window.result c.window.ensures.value (search rules) (search rules)
