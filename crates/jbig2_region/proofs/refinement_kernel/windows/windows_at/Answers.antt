use Rattle.std.proofs.Common.{rules}
use Rattle.jbig2_region.proofs.RefinementWindowLemmas.{sees-at}
use Rattle.jbig2_region.proofs.refinement_kernel.windows.windows_at.Goals as goal

pub returns-clause-value : goal.returns-clause-value
returns-clause-value g c = record {
  region = sees-at c.args.bitmap.now _ _ _ _ c.window.result c.window.ensures.value (search rules) (search rules);
  above = sees-at c.args.reference.now.bitmap.now _ _ _ _ c.window-2.result c.window-2.ensures.value (search rules) (search rules);
  here = sees-at c.args.reference.now.bitmap.now _ _ _ _ c.window-3.result c.window-3.ensures.value (search rules) (search rules);
  below = sees-at c.args.reference.now.bitmap.now _ _ _ _ c.window-4.result c.window-4.ensures.value (search rules) (search rules);
}
