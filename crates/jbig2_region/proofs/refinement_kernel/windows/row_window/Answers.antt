use Rattle.jbig2_region.proofs.RefinementWindowLemmas.{sees-row}
use Rattle.jbig2_region.proofs.refinement_kernel.windows.row_window.Goals as goal

pub returns : goal.returns
returns c = λ g y all bits. sees-row g y c.args.width c.args.pixels c.requires.some c.requires.few all bits
