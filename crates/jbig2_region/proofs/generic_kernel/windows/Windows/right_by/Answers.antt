use Rattle.std.proofs.Common.{refl}
use Rattle.jbig2_region.proofs.WindowLemmas.{shows-moved}
use Rattle.jbig2_region.proofs.generic_kernel.windows.Windows.right_by.Goals as goal

pub returns : goal.returns
returns c = λ g x y seen few shows. shows-moved g x y seen c.args.pixels _ c.args.self few refl refl shows
