use Rattle.std.proofs.Common.{refl}
use Rattle.jbig2_region.proofs.PushLemmas.{shows-lowered}
use Rattle.jbig2_region.proofs.generic_kernel.narrow.windows_below.Goals as goal

pub returns : goal.returns
returns c = λ g g' y wide same bits shows. shows-lowered g g' y c.args.width c.args.pixels c.args.windows _ c.requires.some c.requires.few c.requires.bound refl refl wide same bits shows
