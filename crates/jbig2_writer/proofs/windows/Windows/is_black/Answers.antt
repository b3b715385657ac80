use Rattle.jbig2_writer.proofs.WindowLemmas.{black-is}
use Rattle.jbig2_writer.proofs.windows.Windows.is_black.Goals as goal

pub returns : goal.returns
returns c = λ grid x y shows. black-is grid x y c.args.offset c.bits.result c.args.self c.requires shows c.bits.ensures.value
