use Rattle.jbig2_coder.proofs.Inverse.{decodes_back}
use Rattle.jbig2_coder.proofs.mq.decodes_back.Goals as goal

pub returns : goal.returns
returns c = decodes_back
