use Rattle.jbig2_inverses.proofs.page_information_reads_back.Goals as goal
use Rattle.jbig2_inverses.proofs.SegmentInverse as lemmas

pub returns : goal.returns
returns c = lemmas.page_information_reads_back
