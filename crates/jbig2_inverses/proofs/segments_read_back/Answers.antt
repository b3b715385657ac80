use Rattle.jbig2_inverses.proofs.segments_read_back.Goals as goal
use Rattle.jbig2_inverses.proofs.SegmentInverse as lemmas

pub returns : goal.returns
returns c = lemmas.segments_read_back
