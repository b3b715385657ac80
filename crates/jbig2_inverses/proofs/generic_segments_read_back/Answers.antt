use Rattle.jbig2_inverses.proofs.generic_segments_read_back.Goals as goal
use Rattle.jbig2_inverses.proofs.GenericSegmentInverse as lemmas

pub returns : goal.returns
returns c = lemmas.generic_segments_read_back
