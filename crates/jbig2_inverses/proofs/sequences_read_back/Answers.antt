use Rattle.jbig2_inverses.proofs.sequences_read_back.Goals as goal
use Rattle.jbig2_inverses.proofs.SequenceInverse as lemmas

pub returns : goal.returns
returns c = lemmas.sequences_read_back
