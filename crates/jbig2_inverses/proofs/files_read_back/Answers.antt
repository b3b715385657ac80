use Rattle.jbig2_inverses.proofs.files_read_back.Goals as goal
use Rattle.jbig2_inverses.proofs.FileInverse as lemmas

pub returns : goal.returns
returns c = lemmas.files_read_back
