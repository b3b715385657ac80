use Rattle.jbig2_inverses.proofs.rows_read_back.Goals as goal
use Rattle.jbig2_inverses.proofs.RowInverse as lemmas

pub returns : goal.returns
returns c = lemmas.rows_read_back
