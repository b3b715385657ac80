use Rattle.jbig2_inverses.proofs.integers_read_back.Goals as goal
use Rattle.jbig2_inverses.proofs.IntegerInverse as lemmas

pub returns : goal.returns
returns c = lemmas.integers_read_back
