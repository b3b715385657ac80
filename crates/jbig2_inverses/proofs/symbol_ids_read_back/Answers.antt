use Rattle.jbig2_inverses.proofs.symbol_ids_read_back.Goals as goal
use Rattle.jbig2_inverses.proofs.IntegerInverse as lemmas

pub returns : goal.returns
returns c = lemmas.symbol_ids_read_back
