use Rattle.jbig2_inverses.proofs.prefix_codes_read_back.Goals as goal
use Rattle.jbig2_inverses.proofs.PrefixInverse as lemmas

pub returns : goal.returns
returns c = lemmas.prefix_codes_read_back
