use Rattle.jbig2_inverses.proofs.generic_regions_read_back.Goals as goal
use Rattle.jbig2_inverses.proofs.GenericInverse as lemmas

pub returns : goal.returns
returns c = lemmas.generic_regions_read_back
