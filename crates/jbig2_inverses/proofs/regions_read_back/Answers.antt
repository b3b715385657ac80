use Rattle.jbig2_inverses.proofs.regions_read_back.Goals as goal
use Rattle.jbig2_inverses.proofs.RegionInverse as lemmas

pub returns : goal.returns
returns c = lemmas.regions_read_back
