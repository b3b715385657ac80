use Rattle.jbig2_inverses.proofs.coded_data_is_short.Goals as goal
use Rattle.jbig2_inverses.proofs.CodedLength as lemmas

pub returns : goal.returns
returns c = lemmas.coded_data_is_short
