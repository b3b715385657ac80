use Rattle.jbig2_symbol.proofs.laws.codings_have_causes.Goals as goal
use Rattle.jbig2_symbol.proofs.CodingCauses as lemmas

pub returns : goal.returns
returns c = lemmas.codings_have_causes
