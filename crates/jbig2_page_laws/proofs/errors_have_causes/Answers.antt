use Rattle.jbig2_page_laws.proofs.errors_have_causes.Goals as goal
use Rattle.jbig2_page_laws.proofs.PageErrors as lemmas

pub returns : goal.returns
returns c = lemmas.errors_have_causes
