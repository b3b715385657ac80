use Rattle.jbig2_page_inverse.proofs.pages_read_back.Goals as goal
use Rattle.jbig2_page_inverse.proofs.PageInverse as lemmas

pub returns : goal.returns
returns c = lemmas.pages_read_back
