use Rattle.jbig2_page_inverse.proofs.page_files_read_back.Goals as goal
use Rattle.jbig2_page_inverse.proofs.PageFileInverse as lemmas

pub returns : goal.returns
returns c = lemmas.page_files_read_back
