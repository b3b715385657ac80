use Rattle.jbig2_page_laws.proofs.pixels_are_folds.Goals as goal
use Rattle.jbig2_page_laws.proofs.PagePixels as lemmas

pub returns : goal.returns
returns c = lemmas.pixels_are_folds
