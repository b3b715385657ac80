use Rattle.jbig2_page.proofs.Complete.{complete_pages_are_strict as law}
use Rattle.jbig2_page.proofs.laws.complete_pages_are_strict.Goals as goal

pub returns : goal.returns
returns c = law
