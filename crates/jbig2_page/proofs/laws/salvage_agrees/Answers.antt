use Rattle.jbig2_page.proofs.AgreeingPages.{salvage_agrees as law}
use Rattle.jbig2_page.proofs.laws.salvage_agrees.Goals as goal

pub returns : goal.returns
returns c = law
