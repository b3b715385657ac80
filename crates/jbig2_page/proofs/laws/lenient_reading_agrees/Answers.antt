use Rattle.jbig2_page.proofs.AgreeingPages.{lenient_reading_agrees as law}
use Rattle.jbig2_page.proofs.laws.lenient_reading_agrees.Goals as goal

pub returns : goal.returns
returns c = law
