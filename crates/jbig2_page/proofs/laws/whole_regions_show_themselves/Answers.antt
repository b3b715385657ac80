use Rattle.jbig2_page.proofs.Direct.{combined-over as law}
use Rattle.jbig2_page.proofs.laws.whole_regions_show_themselves.Goals as goal

pub returns : goal.returns
returns c = law
