use Rattle.jbig2_page.proofs.Refusing.{salvage_refuses_little as law}
use Rattle.jbig2_page.proofs.laws.salvage_refuses_little.Goals as goal

pub returns : goal.returns
returns c = law
