use Rattle.jbig2_page.proofs.Untouched.{untouched-blank as law}
use Rattle.jbig2_page.proofs.laws.untouched_pages_are_blank.Goals as goal

pub returns : goal.returns
returns c = law
