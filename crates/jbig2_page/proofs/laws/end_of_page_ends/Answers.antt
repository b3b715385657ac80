use Rattle.jbig2_page.proofs.Order.{end_of_page_ends as law}
use Rattle.jbig2_page.proofs.laws.end_of_page_ends.Goals as goal

pub returns : goal.returns
returns c = law
