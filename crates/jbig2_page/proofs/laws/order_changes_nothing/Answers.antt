use Rattle.jbig2_page.proofs.Order.{order_changes_nothing as law}
use Rattle.jbig2_page.proofs.laws.order_changes_nothing.Goals as goal

pub returns : goal.returns
returns c = law
