use Rattle.jbig2_page.proofs.Untouched.{pages_keep_their_size as law}
use Rattle.jbig2_page.proofs.laws.pages_keep_their_size.Goals as goal

pub returns : goal.returns
returns c = law
