use Rattle.jbig2_page.proofs.Untouched.{strict_passes_nothing as law}
use Rattle.jbig2_page.proofs.laws.strict_reading_passes_nothing.Goals as goal

pub returns : goal.returns
returns c = law
