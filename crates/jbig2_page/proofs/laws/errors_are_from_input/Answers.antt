use Rattle.jbig2_page.proofs.DrawingFromInput.{errors_are_from_input as law}
use Rattle.jbig2_page.proofs.laws.errors_are_from_input.Goals as goal

pub returns : goal.returns
returns c = law
