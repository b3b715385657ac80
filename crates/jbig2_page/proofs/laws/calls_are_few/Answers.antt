use Rattle.jbig2_page.proofs.Chunks.{calls-few as law}
use Rattle.jbig2_page.proofs.laws.calls_are_few.Goals as goal

pub returns : goal.returns
returns c = law
