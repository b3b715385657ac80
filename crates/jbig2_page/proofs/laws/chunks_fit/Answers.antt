use Rattle.jbig2_page.proofs.Chunks.{chunks-fit as law}
use Rattle.jbig2_page.proofs.laws.chunks_fit.Goals as goal

pub returns : goal.returns
returns c = law
