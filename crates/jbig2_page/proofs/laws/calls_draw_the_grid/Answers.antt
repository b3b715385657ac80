use Rattle.jbig2_page.proofs.Spelling.{spells as law}
use Rattle.jbig2_page.proofs.laws.calls_draw_the_grid.Goals as goal

pub returns : goal.returns
returns c = law
