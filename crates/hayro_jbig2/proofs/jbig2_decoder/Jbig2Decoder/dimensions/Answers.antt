use Rattle.jbig2_page.proofs.Sides.{first-sides}
use Rattle.hayro_jbig2.proofs.jbig2_decoder.Jbig2Decoder.dimensions.Goals as goal

pub returns-clause-sides : goal.returns-clause-sides
returns-clause-sides g c = first-sides c.self.inside.bytes.items c.self.inside.width c.self.inside.height c.self.invariant
