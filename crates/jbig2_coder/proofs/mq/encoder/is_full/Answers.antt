use Rattle.std.proofs.Common.{sym}
use Rattle.jbig2_coder.proofs.Encoders.{is_full-none, is_full-last}
use Rattle.jbig2_coder.proofs.mq.encoder.is_full.Goals as goal

pub returns-in-None : goal.returns-in-None
returns-in-None c = sym (is_full-none _ c.in-None.ensures)

pub returns-in-Some : goal.returns-in-Some
returns-in-Some c = sym (is_full-last c.in-Some.last _ _ c.in-Some.ensures)
