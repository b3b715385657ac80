use Rattle.std.proofs.Common.{arith}
use Rattle.jbig2_steps.proofs.WorkLemmas.{decided-worth}
use Rattle.jbig2_text.proofs.coded.CodedReadings.next_id.Goals as goal

pub returns-clause-paid : goal.returns-clause-paid
returns-clause-paid g c = decided-worth c.args.work.now c.decode.new.steps _ 38 c.decode.ensures.steps (omega (arith, c.decode.ensures.few))
