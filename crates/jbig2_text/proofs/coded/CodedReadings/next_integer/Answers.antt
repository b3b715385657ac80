use Rattle.jbig2_coder.proofs.ReadingCounts.{integer-few}
use Rattle.jbig2_steps.proofs.WorkLemmas.{decided-worth}
use Rattle.jbig2_text.proofs.coded.CodedReadings.next_integer.Goals as goal

pub returns-clause-paid : goal.returns-clause-paid
returns-clause-paid g c = decided-worth c.args.work.now c.ask.new.steps _ 38 c.ask.ensures.steps (integer-few _ _ _)
