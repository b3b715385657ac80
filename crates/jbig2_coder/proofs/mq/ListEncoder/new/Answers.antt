use Rattle.jbig2_coder.specs.Encoder.{CodingInContexts}
use Rattle.jbig2_coder.proofs.ListSteps.{coded-none}
use Rattle.jbig2_coder.proofs.mq.ListEncoder.new.Goals as goal

pub returns-clause-coded : goal.returns-clause-coded
returns-clause-coded g c =
    let s : CodingInContexts = record { coding = c.new.result; contexts = c.in_ok-contexts.contexts.items } in
    coded-none s c.new.ensures c.in_ok-contexts.ensures.fresh
