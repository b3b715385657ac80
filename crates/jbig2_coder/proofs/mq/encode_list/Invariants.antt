use Rattle.std.proofs.Common.{take}
use Rattle.jbig2_coder.specs.Encoder.{HasCoded}
use Rattle.jbig2_coder.proofs.mq.encode_list.Given as goal

abbrev pub invariant-loop-number : goal.invariant-loop-number
invariant-loop-number g l = HasCoded l.encoder (take l.number-index l.list)
