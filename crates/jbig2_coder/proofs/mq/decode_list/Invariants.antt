use Rattle.std.proofs.Common.{◌≡◌, ◌+◌, ◌^◌, ◌++◌, drop, length}
use Rattle.jbig2_coder.specs.Encoder.{contexts_of, read_back, decoded_from}
use Rattle.jbig2_coder.proofs.mq.decode_list.Given as goal

abbrev pub invariant-loop-number : goal.invariant-loop-number
invariant-loop-number g l = record {
  same :
      read_back l.bytes l.fn.contexts
      ≡ l.decisions.items ++ decoded_from l.decoder.bytes l.decoder.registers (contexts_of l.table.items) (drop l.number-index l.contexts);
  room : length l.table.items ≡ 2 ^ 16;
  steps : l.steps ≡ record l.initial.steps { decisions = l.initial.steps.decisions + l.number-index };
}
