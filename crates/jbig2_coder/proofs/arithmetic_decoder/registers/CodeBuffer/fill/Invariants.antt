use Rattle.std.proofs.Common.{◌≡◌, ◌%◌, ◌-◌}
use Rattle.jbig2_coder.specs.inner.Ahead.{IsAhead, seen_of}
use Rattle.jbig2_coder.proofs.arithmetic_decoder.registers.CodeBuffer.fill.Given as goal

abbrev pub invariant-loop-code : goal.invariant-loop-code
invariant-loop-code l = record {
  ahead : IsAhead l.bytes l.code;
  whole : l.code.bits % 8 ≡ 0;
  same : seen_of l.code ≡ seen_of l.fn.self;
}

abbrev pub decreases-loop-code : goal.decreases-loop-code
decreases-loop-code l = 41 - l.code.bits
