use Rattle.std.proofs.Common.{◌≡◌, ◌-◌, ◌<◌, ◌≤◌}
use Rattle.jbig2_coder.specs.Coder.{renormd}
use Rattle.jbig2_coder.specs.inner.Ahead.{IsAhead, seen_of}
use Rattle.jbig2_coder.proofs.arithmetic_decoder.registers.BufferedRegisters.renormalize_by_turns.Given as goal

abbrev pub invariant-loop-self : goal.invariant-loop-self
invariant-loop-self l = record {
  same : renormd l.bytes 15 l.initial.self.a (seen_of l.initial.self.code) ≡ renormd l.bytes 15 l.self.a (seen_of l.self.code);
  ahead : IsAhead l.bytes l.self.code;
  some : 1 ≤ l.self.a;
  below : l.self.a < 0x10000;
}

abbrev pub decreases-loop-self : goal.decreases-loop-self
decreases-loop-self l = 0x10000 - l.self.a
