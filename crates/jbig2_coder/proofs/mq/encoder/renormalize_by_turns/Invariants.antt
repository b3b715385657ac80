use Rattle.std.proofs.Common.{◌≡◌, ◌-◌, ◌<◌, ◌≤◌}
use Rattle.jbig2_coder.specs.Encoder.{renorme}
use Rattle.jbig2_coder.specs.inner.EncoderViews.{writer_of, HasRoom}
use Rattle.jbig2_coder.proofs.mq.encoder.renormalize_by_turns.Given as goal

abbrev pub invariant-loop-registers : goal.invariant-loop-registers
invariant-loop-registers g l = record {
  same : renorme 15 l.fn.registers.a (writer_of l.initial.bytes.items l.fn.registers.code) ≡ renorme 15 l.registers.a (writer_of l.bytes.items l.registers.code);
  some : 1 ≤ l.registers.a;
  below : l.registers.a < 0x10000;
  room : HasRoom l.registers.a l.registers.code;
}

abbrev pub decreases-loop-registers : goal.decreases-loop-registers
decreases-loop-registers g l = 0x10000 - l.registers.a
