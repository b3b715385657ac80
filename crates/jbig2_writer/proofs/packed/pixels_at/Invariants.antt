use Rattle.std.proofs.Common.{ℕ, ◌≡◌, ◌<◌, ◌-◌, ◌*◌, ◌^◌}
use Rattle.jbig2_base.specs.Bits.{bit}
use Rattle.jbig2_writer.proofs.PackedLemmas.{bits_from}
use Rattle.jbig2_writer.proofs.packed.pixels_at.Given as goal

abbrev pub invariant-loop-index : goal.invariant-loop-index
invariant-loop-index l = record {
  bound : l.pixels < 2 ^ (8 * l.index);
  bits : (k : ℕ) → k < 8 * l.index → bit l.pixels (8 * l.index - 1 - k) ≡ bits_from l.rows l.first k;
}
