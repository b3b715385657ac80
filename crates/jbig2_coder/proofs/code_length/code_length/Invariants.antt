use Rattle.std.proofs.Common.{ℕ, ◌-◌, ◌<◌, ◌≤◌, ◌^◌}
use Rattle.jbig2_coder.proofs.code_length.code_length.Given as goal

abbrev pub invariant-loop-bits : goal.invariant-loop-bits
invariant-loop-bits l = record {
  small : l.bits ≤ 22;
  below : (j : ℕ) → j < l.bits → 2 ^ j < l.count;
}

abbrev pub decreases-loop-bits : goal.decreases-loop-bits
decreases-loop-bits l = 22 - l.bits
