use Rattle.std.proofs.Common.{◌≡◌, ◌*◌, replicate}
use Rattle.jbig2_halftone.proofs.gray_scale.zeros.Given as goal

abbrev pub invariant-loop : goal.invariant-loop
invariant-loop g l = record {
  zeros : l.values.items ≡ replicate (l.counter * 256) 0;
}
