use Rattle.std.proofs.Common.{◌≡◌, ◌+◌, ◌*◌, ◌/◌}
use Rattle.jbig2_base.specs.Counts.{words_made}
use Rattle.jbig2_halftone.specs.inner.FunctionResults.{patterns_cut}
use Rattle.jbig2_halftone.specs.Patterns.{patterns_of}
use Rattle.jbig2_halftone.proofs.pattern.cut_patterns.Given as goal

abbrev pub invariant-loop-k : goal.invariant-loop-k
invariant-loop-k g l = record {
  cut : l.patterns.items ≡ patterns_of l.collective l.width l.height l.k;
  steps : l.steps ≡ patterns_cut l.k l.k (words_made l.width l.height) ((l.width + 63) / 64 * l.height) l.fn.steps;
}
