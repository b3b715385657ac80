use Rattle.std.proofs.Common.{arith}
use Rattle.jbig2_region.proofs.RefinementKnownLemmas.{known-none, known-result}
use Rattle.jbig2_region.proofs.refinement_kernel.windows.RefinementWindows.known_columns.Goals as goal

pub returns-then-not-predicted : goal.returns-then-not-predicted
returns-then-not-predicted c = λ k few. rw c.if-not-predicted.true (known-none c.args.self.here _)

pub returns : goal.returns
returns c = λ k few. rw c.if-not-predicted.false (known-result c.args.self k few (omega arith) (omega arith) (omega arith))
