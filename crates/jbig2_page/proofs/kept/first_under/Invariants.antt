use Rattle.std.proofs.Common.{◌≡◌, drop}
use Rattle.jbig2_page.specs.Names.{first_kept}
use Rattle.jbig2_page.proofs.kept.first_under.Given as goal

abbrev pub invariant-loop-candidate : goal.invariant-loop-candidate
invariant-loop-candidate g l = first_kept l.number (drop l.candidate-index l.kept) ≡ first_kept l.number l.kept
