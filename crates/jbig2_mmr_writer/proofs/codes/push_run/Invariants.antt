use Rattle.std.proofs.Common.{◌≡◌, ◌++◌}
use Rattle.jbig2_inverses.specs.MmrRowWriter.{repeated, run_word}
use Rattle.jbig2_mmr_writer.proofs.codes.push_run.Given as goal

abbrev pub invariant-loop : goal.invariant-loop
invariant-loop g l = l.writer ≡ l.initial.writer ++ repeated l.counter (run_word l.black 2560)
