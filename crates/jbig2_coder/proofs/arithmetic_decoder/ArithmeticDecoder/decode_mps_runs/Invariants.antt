use Rattle.std.proofs.Common.{◌≡◌, ◌+◌}
use Rattle.jbig2_coder.proofs.arithmetic_decoder.ArithmeticDecoder.decode_mps_runs.Given as goal

abbrev pub invariant-loop : goal.invariant-loop
invariant-loop g l = l.steps ≡ record l.initial.steps { run_tests = l.initial.steps.run_tests + l.counter }
