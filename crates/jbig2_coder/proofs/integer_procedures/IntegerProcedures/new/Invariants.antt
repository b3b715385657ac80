use Rattle.std.proofs.Common.{◌≡◌, replicate}
use Rattle.jbig2_coder.specs.Coder.{fresh}
use Rattle.jbig2_coder.proofs.integer_procedures.IntegerProcedures.new.Given as goal

abbrev pub invariant-loop : goal.invariant-loop
invariant-loop g l = l.decoders.items ≡ replicate l.counter (replicate 512 fresh)
