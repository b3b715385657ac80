use Rattle.std.proofs.Common.{sym, arith}
use Rattle.jbig2_coder.specs.Coder.{Context}
use Rattle.jbig2_coder.specs.inner.Ahead.{seen_registers}
use Rattle.jbig2_coder.specs.inner.States.{context_in_state}
use Rattle.jbig2_coder.proofs.Runs.{run-yes, run-no}
use Rattle.jbig2_coder.proofs.arithmetic_decoder.ArithmeticDecoder.decode_mps_run.Goals as goal

pub returns-then-self-total-clause-exact : goal.returns-then-self-total-clause-exact
returns-then-self-total-clause-exact g c =
    let x : Context = context_in_state c.context.inside.state in
    rw (← c.self.view_is, ← c.context.view_is)
    (sym (run-no c.args.count c.self.inside.bytes.now (seen_registers c.self.inside.registers) x c.state_at.result.qe (sym c.state_at.ensures.qe) c.state_at.ensures.some c.requires.some (omega arith)))

pub returns-clause-exact : goal.returns-clause-exact
returns-clause-exact g c =
    let x : Context = context_in_state c.context.inside.state in
    rw (← c.self.view_is, ← c.context.view_is)
    (sym (run-yes c.args.count c.self.inside.bytes.now (seen_registers c.self.inside.registers) x c.state_at.result.qe (sym c.state_at.ensures.qe) (omega arith)))
