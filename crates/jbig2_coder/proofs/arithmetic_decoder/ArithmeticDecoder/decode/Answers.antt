use Rattle.std.proofs.Common.{sym, ap, ◌∙◌, arith}
use Rattle.jbig2_coder.specs.Coder.{Context, Decision}
use Rattle.jbig2_coder.specs.inner.Ahead.{seen_registers}
use Rattle.jbig2_coder.specs.inner.States.{context_in_state}
use Rattle.jbig2_coder.proofs.Decisions.{bool_byte-bit, decision-quiet}
use Rattle.jbig2_coder.proofs.States.{bit_number-parity}
use Rattle.jbig2_base.specs.Bits.{bit_number}
use Rattle.jbig2_coder.proofs.arithmetic_decoder.ArithmeticDecoder.decode.Goals as goal

pub returns-then-rest-self-clause-value : goal.returns-then-rest-self-clause-value
returns-then-rest-self-clause-value g c =
    let x : Context = context_in_state c.context.inside.state in
    rw (← c.self.view_is, ← c.context.view_is) (c.from.ensures
    ∙ sym (bit_number-parity c.context.inside.state)
    ∙ ap (λ (d : Decision). bit_number d.symbol) (sym (decision-quiet c.self.inside.bytes.now (seen_registers c.self.inside.registers) x c.state_at-state.result.qe (sym c.state_at-state.ensures.qe) (omega arith) (omega arith))))

pub returns-then-rest-self-clause-coder : goal.returns-then-rest-self-clause-coder
returns-then-rest-self-clause-coder g c =
    let x : Context = context_in_state c.context.inside.state in
    rw (← c.self.view_is, ← c.context.view_is)
    (let e = ap (λ (d : Decision). d.registers) (sym (decision-quiet c.self.inside.bytes.now (seen_registers c.self.inside.registers) x c.state_at-state.result.qe (sym c.state_at-state.ensures.qe) (omega arith) (omega arith))) in
    λ i. record { bytes = c.self.inside.bytes.now; registers = e i })

pub returns-then-rest-self-clause-context : goal.returns-then-rest-self-clause-context
returns-then-rest-self-clause-context g c =
    let x : Context = context_in_state c.context.inside.state in
    rw (← c.self.view_is, ← c.context.view_is)
    (ap (λ (d : Decision). d.context) (sym (decision-quiet c.self.inside.bytes.now (seen_registers c.self.inside.registers) x c.state_at-state.result.qe (sym c.state_at-state.ensures.qe) (omega arith) (omega arith))))

pub returns-clause-value : goal.returns-clause-value
returns-clause-value g c =
    c.from-2.ensures ∙ bool_byte-bit c.decode_renormalized.result ∙ ap (λ b. bit_number b) c.decode_renormalized.ensures.value
