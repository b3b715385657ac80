use Rattle.std.proofs.Common.{◌≡◌, ◌+◌, ◌/◌, ◌^◌, ◌≤◌, ◌∙◌, ap, subst, sym, arith}
use Rattle.jbig2_coder.specs.Coder.{Coder, Decision, renormd}
use Rattle.jbig2_coder.specs.inner.Ahead.{IsAhead, seen_of, seen_registers}
use Rattle.jbig2_coder.specs.declared.arithmetic_decoder.registers.BufferedRegisters.{BufferedRegisters}
use Rattle.jbig2_coder.proofs.Ahead.{decision-part, kept, lowered, lowered-ahead, upper-half}
use Rattle.jbig2_coder.proofs.arithmetic_decoder.ArithmeticDecoder.decode_renormalized.Goals as goal

pub exchange-part-requires-clause-renorm : goal.exchange-part-requires-clause-renorm
exchange-part-requires-clause-renorm c = λ u.
    c.requires.renorm (omega (arith, u, upper-half c.self.inside.registers.code, ap (λ (d : Coder). d.registers.code.c / 2 ^ 16) c.self.view_is, c.upper_half-high.ensures))

pub renormalize-requires-clause-ahead : goal.renormalize-requires-clause-ahead
renormalize-requires-clause-ahead c =
    let inside : c.exchange-part.result.below ≤ c.self.inside.registers.code.c / 2 ^ 48 = omega (arith, c.exchange-part.ensures.within, c.upper_half-high.ensures) in
    subst (λ (q : BufferedRegisters). IsAhead c.self.inside.bytes.now q.code) (sym c.narrow.ensures)
    (lowered-ahead c.self.inside.bytes.now c.exchange-part.result.below c.self.inside.registers.code c.self.invariant.ahead inside)

pub invariant_of-self : goal.invariant_of-self
invariant_of-self c =
    kept c.self.inside.bytes.now c.renormalize.new.self c.floor_above-self-inside.result c.renormalize.ensures.normal c.renormalize.ensures.below c.renormalize.ensures.ahead (omega (arith, c.floor_above-self-inside.ensures, c.upper_half.ensures))

pub returns-clause-value : goal.returns-clause-value
returns-clause-value c =
    let inside : c.exchange-part.result.below ≤ c.self.inside.registers.code.c / 2 ^ 48 = omega (arith, c.exchange-part.ensures.within, c.upper_half-high.ensures) in
    let all : c.self.inside.registers.a ≡ c.args.rest + c.args.state.qe = ap (λ (d : Coder). d.registers.a) c.self.view_is ∙ c.requires.rest in
    rw (← c.self.view_is) (ap (λ (d : Decision). d.symbol) (sym (decision-part c.self.inside.bytes.now c.self.inside.registers c.args.context.now c.exchange-part.new.self c.args.rest c.args.state.qe c.exchange-part.result.below c.exchange-part.result.size c.exchange-part.result.symbol c.self.invariant.ahead all inside (λ n small at. c.exchange-part.ensures.choice n small (at ∙ sym c.upper_half-high.ensures)))))

pub returns-clause-coder : goal.returns-clause-coder
returns-clause-coder c =
    let inside : c.exchange-part.result.below ≤ c.self.inside.registers.code.c / 2 ^ 48 = omega (arith, c.exchange-part.ensures.within, c.upper_half-high.ensures) in
    let all : c.self.inside.registers.a ≡ c.args.rest + c.args.state.qe = ap (λ (d : Coder). d.registers.a) c.self.view_is ∙ c.requires.rest in
    let shifted : seen_registers c.renormalize.new.self ≡ renormd c.self.inside.bytes.now 15 c.exchange-part.result.size (seen_of (lowered c.exchange-part.result.below c.self.inside.registers.code)) =
    c.renormalize.ensures.value ∙ ap (λ (q : BufferedRegisters). renormd c.self.inside.bytes.now 15 q.a (seen_of q.code)) c.narrow.ensures in
    rw (← c.self.view_is)
    (let e = shifted ∙ ap (λ (d : Decision). d.registers) (sym (decision-part c.self.inside.bytes.now c.self.inside.registers c.args.context.now c.exchange-part.new.self c.args.rest c.args.state.qe c.exchange-part.result.below c.exchange-part.result.size c.exchange-part.result.symbol c.self.invariant.ahead all inside (λ n small at. c.exchange-part.ensures.choice n small (at ∙ sym c.upper_half-high.ensures)))) in
    λ i. record { bytes = c.self.inside.bytes.now; registers = e i })

pub returns-clause-context : goal.returns-clause-context
returns-clause-context c =
    let inside : c.exchange-part.result.below ≤ c.self.inside.registers.code.c / 2 ^ 48 = omega (arith, c.exchange-part.ensures.within, c.upper_half-high.ensures) in
    let all : c.self.inside.registers.a ≡ c.args.rest + c.args.state.qe = ap (λ (d : Coder). d.registers.a) c.self.view_is ∙ c.requires.rest in
    rw (← c.self.view_is) (ap (λ (d : Decision). d.context) (sym (decision-part c.self.inside.bytes.now c.self.inside.registers c.args.context.now c.exchange-part.new.self c.args.rest c.args.state.qe c.exchange-part.result.below c.exchange-part.result.size c.exchange-part.result.symbol c.self.invariant.ahead all inside (λ n small at. c.exchange-part.ensures.choice n small (at ∙ sym c.upper_half-high.ensures)))))
