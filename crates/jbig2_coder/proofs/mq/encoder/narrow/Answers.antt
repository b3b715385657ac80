use Rattle.std.proofs.Common.{◌≡◌, ℕ, ◌+◌, ◌-◌, Bool, sym, ap, ◌∙◌, true}
use mathlib.Core.Bool.{beq}
use Rattle.jbig2_coder.proofs.Encoders.{narrowed-quiet, narrowed-likely_lower, narrowed-likely_upper, narrowed-unlikely_upper, narrowed-unlikely_lower}
use Rattle.jbig2_coder.proofs.States.{qe-read}
use Rattle.jbig2_coder.proofs.mq.encoder.narrow.Goals as goal

-- the symbol that the code reads
test-read : (likely read d b : Bool) → beq d read ≡ b → read ≡ likely → beq d likely ≡ b
test-read likely read d b e h = ap (λ (s : Bool). beq d s) (sym h) ∙ e

pub returns-then-rest-ge32768-clause-value : goal.returns-then-rest-ge32768-clause-value
returns-then-rest-ge32768-clause-value c =
    narrowed-quiet c.args.context.now c.args.decision c.args.registers.now.a c.args.registers.now.code.c c.state_at-qe.result.qe
    (test-read _ _ _ _ c.if-decision-likely_symbol.true c.likely_symbol.ensures)
    (qe-read c.context.inside.state _ _ c.state_at-qe.ensures.qe c.context.view_is)
    c.if-rest-ge32768.true

pub returns-then-rest-qe-clause-value : goal.returns-then-rest-qe-clause-value
returns-then-rest-qe-clause-value c =
    let qe : ℕ = c.state_at-qe.result.qe in
    let low : ℕ = c.args.registers.now.code.c in
    narrowed-likely_lower c.args.context.now c.args.decision c.args.registers.now.a low qe
    (test-read _ _ _ _ c.if-decision-likely_symbol.true c.likely_symbol.ensures)
    (qe-read c.context.inside.state _ _ c.state_at-qe.ensures.qe c.context.view_is)
    c.if-rest-ge32768.false
    c.if-rest-qe.true
    ∙ (λ i. record { range = qe; register = low; context = sym c.after_likely.ensures.context i; renorm = true })

pub returns-then-decision-likely_symbol-clause-value : goal.returns-then-decision-likely_symbol-clause-value
returns-then-decision-likely_symbol-clause-value c =
    let qe : ℕ = c.state_at-qe.result.qe in
    let a : ℕ = c.args.registers.now.a in
    let low : ℕ = c.args.registers.now.code.c in
    narrowed-likely_upper c.args.context.now c.args.decision a low qe
    (test-read _ _ _ _ c.if-decision-likely_symbol.true c.likely_symbol.ensures)
    (qe-read c.context.inside.state _ _ c.state_at-qe.ensures.qe c.context.view_is)
    c.if-rest-ge32768.false
    c.if-rest-qe.false
    ∙ (λ i. record { range = a - qe; register = low + qe; context = sym c.after_likely.ensures.context i; renorm = true })

pub returns-then-rest-qe-2-clause-value : goal.returns-then-rest-qe-2-clause-value
returns-then-rest-qe-2-clause-value c =
    let qe : ℕ = c.state_at-qe.result.qe in
    let a : ℕ = c.args.registers.now.a in
    let low : ℕ = c.args.registers.now.code.c in
    narrowed-unlikely_upper c.args.context.now c.args.decision a low qe
    (test-read _ _ _ _ c.if-decision-likely_symbol.false c.likely_symbol.ensures)
    (qe-read c.context.inside.state _ _ c.state_at-qe.ensures.qe c.context.view_is)
    c.if-rest-qe-2.true
    ∙ (λ i. record { range = a - qe; register = low + qe; context = sym c.after_unlikely.ensures.context i; renorm = true })

pub returns-clause-value : goal.returns-clause-value
returns-clause-value c =
    let qe : ℕ = c.state_at-qe.result.qe in
    let low : ℕ = c.args.registers.now.code.c in
    narrowed-unlikely_lower c.args.context.now c.args.decision c.args.registers.now.a low qe
    (test-read _ _ _ _ c.if-decision-likely_symbol.false c.likely_symbol.ensures)
    (qe-read c.context.inside.state _ _ c.state_at-qe.ensures.qe c.context.view_is)
    c.if-rest-qe-2.false
    ∙ (λ i. record { range = qe; register = low; context = sym c.after_unlikely.ensures.context i; renorm = true })
