use Rattle.std.proofs.Common.{◌≡◌, ℕ, ◌-◌, ◌≤◌, ◌∙◌, sym, ap, subst, arith}
use Rattle.std.specs.Int.Count.{count_leading_zeros}
use Rattle.jbig2_coder.specs.inner.EncoderViews.{encoder_state, writer_of}
use Rattle.jbig2_coder.specs.declared.mq.encoder.Registers.{Registers}
use Rattle.jbig2_coder.proofs.Encoders.{renormed-batch}
use Rattle.jbig2_coder.proofs.Renorm.{leading-full, leading-half, leading-room}
use Rattle.jbig2_coder.proofs.mq.encoder.renormalize.Goals as goal

pub overflow_sub-shifts : goal.overflow_sub-shifts
overflow_sub-shifts g c = omega (arith, leading-half c.args.registers.a c.requires.some c.requires.half)

pub shifted-requires-clause-below : goal.shifted-requires-clause-below
shifted-requires-clause-below g c = leading-room c.args.registers.a _ c.requires.some c.requires.half (omega arith)

pub returns-then-shifts-registers-clause-value : goal.returns-then-shifts-registers-clause-value
returns-then-shifts-registers-clause-value g c =
    let k : ℕ = count_leading_zeros 32 c.args.registers.a - 16 in
    let half = leading-half c.args.registers.a c.requires.some c.requires.half in
    ap (λ (r : Registers). encoder_state c.args.bytes.now.items r) c.shifted.ensures.value
    ∙ sym (renormed-batch k 15 c.args.registers.a (writer_of c.args.bytes.now.items c.args.registers.code) (omega (arith, half)) c.if-shifts-registers.true
    (leading-room c.args.registers.a k c.requires.some c.requires.half (omega arith)) (leading-full c.args.registers.a c.requires.some c.requires.half))

pub returns-then-shifts-registers-clause-normal : goal.returns-then-shifts-registers-clause-normal
returns-then-shifts-registers-clause-normal g c =
    subst (λ (r : Registers). 0x8000 ≤ r.a) (sym c.shifted.ensures.value) (leading-full c.args.registers.a c.requires.some c.requires.half)

pub returns-then-shifts-registers-clause-below : goal.returns-then-shifts-registers-clause-below
returns-then-shifts-registers-clause-below g c =
    omega (arith, ap (λ (r : Registers). r.a) c.shifted.ensures.value, leading-room c.args.registers.a (count_leading_zeros 32 c.args.registers.a - 16) c.requires.some c.requires.half (omega arith))
