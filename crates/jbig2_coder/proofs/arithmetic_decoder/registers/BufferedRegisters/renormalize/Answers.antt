use Rattle.std.proofs.Common.{ℕ, ◌-◌, ◌*◌, ◌^◌, ◌≤◌, ◌∙◌, ap, subst, sym, arith}
use Rattle.std.specs.Int.Count.{count_leading_zeros}
use Rattle.jbig2_coder.specs.inner.Ahead.{IsAhead, seen_of, seen_registers, shift_buffer}
use Rattle.jbig2_coder.specs.declared.arithmetic_decoder.registers.BufferedRegisters.{BufferedRegisters}
use Rattle.jbig2_coder.proofs.Ahead.{renormed-shifts, shifted-ahead}
use Rattle.jbig2_coder.proofs.Renorm.{leading-full, leading-half, leading-room, renormed-stop}
use Rattle.jbig2_coder.proofs.arithmetic_decoder.registers.BufferedRegisters.renormalize.Goals as goal

pub overflow_sub-shifts : goal.overflow_sub-shifts
overflow_sub-shifts c = omega (arith, leading-half c.args.self.now.a c.requires.some c.requires.half)

pub shift-requires-clause-room : goal.shift-requires-clause-room
shift-requires-clause-room c = leading-room c.args.self.now.a _ c.requires.some c.requires.half (omega arith)

pub returns-clause-value : goal.returns-clause-value
returns-clause-value c =
    let k : ℕ = count_leading_zeros 32 c.args.self.now.a - 16 in
    let half = leading-half c.args.self.now.a c.requires.some c.requires.half in
    ap seen_registers c.shift.ensures
    ∙ sym (renormed-shifts c.args.bytes.now k c.args.self.now.a c.args.self.now.code c.requires.ahead c.if-shifts-self.false c.requires.some (omega (arith, half)) (leading-room c.args.self.now.a k c.requires.some c.requires.half (omega arith))
    ∙ renormed-stop c.args.bytes.now 15 (c.args.self.now.a * 2 ^ k) (seen_of (shift_buffer k c.args.self.now.code)) (leading-full c.args.self.now.a c.requires.some c.requires.half))

pub returns-clause-ahead : goal.returns-clause-ahead
returns-clause-ahead c =
    subst (λ (q : BufferedRegisters). IsAhead c.args.bytes.now q.code) (sym c.shift.ensures)
    (shifted-ahead c.args.bytes.now (count_leading_zeros 32 c.args.self.now.a - 16) c.args.self.now.code c.requires.ahead c.if-shifts-self.false)

pub returns-clause-normal : goal.returns-clause-normal
returns-clause-normal c =
    subst (λ (q : BufferedRegisters). 0x8000 ≤ q.a) (sym c.shift.ensures) (leading-full c.args.self.now.a c.requires.some c.requires.half)

pub returns-clause-below : goal.returns-clause-below
returns-clause-below c =
    omega (arith, ap (λ (q : BufferedRegisters). q.a) c.shift.ensures, leading-room c.args.self.now.a (count_leading_zeros 32 c.args.self.now.a - 16) c.requires.some c.requires.half (omega arith))
