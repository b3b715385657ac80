use Rattle.std.proofs.Common.{◌∙◌, ap, subst, sym, arith}
use Rattle.jbig2_coder.specs.Coder.{Registers, renormd}
use Rattle.jbig2_coder.specs.inner.Ahead.{IsAhead, seen_of}
use Rattle.jbig2_coder.specs.declared.arithmetic_decoder.registers.BufferedRegisters.{BufferedRegisters}
use Rattle.jbig2_coder.proofs.Ahead.{renormed-shifts, shifted-ahead}
use Rattle.jbig2_coder.proofs.Renorm.{shifted-more}
use Rattle.jbig2_coder.proofs.arithmetic_decoder.registers.BufferedRegisters.turn.Goals as goal

pub returns-clause-ahead : goal.returns-clause-ahead
returns-clause-ahead c =
    subst (λ (q : BufferedRegisters). IsAhead c.args.bytes.now q.code) (sym c.shift.ensures)
    (shifted-ahead c.args.bytes.now c.batch.result c.refill.new.self.code c.refill.ensures.ahead c.batch.ensures.left)

pub returns-clause-same : goal.returns-clause-same
returns-clause-same c =
    ap (λ (q : Registers). renormd c.args.bytes.now 15 q.a q.code) (sym c.refill.ensures.same)
    ∙ renormed-shifts c.args.bytes.now c.batch.result c.refill.new.self.a c.refill.new.self.code c.refill.ensures.ahead c.batch.ensures.left (omega (arith, ap (λ (q : Registers). q.a) c.refill.ensures.same)) c.batch.ensures.few c.batch.ensures.room
    ∙ ap (λ (q : BufferedRegisters). renormd c.args.bytes.now 15 q.a (seen_of q.code)) (sym c.shift.ensures)

pub returns-clause-more : goal.returns-clause-more
returns-clause-more c =
    omega (arith, ap (λ (q : BufferedRegisters). q.a) c.shift.ensures, ap (λ (q : Registers). q.a) c.refill.ensures.same, shifted-more c.refill.new.self.a c.batch.result (omega (arith, ap (λ (q : Registers). q.a) c.refill.ensures.same)) c.batch.ensures.some)
