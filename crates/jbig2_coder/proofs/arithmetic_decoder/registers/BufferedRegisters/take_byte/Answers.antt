use Rattle.std.proofs.Common.{◌≡◌, ℕ, ◌*◌, ◌%◌, ◌-◌, ◌^◌, ◌∙◌, ap, subst, arith}
use Rattle.jbig2_coder.specs.Coder.{renormd}
use Rattle.jbig2_coder.specs.inner.Ahead.{IsAhead, seen_of}
use Rattle.jbig2_coder.specs.declared.arithmetic_decoder.registers.CodeBuffer.{CodeBuffer}
use Rattle.jbig2_coder.proofs.Ahead.{empty-turn}
use Rattle.jbig2_coder.proofs.arithmetic_decoder.registers.BufferedRegisters.take_byte.Goals as goal

pub returns-clause-ahead : goal.returns-clause-ahead
returns-clause-ahead c =
    let turn = empty-turn c.args.bytes.now c.args.self.now.a c.args.self.now.code c.byte_in-read.result c.requires.ahead c.requires.empty c.byte_in-read.ensures.value c.byte_in-read.ensures.within c.requires.some c.requires.half in
    let moved : c.byte_in-read.result.c * 2 % 2 ^ 32 * 2 ^ 32 ≡ c.from.result * 2 ^ 32 % 2 ^ 64 = omega (arith, c.from.ensures) in
    subst (λ (n : ℕ). IsAhead c.args.bytes.now (record { c = n; bits = c.byte_in-read.result.ct - 1; place = c.byte_in-read.result.place })) moved turn.0

pub returns-clause-same : goal.returns-clause-same
returns-clause-same c =
    let turn = empty-turn c.args.bytes.now c.args.self.now.a c.args.self.now.code c.byte_in-read.result c.requires.ahead c.requires.empty c.byte_in-read.ensures.value c.byte_in-read.ensures.within c.requires.some c.requires.half in
    let moved : c.byte_in-read.result.c * 2 % 2 ^ 32 * 2 ^ 32 ≡ c.from.result * 2 ^ 32 % 2 ^ 64 = omega (arith, c.from.ensures) in
    let order : 2 * c.args.self.now.a ≡ c.args.self.now.a * 2 = omega arith in
    turn.1 ∙ ap (λ (n : ℕ). let q : CodeBuffer = record { c = n; bits = c.byte_in-read.result.ct - 1; place = c.byte_in-read.result.place } in renormd c.args.bytes.now 15 (2 * c.args.self.now.a) (seen_of q)) moved
    ∙ ap (λ (n : ℕ). let q : CodeBuffer = record { c = c.from.result * 2 ^ 32 % 2 ^ 64; bits = c.byte_in-read.result.ct - 1; place = c.byte_in-read.result.place } in renormd c.args.bytes.now 15 n (seen_of q)) order
