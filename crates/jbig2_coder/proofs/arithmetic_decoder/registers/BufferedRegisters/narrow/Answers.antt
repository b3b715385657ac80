use Rattle.std.proofs.Common.{◌≡◌, ℕ, ◌-◌, ◌*◌, ◌%◌, ◌^◌, ap, arith}
use Rattle.jbig2_coder.specs.declared.arithmetic_decoder.registers.BufferedRegisters.{BufferedRegisters}
use Rattle.jbig2_coder.proofs.arithmetic_decoder.registers.BufferedRegisters.narrow.Goals as goal

pub returns : goal.returns
returns c =
    let moved : c.args.self.now.code.c - c.from.result * 2 ^ 48 % 2 ^ 64 ≡ c.args.self.now.code.c - c.args.below * 2 ^ 48 = omega (arith, c.from.ensures) in
    ap (λ (n : ℕ). let q : BufferedRegisters = record { a = c.args.size; code = record { c = n; bits = c.args.self.now.code.bits; place = c.args.self.now.code.place } } in q) moved
