use Rattle.std.proofs.Common.{◌≡◌, ℕ, ◌-◌, ◌*◌, ◌%◌, ◌^◌, ◌∙◌, List, ap, subst, arith}
use Rattle.jbig2_coder.specs.Coder.{Registers, byte_at, byte_in, initial_registers}
use Rattle.jbig2_coder.specs.inner.Ahead.{IsAhead, seen_of}
use Rattle.jbig2_coder.specs.declared.arithmetic_decoder.registers.CodeBuffer.{CodeBuffer}
use Rattle.jbig2_coder.specs.declared.arithmetic_decoder.registers.CodeRegister.{CodeRegister}
use Rattle.jbig2_coder.proofs.Ahead.{kept, start}
use Rattle.jbig2_coder.proofs.arithmetic_decoder.ArithmeticDecoder.new.Goals as goal

pub invariant_of-result : goal.invariant_of-result
invariant_of-result c =
    let begins = start c.args.bytes.now (c.from-first.result * 2 ^ 16 % 2 ^ 32) c.byte_in-code.result (omega arith) c.byte_in-code.ensures.value c.byte_in-code.ensures.within in
    let moved : c.byte_in-code.result.c * 2 ^ 7 % 2 ^ 32 * 2 ^ 32 ≡ c.from-c.result * 2 ^ 32 % 2 ^ 64 = omega (arith, c.from-c.ensures) in
    let code : CodeBuffer = record { c = c.from-c.result * 2 ^ 32 % 2 ^ 64; bits = c.byte_in-code.result.ct - 7; place = c.byte_in-code.result.place } in
    let ahead : IsAhead c.args.bytes.now code = subst (λ (n : ℕ). IsAhead c.args.bytes.now (record { c = n; bits = c.byte_in-code.result.ct - 7; place = c.byte_in-code.result.place })) moved begins.0 in
    kept c.args.bytes.now (record { a = 0x8000; code = code }) c.floor_above.result (omega arith) (omega arith) ahead c.floor_above.ensures

pub returns-clause-registers : goal.returns-clause-registers
unfolding initial_registers
returns-clause-registers c =
    let bytes : List ℕ = c.args.bytes.now in
    let first : c.from-first.result * 2 ^ 16 % 2 ^ 32 ≡ (0xFF - byte_at bytes 0) * 2 ^ 16 = omega (arith, c.from-first.ensures, c.byte_at.ensures) in
    let read : c.byte_in-code.result ≡ byte_in bytes ((0xFF - byte_at bytes 0) * 2 ^ 16) 0 = c.byte_in-code.ensures.value ∙ ap (λ (n : ℕ). byte_in bytes n 0) first in
    let begins = start bytes (c.from-first.result * 2 ^ 16 % 2 ^ 32) c.byte_in-code.result (omega arith) c.byte_in-code.ensures.value c.byte_in-code.ensures.within in
    let moved : c.from-c.result * 2 ^ 32 % 2 ^ 64 ≡ c.byte_in-code.result.c * 2 ^ 7 % 2 ^ 32 * 2 ^ 32 = omega (arith, c.from-c.ensures) in
    let seen : seen_of (record { c = c.from-c.result * 2 ^ 32 % 2 ^ 64; bits = c.byte_in-code.result.ct - 7; place = c.byte_in-code.result.place }) ≡ record { c = c.byte_in-code.result.c * 2 ^ 7 % 2 ^ 32; ct = c.byte_in-code.result.ct - 7; place = c.byte_in-code.result.place } =
    ap (λ (n : ℕ). let q : CodeBuffer = record { c = n; bits = c.byte_in-code.result.ct - 7; place = c.byte_in-code.result.place } in seen_of q) moved ∙ begins.1 in
    ap (λ (q : CodeRegister). let s : Registers = record { a = 0x8000; code = q } in s)
    (seen ∙ ap (λ (q : CodeRegister). let r : CodeRegister = record { c = q.c * 2 ^ 7 % 2 ^ 32; ct = q.ct - 7; place = q.place } in r) read)
