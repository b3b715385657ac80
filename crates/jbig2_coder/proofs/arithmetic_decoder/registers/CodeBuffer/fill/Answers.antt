use Rattle.std.proofs.Common.{◌≡◌, ◌≢◌, ℕ, ◌+◌, ◌-◌, ◌*◌, ◌%◌, ◌^◌, ◌∙◌, ap, subst, sym, arith}
use Rattle.jbig2_coder.specs.Coder.{byte_at}
use Rattle.jbig2_coder.specs.inner.Ahead.{IsAhead, seen_of}
use Rattle.jbig2_coder.specs.declared.arithmetic_decoder.registers.CodeBuffer.{CodeBuffer}
use Rattle.jbig2_coder.proofs.Ahead.{plain-ahead, plain-seen, turned-fits}
use Rattle.jbig2_coder.proofs.Choices.{byte_at-inside}
use Rattle.jbig2_coder.proofs.arithmetic_decoder.registers.CodeBuffer.fill.Goals as goal

pub loop-code-preserved : goal.loop-code-preserved
loop-code-preserved c =
    let code : CodeBuffer = c.loop-code.code in
    let turned : c.from.result * 2 ^ (40 - code.bits) % 2 ^ 64 ≡ (0xFF - byte_at c.args.bytes.now (code.place + 1)) * 2 ^ (40 - code.bits) =
    turned-fits c.from.result (40 - code.bits) (omega (arith, c.from.ensures)) (omega arith)
    ∙ ap (λ (n : ℕ). n * 2 ^ (40 - code.bits)) (c.from.ensures ∙ ap (λ (n : ℕ). 0xFF - n) c.byte_at-next.ensures) in
    let plain : byte_at c.args.bytes.now code.place ≢ 0xFF = (λ e. c.if-byte_at.true (c.byte_at.ensures ∙ e)) in
    record {
      ahead = subst (λ (n : ℕ). IsAhead c.args.bytes.now (record { c = code.c + n; bits = code.bits + 8; place = code.place + 1 })) (sym turned)
          (plain-ahead c.args.bytes.now code c.loop-code.invariant.ahead c.loop-code.invariant.whole c.loop-code-test.true (byte_at-inside c.args.bytes.now code.place plain) plain);
      whole = omega (arith, c.loop-code.invariant.whole);
      same = ap (λ (n : ℕ). let q : CodeBuffer = record { c = code.c + n; bits = code.bits + 8; place = code.place + 1 } in seen_of q) turned
          ∙ plain-seen c.args.bytes.now code c.loop-code.invariant.ahead c.loop-code.invariant.whole c.loop-code-test.true ∙ c.loop-code.invariant.same;
    }
