use Rattle.std.proofs.Common.{◌≡◌, ℕ, ◌+◌, ◌*◌, ◌^◌, List, reverse, sym, ap, ◌∙◌, arith}
use Rattle.jbig2_coder.specs.Encoder.{EncoderState, byte_out, flush_coder, with_marker}
use Rattle.jbig2_coder.specs.inner.EncoderViews.{encoder_state, HasRoom}
use Rattle.jbig2_coder.proofs.Encoders.{shift-fits, flushed-code}
use Rattle.jbig2_coder.proofs.ListSteps.{same_ok}
use Rattle.jbig2_coder.proofs.mq.encoder.ArithmeticEncoder.finish.Goals as goal

pub returns : goal.returns
returns g c =
    let s : EncoderState = encoder_state c.self.inside.bytes.items c.self.inside.registers in
    let low : ℕ = c.self.inside.registers.code.c in
    let room : HasRoom 0x10000 c.in_ok-first.first = c.in_ok-first.ensures.room 0x10000 (omega arith) in
    let once = ap (λ (n : ℕ). n * 2 ^ s.writer.wait) (sym c.set_bits.ensures.value)
    ∙ shift-fits c.set_bits.result s.writer.wait (low + s.range) c.self.invariant.room.room (omega arith) in
    let twice = shift-fits c.in_ok-first.first.c c.in_ok-first.first.ct (c.in_ok-first.first.c + 0x10000) room.room (omega arith) in
    let out : reverse c.byte_out-2.new.bytes.items ≡ (flush_coder s).out =
    flushed-code s c.in_ok-first.first c.in_ok-byte_out.field-0 c.byte_out.new.bytes.items c.byte_out-2.new.bytes.items
    (c.in_ok-first.ensures.value ∙ ap (λ (n : ℕ). byte_out n s.writer.out) (sym once))
    (c.in_ok-byte_out.ensures.value ∙ ap (λ (n : ℕ). byte_out n (reverse c.byte_out.new.bytes.items)) (sym twice)) in
    same_ok _ _
    (ap (λ (t : EncoderState). with_marker (flush_coder t).out) (sym c.self.view_is)
    ∙ ap (λ (ys : List ℕ). with_marker ys) (sym out)
    ∙ sym c.in_ok-close.ensures.value)
