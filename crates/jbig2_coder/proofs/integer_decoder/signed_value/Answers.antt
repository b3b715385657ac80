use Rattle.std.proofs.Common.{Some, ap, sym, ◌∙◌, arith}
use Rattle.jbig2_coder.proofs.Readings.{signed-passed, value_of-positive, value_of-none, value_of-negative}
use Rattle.jbig2_coder.proofs.integer_decoder.signed_value.Goals as goal

pub returns-then-not-negative : goal.returns-then-not-negative
returns-then-not-negative c =
    rw c.if-not-negative.true (ap Some (signed-passed c.args.sum c.cast_signed.result (omega arith) c.cast_signed.ensures) ∙ sym (value_of-positive c.args.sum))

pub returns-then-sum-eq0 : goal.returns-then-sum-eq0
returns-then-sum-eq0 c = rw c.if-not-negative.false (sym (value_of-none c.args.sum c.if-sum-eq0.true))

pub returns : goal.returns
returns c =
    rw c.if-not-negative.false (ap Some (signed-passed c.wrapping_neg.result c.cast_signed-2.result (omega arith) c.cast_signed-2.ensures)
    ∙ sym (value_of-negative c.args.sum c.wrapping_neg.result (omega arith) (omega arith) c.if-sum-eq0.false c.wrapping_neg.ensures))
