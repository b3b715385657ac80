use Rattle.std.proofs.Common.{◌≡◌, ℕ, ◌*◌, sym, ◌∙◌, arith}
use Rattle.jbig2_coder.specs.Encoder.{Writer, shift_once, renorme}
use Rattle.jbig2_coder.specs.inner.EncoderViews.{writer_of}
use Rattle.jbig2_coder.proofs.Encoders.{renormed-turn, renormed-stop}
use Rattle.jbig2_coder.proofs.mq.encoder.renormalize_by_turns.Goals as goal

-- what a turn of the code leaves
turned : (a b : ℕ) (v w : Writer) → w ≡ v → b ≡ 2 * a → renorme 15 (2 * a) v ≡ renorme 15 b w
turned a b v w e h = λ i. renorme 15 (sym h i) (sym e i)

pub loop-registers-preserved : goal.loop-registers-preserved
loop-registers-preserved g c =
    let a : ℕ = c.loop-registers.registers.a in
    let w : Writer = writer_of c.loop-registers.bytes.items c.loop-registers.registers.code in
    let range : c.in_ok-registers.registers.a ≡ 2 * a = c.in_ok-registers.ensures.range in
    record {
      same =
          c.loop-registers.invariant.same
          ∙ renormed-turn a w c.loop-registers.invariant.some c.loop-registers-test.true
          ∙ turned a _ (shift_once w) _ c.in_ok-registers.ensures.value range;
      some = omega arith;
      below = omega arith;
      room = c.in_ok-registers.ensures.room;
    }

pub returns-clause-value : goal.returns-clause-value
returns-clause-value g c =
    sym (c.loop-registers.invariant.same ∙ renormed-stop 15 c.loop-registers.registers.a _ c.loop-registers-test.false)
