use Rattle.std.proofs.Common.{arith, refl, ◌+◌, ◌*◌}
use Rattle.jbig2_base.proofs.CountLemmas.{copied-more, written-as}
use Rattle.jbig2_base.proofs.FillLemmas.{copied, row-filled}
use Rattle.jbig2_base.proofs.bitmap.part.copy_row.Goals as goal

pub loop-word-preserved : goal.loop-word-preserved
loop-word-preserved g c = record {
  part = copied c.args.bitmap.now c.loop-word.part c.store_pixels.new.self c.args.area c.args.y c.loop-word.word c.min-count.result c.load_pixels-bits.result (omega arith) (omega arith) (omega arith) c.load_pixels-bits.ensures.bits c.loop-word.invariant.part c.store_pixels.ensures.value;
  steps = copied-more c.args.steps.now c.loop-word.steps c.load_pixels-bits.new.steps c.store_pixels.new.steps c.loop-word.word (c.loop-word.word + 1) c.loop-word.invariant.steps c.load_pixels-bits.ensures.steps c.store_pixels.ensures.steps refl;
}

pub returns-clause-value : goal.returns-clause-value
returns-clause-value g c = row-filled c.loop-word.part _ _ _ c.args.y (64 * c.loop-word.word) (omega arith) c.loop-word.invariant.part

pub returns-clause-steps : goal.returns-clause-steps
returns-clause-steps g c = written-as c.args.steps.now c.loop-word.steps c.loop-word.word c.loop-word.word _ _ c.loop-word.invariant.steps (omega arith) (omega arith)
