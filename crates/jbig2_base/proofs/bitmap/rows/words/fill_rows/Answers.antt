use Rattle.std.proofs.Common.{true, ◌∙◌, length-set, arith}
use Rattle.std.proofs.lemmas.List.Edits.{fill_by_more}
use Rattle.jbig2_base.specs.inner.Packed.{blank_word}
use Rattle.jbig2_base.proofs.bitmap.rows.words.fill_rows.Goals as goal

pub returns-then-not-black-clause-value : goal.returns-then-not-black-clause-value
unfolding blank_word
returns-then-not-black-clause-value g c = λ k h. rw c.if-not-black.true (c.requires.zero k h)

pub loop-index-preserved : goal.loop-index-preserved
loop-index-preserved g c = record {
  size = length-set _ _ _ ∙ c.loop-index.invariant.size;
  value = rw c.black_word.ensures (fill_by_more (blank_word c.args.width true) c.loop-index.words.items c.loop-index.index 0 (omega arith) c.loop-index.invariant.value);
}
