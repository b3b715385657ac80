use Rattle.std.proofs.Common.{◌≡◌, ℕ, ◌<◌, true, length, get_or}
use Rattle.jbig2_base.specs.inner.Packed.{blank_word}
use Rattle.jbig2_base.proofs.bitmap.rows.words.fill_rows.Given as goal

abbrev pub invariant-loop-index : goal.invariant-loop-index
invariant-loop-index g l = record {
  size : length l.words.items ≡ length l.fn.words.items;
  value : (k : ℕ) → k < l.index → get_or l.words.items k 0 ≡ blank_word l.fn.width true k;
}
