use Rattle.std.proofs.Common.{◌≡◌, ℕ, ◌+◌, ◌-◌, ◌*◌, ◌/◌, ◌<◌, ◌≤◌, false}
use Rattle.jbig2_base.specs.Bits.{bit}
use Rattle.jbig2_base.specs.Counts.{KeepsLanes, words_loaded}
use Rattle.jbig2_mmr.specs.T6.{left_of, is_change_from}
use Rattle.jbig2_mmr.specs.inner.T6Reading.{pixels_of_row}
use Rattle.jbig2_mmr.proofs.mmr.change.find_change.Given as goal

abbrev pub invariant-loop-index : goal.invariant-loop-index
invariant-loop-index g l = record {
  lanes : KeepsLanes l.fn.steps l.steps;
  steps : l.steps ≡ words_loaded (l.index - l.first) l.fn.steps;
  within : l.first < l.index → l.index ≤ (l.bitmap.width + 63) / 64;
  left : bit l.before 0 ≡ left_of (pixels_of_row l.bitmap l.y) (64 * l.index);
  none : (i : ℕ) → 64 * l.first ≤ i → i < 64 * l.index → is_change_from (pixels_of_row l.bitmap l.y) l.black i ≡ false;
}
