use Rattle.std.proofs.Common.{◌≡◌, ◌<◌, ◌≤◌, ◌+◌, ◌-◌, ◌*◌, ◌^◌, ℕ}
use Rattle.jbig2_base.specs.Counts.{KeepsLanes}
use Rattle.jbig2_base.specs.Grid.{Grid}
use Rattle.jbig2_base.specs.Writes.{with_pixels}
use Rattle.jbig2_region.specs.inner.PushedPixels.{CountsGroup, PushesGroup, IsAtGroup}
use Rattle.jbig2_region.proofs.generic_kernel.nominal.push_group.Given as goal
use Rattle.jbig2_region.specs.inner.RegionStates.{decoder_state}
use Rattle.jbig2_region.specs.inner.Windows.{AreAtByte, IsLeft}

abbrev pub invariant-loop-done : goal.invariant-loop-done
invariant-loop-done g l = record {
  bytes : l.decoder.bytes ≡ l.initial.decoder.bytes;
  within : l.done ≤ l.bytes;
  small : l.beside < 16;
  shown : l.done < l.fn.bytes → AreAtByte l.fn.bytes l.done l.fn.windows l.shown;
  few : l.pixels < 2 ^ (8 * l.done);
  left : (grid : Grid) (x y : ℕ) → IsAtGroup grid x y l.fn.bytes l.fn.left l.fn.windows → IsLeft (with_pixels grid x y (8 * l.done) l.pixels) (x + 8 * l.done) y l.beside;
  has_decoded : PushesGroup l.fn.neighbours l.fn.bytes l.fn.left l.fn.windows l.done l.pixels (decoder_state l.initial.decoder l.initial.contexts) (decoder_state l.decoder l.contexts);
  decisions : CountsGroup l.fn.neighbours l.fn.bytes l.fn.left l.fn.windows l.done (decoder_state l.initial.decoder l.initial.contexts) l.initial.steps.decisions l.steps.decisions;
  run_tests : l.steps.run_tests ≤ l.initial.steps.run_tests + l.done;
  loads : l.steps.loads ≡ l.initial.steps.loads;
  words : l.steps.words ≡ l.initial.steps.words;
  lanes : KeepsLanes l.initial.steps l.steps;
}

abbrev pub decreases-loop-done : goal.decreases-loop-done
decreases-loop-done g l = l.bytes - l.done
