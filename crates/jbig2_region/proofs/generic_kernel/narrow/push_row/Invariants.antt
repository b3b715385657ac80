use Rattle.std.proofs.Common.{◌≡◌, ℕ, ◌+◌, ◌-◌, ◌*◌, ◌^◌, ◌<◌, ◌≤◌}
use Rattle.jbig2_base.specs.Counts.{KeepsLanes}
use Rattle.jbig2_base.specs.Grid.{Grid}
use Rattle.jbig2_region.specs.inner.PushedPixels.{CountsRowPixels, PushesRow}
use Rattle.jbig2_region.proofs.generic_kernel.narrow.push_row.Given as goal
use Rattle.jbig2_region.specs.inner.RegionStates.{decoder_state}
use Rattle.jbig2_region.specs.inner.Windows.{Shows}

abbrev pub invariant-loop : goal.invariant-loop
invariant-loop g l = record {
  bytes : l.decoder.bytes ≡ l.initial.decoder.bytes;
  few : l.pixels < 2 ^ (8 * l.counter);
  shows : (grid : Grid) (y : ℕ) → Shows grid 0 y 64 l.fn.windows → Shows grid (8 * l.counter) y (64 - 8 * l.counter) l.shown;
  has_decoded : PushesRow l.fn.neighbours l.fn.width l.fn.windows (8 * l.counter) l.pixels (decoder_state l.initial.decoder l.initial.contexts) (decoder_state l.decoder l.contexts);
  decisions : CountsRowPixels l.fn.neighbours l.fn.width l.fn.windows (8 * l.counter) (decoder_state l.initial.decoder l.initial.contexts) l.initial.steps.decisions l.steps.decisions;
  run_tests : l.steps.run_tests ≤ l.initial.steps.run_tests + l.counter;
  loads : l.steps.loads ≡ l.initial.steps.loads;
  words : l.steps.words ≡ l.initial.steps.words;
  lanes : KeepsLanes l.initial.steps l.steps;
}
