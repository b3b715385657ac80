use Rattle.std.proofs.Common.{◌≡◌, ◌+◌, ◌-◌, ◌*◌, ◌/◌, ◌%◌, ◌<◌, ◌≤◌, ℕ, get_or, length}
use Rattle.jbig2_base.specs.Grid.{pixel_at}
use Rattle.jbig2_page.specs.Image.{shade}
use Rattle.jbig2_steps.specs.Work.{sum_of_counts}
use Rattle.jbig2_page.proofs.page.image.write_image.Given as goal

abbrev pub invariant-loop-place : goal.invariant-loop-place
invariant-loop-place g l = record {
  sized : length l.buf ≡ l.initial_page.width * l.initial_page.height;
  within : l.place ≤ length l.buf;
  reached : l.place < length l.buf → l.place ≡ l.y * l.initial_page.width + l.x;
  column : l.place < length l.buf → l.x < l.initial_page.width;
  written : (k : ℕ) → k < l.place → get_or l.buf k 0 ≡ shade (pixel_at l.bitmap (k % l.initial_page.width) (k / l.initial_page.width));
  steps : sum_of_counts l.steps ≤ sum_of_counts l.fn.steps + l.place;
}

abbrev pub decreases-loop-place : goal.decreases-loop-place
decreases-loop-place g l = length l.buf - l.place
