use Rattle.std.proofs.Common.{◌≡◌, ◌+◌, ◌-◌, ◌*◌, ◌/◌, ◌%◌, ◌<◌, ◌≤◌, ℕ, get_or, length}
use Rattle.jbig2_page.specs.Image.{packed_byte, row_bytes}
use Rattle.jbig2_steps.specs.Work.{sum_of_counts}
use Rattle.jbig2_page.proofs.packed.write_packed.Given as goal

abbrev pub invariant-loop-place : goal.invariant-loop-place
invariant-loop-place g l = record {
  sized : length l.buf ≡ length l.fn.buf;
  within : l.place ≤ length l.buf;
  reached : l.place < length l.buf → l.start + l.place ≡ l.y * row_bytes l.width + l.column;
  column : l.place < length l.buf → l.column < row_bytes l.width;
  written : (k : ℕ) → k < l.place → get_or l.buf k 0 ≡ packed_byte l.bitmap ((l.start + k) % row_bytes l.width) ((l.start + k) / row_bytes l.width);
  steps : sum_of_counts l.steps ≤ sum_of_counts l.fn.steps + l.place;
}

abbrev pub decreases-loop-place : goal.decreases-loop-place
decreases-loop-place g l = length l.buf - l.place
