use Rattle.std.proofs.Common.{◌≡◌, ◌+◌, ◌-◌, ◌*◌}
use Rattle.jbig2_base.specs.Grid.{pixel_at}
use Rattle.jbig2_base.specs.inner.Blocks.{with_run}
use Rattle.jbig2_base.specs.inner.Shapes.{HasShape, grid_in}
use Rattle.jbig2_base.proofs.CountLemmas.{after_words}
use Rattle.jbig2_base.proofs.bitmap.rows.blocks.aligned_row.Given as goal

abbrev pub invariant-loop-word : goal.invariant-loop-word
invariant-loop-word g l = record {
  same_reference : l.words.words.ghost_name ≡ l.fn.words.words.ghost_name;
  packed : HasShape l.fn.shape l.words.words.now;
  value : grid_in l.fn.shape l.words.words.now ≡ with_run l.fn.operator (grid_in l.fn.shape l.fn.words.words.now) l.fn.line.left l.fn.line.y (64 * l.word - l.fn.line.left) (λ i. pixel_at (grid_in l.fn.source.shape l.fn.source.words.words.now) (l.fn.line.from + (i - l.fn.line.left)) l.fn.line.from_y);
  steps : l.steps ≡ after_words l.fn.steps (l.word - l.first);
}
