use Rattle.std.proofs.Common.{◌≡◌, ◌+◌}
use Rattle.jbig2_base.specs.Counts.{rows_combined}
use Rattle.jbig2_base.specs.inner.Blocks.{with_block}
use Rattle.jbig2_base.specs.inner.Shapes.{HasShape, grid_in}
use Rattle.jbig2_base.proofs.bitmap.rows.blocks.combine_laid.Given as goal

abbrev pub invariant-loop-row : goal.invariant-loop-row
invariant-loop-row g l = record {
  same_reference : l.words.words.ghost_name ≡ l.fn.words.words.ghost_name;
  packed : HasShape l.fn.shape l.words.words.now;
  value : grid_in l.fn.shape l.words.words.now ≡ with_block l.fn.operator (grid_in l.fn.shape l.fn.words.words.now) (grid_in l.fn.source.shape l.fn.source.words.words.now) l.fn.block.left (l.fn.block.left + l.fn.block.columns) l.fn.block.top (l.fn.block.top + l.row) l.fn.block.from l.fn.block.from_row;
  steps : l.steps ≡ rows_combined l.row l.fn.block.left l.fn.block.columns l.fn.block.from l.fn.steps;
}
