use Rattle.std.proofs.Common.{◌≡◌, ◌+◌}
use Rattle.jbig2_base.specs.inner.Blocks.{with_block}
use Rattle.jbig2_base.specs.Counts.{rows_combined}
use Rattle.jbig2_base.proofs.bitmap.combine.combine_by.Given as goal

abbrev pub invariant-loop-row : goal.invariant-loop-row
invariant-loop-row g l = record {
  page : l.page ≡ with_block l.fn.operator l.fn.page l.fn.source l.fn.block.left (l.fn.block.left + l.fn.block.columns) l.fn.block.top (l.fn.block.top + l.row) l.fn.block.from l.fn.block.from_row;
  steps : l.steps ≡ rows_combined l.row l.fn.block.left l.fn.block.columns l.fn.block.from l.fn.steps;
}
