use Rattle.std.proofs.Common.{◌≡◌, ◌+◌, ◌-◌, ◌*◌, ◌/◌, min, max}
use Rattle.jbig2_base.specs.inner.Blocks.{with_block}
use Rattle.jbig2_base.proofs.bitmap.combine.combine_row.Given as goal

abbrev pub invariant-loop-index : goal.invariant-loop-index
invariant-loop-index g l = record {
  page : l.page ≡ with_block l.fn.operator l.fn.page l.fn.source l.left (max l.left (min l.right (64 * l.index))) l.fn.span.row (l.fn.span.row + 1) l.fn.span.from l.fn.span.from_row;
  steps : l.steps ≡ record l.fn.steps { words = l.fn.steps.words + (l.index - l.left / 64); loads = l.fn.steps.loads + 2 * (l.index - l.left / 64) };
}
