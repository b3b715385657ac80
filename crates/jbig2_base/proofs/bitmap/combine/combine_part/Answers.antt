use Rattle.std.proofs.Common.{refl, inl, inr, arith}
use Rattle.jbig2_base.proofs.CombineLemmas.{all-counts, axis-at, no-counts, none-combined, rows-combined, within-overlap}
use Rattle.jbig2_base.proofs.CountLemmas.{within-none, within-rows}
use Rattle.jbig2_base.proofs.bitmap.combine.combine_part.Goals as goal
use Rattle.jbig2_base.proofs.bitmap.combine.combine_part.Goals.{then-columns-eq0-via-then-columns-eq0, then-columns-eq0-via-else-columns-eq0+then-rows-eq0}

pub returns-then-columns-eq0-clause-value : goal.returns-then-columns-eq0-clause-value
returns-then-columns-eq0-clause-value g c =
    none-combined c.args.operator c.args.page.now c.args.source.now c.args.x c.args.y c.starts-left.result.0 c.starts-left.result.1 c.min-columns.result c.starts-top.result.0 c.starts-top.result.1 c.min-rows.result
    (axis-at c.args.x c.args.page.now.width c.args.source.now.width c.starts-left.result.0 c.starts-left.result.1 c.min-columns.result c.ranges.x c.starts-left.ensures.difference c.starts-left.ensures.one (omega (arith, c.min-columns.ensures)))
    (axis-at c.args.y c.args.page.now.height c.args.source.now.height c.starts-top.result.0 c.starts-top.result.1 c.min-rows.result c.ranges.y c.starts-top.ensures.difference c.starts-top.ensures.one (omega (arith, c.min-rows.ensures)))
    c.width-2.ensures.table
    (elim c.then-columns-eq0.branch [
      | then-columns-eq0-via-then-columns-eq0 w ↦ inl w.if-columns-eq0.true
      | then-columns-eq0-via-else-columns-eq0+then-rows-eq0 w ↦ inr w.if-rows-eq0.true
    ])

pub returns-then-columns-eq0-clause-steps : goal.returns-then-columns-eq0-clause-steps
returns-then-columns-eq0-clause-steps g c = within-none _ c.args.steps.now

pub returns-clause-value : goal.returns-clause-value
returns-clause-value g c =
    rows-combined c.args.operator c.args.page.now c.args.source.now c.combine_block.new.page c.args.x c.args.y c.starts-left.result.0 c.starts-left.result.1 c.min-columns.result c.starts-top.result.0 c.starts-top.result.1 c.min-rows.result c.min-rows.result
    (axis-at c.args.x c.args.page.now.width c.args.source.now.width c.starts-left.result.0 c.starts-left.result.1 c.min-columns.result c.ranges.x c.starts-left.ensures.difference c.starts-left.ensures.one (omega (arith, c.min-columns.ensures)))
    (axis-at c.args.y c.args.page.now.height c.args.source.now.height c.starts-top.result.0 c.starts-top.result.1 c.min-rows.result c.ranges.y c.starts-top.ensures.difference c.starts-top.ensures.one (omega (arith, c.min-rows.ensures)))
    refl c.combine_block.ensures.value

pub returns-clause-steps : goal.returns-clause-steps
returns-clause-steps g c =
    within-overlap c.args.page.now c.args.source.now c.args.x c.args.y c.starts-left.result.0 c.starts-left.result.1 c.min-columns.result c.starts-top.result.0 c.starts-top.result.1 c.min-rows.result c.min-rows.result c.args.steps.now c.combine_block.new.steps
    (axis-at c.args.x c.args.page.now.width c.args.source.now.width c.starts-left.result.0 c.starts-left.result.1 c.min-columns.result c.ranges.x c.starts-left.ensures.difference c.starts-left.ensures.one (omega (arith, c.min-columns.ensures)))
    (axis-at c.args.y c.args.page.now.height c.args.source.now.height c.starts-top.result.0 c.starts-top.result.1 c.min-rows.result c.ranges.y c.starts-top.ensures.difference c.starts-top.ensures.one (omega (arith, c.min-rows.ensures)))
    refl (within-rows c.starts-left.result.0 c.min-columns.result c.starts-left.result.1 c.min-rows.result c.args.steps.now c.combine_block.new.steps (omega arith) c.combine_block.ensures.steps)

pub returns-then-columns-eq0-clause-exact : goal.returns-then-columns-eq0-clause-exact
returns-then-columns-eq0-clause-exact g c =
    no-counts c.args.page.now c.args.source.now c.args.x c.args.y c.starts-left.result.0 c.starts-left.result.1 c.min-columns.result c.starts-top.result.0 c.starts-top.result.1 c.min-rows.result c.args.steps.now
    (axis-at c.args.x c.args.page.now.width c.args.source.now.width c.starts-left.result.0 c.starts-left.result.1 c.min-columns.result c.ranges.x c.starts-left.ensures.difference c.starts-left.ensures.one (omega (arith, c.min-columns.ensures)))
    (axis-at c.args.y c.args.page.now.height c.args.source.now.height c.starts-top.result.0 c.starts-top.result.1 c.min-rows.result c.ranges.y c.starts-top.ensures.difference c.starts-top.ensures.one (omega (arith, c.min-rows.ensures)))
    (elim c.then-columns-eq0.branch [
      | then-columns-eq0-via-then-columns-eq0 w ↦ inl w.if-columns-eq0.true
      | then-columns-eq0-via-else-columns-eq0+then-rows-eq0 w ↦ inr w.if-rows-eq0.true
    ])

pub returns-clause-exact : goal.returns-clause-exact
returns-clause-exact g c =
    all-counts c.args.page.now c.args.source.now c.args.x c.args.y c.starts-left.result.0 c.starts-left.result.1 c.min-columns.result c.starts-top.result.0 c.starts-top.result.1 c.min-rows.result c.args.steps.now c.combine_block.new.steps
    (axis-at c.args.x c.args.page.now.width c.args.source.now.width c.starts-left.result.0 c.starts-left.result.1 c.min-columns.result c.ranges.x c.starts-left.ensures.difference c.starts-left.ensures.one (omega (arith, c.min-columns.ensures)))
    (axis-at c.args.y c.args.page.now.height c.args.source.now.height c.starts-top.result.0 c.starts-top.result.1 c.min-rows.result c.ranges.y c.starts-top.ensures.difference c.starts-top.ensures.one (omega (arith, c.min-rows.ensures)))
    (omega arith) c.combine_block.ensures.steps
