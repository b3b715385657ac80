use Rattle.std.proofs.Common.{◌≡◌, ℕ, ◌+◌, ◌∙◌, ap, refl, inr, arith}
use Rattle.jbig2_base.specs.Counts.{rows_combined}
use Rattle.jbig2_base.specs.inner.Blocks.{with_block}
use Rattle.jbig2_base.proofs.BlockLemmas.{block-none, page-more}
use Rattle.jbig2_base.proofs.CountLemmas.{rows-none, rows-then, wide-counts}
use Rattle.jbig2_base.proofs.GridLemmas.{table-at}
use Rattle.jbig2_base.proofs.bitmap.combine.combine_by.Goals as goal

pub loop-row-init : goal.loop-row-init
loop-row-init g c =
    let b = c.args.block in
    record {
      page = block-none c.args.operator c.args.page.now c.args.source.now b.left (b.left + b.columns) b.top (b.top + 0) b.from b.from_row c.requires.table (inr (omega arith));
      steps = rows-none b.left b.columns b.from 0 c.args.steps.now refl;
    }

pub loop-row-preserved : goal.loop-row-preserved
loop-row-preserved g c =
    let b = c.args.block in
    record {
      page = page-more c.args.operator c.args.page.now c.args.source.now c.loop-row.page c.combine_row.new.page b.left (b.left + b.columns) b.top c.loop-row.row b.from b.from_row (omega (arith, c.requires.inside.bottom)) c.loop-row.invariant.page c.combine_row.ensures.value;
      steps = rows-then b.left b.columns b.from c.loop-row.row c.args.steps.now c.loop-row.steps c.combine_row.new.steps c.loop-row.invariant.steps (wide-counts b.left b.columns b.from _ c.loop-row.steps c.combine_row.new.steps (omega (arith, c.if-block-last.false, c.requires.inside.some)) refl c.combine_row.ensures.steps);
    }

pub combine_row-requires-clause-table : goal.combine_row-requires-clause-table
combine_row-requires-clause-table g c = table-at c.loop-row.page c.args.page.now.width c.args.page.now.height _ c.loop-row.invariant.page

pub returns : goal.returns
returns g c =
    let b = c.args.block in
    let all : c.loop-row.row ≡ b.rows = omega arith in
    record {
      value = c.loop-row.invariant.page ∙ ap (λ (n : ℕ). with_block c.args.operator c.args.page.now c.args.source.now b.left (b.left + b.columns) b.top (b.top + n) b.from b.from_row) all;
      steps = c.loop-row.invariant.steps ∙ ap (λ (n : ℕ). rows_combined n b.left b.columns b.from c.args.steps.now) all;
    }
