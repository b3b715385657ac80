use Rattle.std.proofs.Common.{◌≡◌, ◌+◌, ◌∙◌, sym, ap, refl, ℕ, inr, arith}
use Rattle.jbig2_base.specs.Grid.{Grid}
use Rattle.jbig2_base.specs.Counts.{rows_combined}
use Rattle.jbig2_base.specs.inner.Blocks.{with_block}
use Rattle.jbig2_base.specs.inner.Packed.{packed_pixel}
use Rattle.jbig2_base.specs.inner.Shapes.{grid_in}
use Rattle.jbig2_base.proofs.BlockLemmas.{block-none}
use Rattle.jbig2_base.proofs.CountLemmas.{rows-none, rows-then}
use Rattle.jbig2_base.proofs.GridLemmas.{grid_of-pixel_at}
use Rattle.jbig2_base.proofs.RunLemmas.{rows-more}
use Rattle.jbig2_base.proofs.bitmap.rows.blocks.combine_laid.Goals as goal

pub loop-row-init : goal.loop-row-init
loop-row-init g c =
    let s = c.args.shape in
    let b = c.args.block in
    let page : Grid = grid_in s c.args.words.now.words.now in
    let source : Grid = grid_in c.args.source.shape c.args.source.words.words.now in
    record {
      same_reference = refl;
      packed = c.requires.inside.packed;
      value = block-none c.args.operator page source b.left (b.left + b.columns) b.top (b.top + 0) b.from b.from_row (sym (grid_of-pixel_at s.width s.height (packed_pixel s.stride c.args.words.now.words.now))) (inr (omega arith));
      steps = rows-none b.left b.columns b.from 0 c.args.steps.now refl;
    }

pub loop-row-preserved : goal.loop-row-preserved
loop-row-preserved g c =
    let s = c.args.shape in
    let b = c.args.block in
    let page : Grid = grid_in s c.args.words.now.words.now in
    let source : Grid = grid_in c.args.source.shape c.args.source.words.words.now in
    let row : ℕ = c.loop-row.row in
    record {
      same_reference = c.combine_line.ensures.same_reference ∙ c.loop-row.invariant.same_reference;
      packed = c.combine_line.ensures.combines.packed;
      value = rows-more c.args.operator page source (grid_in s c.loop-row.words.words.now) (grid_in s c.combine_line.new.words.words.now) b.left b.columns b.top row (b.top + row) b.from b.from_row (b.from_row + row) (omega arith) (omega arith) (omega arith) c.loop-row.invariant.value c.combine_line.ensures.combines.value;
      steps = rows-then b.left b.columns b.from row c.args.steps.now c.loop-row.steps c.combine_line.new.steps c.loop-row.invariant.steps c.combine_line.ensures.combines.steps;
    }

pub returns-clause-combines : goal.returns-clause-combines
returns-clause-combines g c =
    let s = c.args.shape in
    let b = c.args.block in
    let page : Grid = grid_in s c.args.words.now.words.now in
    let source : Grid = grid_in c.args.source.shape c.args.source.words.words.now in
    let all : c.loop-row.row ≡ b.rows = omega arith in
    record {
      packed = c.loop-row.invariant.packed;
      combined = record {
        value = c.loop-row.invariant.value ∙ ap (λ (n : ℕ). with_block c.args.operator page source b.left (b.left + b.columns) b.top (b.top + n) b.from b.from_row) all;
        steps = c.loop-row.invariant.steps ∙ ap (λ (n : ℕ). rows_combined n b.left b.columns b.from c.args.steps.now) all;
      };
    }
