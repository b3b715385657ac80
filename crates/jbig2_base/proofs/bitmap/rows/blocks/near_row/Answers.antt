use Rattle.std.proofs.Common.{ℕ, ◌+◌, ◌-◌, ◌*◌, ◌/◌, ◌%◌, ◌^◌, ◌∙◌, ap, refl, arith}
use Rattle.jbig2_base.specs.Grid.{Grid, pixel_at}
use Rattle.jbig2_base.specs.inner.Shapes.{grid_in}
use Rattle.jbig2_base.specs.Bits.{bit}
use Rattle.jbig2_base.proofs.CountLemmas.{near-counts}
use Rattle.jbig2_base.proofs.RunLemmas.{run-same, near-source}
use Rattle.jbig2_base.proofs.bitmap.rows.blocks.near_row.Goals as goal

pub returns-clause-combines : goal.returns-clause-combines
returns-clause-combines g c =
    let s = c.args.shape in
    let l = c.args.line in
    let from = c.args.source.shape in
    let source : Grid = grid_in from c.args.source.words.words.now in
    let word : ℕ = c.load.result * 2 ^ (l.from % 64) % 2 ^ 64 in
    record {
      packed = c.combine_run.ensures.packed;
      value = run-same c.args.operator (grid_in s c.args.words.now.words.now) (grid_in s c.combine_run.new.words.words.now) l.left (64 * (l.left / 64) + l.left % 64) l.y l.columns l.columns (λ i. pixel_at source (l.from + (i - l.left)) l.from_y) (λ i. bit (word / 2 ^ (l.left % 64)) (63 - i % 64)) c.combine_run.ensures.value (omega arith) refl
          (λ i low high. ap (λ (n : ℕ). bit (n * 2 ^ (l.from % 64) % 2 ^ 64 / 2 ^ (l.left % 64)) (63 - i % 64)) c.load.ensures.value ∙ near-source from.width from.height from.stride c.args.source.words.words.now l.from l.from_y l.left i c.requires.inside.source_packed (omega (arith, c.requires.inside.some)) c.requires.inside.source_row low (omega (arith, c.requires.inside.some, c.requires.one_word)) (omega (arith, c.requires.near)));
      steps = near-counts l.left l.columns l.from c.args.steps.now c.load.new.steps c.combine_run.new.steps c.requires.inside.some c.requires.near c.requires.one_word c.load.ensures.steps c.combine_run.ensures.steps;
    }
