use Rattle.std.proofs.Common.{◌≡◌, ℕ, ◌+◌, ◌-◌, ◌*◌, ◌/◌, ◌%◌, ◌≤◌, ◌∙◌, ap, refl, arith}
use Rattle.jbig2_base.specs.Grid.{Grid, pixel_at}
use Rattle.jbig2_base.specs.inner.Shapes.{grid_in}
use Rattle.jbig2_base.specs.Bits.{bit}
use Rattle.jbig2_base.proofs.CountLemmas.{after_words-none, after_words-run, wide-counts}
use Rattle.jbig2_base.proofs.RunLemmas.{run-same, run-more, aligned-source}
use Rattle.jbig2_base.proofs.bitmap.rows.blocks.aligned_row.Goals as goal

pub loop-word-init : goal.loop-word-init
loop-word-init g c =
    let s = c.args.shape in
    let l = c.args.line in
    let from = c.args.source.shape in
    let source : Grid = grid_in from c.args.source.words.words.now in
    let first : ℕ = l.left / 64 in
    let place : ℕ = l.from_y * from.stride + l.from / 64 in
    record {
      same_reference = c.combine_run.ensures.same_reference;
      packed = c.combine_run.ensures.packed;
      value = run-same c.args.operator (grid_in s c.args.words.now.words.now) (grid_in s c.combine_run.new.words.words.now) l.left (64 * first + l.left % 64) l.y (64 - l.left % 64) (64 * (first + 1) - l.left) (λ i. pixel_at source (l.from + (i - l.left)) l.from_y) (λ i. bit c.load-bits.result (63 - i % 64)) c.combine_run.ensures.value (omega arith) (omega arith)
          (λ i low high. ap (λ (n : ℕ). bit n (63 - i % 64)) c.load-bits.ensures.value ∙ aligned-source from.width from.height from.stride c.args.source.words.words.now l.from l.from_y l.left first i place c.requires.inside.source_packed c.requires.inside.source_row c.requires.aligned low (omega arith) (omega (arith, c.requires.wide, c.requires.inside.source_right)) (omega arith));
      steps = after_words-run c.args.steps.now c.args.steps.now c.load-bits.new.steps c.combine_run.new.steps 0 (first + 1 - first) (after_words-none c.args.steps.now 0 refl) c.load-bits.ensures.steps c.combine_run.ensures.steps (omega arith);
    }

pub loop-word-preserved : goal.loop-word-preserved
loop-word-preserved g c =
    let s = c.args.shape in
    let l = c.args.line in
    let from = c.args.source.shape in
    let source : Grid = grid_in from c.args.source.words.words.now in
    let first : ℕ = l.left / 64 in
    let word : ℕ = c.loop-word.word in
    let place : ℕ = l.from_y * from.stride + l.from / 64 + (word - first) in
    let opening : first + 1 ≤ word = c.loop-word.auto.word in
    record {
      same_reference = c.combine_run-in-loop-word.ensures.same_reference ∙ c.loop-word.invariant.same_reference;
      packed = c.combine_run-in-loop-word.ensures.packed;
      value = run-more c.args.operator (grid_in s c.args.words.now.words.now) (grid_in s c.loop-word.words.words.now) (grid_in s c.combine_run-in-loop-word.new.words.words.now) l.left (64 * word + 0) l.y (64 * word - l.left) 64 (64 * (word + 1) - l.left) (λ i. pixel_at source (l.from + (i - l.left)) l.from_y) (λ i. bit c.load-bits-in-loop-word.result (63 - i % 64)) c.loop-word.invariant.value c.combine_run-in-loop-word.ensures.value (omega arith) (omega arith)
          (λ i low high. ap (λ (n : ℕ). bit n (63 - i % 64)) c.load-bits-in-loop-word.ensures.value ∙ aligned-source from.width from.height from.stride c.args.source.words.words.now l.from l.from_y l.left word i place c.requires.inside.source_packed c.requires.inside.source_row c.requires.aligned (omega arith) (omega arith) (omega (arith, c.requires.inside.source_right, c.loop-word-test.true)) (omega arith));
      steps = after_words-run c.args.steps.now c.loop-word.steps c.load-bits-in-loop-word.new.steps c.combine_run-in-loop-word.new.steps (word - first) (word + 1 - first) c.loop-word.invariant.steps c.load-bits-in-loop-word.ensures.steps c.combine_run-in-loop-word.ensures.steps (omega arith);
    }

pub returns-clause-combines : goal.returns-clause-combines
returns-clause-combines g c =
    let s = c.args.shape in
    let l = c.args.line in
    let from = c.args.source.shape in
    let source : Grid = grid_in from c.args.source.words.words.now in
    let first : ℕ = l.left / 64 in
    let last : ℕ = (l.left + l.columns - 1) / 64 in
    let word : ℕ = c.loop-word.word in
    let all : word ≡ last = omega (arith, c.requires.wide, c.loop-word-test.false) in
    let place : ℕ = l.from_y * from.stride + l.from / 64 + (last - first) in
    record {
      packed = c.combine_run-2.ensures.packed;
      value = run-more c.args.operator (grid_in s c.args.words.now.words.now) (grid_in s c.loop-word.words.words.now) (grid_in s c.combine_run-2.new.words.words.now) l.left (64 * last + 0) l.y (64 * word - l.left) ((l.left + l.columns - 1) % 64 + 1) l.columns (λ i. pixel_at source (l.from + (i - l.left)) l.from_y) (λ i. bit c.load-bits-2.result (63 - i % 64)) c.loop-word.invariant.value c.combine_run-2.ensures.value (omega (arith, c.requires.wide)) (omega (arith, c.requires.wide))
          (λ i low high. ap (λ (n : ℕ). bit n (63 - i % 64)) c.load-bits-2.ensures.value ∙ aligned-source from.width from.height from.stride c.args.source.words.words.now l.from l.from_y l.left last i place c.requires.inside.source_packed c.requires.inside.source_row c.requires.aligned (omega (arith, c.requires.wide)) (omega arith) (omega (arith, c.requires.inside.source_right)) (omega arith));
      steps = wide-counts l.left l.columns l.from (last + 1 - first) c.args.steps.now c.combine_run-2.new.steps (omega (arith, c.requires.wide, c.requires.aligned)) (omega arith) (after_words-run c.args.steps.now c.loop-word.steps c.load-bits-2.new.steps c.combine_run-2.new.steps (word - first) (last + 1 - first) c.loop-word.invariant.steps c.load-bits-2.ensures.steps c.combine_run-2.ensures.steps (omega (arith, c.requires.wide)));
    }
