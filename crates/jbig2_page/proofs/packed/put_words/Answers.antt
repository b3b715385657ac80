use Rattle.std.proofs.Common.{◌≡◌, ℕ, ◌+◌, ◌-◌, ◌*◌, ◌/◌, ◌<◌, ◌∙◌, length, refl, arith}
use Rattle.jbig2_base.proofs.CountLemmas.{loaded-as, loaded-more, loaded-none}
use Rattle.jbig2_page.specs.Image.{packed_byte}
use Rattle.jbig2_page.proofs.PackedRows.{words-part}
use Rattle.jbig2_page.proofs.PutLemmas.{puts-none, puts-all}
use Rattle.jbig2_page.proofs.packed.put_words.Goals as goal

pub loop-index-init : goal.loop-index-init
loop-index-init g c = record {
  puts = puts-none (λ (i : ℕ). packed_byte c.args.bitmap.now (c.args.column + i) c.args.y) c.args.place (8 * 0) c.args.buf.now refl;
  steps = loaded-none c.args.steps.now 0 refl;
}

pub loop-index-preserved : goal.loop-index-preserved
loop-index-preserved g c =
    let kept = c.loop-index.invariant.puts in
    let index : ℕ = c.loop-index.index in
    let first : ℕ = c.args.column / 8 in
    let words = c.row_words-words.result.words.now in
    let inside : first + index < length words = grind (arith) in
    let at : 8 * first ≡ c.args.column = grind (arith) in
    let bytes = rw c.load-word.ensures.value at c.put_bytes.ensures.bytes in
    record {
      puts = record {
        sized = c.put_bytes.ensures.sized ∙ kept.sized;
        before = λ k early. c.put_bytes.ensures.before k (omega (arith, early)) ∙ kept.before k early;
        bytes = λ i below. words-part c.args.bitmap.now words c.loop-index.buf c.put_bytes.new.buf first index c.args.column c.args.y c.args.place 8 (omega arith) at inside c.row_words-words.ensures.bits kept.bytes c.put_bytes.ensures.before bytes i (omega (arith, below));
      };
      steps = loaded-more c.args.steps.now c.loop-index.steps c.load-word.new.steps index (index + 1) c.loop-index.invariant.steps c.load-word.ensures.steps refl;
    }

pub returns-clause-bytes : goal.returns-clause-bytes
returns-clause-bytes g c = puts-all (λ (i : ℕ). packed_byte c.args.bitmap.now (c.args.column + i) c.args.y) c.args.place (8 * c.loop-index.index) _ c.args.buf.now c.loop-index.buf (omega arith) c.loop-index.invariant.puts

pub returns-clause-steps : goal.returns-clause-steps
returns-clause-steps g c = loaded-as c.args.steps.now c.loop-index.steps c.loop-index.index _ c.loop-index.invariant.steps (omega arith)

pub returns-then-first-count-clause-bytes : goal.returns-then-first-count-clause-bytes
returns-then-first-count-clause-bytes g c =
    let kept = c.loop-index.invariant.puts in
    let count : ℕ = c.min-count.result in
    let first : ℕ = c.args.column / 8 in
    let words = c.row_words-words.result.words.now in
    let all : c.loop-index.index ≡ count = omega (arith, c.loop-index-test.false, c.loop-index.auto.index-end) in
    let inside : first + count < length words = omega (arith, c.if-first-count.true, c.len-then-left-lt8.ensures) in
    let at : 8 * first ≡ c.args.column = grind (arith) in
    let bytes = rw c.load-word-then-first-count.ensures.value at c.put_bytes-then-first-count.ensures.bytes in
    let whole : c.args.most ≡ 8 * count + (c.args.most - 8 * count) = omega (arith, c.if-left-gt0.true) in
    record {
      sized = c.put_bytes-then-first-count.ensures.sized ∙ kept.sized;
      before = λ k early. c.put_bytes-then-first-count.ensures.before k (omega (arith, early)) ∙ kept.before k early;
      bytes = λ i below. words-part c.args.bitmap.now words c.loop-index.buf c.put_bytes-then-first-count.new.buf first count c.args.column c.args.y c.args.place (c.args.most - 8 * count) (omega (arith, c.if-left-lt8.true)) at inside c.row_words-words.ensures.bits (λ k few. kept.bytes k (omega (arith, few, all))) c.put_bytes-then-first-count.ensures.before bytes i (omega (arith, below, whole));
    }
