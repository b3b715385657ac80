use Rattle.std.proofs.Common.{◌≡◌, ◌+◌, ◌*◌, ◌/◌, ◌%◌, ◌<◌, ◌≤◌, ℕ, ◌∙◌, ap, get_or, length, map, arith}
use Rattle.std.specs.List.{range_with_len}
use Rattle.std.proofs.lemmas.List.FromFn.{fill_by_all}
use Rattle.jbig2_base.specs.Counts.{Counts, words_loaded}
use Rattle.jbig2_steps.specs.Work.{sum_of_counts}
use Rattle.jbig2_page.specs.Image.{packed_byte, packed_part, row_bytes}
use Rattle.jbig2_page.proofs.PackedRows.{values-from}
use Rattle.jbig2_page.proofs.RowValues.{value-at, values-more}
use Rattle.jbig2_page.proofs.packed.write_packed.Goals as goal
use Rattle.jbig2_page.proofs.packed.write_packed.Goals.{then-count-eq0, else-count-eq0}

-- whole words take a load for each eight bytes, and the rest of a word one for a byte at least
put-whole : (first old new : Counts) (place count : ℕ) → sum_of_counts old ≤ sum_of_counts first + place → new ≡ words_loaded ((count + 7) / 8) old → sum_of_counts new ≤ sum_of_counts first + (place + count)
put-whole first old new place count before loaded =
    let all : sum_of_counts new ≡ sum_of_counts old + (count + 7) / 8 = ap (λ (s : Counts). sum_of_counts s) loaded ∙ omega arith in
    omega (arith, all, before)

put-rest : (first old mid new : Counts) (place none count : ℕ) → sum_of_counts old ≤ sum_of_counts first + place → mid ≡ words_loaded ((none + 7) / 8) old → none ≡ 0 → new ≡ words_loaded 1 mid → 1 ≤ count → sum_of_counts new ≤ sum_of_counts first + (place + count)
put-rest first old mid new place none count before whole empty loaded some =
    let one : sum_of_counts mid ≡ sum_of_counts old + (none + 7) / 8 = ap (λ (s : Counts). sum_of_counts s) whole ∙ omega arith in
    let two : sum_of_counts new ≡ sum_of_counts mid + 1 = ap (λ (s : Counts). sum_of_counts s) loaded ∙ omega arith in
    omega (arith, one, two, before)

pub loop-place-preserved : goal.loop-place-preserved
loop-place-preserved g c =
    let w = c.args.width in
    let place = c.loop-place.place in
    let column = c.loop-place.column in
    let y = c.loop-place.y in
    let kept = c.loop-place.invariant in
    let byte : ℕ → ℕ → ℕ = λ k j. packed_byte c.args.bitmap.now k j in
    let value : ℕ → ℕ = λ k. byte ((c.args.start + k) % row_bytes w) ((c.args.start + k) / row_bytes w) in
    let left : place < length c.loop-place.buf = c.loop-place-test.true in
    let rows : row_bytes w ≡ c.div_ceil-row_bytes.result = grind (arith) in
    let most : c.if-count-eq0.count ≤ c.min-most.result = elim c.if-count-eq0.branch [
      | then-count-eq0 b ↦ rw (b.count-is) (b.put_rest-count.ensures.most)
      | else-count-eq0 b ↦ rw (b.count-is) (c.put_words-count.ensures.most)
    ] in
    let narrow : column + c.if-count-eq0.count ≤ row_bytes w = rw (rows) (grind (arith)) in
    let sized : length c.if-count-eq0.buf ≡ length c.loop-place.buf = elim c.if-count-eq0.branch [
      | then-count-eq0 b ↦ rw (b.buf-is) (b.put_rest-count.ensures.bytes.sized ∙ c.put_words-count.ensures.bytes.sized)
      | else-count-eq0 b ↦ rw (b.buf-is) (c.put_words-count.ensures.bytes.sized)
    ] in
    let before : (k : ℕ) → k < place → get_or c.if-count-eq0.buf k 0 ≡ get_or c.loop-place.buf k 0 = elim c.if-count-eq0.branch [
      | then-count-eq0 b ↦ λ k early. rw (b.buf-is) (b.put_rest-count.ensures.bytes.before k early ∙ c.put_words-count.ensures.bytes.before k early)
      | else-count-eq0 b ↦ λ k early. rw (b.buf-is) (c.put_words-count.ensures.bytes.before k early)
    ] in
    let put : (i : ℕ) → i < c.if-count-eq0.count → get_or c.if-count-eq0.buf (place + i) 0 ≡ packed_byte c.args.bitmap.now (column + i) y = elim c.if-count-eq0.branch [
      | then-count-eq0 b ↦ λ i below. rw (b.buf-is) (b.put_rest-count.ensures.bytes.bytes i (rw (b.count-is) at below))
      | else-count-eq0 b ↦ λ i below. rw (b.buf-is) (c.put_words-count.ensures.bytes.bytes i (rw (b.count-is) at below))
    ] in
    let steps : sum_of_counts c.if-count-eq0.steps ≤ sum_of_counts c.args.steps.now + (place + c.if-count-eq0.count) = elim c.if-count-eq0.branch [
      | then-count-eq0 b ↦ rw (b.count-is, b.steps-is) (put-rest c.args.steps.now c.loop-place.steps c.put_words-count.new.steps b.put_rest-count.new.steps place _ _ kept.steps c.put_words-count.ensures.steps b.if-count-eq0.true b.put_rest-count.ensures.steps b.put_rest-count.ensures.some)
      | else-count-eq0 b ↦ rw (b.count-is, b.steps-is) (put-whole c.args.steps.now c.loop-place.steps c.put_words-count.new.steps place _ kept.steps c.put_words-count.ensures.steps)
    ] in
    record {
      sized = sized ∙ kept.sized;
      within = rw (sized) (grind (arith));
      reached = λ more. rw (rows) (omega (arith, kept.reached left, c.next_place.ensures.place, ap (λ (n : ℕ). y * n) rows));
      column = λ more. omega (arith, c.next_place.ensures.inside, rows);
      written = values-more value place c.if-count-eq0.count c.loop-place.buf c.if-count-eq0.buf kept.written before (λ i below. put i below
          ∙ value-at byte (row_bytes w) (c.args.start + (place + i)) y (column + i) (omega (arith, kept.reached left)) (omega (arith, below, narrow)));
      steps = steps;
    }

pub returns-clause-value : goal.returns-clause-value
unfolding packed_part
returns-clause-value g c =
    let w = c.args.width in
    let f : ℕ → ℕ = λ n. packed_byte c.args.bitmap.now (n % row_bytes w) (n / row_bytes w) in
    let start = c.args.start in
    let size : ℕ = length c.args.buf.now in
    let place : start + 0 ≡ start = omega arith in
    fill_by_all (λ k. f (start + k)) c.loop-place.buf size 0 c.loop-place.invariant.sized (λ k h. c.loop-place.invariant.written k (omega (arith, h, c.loop-place-test.false, c.loop-place.invariant.sized)))
    ∙ values-from f start 0 size
    ∙ ap (λ (n : ℕ). map f (range_with_len n size)) place
