use Rattle.std.proofs.Common.{ℕ, ◌+◌, Bool, sym, ap, ◌∙◌, arith}
use Rattle.std.proofs.lemmas.Bool.{cond-true, cond-false}
use Rattle.jbig2_base.specs.Counts.{Counts}
use Rattle.jbig2_base.specs.Search.{place_from}
use Rattle.jbig2_mmr.specs.T6.{is_change_from}
use Rattle.jbig2_mmr.specs.inner.T6Reading.{pixels_of_row}
use Rattle.jbig2_mmr_writer.proofs.PlaceLemmas.{b1-after, b1-start, turned}
use Rattle.jbig2_mmr_writer.proofs.changes.find_b1.Goals as goal

pub returns-then-not-place-clause-value : goal.returns-then-not-place-clause-value
returns-then-not-place-clause-value g c =
    let row : ℕ → Bool = pixels_of_row c.args.bitmap.now c.args.above in
    let p = c.args.place in
    b1-start row p.black c.args.to c.find_colour.result (c.requires.first (turned c.args.place.past_start _ c.if-not-place.true)).1 c.find_colour.ensures.value
    ∙ ap (λ (from : ℕ). place_from (is_change_from row p.black) from c.args.to) (sym (cond-false p.past_start (p.a0 + 1) 0 (turned p.past_start _ c.if-not-place.true)))

pub returns-then-not-place-clause-forward : goal.returns-then-not-place-clause-forward
returns-then-not-place-clause-forward g c = omega (arith, (c.requires.first (turned c.args.place.past_start _ c.if-not-place.true)).0)

pub returns-then-not-place-clause-loads : goal.returns-then-not-place-clause-loads
returns-then-not-place-clause-loads g c =
    omega (arith, (c.requires.first (turned c.args.place.past_start _ c.if-not-place.true)).0, ap (λ (t : Counts). t.loads) c.find_colour.ensures.steps)

pub returns-clause-value : goal.returns-clause-value
returns-clause-value g c =
    let row : ℕ → Bool = pixels_of_row c.args.bitmap.now c.args.above in
    let p = c.args.place in
    b1-after row p.black p.a0 c.args.to c.find_colour-of_colour.result c.find_colour-2.result c.requires.order c.find_colour-of_colour.ensures.value c.find_colour-2.ensures.value
    ∙ ap (λ (from : ℕ). place_from (is_change_from row p.black) from c.args.to) (sym (cond-true p.past_start (p.a0 + 1) 0 (turned p.past_start _ c.if-not-place.false)))

pub returns-clause-forward : goal.returns-clause-forward
returns-clause-forward g c = omega (arith, c.find_colour-of_colour.ensures.value.after, c.find_colour-2.ensures.value.after)

pub returns-clause-loads : goal.returns-clause-loads
returns-clause-loads g c =
    omega (
      arith,
      c.find_colour-of_colour.ensures.value.after,
      c.find_colour-2.ensures.value.after,
      ap (λ (t : Counts). t.loads) c.find_colour-of_colour.ensures.steps,
      ap (λ (t : Counts). t.loads) c.find_colour-2.ensures.steps,
    )
