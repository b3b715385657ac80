use Rattle.std.proofs.Common.{◌≡◌, ℕ, ◌+◌, ◌≤◌, Bool, ap, sym, subst, arith}
use Rattle.jbig2_steps.proofs.LaneCounts.{lanes-then}
use Rattle.jbig2_mmr.specs.declared.mmr.row.Turn.{Turn}
use Rattle.jbig2_mmr.specs.T6.{b1_of}
use Rattle.jbig2_mmr.specs.inner.T6Reading.{pixels_of_row}
use Rattle.jbig2_mmr.specs.inner.T6Calls.{head_of}
use Rattle.jbig2_mmr.specs.inner.T6Steps.{words_after}
use Rattle.jbig2_mmr.proofs.T6Changes.{first-colour, first-end}
use Rattle.jbig2_mmr.proofs.T6Rows.{pass-read}
use Rattle.jbig2_mmr.proofs.T6Steps.{moves-loaded, moves-then, pass-words}
use Rattle.jbig2_mmr.proofs.mmr.row.pass.Goals as goal

pub returns-then-b1-width-clause-value : goal.returns-then-b1-width-clause-value
returns-then-b1-width-clause-value g c = λ bits.
    let w : ℕ = c.args.bitmap.now.width in
    let row : ℕ → Bool = pixels_of_row c.args.bitmap.now c.args.above in
    pass-read w row (head_of c.args.place) c.find_b1-b1.result c.find_b1-b1.result c.pass_turn.result bits c.find_b1-b1.ensures.value c.find_b1-b1.ensures.within c.find_b1-b1.ensures.colour c.find_b1-b1.ensures.forward
    (first-end row c.args.place.black w c.find_b1-b1.result c.find_b1-b1.ensures.within (omega (arith, c.if-b1-width.true, c.width.ensures.value)))
    (ap (λ (t : Turn). t.turn) c.pass_turn.ensures) (ap (λ (t : Turn). head_of t.next) c.pass_turn.ensures)

pub returns-clause-lanes : goal.returns-clause-lanes
returns-clause-lanes g c = lanes-then c.args.steps.now c.find_b1-b1.new.steps c.find_b1.new.steps c.find_b1-b1.ensures.lanes (lanes-then c.find_b1-b1.new.steps c.at-word.new.steps c.find_b1.new.steps c.at-word.ensures.lanes c.find_b1.ensures.lanes)

pub returns-clause-value : goal.returns-clause-value
unfolding b1_of
returns-clause-value g c = λ bits.
    let w : ℕ = c.args.bitmap.now.width in
    let row : ℕ → Bool = pixels_of_row c.args.bitmap.now c.args.above in
    pass-read w row (head_of c.args.place) c.find_b1-b1.result c.find_b1.result c.pass_turn-2.result bits c.find_b1-b1.ensures.value c.find_b1-b1.ensures.within c.find_b1-b1.ensures.colour c.find_b1-b1.ensures.forward
    (first-colour row c.args.place.black c.find_b1-b1.result w c.find_b1.result (omega (arith, c.if-b1-width.false, c.width.ensures.value)) (c.find_b1-b1.ensures.colour (omega (arith, c.if-b1-width.false, c.width.ensures.value))) c.find_b1.ensures.value)
    (ap (λ (t : Turn). t.turn) c.pass_turn-2.ensures) (ap (λ (t : Turn). head_of t.next) c.pass_turn-2.ensures)

pub returns-then-b1-width-clause-work : goal.returns-then-b1-width-clause-work
returns-then-b1-width-clause-work g c =
    let w : ℕ = c.args.bitmap.now.width in
    let b1 : ℕ = c.find_b1-b1.result in
    let reached : c.find_b1-b1.result ≡ c.pass_turn.result.next.a0 = sym (ap (λ (t : Turn). t.next.a0) c.pass_turn.ensures) in
    moves-loaded (words_after w c.args.place.a0 b1) _ c.args.steps.now c.find_b1-b1.new.steps c.find_b1-b1.ensures.steps
    (subst (λ (b : ℕ). words_after w c.args.place.a0 b1 ≤ words_after w c.args.place.a0 b + 1) reached (omega arith))

pub returns-clause-work : goal.returns-clause-work
returns-clause-work g c =
    let w : ℕ = c.args.bitmap.now.width in
    let a0 : ℕ = c.args.place.a0 in
    let b1 : ℕ = c.find_b1-b1.result in
    let b2 : ℕ = c.find_b1.result in
    let reached : c.find_b1.result ≡ c.pass_turn-2.result.next.a0 = sym (ap (λ (t : Turn). t.next.a0) c.pass_turn-2.ensures) in
    moves-then (words_after w a0 b1) (1 + words_after w b1 b2) _ c.args.steps.now c.find_b1-b1.new.steps c.find_b1.new.steps
    (moves-loaded (words_after w a0 b1) (words_after w a0 b1) c.args.steps.now c.find_b1-b1.new.steps c.find_b1-b1.ensures.steps (omega arith))
    (moves-then 1 (words_after w b1 b2) (1 + words_after w b1 b2) c.find_b1-b1.new.steps c.at-word.new.steps c.find_b1.new.steps c.at-word.ensures.work
    (moves-loaded (words_after w b1 b2) (words_after w b1 b2) c.at-word.new.steps c.find_b1.new.steps c.find_b1.ensures.steps (omega arith)) (omega arith))
    (subst (λ (b : ℕ). words_after w a0 b1 + (1 + words_after w b1 b2) ≤ words_after w a0 b + 1) reached
    (pass-words w a0 b1 b2 c.find_b1-b1.ensures.forward (omega (arith, c.if-b1-width.false, c.width.ensures.value)) c.find_b1.ensures.forward))
