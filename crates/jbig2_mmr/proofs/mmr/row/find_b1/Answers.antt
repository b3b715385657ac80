use Rattle.std.proofs.Common.{◌≡◌, ℕ, ◌+◌, ◌-◌, ◌*◌, ◌/◌, ◌^◌, ◌<◌, ◌≤◌, true, false, cond, leb, Bool, refl, sym, ap, ◌∙◌, ⊎_elim, arith}
use Rattle.std.proofs.lemmas.Bool.{cases_Bool, cond-true, cond-false}
use Rattle.std.specs.Int.RustNames.{bit_and}
use Rattle.std.proofs.lemmas.Nat.{and_le_r}
use Rattle.jbig2_base.specs.Search.{place_from}
use Rattle.jbig2_base.specs.Bits.{bit}
use Rattle.jbig2_base.proofs.GridLemmas.{pixel_at-right}
use Rattle.std.specs.Int.Count.{count_leading_zeros}
use Rattle.jbig2_base.specs.Counts.{words_searched}
use Rattle.jbig2_base.proofs.CountLemmas.{loaded-as, loaded-none}
use Rattle.jbig2_steps.proofs.LaneCounts.{lanes-none}
use Rattle.jbig2_mmr.specs.declared.mmr.change.RowWord.{RowWord}
use Rattle.jbig2_mmr.specs.T6.{b1_of, is_change_from, left_of}
use Rattle.jbig2_mmr.specs.inner.T6Reading.{pixels_of_row}
use Rattle.jbig2_mmr.specs.inner.T6Calls.{IsWordOf}
use Rattle.jbig2_mmr.proofs.T6Changes.{IsChanges, changes-right, changes-none, changes-within, changes-later, last-left, leading-within, place-turned}
use Rattle.jbig2_mmr.proofs.T6Steps.{same-word, later-word}
use Rattle.jbig2_mmr.proofs.mmr.row.find_b1.Goals as goal

and-small : (a b : ℕ) → b < 2 ^ 64 → bit_and a b < 2 ^ 64
and-small a b small = omega (arith, and_le_r a b)

-- where b1 is looked for from
abbrev start : Bool → ℕ → ℕ
start past_start a0 = cond past_start (a0 + 1) 0

start-at : (past_start : Bool) (a0 : ℕ) → (past_start ≡ false → a0 ≡ 0) → (a0 ≤ start past_start a0) × (start past_start a0 ≤ a0 + 1) × (start past_start a0 ≤ 64 * (a0 / 64) → 64 * (a0 / 64) ≡ 0)
start-at past_start a0 first =
    ⊎_elim
    (λ (t : past_start ≡ true). let is = cond-true past_start (a0 + 1) 0 t in (omega (arith, is), omega (arith, is), λ h. absurd (omega (arith, is))))
    (λ (f : past_start ≡ false). let is = cond-false past_start (a0 + 1) 0 f in let zero = first f in (omega (arith, zero), omega (arith, is), λ h. omega (arith, zero)))
    (cases_Bool past_start)

-- the changes in the word above a0, from where b1 may lie
in-word : (row : ℕ → Bool) (black past_start : Bool) (a0 : ℕ) (w : RowWord) (changes right : ℕ) → IsWordOf row w → w.index ≡ a0 / 64 → (past_start ≡ false → a0 ≡ 0) → changes < 2 ^ 64 → right < 2 ^ 64 → changes ≡ cond black w.to_white w.to_black → ((k : ℕ) → k < 64 → bit right (63 - k) ≡ leb (start past_start a0) (64 * (a0 / 64) + k)) → IsChanges row black (start past_start a0) (64 * w.index) (bit_and changes right)
in-word row black past_start a0 w changes right is index first small_changes small_right e taken =
    let at = start-at past_start a0 first in
    changes-right row black (start past_start a0) (64 * w.index) w.pixels is.left changes right
    (λ h. omega (arith, at.2 (omega (arith, h, index)), index)) small_changes small_right is.pixels is.first is.others
    (λ k. ap (λ (n : ℕ). bit n k) e ∙ is.changes black k)
    (λ k inside. taken k inside ∙ ap (λ (i : ℕ). leb (start past_start a0) (64 * i + k)) (sym index))
    (and-small changes right small_right)

pub returns-then-changes-ne0 : goal.returns-then-changes-ne0
unfolding b1_of
returns-then-changes-ne0 g c =
    let row : ℕ → Bool = pixels_of_row c.args.bitmap.now c.args.above in
    let black : Bool = c.args.place.black in
    let from : ℕ = start c.args.place.past_start c.args.place.a0 in
    let w : ℕ = c.args.bitmap.now.width in
    let at = start-at c.args.place.past_start c.args.place.a0 c.requires.first in
    let is = in-word row black c.args.place.past_start c.args.place.a0 c.args.word c.changes.result c.right_of.result c.requires.word c.requires.index c.requires.first (omega (arith, c.changes.type_inv)) (omega (arith, c.right_of.type_inv)) c.changes.ensures c.right_of.ensures in
    let value = changes-within row black from (64 * c.args.word.index) (bit_and c.changes.result c.right_of.result) w is c.if-changes-ne0.true (omega (arith, at.1, c.requires.column))
    (λ i a b. absurd (omega (arith, a, b, at.0, c.requires.index))) (λ i past. pixel_at-right c.args.bitmap.now i c.args.above past) in
    let place = place-turned row black from w (omega (arith, at.1, c.requires.column)) in
    let lead : ℕ = count_leading_zeros 64 (bit_and c.changes.result c.right_of.result) in
    let few : count_leading_zeros 64 (bit_and c.changes.result c.right_of.result) < 64 = leading-within (bit_and c.changes.result c.right_of.result) is.small c.if-changes-ne0.true in
    record {
      value = value;
      within = omega (arith, value, place.0);
      forward = omega (arith, value, place.1, at.0);
      lanes = lanes-none c.args.steps.now;
      steps = loaded-none c.args.steps.now _ (sym (same-word w c.args.place.a0 c.args.word.index lead (64 * c.args.word.index + lead) c.requires.index c.requires.column (omega (arith, value, place.1, at.0)) refl few));
      colour = λ inside. ap row value ∙ place.2 (omega (arith, value, inside));
    }

pub find_change-requires : goal.find_change-requires
find_change-requires g c =
    let next : 64 * c.args.word.index + 64 ≡ 64 * (c.args.word.index + 1) = omega arith in
    last-left (pixels_of_row c.args.bitmap.now c.args.above) (64 * c.args.word.index) c.args.word.pixels c.requires.word.pixels ∙ ap (λ (x : ℕ). left_of (pixels_of_row c.args.bitmap.now c.args.above) x) next

pub returns : goal.returns
unfolding b1_of
returns g c =
    let row : ℕ → Bool = pixels_of_row c.args.bitmap.now c.args.above in
    let black : Bool = c.args.place.black in
    let x : ℕ = 64 * c.args.word.index in
    let from : ℕ = start c.args.place.past_start c.args.place.a0 in
    let w : ℕ = c.args.bitmap.now.width in
    let at = start-at c.args.place.past_start c.args.place.a0 c.requires.first in
    let is = in-word row black c.args.place.past_start c.args.place.a0 c.args.word c.changes.result c.right_of.result c.requires.word c.requires.index c.requires.first (omega (arith, c.changes.type_inv)) (omega (arith, c.right_of.type_inv)) c.changes.ensures c.right_of.ensures in
    let none = changes-none row black from x (bit_and c.changes.result c.right_of.result) is c.if-changes-ne0.false (λ i a b. absurd (omega (arith, a, b, at.0, c.requires.index))) in
    let next : 64 * (c.args.word.index + 1) ≡ x + 64 = omega arith in
    let value : c.find_change.result ≡ place_from (is_change_from row black) from w =
    c.find_change.ensures.value ∙ changes-later row black from (64 * (c.args.word.index + 1)) w (omega (arith, at.1, c.requires.index)) (λ i a b. none i a (omega (arith, next))) in
    let place = place-turned row black from w (omega (arith, at.1, c.requires.column)) in
    record {
      value = value;
      within = omega (arith, value, place.0);
      forward = omega (arith, value, place.1, at.0);
      lanes = c.find_change.ensures.lanes;
      steps = loaded-as c.args.steps.now c.find_change.new.steps (words_searched (64 * (c.args.word.index + 1)) w c.find_change.result) _ c.find_change.ensures.steps
          (later-word w c.args.place.a0 c.args.word.index c.find_change.result c.requires.index c.requires.column (omega (arith, value, place.0)) (λ order. let later = place-turned row black (64 * (c.args.word.index + 1)) w order in omega (arith, later.1, c.find_change.ensures.value)));
      colour = λ inside. ap row value ∙ place.2 (omega (arith, value, inside));
    }
