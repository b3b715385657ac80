use Rattle.std.proofs.Common.{ℕ, ◌+◌, ◌^◌, ◌<◌, ◌≤◌, true, not, pos, ap, sym, subst, arith}
use Rattle.std.specs.Prelude.{◌+ℤ◌, ◌≤ℤ◌, unsigned_abs}
use Rattle.std.proofs.lemmas.Int.{ints}
use Rattle.jbig2_mmr.specs.T6.{Head}
use Rattle.jbig2_mmr.specs.inner.T6Reading.{pixels_of_row}
use Rattle.jbig2_mmr.specs.inner.T6Calls.{head_of}
use Rattle.jbig2_mmr.specs.inner.T6Steps.{words_after}
use Rattle.jbig2_mmr.proofs.T6Distances.{sum-wide, wide-is, near-place}
use Rattle.jbig2_mmr.proofs.T6Rows.{vertical-read, vertical-fault, outside-left, outside-right, sum-place}
use Rattle.jbig2_mmr.proofs.T6Steps.{moves-loaded, fault-words, vertical-words}
use Rattle.jbig2_mmr.proofs.mmr.row.vertical.Goals as goal
use Rattle.jbig2_mmr.proofs.mmr.row.vertical.Goals.{then-sum-from-via-then-sum-from, then-sum-from-via-else-sum-from+then-sum-from-2}

pub returns-then-sum-from-clause-value : goal.returns-then-sum-from-clause-value
returns-then-sum-from-clause-value g c = λ bits.
    let small : c.find_b1-b1.result < 2 ^ 32 = omega (arith, c.find_b1-b1.type_inv) in
    let sum = sum-wide c.find_b1-b1.result c.args.distance c.from.result c.from-2.result small c.ranges.distance c.from.ensures c.from-2.ensures in
    let start = wide-is c.args.place.a0 c.from-3.result (omega (arith, c.requires.column, c.width-width.type_inv, c.width-width.ensures.value)) c.from-3.ensures in
    vertical-fault c.args.bitmap.now.width (pixels_of_row c.args.bitmap.now c.args.above) (head_of c.args.place) c.find_b1-b1.result c.args.distance bits c.find_b1-b1.ensures.value
    (elim c.then-sum-from.branch [
      | then-sum-from-via-then-sum-from w ↦ outside-left c.args.place.a0 c.args.bitmap.now.width (pos c.find_b1-b1.result +ℤ c.args.distance) (grind (arith, ints, sum, start, w.if-sum-from.true))
      | then-sum-from-via-else-sum-from+then-sum-from-2 w ↦
          let end = wide-is c.width-width.result w.from-else-sum-from.result (omega (arith, c.width-width.type_inv)) w.from-else-sum-from.ensures in
          outside-right c.args.place.a0 c.args.bitmap.now.width (pos c.find_b1-b1.result +ℤ c.args.distance) (grind (arith, ints, sum, end, w.if-sum-from-2.true, c.width-width.ensures.value))
    ])

pub returns-clause-value : goal.returns-clause-value
returns-clause-value g c = λ bits.
    let small : c.find_b1-b1.result < 2 ^ 32 = omega (arith, c.find_b1-b1.type_inv) in
    let sum = sum-wide c.find_b1-b1.result c.args.distance c.from.result c.from-2.result small c.ranges.distance c.from.ensures c.from-2.ensures in
    let start = wide-is c.args.place.a0 c.from-3.result (omega (arith, c.requires.column, c.width-width.type_inv, c.width-width.ensures.value)) c.from-3.ensures in
    let end = wide-is c.width-width.result c.from-else-sum-from.result (omega (arith, c.width-width.type_inv)) c.from-else-sum-from.ensures in
    let inside : (pos c.args.place.a0 ≤ℤ (pos c.find_b1-b1.result +ℤ c.args.distance)) × ((pos c.find_b1-b1.result +ℤ c.args.distance) ≤ℤ pos c.args.bitmap.now.width) =
    (grind (arith, ints, sum, start, c.if-sum-from.false), grind (arith, ints, sum, end, c.if-sum-from-2.false, c.width-width.ensures.value)) in
    let place = sum-place (pos c.find_b1-b1.result +ℤ c.args.distance) c.args.place.a0 c.args.bitmap.now.width inside.0 inside.1 in
    let a1 = ap unsigned_abs sum in
    vertical-read c.args.bitmap.now.width (pixels_of_row c.args.bitmap.now c.args.above) (head_of c.args.place) c.find_b1-b1.result (unsigned_abs (pos c.find_b1-b1.result +ℤ c.args.distance)) c.args.distance _ bits c.find_b1-b1.ensures.value place.0 place.1 place.2 a1
    (ap (λ (a : ℕ). let made : Head = record { a0 = a; past_start = true; black = not c.args.place.black } in made) a1)

pub overflow_cast-a1 : goal.overflow_cast-a1
overflow_cast-a1 g c =
    let small : c.find_b1-b1.result < 2 ^ 32 = omega (arith, c.find_b1-b1.type_inv) in
    let sum = sum-wide c.find_b1-b1.result c.args.distance c.from.result c.from-2.result small c.ranges.distance c.from.ensures c.from-2.ensures in
    let start = wide-is c.args.place.a0 c.from-3.result (omega (arith, c.requires.column, c.width-width.type_inv, c.width-width.ensures.value)) c.from-3.ensures in
    let end = wide-is c.width-width.result c.from-else-sum-from.result (omega (arith, c.width-width.type_inv)) c.from-else-sum-from.ensures in
    grind (arith, ints, sum, start, end, c.if-sum-from.false, c.if-sum-from-2.false, c.width-width.type_inv)

pub returns-then-sum-from-clause-work : goal.returns-then-sum-from-clause-work
returns-then-sum-from-clause-work g c = λ near.
    let w : ℕ = c.args.bitmap.now.width in
    moves-loaded (words_after w c.args.place.a0 c.find_b1-b1.result) _ c.args.steps.now c.find_b1-b1.new.steps c.find_b1-b1.ensures.steps (fault-words w c.args.place.a0 c.find_b1-b1.result c.find_b1-b1.ensures.within)

pub returns-clause-work : goal.returns-clause-work
returns-clause-work g c = λ near.
    let w : ℕ = c.args.bitmap.now.width in
    let a0 : ℕ = c.args.place.a0 in
    let b1 : ℕ = c.find_b1-b1.result in
    let small : c.find_b1-b1.result < 2 ^ 32 = omega (arith, c.find_b1-b1.type_inv) in
    let sum = sum-wide c.find_b1-b1.result c.args.distance c.from.result c.from-2.result small c.ranges.distance c.from.ensures c.from-2.ensures in
    let start = wide-is c.args.place.a0 c.from-3.result (omega (arith, c.requires.column, c.width-width.type_inv, c.width-width.ensures.value)) c.from-3.ensures in
    let end = wide-is c.width-width.result c.from-else-sum-from.result (omega (arith, c.width-width.type_inv)) c.from-else-sum-from.ensures in
    let place = sum-place (pos c.find_b1-b1.result +ℤ c.args.distance) c.args.place.a0 c.args.bitmap.now.width (grind (arith, ints, sum, start, c.if-sum-from.false)) (grind (arith, ints, sum, end, c.if-sum-from-2.false, c.width-width.ensures.value)) in
    let a1 : ℕ = unsigned_abs (pos c.find_b1-b1.result +ℤ c.args.distance) in
    let reached = sym (ap unsigned_abs sum) in
    moves-loaded (words_after w a0 b1) _ c.args.steps.now c.find_b1-b1.new.steps c.find_b1-b1.ensures.steps
    (subst (λ (a : ℕ). words_after w a0 b1 ≤ words_after w a0 a + 1) reached (vertical-words w a0 b1 a1 (near-place b1 a1 c.args.distance near place.0)))
