use Rattle.std.proofs.Common.{ℕ, ◌+◌, ◌-◌, ◌<◌, ◌∙◌, ap, get_or, arith}
use Rattle.jbig2_base.specs.Bits.{bit}
use Rattle.jbig2_base.proofs.PackedLemmas.{whole_row-inside, word-pixel}
use Rattle.jbig2_base.proofs.bitmap.rows.PackedRows.row_words.Goals as goal

pub row-requires : goal.row-requires
row-requires g c =
    let s = c.self.inside in
    let row = rw (← c.self.view_is) at c.requires in
    let place = c.row_place.ensures.inside row in
    whole_row-inside s.width s.height s.stride s.words c.row_place.result.first c.row_place.result.stride c.args.y c.self.invariant row place.0 place.1

pub returns-clause-sized : goal.returns-clause-sized
returns-clause-sized g c =
    let row = rw (← c.self.view_is) at c.requires in
    let place = c.row_place.ensures.inside row in
    rw (← c.self.view_is) (omega (arith, c.row.ensures.sized, place.1, c.self.invariant.strided))

pub returns-clause-bits : goal.returns-clause-bits
returns-clause-bits g c = λ i k within few.
    let s = c.self.inside in
    let row = rw (← c.self.view_is) at c.requires in
    let place = c.row_place.ensures.inside row in
    let inside : i < c.row_place.result.stride = omega (arith, within, c.row.ensures.sized) in
    rw (← c.self.view_is)
    (ap (λ (n : ℕ). bit n (63 - k)) (c.row.ensures.each i inside ∙ ap (λ (n : ℕ). get_or s.words (n + i) 0) place.0)
    ∙ word-pixel s.width s.height s.stride s.words i c.args.y k c.self.invariant (omega (arith, inside, place.1)) row few)
