use Rattle.std.proofs.Common.{◌+◌, arith}
use Rattle.std.proofs.lemmas.List.{get_or_read}
use Rattle.jbig2_base.proofs.PackedLemmas.{row_bit-none, row_bit-word}
use Rattle.jbig2_base.proofs.bitmap.rows.words.PackedWords.word.Goals as goal

pub returns-then-index-row : goal.returns-then-index-row
returns-then-index-row g c = λ k few. row_bit-none c.args.self.now c.args.row.first c.args.row.stride c.args.index k c.if-index-row.true

pub returns : goal.returns
returns g c = λ k few.
    let row = c.args.row in
    let words = c.self.inside.words.items in
    let inside = rw (← c.self.view_is) at c.requires in
    let read = get_or_read words (row.first + c.args.index) c.index.result.now (omega (arith, inside, c.if-index-row.false)) c.index.ensures 0 in
    rw (← c.self.view_is) (row_bit-word words row.first row.stride c.args.index c.index.result.now k c.if-index-row.false read few)
