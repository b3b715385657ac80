use Rattle.std.proofs.Common.{◌+◌, ◌∙◌}
use Rattle.jbig2_base.proofs.PackedLemmas.{row_bit-pixel, row_place-inside}
use Rattle.jbig2_base.proofs.bitmap.rows.PackedRows.load_pixels.Goals as goal

pub load_bits-requires-clause-inside : goal.load_bits-requires-clause-inside
load_bits-requires-clause-inside g c =
    let s = c.self.inside in
    let row = c.row_place-row in
    row_place-inside s.width s.height s.stride s.words row.result.first row.result.stride c.args.y c.self.invariant row.ensures.inside row.ensures.below

pub returns-clause-bits : goal.returns-clause-bits
returns-clause-bits g c = λ k inside.
    let s = c.self.inside in
    let row = c.row_place-row in
    rw (← c.self.view_is)
    (c.load_bits.ensures.bits k inside ∙ row_bit-pixel s.width s.height s.stride s.words row.result.first row.result.stride (c.args.x + k) c.args.y c.self.invariant row.ensures.inside row.ensures.below)
