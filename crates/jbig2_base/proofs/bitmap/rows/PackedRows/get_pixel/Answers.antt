use Rattle.std.proofs.Common.{◌≡◌, ◌+◌, ◌∙◌, ap, ℕ, arith}
use Rattle.jbig2_base.specs.Grid.{Grid, grid_of, pixel_at}
use Rattle.jbig2_base.specs.inner.Packed.{packed_pixel}
use Rattle.jbig2_base.proofs.BitLemmas.{one_bit-number}
use Rattle.jbig2_base.proofs.PackedLemmas.{row_bit-pixel, row_place-inside}
use Rattle.jbig2_base.proofs.bitmap.rows.PackedRows.get_pixel.Goals as goal

pub load_bits-requires-clause-inside : goal.load_bits-requires-clause-inside
load_bits-requires-clause-inside g c =
    let s = c.self.inside in
    let row = c.row_place-row in
    row_place-inside s.width s.height s.stride s.words row.result.first row.result.stride c.args.y c.self.invariant row.ensures.inside row.ensures.below

pub returns-clause-value : goal.returns-clause-value
returns-clause-value g c =
    let s = c.self.inside in
    let row = c.row_place-row in
    let grid : Grid = grid_of s.width s.height (packed_pixel s.stride s.words) in
    let column : c.args.x + 0 ≡ c.args.x = omega arith in
    rw (← c.self.view_is)
    (one_bit-number c.load_bits.result (pixel_at grid c.args.x c.args.y) c.load_bits.ensures.bound
    (c.load_bits.ensures.bits 0 (omega arith) ∙ row_bit-pixel s.width s.height s.stride s.words row.result.first row.result.stride (c.args.x + 0) c.args.y c.self.invariant row.ensures.inside row.ensures.below
    ∙ ap (λ (x : ℕ). pixel_at grid x c.args.y) column))
