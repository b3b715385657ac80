use Rattle.jbig2_base.proofs.WriteLemmas.{blackens-grid, blackens-inside, blackens-packed}
use Rattle.jbig2_base.proofs.bitmap.rows.PackedRows.set_pixel.Goals as goal

pub invariant_of-self : goal.invariant_of-self
invariant_of-self g c =
    let s = c.self.inside in
    blackens-packed s.width s.height s.stride c.row_place-row.result.first s.words c.blacken.new.self c.args.x c.args.y c.args.black c.black_inside-blackens.result c.self.invariant (λ above. (c.row_place-row.ensures.inside above).0) c.black_inside-blackens.ensures c.blacken.ensures.value

pub returns-clause-value : goal.returns-clause-value
returns-clause-value g c =
    let s = c.self.inside in
    rw (← c.self.view_is)
    (blackens-grid s.width s.height s.stride c.row_place-row.result.first s.words c.blacken.new.self c.args.x c.args.y c.args.black c.black_inside-blackens.result c.self.invariant (λ above. (c.row_place-row.ensures.inside above).0) c.black_inside-blackens.ensures c.blacken.ensures.value)

pub blacken-requires-clause-inside : goal.blacken-requires-clause-inside
blacken-requires-clause-inside g c =
    let s = c.self.inside in
    blackens-inside s.width s.height s.stride c.row_place-row.result.first s.words c.args.x c.args.y c.args.black c.black_inside-blackens.result c.self.invariant (λ above. (c.row_place-row.ensures.inside above).0) c.black_inside-blackens.ensures
