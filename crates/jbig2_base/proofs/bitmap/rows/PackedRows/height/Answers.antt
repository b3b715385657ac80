use Rattle.std.proofs.Common.{sym}
use Rattle.jbig2_base.specs.inner.Packed.{packed_pixel}
use Rattle.jbig2_base.proofs.GridLemmas.{grid_of-pixel_at}
use Rattle.jbig2_base.proofs.bitmap.rows.PackedRows.height.Goals as goal

pub returns-clause-table : goal.returns-clause-table
returns-clause-table g c =
    let s = c.self.inside in
    rw (← c.self.view_is) (sym (grid_of-pixel_at s.width s.height (packed_pixel s.stride s.words)))
