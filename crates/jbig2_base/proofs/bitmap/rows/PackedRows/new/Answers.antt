use Rattle.std.proofs.Common.{arith}
use Rattle.jbig2_base.proofs.GridLemmas.{grid_of-ext}
use Rattle.jbig2_base.proofs.bitmap.rows.PackedRows.new.Goals as goal

pub returns : goal.returns
returns g c = grid_of-ext 0 0 _ _ (λ x y left above. absurd (omega arith))
