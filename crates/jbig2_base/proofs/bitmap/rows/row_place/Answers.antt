use Rattle.std.proofs.Common.{◌*◌, ◌^◌, ◌<◌, arith, rules}
use Rattle.jbig2_base.proofs.PackedLemmas.{place-fits}
use Rattle.jbig2_base.proofs.bitmap.rows.row_place.Goals as goal

pub overflow_mul-result : goal.overflow_mul-result
overflow_mul-result c =
    let bound : c.args.y * c.args.stride < 2 ^ 64 = place-fits c.args.y c.args.stride (omega (arith, c.ranges.y)) (omega (arith, c.requires, c.ranges.width)) in
    search rules
