use Rattle.std.proofs.Common.{◌≤◌, length, arith}
use Rattle.jbig2_program.proofs.Sending.{block_more, if_ok}
use Rattle.jbig2_program.proofs.bitmap.write_rows.Goals as goal

pub loop-place-preserved : goal.loop-place-preserved
loop-place-preserved g c =
    let min = c.min-count.ensures in
    let size = c.size-in-loop-place.ensures in
    let fits : c.min-count.result ≤ length c.loop-place.block = omega (arith, min, c.min-count.array_long) in
    record {
      within = omega (arith, min, size, c.loop-place.invariant.within);
      written =
          block_more _ _ _ c.args.drawn.now c.loop-place.block _ c.loop-place.place c.min-count.result fits c.read_at.ensures c.loop-place.invariant.written
          (if_ok c.write_all.result _ c.if-is_err.ensures.negation c.write_all.ensures.bytes);
    }
