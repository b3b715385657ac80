use Rattle.std.proofs.Common.{arith, rules, refl}
use Rattle.jbig2_writer.proofs.RowLemmas.{predicted-next, rows-more, rows-none}
use Rattle.jbig2_writer.proofs.decisions.coded_rows.Goals as goal

pub loop-y-init : goal.loop-y-init
loop-y-init g c = record {
  rows = rows-none c.in_ok-encoder.encoder c.args.coding.now c.args.bitmap.now c.in_ok-encoder.ensures.coded;
  predicted = refl;
  loads = omega arith;
  steps = search rules;
}

pub loop-y-preserved : goal.loop-y-preserved
loop-y-preserved g c = record {
  rows = rows-more c.loop-y.encoder c.push_row.new.encoder c.args.coding.now c.args.bitmap.now c.loop-y.y c.loop-y.predicted c.loop-y.invariant.rows c.loop-y.invariant.predicted c.in_ok-predicted.ensures.row;
  predicted = predicted-next c.args.coding.now c.args.bitmap.now c.loop-y.y c.in_ok-predicted.predicted c.in_ok-predicted.ensures.typical;
  loads = omega arith;
  steps = search rules;
}
