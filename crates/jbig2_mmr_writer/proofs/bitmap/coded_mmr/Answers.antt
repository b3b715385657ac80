use Rattle.std.proofs.Common.{arith, rules}
use Rattle.std.proofs.lemmas.Result.{IfOk-weaker}
use Rattle.jbig2_mmr_writer.proofs.RowLemmas.{bytes-are, reads-back, rows-begin, rows-end, rows-go}
use Rattle.jbig2_mmr_writer.proofs.bitmap.coded_mmr.Goals as goal

pub loop-y-init : goal.loop-y-init
loop-y-init g c = record {
  bits = rows-begin c.args.bitmap.now c.new-writer.result c.new-writer.ensures;
  loads = omega arith;
  steps = search rules;
}

pub loop-y-preserved : goal.loop-y-preserved
loop-y-preserved g c = record {
  bits =
      rows-go c.args.bitmap.now c.loop-y.y _ c.loop-y.writer c.push_row.new.writer (omega (arith, c.height-y-end.ensures.value)) c.in_ok-push_row.ensures.row c.loop-y.invariant.bits;
  loads = omega (arith, c.loop-y.invariant.loads, c.push_row.ensures.loads);
  steps = search rules;
}

pub returns-clause-bytes : goal.returns-clause-bytes
returns-clause-bytes g c =
    let rows = rows-end c.args.bitmap.now c.loop-y.y _ c.loop-y.writer (omega (arith, c.height-y-end.ensures.value)) c.loop-y.invariant.bits in
    IfOk-weaker c.finish.result _ _ (λ v is. bytes-are c.args.bitmap.now c.args.end_of_block v.items c.loop-y.writer c.push_end.new.writer rows c.in_ok-push_end.ensures is) c.finish.ensures

pub returns-clause-reads_back : goal.returns-clause-reads_back
returns-clause-reads_back g c =
    IfOk-weaker c.finish.result _ _ (λ v is. reads-back c.args.bitmap.now c.args.end_of_block v.items c.height-y-end.ensures.table is) (returns-clause-bytes g c)
