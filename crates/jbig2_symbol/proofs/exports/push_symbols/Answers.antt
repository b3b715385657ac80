use Rattle.std.proofs.Common.{arith}
use Rattle.jbig2_symbol.proofs.ExportedLemmas.{pushed-next}
use Rattle.jbig2_symbol.proofs.exports.push_symbols.Goals as goal

pub loop-k-preserved : goal.loop-k-preserved
loop-k-preserved g c = record {
  pushed = pushed-next c.args.symbols.now c.args.new.now c.args.first c.loop-k.k c.args.exported.now.items c.loop-k.exported.items c.push.new.self.items c.in_ok-duplicate_symbol.field-0 (omega arith) c.loop-k.invariant.pushed c.in_ok-duplicate_symbol.ensures.value c.in_ok-push.ensures.items;
  paid = omega (arith, c.duplicate_symbol.ensures.paid, c.loop-k.invariant.paid);
}
