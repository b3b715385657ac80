use Rattle.std.proofs.Common.{Ok, sym, ap, arith}
use Rattle.jbig2_symbol.proofs.ExportedLemmas.{exported_new}
use Rattle.jbig2_symbol.proofs.exports.take_exports.Goals as goal

pub returns-then-runs-symbols-clause-value : goal.returns-then-runs-symbols-clause-value
returns-then-runs-symbols-clause-value g c = ap Ok (sym (exported_new c.args.runs.now c.args.symbols.now c.args.new.items (omega arith) (omega arith) c.requires))
