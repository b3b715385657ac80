use Rattle.std.proofs.Common.{◌≡◌, ◌++◌, drop, take, ◌≤◌}
use Rattle.jbig2_symbol.specs.inner.SymbolViews.{all_symbols}
use Rattle.jbig2_steps.specs.Work.{budget}
use Rattle.jbig2_symbol.proofs.exports.push_symbols.Given as goal

abbrev pub invariant-loop-k : goal.invariant-loop-k
invariant-loop-k g l = record {
  pushed : l.exported.items ≡ l.fn.exported.items ++ take l.k (drop l.first (all_symbols l.symbols l.new));
  paid : budget l.work ≤ budget l.fn.work;
}
