use Rattle.std.proofs.Common.{◌≡◌, take, ◌≤◌}
use Rattle.std.specs.Prelude.{sum}
use Rattle.jbig2_symbol.specs.Symbols.{exported_from}
use Rattle.jbig2_symbol.specs.inner.SymbolViews.{all_symbols}
use Rattle.jbig2_steps.specs.Work.{budget}
use Rattle.jbig2_symbol.proofs.exports.export_symbols.Given as goal

abbrev pub invariant-loop-k : goal.invariant-loop-k
invariant-loop-k g l = record {
  first : l.first ≡ sum (take l.k l.runs);
  pushed : l.exported.items ≡ exported_from l.runs 0 (take l.first (all_symbols l.symbols l.new));
  paid : budget l.work ≤ budget l.fn.work;
}
