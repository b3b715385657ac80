use Rattle.std.proofs.Common.{◌≡◌, ◌+◌, ◌≤◌, drop, length}
use Rattle.std.specs.Prelude.{sum}
use Rattle.jbig2_symbol.specs.SymbolBitmaps.{symbols_cut}
use Rattle.jbig2_symbol.specs.inner.FunctionResults.{symbols_after}
use Rattle.jbig2_steps.specs.Work.{budget}
use Rattle.jbig2_symbol.proofs.collective.cut_symbols.Given as goal

abbrev pub invariant-loop-width : goal.invariant-loop-width
invariant-loop-width g l = record {
  place : l.left + sum (drop l.width-index l.widths) ≤ 4294967295;
  cut : symbols_after l.symbols.items (symbols_cut l.collective l.height l.left (drop l.width-index l.widths)) ≡ symbols_after l.fn.symbols.items (symbols_cut l.collective l.height 0 l.widths);
  count : length l.symbols.items ≡ length l.fn.symbols.items + l.width-index;
  paid : budget l.work ≤ budget l.fn.work;
}
