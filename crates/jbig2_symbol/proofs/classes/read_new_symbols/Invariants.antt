use Rattle.std.proofs.Common.{◌≡◌, ◌+◌, ◌-◌, ◌≤◌, ◌*◌, length}
use Rattle.jbig2_symbol.specs.HeightClasses.{classes_from, new_symbols}
use Rattle.jbig2_symbol.specs.inner.SymbolViews.{input_view}
use Rattle.jbig2_symbol.specs.inner.FunctionResults.{concat}
use Rattle.jbig2_steps.specs.Work.{budget}
use Rattle.jbig2_coder.specs.Integers.{number_steps}
use Rattle.jbig2_symbol.proofs.classes.read_new_symbols.Given as goal

abbrev pub invariant-loop : goal.invariant-loop
invariant-loop g l =
    let r = g.R.ReadClasses in
    record {
      few : l.symbols.empty ≤ l.counter;
      some : length l.symbols.bitmaps.items ≤ l.input.header.now.num_new_symbols;
      paid : budget l.work ≤ budget l.fn.work + number_steps (5 * length l.symbols.bitmaps.items);
      reads : concat l.symbols.bitmaps.items (classes_from r.readings (input_view l.input) (l.input.header.now.num_new_symbols + 1048576 - l.counter) l.symbols.height l.symbols.empty l.symbols.bitmaps.items (r.state l.readings)) ≡ new_symbols r.readings (input_view l.input) (r.state l.fn.readings);
    }
