use Rattle.std.proofs.Common.{◌≡◌, ◌+◌, ◌-◌, ◌*◌, ◌≤◌, length}
use Rattle.jbig2_symbol.specs.HeightClasses.{symbols_from}
use Rattle.jbig2_symbol.specs.inner.SymbolViews.{input_view}
use Rattle.jbig2_symbol.specs.inner.FunctionResults.{concat}
use Rattle.jbig2_steps.specs.Work.{budget}
use Rattle.jbig2_coder.specs.Integers.{number_steps}
use Rattle.jbig2_symbol.proofs.classes.read_symbols.Given as goal

abbrev pub invariant-loop-width : goal.invariant-loop-width
invariant-loop-width g l =
    let r = g.R.ReadSymbols in
    record {
      reads :
          concat l.bitmaps.items (symbols_from r.readings (input_view l.input) l.widths.left l.height l.widths.width l.widths.total l.bitmaps.items (r.state l.readings))
          ≡ concat l.fn.bitmaps.items (symbols_from r.readings (input_view l.input) (l.input.header.now.num_new_symbols - length l.fn.bitmaps.items) l.height 0 0 l.fn.bitmaps.items (r.state l.fn.readings));
      all : length l.bitmaps.items + l.widths.left ≡ l.input.header.now.num_new_symbols;
      paid : budget l.work + number_steps (5 * length l.fn.bitmaps.items) ≤ budget l.fn.work + number_steps (5 * length l.bitmaps.items);
    }

abbrev pub decreases-loop-width : goal.decreases-loop-width
decreases-loop-width g l = l.widths.left
