use Rattle.std.proofs.Common.{◌≡◌, ◌+◌, ◌≤◌, length}
use Rattle.std.specs.Prelude.{sum}
use Rattle.jbig2_symbol.specs.HeightClasses.{widths_from}
use Rattle.jbig2_symbol.specs.inner.SymbolViews.{input_view}
use Rattle.jbig2_symbol.specs.inner.FunctionResults.{concat}
use Rattle.jbig2_steps.specs.Work.{budget}
use Rattle.jbig2_coder.specs.Integers.{number_steps}
use Rattle.jbig2_symbol.proofs.widths.read_widths.Given as goal

abbrev pub invariant-loop-width : goal.invariant-loop-width
invariant-loop-width g l =
    let r = g.R.ReadSymbols in
    record {
      total : l.widths.total ≡ sum l.each.items;
      reads : concat l.each.items (widths_from r.readings (input_view l.input) l.widths.left l.widths.width l.widths.total (r.state l.readings)) ≡ widths_from r.readings (input_view l.input) l.room 0 0 (r.state l.fn.readings);
      all : length l.each.items + l.widths.left ≡ l.room;
      paid : budget l.work ≤ budget l.fn.work + number_steps (length l.each.items);
    }

abbrev pub decreases-loop-width : goal.decreases-loop-width
decreases-loop-width g l = l.widths.left
