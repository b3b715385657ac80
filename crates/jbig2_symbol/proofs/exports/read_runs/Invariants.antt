use Rattle.std.proofs.Common.{◌≡◌, ◌+◌, ◌-◌, ◌<◌, ◌≤◌, length, true}
use Rattle.std.specs.Prelude.{sum}
use Rattle.jbig2_symbol.specs.Symbols.{export_runs, runs_from}
use Rattle.jbig2_symbol.specs.inner.JoinedRuns.{joined_runs}
use Rattle.jbig2_symbol.specs.inner.SymbolViews.{input_view}
use Rattle.jbig2_symbol.proofs.JoinedLemmas.{joined_after}
use Rattle.jbig2_steps.specs.Work.{budget}
use Rattle.jbig2_symbol.proofs.exports.read_runs.Given as goal

abbrev pub invariant-loop : goal.invariant-loop
invariant-loop g l =
    let r = g.R.ReadClasses in
    record {
      few : l.empty ≤ 1048576;
      enough : l.left + (1048576 - l.empty) ≤ l.count + 1048576 - l.counter;
      covered : sum l.runs.items + l.last + l.left ≡ l.count;
      small : length l.runs.items + l.left ≤ l.count;
      apart : l.joins ≡ true → 0 < l.left;
      reads : joined_after l.runs.items l.last l.joins (runs_from r.readings (input_view l.input) (l.count + 1048576 - l.counter) l.empty l.left (r.state l.readings)) ≡ joined_runs (export_runs r.readings (input_view l.input) l.count (r.state l.fn.readings));
      paid : budget l.work ≤ budget l.fn.work;
    }
