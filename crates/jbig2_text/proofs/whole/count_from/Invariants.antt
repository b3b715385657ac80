use Rattle.std.proofs.Common.{◌≡◌, ◌+◌, ◌-◌, ◌*◌, ◌≤◌}
use Rattle.jbig2_steps.specs.Work.{budget}
use Rattle.jbig2_coder.specs.Integers.{number_steps}
use Rattle.jbig2_text.specs.WholeInstances.{whole_from}
use Rattle.jbig2_text.specs.inner.FunctionResults.{reaching}
use Rattle.jbig2_text.specs.inner.TextViews.{params_view}
use Rattle.jbig2_text.proofs.whole.count_from.Given as goal

abbrev pub invariant-loop-counted : goal.invariant-loop-counted
invariant-loop-counted g l =
    let r = g.R.ReadInstances in
    record {
      so_far :
          whole_from r.readings (params_view l.params) l.most (reaching l.fn.region l.fn.cursor l.fn.refining (r.state l.fn.readings))
          ≡ l.counted + whole_from r.readings (params_view l.params) (l.most - l.counted) (reaching l.region l.cursor l.refining (r.state l.readings));
      paid : budget l.work ≤ budget l.fn.work + number_steps (10 * l.counted);
    }
