use Rattle.std.proofs.Common.{◌≡◌, ◌+◌, ◌-◌, ◌*◌, ◌≤◌}
use Rattle.jbig2_steps.specs.Work.{budget}
use Rattle.jbig2_coder.specs.Integers.{number_steps}
use Rattle.jbig2_text.specs.Text.{after_instances}
use Rattle.jbig2_text.specs.inner.FunctionResults.{KeepsSize, reaching}
use Rattle.jbig2_text.specs.inner.TextViews.{params_view}
use Rattle.jbig2_text.proofs.instances.draw_inner.Given as goal

abbrev pub invariant-loop : goal.invariant-loop
invariant-loop g l =
    let r = g.R.ReadInstances in
    record {
      goes :
          after_instances r.readings (params_view l.params) (l.count - l.counter) (reaching l.region l.cursor l.refining (r.state l.readings))
          ≡ after_instances r.readings (params_view l.params) l.count (reaching l.fn.region l.fn.cursor l.fn.refining (r.state l.fn.readings));
      size : KeepsSize l.fn.region l.region;
      paid : budget l.work ≤ budget l.fn.work + number_steps (10 * l.counter);
    }
