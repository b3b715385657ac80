use Rattle.std.proofs.Common.{◌≡◌, ◌*◌, false, rules, Ok, pos}
use Rattle.std.specs.Prelude.{nat_lt, ◌-ℤ◌}
use Rattle.jbig2_text.specs.Text.{coordinate, strip_delta}
use Rattle.jbig2_text.specs.inner.TextViews.{params_view}
use Rattle.jbig2_text.proofs.InstanceLemmas.{region-strips}
use Rattle.jbig2_text.proofs.instances.draw_instances.Goals as goal

pub returns-clause-value : goal.returns-clause-value
returns-clause-value g c =
    let r = g.R.ReadInstances in
    let p = params_view c.args.params.now in
    let few : nat_lt (32 * p.data_length) p.count ≡ false = search rules in
    let opening : strip_delta r.readings p.flags (r.state c.args.readings.now) ≡ Ok (c.in_ok-delta.delta, r.state c.read_strip_delta.new.readings) = search rules in
    let start : coordinate (pos 0 -ℤ c.in_ok-delta.delta) ≡ Ok c.in_ok-strip_t.strip_t = search rules in
    let is = region-strips r.readings p c.args.region.now c.args.refining.now (r.state c.args.readings.now) (r.state c.read_strip_delta.new.readings) c.in_ok-delta.delta c.in_ok-strip_t.strip_t few opening start in
    rw is (search rules)
