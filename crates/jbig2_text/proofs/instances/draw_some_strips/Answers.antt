use Rattle.std.proofs.Common.{◌≡◌, rules, Ok, pos}
use Rattle.jbig2_text.specs.Text.{strip_start}
use Rattle.jbig2_text.specs.inner.TextViews.{params_view}
use Rattle.jbig2_text.proofs.InstanceLemmas.{opening-is}
use Rattle.jbig2_text.proofs.instances.draw_some_strips.Goals as goal

pub returns-in_err-last-clause-value : goal.returns-in_err-last-clause-value
returns-in_err-last-clause-value g c =
    let r = g.R.ReadInstances in
    let start : strip_start r.readings c.args.params.now.flags c.args.strip_t (pos 0) (r.state c.args.readings.now) ≡ Ok (c.in_ok-first.first, r.state c.begin_strip.new.readings) = search rules in
    let opening = opening-is r.readings (params_view c.args.params.now) c.args.region.now c.args.strip_t c.args.refining.now (r.state c.args.readings.now) (r.state c.begin_strip.new.readings) c.in_ok-first.first start in
    rw opening (search rules)

pub returns-clause-value : goal.returns-clause-value
returns-clause-value g c =
    let r = g.R.ReadInstances in
    let start : strip_start r.readings c.args.params.now.flags c.args.strip_t (pos 0) (r.state c.args.readings.now) ≡ Ok (c.in_ok-first.first, r.state c.begin_strip.new.readings) = search rules in
    let opening = opening-is r.readings (params_view c.args.params.now) c.args.region.now c.args.strip_t c.args.refining.now (r.state c.args.readings.now) (r.state c.begin_strip.new.readings) c.in_ok-first.first start in
    rw (opening, c.in_ok-last.ensures.value) c.draw_last.ensures.value
