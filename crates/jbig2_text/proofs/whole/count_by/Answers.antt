use Rattle.std.proofs.Common.{ap, inr, subst, Ok, ℕ}
use Rattle.jbig2_base.specs.Results.{Gives}
use Rattle.jbig2_text.specs.WholeInstances.{whole_by}
use Rattle.jbig2_text.specs.inner.TextViews.{params_view}
use Rattle.jbig2_text.proofs.WholeInstanceLemmas.{count-ends, whole-at-fault, whole-of-none, whole-of-some}
use Rattle.jbig2_text.proofs.whole.count_by.Goals as goal

pub returns-then-most-eq0-clause-value : goal.returns-then-most-eq0-clause-value
returns-then-most-eq0-clause-value g c =
    let r = g.R.ReadInstances in
    ap (λ (n : ℕ). Ok n) (whole-of-none r.readings (params_view c.args.params.now) c.most_instances-most.result c.args.region.now c.args.refining.now (r.state c.args.readings.now) c.most_instances-most.ensures c.if-most-eq0.true)

pub returns-in-Err-clause-value : goal.returns-in-Err-clause-value
returns-in-Err-clause-value g c =
    let r = g.R.ReadInstances in
    let p = params_view c.args.params.now in
    let state = r.state c.args.readings.now in
    count-ends c.count_at_error.result c.in-Err.error 0 (whole_by r.readings p c.args.region.now c.args.refining.now state) c.count_at_error.ensures
    (inr (whole-at-fault r.readings p c.args.region.now c.args.refining.now state c.in-Err.error c.in-Err.ensures.value))

pub returns-clause-value : goal.returns-clause-value
returns-clause-value g c =
    let r = g.R.ReadInstances in
    let p = params_view c.args.params.now in
    let is = whole-of-some r.readings p c.most_instances-most.result c.args.region.now c.args.refining.now (r.state c.args.readings.now) (r.state c.find_first.new.readings) c.in-Ok.first c.most_instances-most.ensures c.in-Ok.ensures.value in
    subst (λ (n : ℕ). Gives (λ (k : ℕ). k) c.count_from.result (Ok n)) is c.count_from.ensures.value
