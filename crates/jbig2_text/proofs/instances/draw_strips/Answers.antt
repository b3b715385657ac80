use Rattle.std.proofs.Common.{◌≡◌, ℤ, to_z, of_z, w32, Result, ap, subst, ◌∙◌}
use Rattle.std.proofs.lemmas.Bool.{ne_eqb}
use Rattle.std.proofs.lemmas.Int.{to_z-of_z}
use Rattle.jbig2_base.specs.Results.{Gives}
use Rattle.jbig2_base.specs.Grid.{Grid}
use Rattle.jbig2_base.specs.declared.error.DecodeError.{DecodeError}
use Rattle.jbig2_text.specs.Refining.{Refining}
use Rattle.jbig2_text.specs.Text.{Readings, TextParams}
use Rattle.jbig2_text.specs.inner.FunctionResults.{some_strips, strips}
use Rattle.jbig2_text.specs.inner.TextViews.{params_view}
use Rattle.jbig2_text.proofs.instances.draw_strips.Goals as goal

strips-some : {S : Type 0} (r : Readings S) (p : TextParams) (region : Grid) (t : ℤ) (f : Refining) (s : S) → (p.count ≡ 0 → ⊥) → some_strips r p region t f s ≡ strips r p region t f s
strips-some r p region t f s some = rw (ne_eqb p.count 0 some)

pub returns-clause-value : goal.returns-clause-value
returns-clause-value g c =
    let r = g.R.ReadInstances in
    let state = r.state c.args.readings.now in
    let p = params_view c.args.params.now in
    let same : to_z w32 (of_z w32 c.args.strip_t) ≡ c.args.strip_t = to_z-of_z w32 c.args.strip_t c.ranges.strip_t in
    let all = ap (λ (t : ℤ). some_strips r.readings p c.args.region.now t c.args.refining.now state) same
    ∙ strips-some r.readings p c.args.region.now c.args.strip_t c.args.refining.now state c.if-params-eq0.false in
    subst (λ (m : Result (Grid × Refining × r.State) DecodeError). Gives (λ _. (c.draw_some_strips.new.region, c.draw_some_strips.new.refining, r.state c.draw_some_strips.new.readings)) c.draw_some_strips.result m) all c.draw_some_strips.ensures.value
