use Rattle.std.proofs.Common.{rules, ◌≡◌, ℕ, ap, sym, ◌∙◌, of_z, to_z, w32, false, arith, Ok, Result}
use Rattle.std.proofs.lemmas.Bool.{ne_eqb}
use Rattle.std.proofs.lemmas.Int.{to_z-of_z}
use mir.Val.{SFits}
use Rattle.jbig2_base.specs.Grid.{Grid}
use Rattle.jbig2_base.specs.declared.error.DecodeError.{DecodeError}
use Rattle.jbig2_base.proofs.Causes.{same-ok}
use Rattle.jbig2_base.proofs.FillLemmas.{white-made}
use Rattle.jbig2_base.proofs.MadeLemmas.{made-counted, words-same, made-paid}
use Rattle.jbig2_base.proofs.Prices.{price-same}
use Rattle.jbig2_coder.specs.Coder.{fresh_contexts}
use Rattle.jbig2_region.specs.RefinementTemplates.{refinement_bits}
use Rattle.jbig2_region.specs.inner.RefinementHeaderViews.{header_view}
use Rattle.jbig2_region.specs.inner.RegionViews.{region_view}
use Rattle.jbig2_region.proofs.GenericPrices.{counted-rows-paid}
use Rattle.jbig2_region.proofs.PartLemmas.{rows-refined}
use Rattle.jbig2_region.proofs.Prices.{counted_loads-few}
use Rattle.jbig2_region.proofs.RefinementLemmas.{offset-value}
use Rattle.jbig2_region.proofs.generic_refinement.part.whole_rows.Goals as goal

pub returns-clause-value : goal.returns-clause-value
returns-clause-value g c =
    let info = c.args.header.now.region_info in
    let white = (white-made info.width info.height false c.in_ok-bitmap.bitmap c.in_ok-bitmap.ensures.value).1 in
    let fresh : c.deref_mut.result.now ≡ fresh_contexts (refinement_bits c.args.header.now.template) = c.deref_mut.ensures.value ∙ sym (same-ok _ _ c.in_ok-fresh_contexts.ensures) ∙ ap (λ (n : ℕ). fresh_contexts n) c.context_bits.ensures in
    let fits_dx : SFits w32 c.args.place.0 = search rules in
    let fits_dy : SFits w32 c.args.place.1 = search rules in
    let place = offset-value (header_view c.args.header.now) (region_view c.args.reference.now) c.args.place (to_z w32 (of_z w32 c.args.place.0)) (to_z w32 (of_z w32 c.args.place.1)) (to_z-of_z w32 c.args.place.0 fits_dx) (to_z-of_z w32 c.args.place.1 fits_dy) c.requires.near in
    ap (λ (n : ℕ). let r : Result ℕ DecodeError = Ok n in r)
    (rows-refined (header_view c.args.header.now) (region_view c.args.reference.now) _ c.in_ok-bitmap.bitmap c.new-decoder.result c.deref_mut.result.now c.count_refined_rows.result place white c.new-decoder.ensures.bytes c.new-decoder.ensures.registers fresh (ne_eqb info.width 0 c.if-region_info-eq0.false) c.count_refined_rows.ensures.rows)

pub returns-clause-paid : goal.returns-clause-paid
returns-clause-paid g c =
    let info = c.args.header.now.region_info in
    let white = (white-made info.width info.height false c.in_ok-bitmap.bitmap c.in_ok-bitmap.ensures.value).1 in
    let w : c.in_ok-bitmap.bitmap.width ≡ info.width = ap (λ (b : Grid). b.width) white in
    let h : c.in_ok-bitmap.bitmap.height ≡ info.height = ap (λ (b : Grid). b.height) white in
    let paid = counted-rows-paid _ _ _ _ _ c.new.new.steps c.count_refined_rows.new.steps (counted_loads-few c.args.header.now.template c.in_ok-bitmap.bitmap.width) c.count_refined_rows.ensures.steps in
    omega (arith, paid, price-same c.in_ok-bitmap.bitmap.width info.width c.in_ok-bitmap.bitmap.height info.height w h, words-same c.in_ok-bitmap.bitmap.width info.width c.in_ok-bitmap.bitmap.height info.height w h, made-counted info.width info.height c.args.steps.now c.new.new.steps c.new.ensures.steps)

pub returns-in_err-bitmap-clause-paid : goal.returns-in_err-bitmap-clause-paid
returns-in_err-bitmap-clause-paid g c =
    let info = c.args.header.now.region_info in
    omega (arith, made-paid info.width info.height c.args.steps.now c.new.new.steps c.new.ensures.steps)

pub returns-in_err-fresh_contexts-clause-paid : goal.returns-in_err-fresh_contexts-clause-paid
returns-in_err-fresh_contexts-clause-paid g c =
    let info = c.args.header.now.region_info in
    omega (arith, made-paid info.width info.height c.args.steps.now c.new.new.steps c.new.ensures.steps)
