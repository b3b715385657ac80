use Rattle.jbig2_steps.proofs.WorkLemmas.{room-paid}
use Rattle.std.proofs.Common.{rules, ◌≡◌, ℕ, sym, ap, ◌∙◌, length, drop, to_z, of_z, w32, arith}
use Rattle.std.proofs.lemmas.Int.{to_z-of_z}
use mir.Val.{SFits}
use Rattle.jbig2_region.specs.inner.RefinementHeaderViews.{header_view}
use Rattle.jbig2_region.specs.Refinement.{refined_region}
use Rattle.jbig2_region.specs.RefinementTemplates.{refinement_bits}
use Rattle.jbig2_region.specs.inner.RegionViews.{region_view}
use Rattle.jbig2_region.specs.inner.RegionStates.{HasDecoded, region_state}
use Rattle.jbig2_coder.specs.Coder.{fresh_contexts}
use Rattle.jbig2_base.proofs.Causes.{same-ok}
use Rattle.jbig2_region.proofs.Prices.{decided-paid, refinement_loads-few}
use Rattle.jbig2_region.proofs.GenericLemmas.{whole-slice}
use Rattle.jbig2_region.proofs.RefinementLemmas.{refined-contexts, refined-decoded, refined-result, refined-steps, offset-value}
use Rattle.jbig2_region.proofs.generic_refinement.decode_into.Goals as goal

pub returns-clause-value : goal.returns-clause-value
returns-clause-value g c =
    let fresh : c.deref_mut.result.now ≡ fresh_contexts (refinement_bits c.args.header.now.template) = c.deref_mut.ensures.value ∙ sym (same-ok _ _ c.in_ok-fresh_contexts.ensures) ∙ ap (λ (n : ℕ). fresh_contexts n) c.context_bits.ensures in
    let near = c.in_ok-dx.ensures.value in
    let fits_dx : SFits w32 c.in_ok-dx.dx = search rules in
    let fits_dy : SFits w32 c.in_ok-dx.dy = search rules in
    let place = offset-value (header_view c.args.header.now) (region_view c.args.reference.now) (c.in_ok-dx.dx, c.in_ok-dx.dy) (to_z w32 (of_z w32 c.in_ok-dx.dx)) (to_z w32 (of_z w32 c.in_ok-dx.dy)) (to_z-of_z w32 c.in_ok-dx.dx fits_dx) (to_z-of_z w32 c.in_ok-dx.dy fits_dy) near in
    refined-result (header_view c.args.header.now) (region_view c.args.reference.now) (c.in_ok-dx.dx, c.in_ok-dx.dy) c.decode_bitmap.new.bitmap c.decode_bitmap.new.decoder c.decode_bitmap.new.contexts near
    (refined-decoded (header_view c.args.header.now) (region_view c.args.reference.now) _ c.args.bitmap.now c.decode_bitmap.new.bitmap c.new-decoder.result c.decode_bitmap.new.decoder c.deref_mut.result.now c.decode_bitmap.new.contexts place c.requires.white c.new-decoder.ensures.bytes c.new-decoder.ensures.registers fresh c.decode_bitmap.ensures.region)

pub returns-clause-contexts : goal.returns-clause-contexts
returns-clause-contexts g c =
    let fresh : c.deref_mut.result.now ≡ fresh_contexts (refinement_bits c.args.header.now.template) = c.deref_mut.ensures.value ∙ sym (same-ok _ _ c.in_ok-fresh_contexts.ensures) ∙ ap (λ (n : ℕ). fresh_contexts n) c.context_bits.ensures in
    let near = c.in_ok-dx.ensures.value in
    let fits_dx : SFits w32 c.in_ok-dx.dx = search rules in
    let fits_dy : SFits w32 c.in_ok-dx.dy = search rules in
    let place = offset-value (header_view c.args.header.now) (region_view c.args.reference.now) (c.in_ok-dx.dx, c.in_ok-dx.dy) (to_z w32 (of_z w32 c.in_ok-dx.dx)) (to_z w32 (of_z w32 c.in_ok-dx.dy)) (to_z-of_z w32 c.in_ok-dx.dx fits_dx) (to_z-of_z w32 c.in_ok-dx.dy fits_dy) near in
    let has_decoded : HasDecoded c.args.header.now.region_info.width c.args.header.now.region_info.height c.args.header.now.bytes.now (refined_region (header_view c.args.header.now) (region_view c.args.reference.now)) (region_state c.decode_bitmap.new.bitmap c.decode_bitmap.new.decoder c.decode_bitmap.new.contexts) =
    refined-decoded (header_view c.args.header.now) (region_view c.args.reference.now) _ c.args.bitmap.now c.decode_bitmap.new.bitmap c.new-decoder.result c.decode_bitmap.new.decoder c.deref_mut.result.now c.decode_bitmap.new.contexts place c.requires.white c.new-decoder.ensures.bytes c.new-decoder.ensures.registers fresh c.decode_bitmap.ensures.region in
    refined-contexts (header_view c.args.header.now) (region_view c.args.reference.now) (c.in_ok-dx.dx, c.in_ok-dx.dy) c.args.contexts.now.items _ near
    (whole-slice c.fresh_contexts.new.contexts.len c.decode_bitmap.new.contexts (drop (length c.decode_bitmap.new.contexts) c.fresh_contexts.new.contexts.items) (c.decode_bitmap.auto.contexts ∙ c.deref_mut.ensures.len) ∙ has_decoded.contexts)

pub returns-clause-steps : goal.returns-clause-steps
returns-clause-steps g c =
    let fresh : c.deref_mut.result.now ≡ fresh_contexts (refinement_bits c.args.header.now.template) = c.deref_mut.ensures.value ∙ sym (same-ok _ _ c.in_ok-fresh_contexts.ensures) ∙ ap (λ (n : ℕ). fresh_contexts n) c.context_bits.ensures in
    let near = c.in_ok-dx.ensures.value in
    let fits_dx : SFits w32 c.in_ok-dx.dx = search rules in
    let fits_dy : SFits w32 c.in_ok-dx.dy = search rules in
    let place = offset-value (header_view c.args.header.now) (region_view c.args.reference.now) (c.in_ok-dx.dx, c.in_ok-dx.dy) (to_z w32 (of_z w32 c.in_ok-dx.dx)) (to_z w32 (of_z w32 c.in_ok-dx.dy)) (to_z-of_z w32 c.in_ok-dx.dx fits_dx) (to_z-of_z w32 c.in_ok-dx.dy fits_dy) near in
    refined-steps (header_view c.args.header.now) (region_view c.args.reference.now) _ c.args.bitmap.now c.new-decoder.result c.deref_mut.result.now c.args.steps.now c.decode_bitmap.new.steps place c.requires.white c.new-decoder.ensures.bytes c.new-decoder.ensures.registers fresh c.decode_bitmap.ensures.steps

pub returns-clause-paid : goal.returns-clause-paid
returns-clause-paid g c =
    let h = header_view c.args.header.now in
    decided-paid _ _ h.region_info.width h.region_info.height _ _ c.args.steps.now c.decode_bitmap.new.steps (refinement_loads-few h.template h.adaptive_template_pixels h.region_info.width) (returns-clause-steps g c)

pub returns-in_err-fresh_contexts-clause-paid : goal.returns-in_err-fresh_contexts-clause-paid
returns-in_err-fresh_contexts-clause-paid g c =
    let info = c.args.header.now.region_info in
    omega (arith, room-paid info.width info.height 0 (omega arith))

pub returns-in_err-dx-clause-paid : goal.returns-in_err-dx-clause-paid
returns-in_err-dx-clause-paid g c =
    let info = c.args.header.now.region_info in
    omega (arith, room-paid info.width info.height 0 (omega arith))
