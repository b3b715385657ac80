use Rattle.std.proofs.Common.{false, List, subst}
use Rattle.jbig2_region.specs.Refinement.{refinement_coding}
use Rattle.jbig2_region.specs.inner.PixelArrays.{two_pixels}
use Rattle.jbig2_region.specs.declared.template.AdaptiveTemplatePixel.{AdaptiveTemplatePixel}
use Rattle.jbig2_region.specs.inner.RegionStates.{DecodesRegion, region_state}
use Rattle.jbig2_region.specs.inner.ReferenceViews.{reference_view}
use Rattle.jbig2_region.proofs.Prices.{decided-paid, refinement_loads-few}
use Rattle.jbig2_text.proofs.PayingLemmas.{beside-worth}
use Rattle.jbig2_text.specs.{Refining.{Refining}, inner.TextViews.{some_pixels}}
use Rattle.jbig2_text.proofs.RefiningLemmas.{coder-is, filled-holds}
use Rattle.jbig2_text.proofs.refining.refine_by.Goals as goal

pub returns-clause-grid : goal.returns-clause-grid
returns-clause-grid g c =
    let f : Refining = record { template = c.args.template; pixels = some_pixels c.args.pixels; contexts = c.args.contexts.now } in
    let d = c.args.decoder.now in
    let holds = filled-holds f (reference_view c.args.reference.now) c.args.bitmap.now.width c.args.bitmap.now.height d.bytes d.registers c.decode_bitmap.new.bitmap c.decode_bitmap.new.decoder c.decode_bitmap.new.contexts (subst (λ (a : List AdaptiveTemplatePixel). DecodesRegion (refinement_coding c.args.template false (two_pixels c.args.template a) (reference_view c.args.reference.now)) (region_state c.args.bitmap.now d c.args.contexts.now) (region_state c.decode_bitmap.new.bitmap c.decode_bitmap.new.decoder c.decode_bitmap.new.contexts)) c.two_of-adaptive.ensures c.decode_bitmap.ensures.region) in
    holds.pixels

pub returns-clause-coder : goal.returns-clause-coder
returns-clause-coder g c =
    let f : Refining = record { template = c.args.template; pixels = some_pixels c.args.pixels; contexts = c.args.contexts.now } in
    let d = c.args.decoder.now in
    let holds = filled-holds f (reference_view c.args.reference.now) c.args.bitmap.now.width c.args.bitmap.now.height d.bytes d.registers c.decode_bitmap.new.bitmap c.decode_bitmap.new.decoder c.decode_bitmap.new.contexts (subst (λ (a : List AdaptiveTemplatePixel). DecodesRegion (refinement_coding c.args.template false (two_pixels c.args.template a) (reference_view c.args.reference.now)) (region_state c.args.bitmap.now d c.args.contexts.now) (region_state c.decode_bitmap.new.bitmap c.decode_bitmap.new.decoder c.decode_bitmap.new.contexts)) c.two_of-adaptive.ensures c.decode_bitmap.ensures.region) in
    coder-is c.decode_bitmap.new.decoder d.bytes _ holds.bytes holds.registers

pub returns-clause-contexts : goal.returns-clause-contexts
returns-clause-contexts g c =
    let f : Refining = record { template = c.args.template; pixels = some_pixels c.args.pixels; contexts = c.args.contexts.now } in
    let d = c.args.decoder.now in
    let holds = filled-holds f (reference_view c.args.reference.now) c.args.bitmap.now.width c.args.bitmap.now.height d.bytes d.registers c.decode_bitmap.new.bitmap c.decode_bitmap.new.decoder c.decode_bitmap.new.contexts (subst (λ (a : List AdaptiveTemplatePixel). DecodesRegion (refinement_coding c.args.template false (two_pixels c.args.template a) (reference_view c.args.reference.now)) (region_state c.args.bitmap.now d c.args.contexts.now) (region_state c.decode_bitmap.new.bitmap c.decode_bitmap.new.decoder c.decode_bitmap.new.contexts)) c.two_of-adaptive.ensures c.decode_bitmap.ensures.region) in
    holds.contexts

pub returns-clause-paid : goal.returns-clause-paid
returns-clause-paid g c =
    beside-worth c.args.work.now c.decode_bitmap.new.steps _ _
    (decided-paid _ _ _ _ _ _ _ _ (refinement_loads-few c.args.template (two_pixels c.args.template c.two_of-adaptive.result) c.args.bitmap.now.width) c.decode_bitmap.ensures.steps)
