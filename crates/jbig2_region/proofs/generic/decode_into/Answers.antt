use Rattle.jbig2_steps.proofs.WorkLemmas.{room-paid}
use Rattle.std.proofs.Common.{◌≡◌, ℕ, ◌+◌, ◌*◌, Bool, List, Result, sym, ap, ◌∙◌, length, drop, arith}
use Rattle.jbig2_region.specs.inner.GenericHeaderViews.{header_view}
use Rattle.jbig2_region.specs.Generic.{coding_of, generic_region}
use Rattle.jbig2_region.specs.inner.RegionStates.{DecodesRegion, HasDecoded, region_state}
use Rattle.jbig2_region.specs.GenericSteps.{CountsCoded}
use Rattle.jbig2_region.specs.Raster.{no_pixels, source}
use Rattle.jbig2_coder.specs.Coder.{fresh_contexts}
use Rattle.jbig2_region.specs.Templates.{context_bits, template_pixels}
use Rattle.jbig2_region.specs.inner.PixelArrays.{is_extended}
use Rattle.jbig2_region.specs.declared.template.AdaptiveTemplatePixel.{AdaptiveTemplatePixel}
use Rattle.jbig2_base.proofs.Causes.{same-ok}
use Rattle.jbig2_base.proofs.MadeLemmas.{words-same}
use Rattle.jbig2_base.proofs.Prices.{price-same}
use Rattle.jbig2_base.specs.Results.{Returns}
use Rattle.jbig2_base.specs.Counts.{Counts, KeepsLanes, words_of}
use Rattle.jbig2_base.specs.Grid.{Grid}
use Rattle.jbig2_base.specs.declared.error.DecodeError.{DecodeError}
use Rattle.jbig2_steps.specs.Work.{CountsBeside, paid_words, price_of_bitmap}
use Rattle.jbig2_mmr.proofs.Prices.{decode-paid}
use Rattle.jbig2_mmr.specs.Steps.{MovesWithin, bytes_taken}
use Rattle.jbig2_mmr.specs.T6.{mmr_rows}
use Rattle.jbig2_region.specs.RegionInfo.{IsWhiteFor}
use Rattle.jbig2_region.specs.declared.region_info.RegionSegmentInfo.{RegionSegmentInfo}
use Rattle.jbig2_region.proofs.GenericPrices.{coded-paid}
use Rattle.jbig2_region.proofs.GenericLemmas.{as-coded, region-decoded, result-decoded, contexts-decoded, counts-decoded, whole-slice}
use Rattle.jbig2_region.proofs.generic.decode_into.Goals as goal

pub returns-clause-value : goal.returns-clause-value
returns-clause-value g c =
    let h = c.args.header.now in
    let decoded = as-coded h (λ (a : List AdaptiveTemplatePixel). DecodesRegion (coding_of h.tpgdon h.template (template_pixels (is_extended h.adaptive_template_pixels) h.template a)) (region_state c.args.bitmap.now c.new-decoder.result c.deref_mut.result.now) (region_state c.decode_coded.new.bitmap c.decode_coded.new.decoder c.decode_coded.new.contexts)) c.if-header.false c.decode_coded.ensures.region in
    let fresh : c.deref_mut.result.now ≡ fresh_contexts (context_bits c.args.header.now.template) = c.deref_mut.ensures.value ∙ sym (same-ok _ _ c.in_ok-fresh_contexts.ensures) ∙ ap (λ (n : ℕ). fresh_contexts n) c.context_bits.ensures in
    result-decoded (header_view c.args.header.now) c.decode_coded.new.bitmap c.decode_coded.new.decoder c.decode_coded.new.contexts c.if-header.false
    (region-decoded (header_view c.args.header.now) c.args.bitmap.now c.decode_coded.new.bitmap c.new-decoder.result c.decode_coded.new.decoder c.deref_mut.result.now c.decode_coded.new.contexts c.requires.white c.new-decoder.ensures.bytes c.new-decoder.ensures.registers fresh decoded)

pub returns-clause-contexts : goal.returns-clause-contexts
returns-clause-contexts g c =
    let h = c.args.header.now in
    let decoded = as-coded h (λ (a : List AdaptiveTemplatePixel). DecodesRegion (coding_of h.tpgdon h.template (template_pixels (is_extended h.adaptive_template_pixels) h.template a)) (region_state c.args.bitmap.now c.new-decoder.result c.deref_mut.result.now) (region_state c.decode_coded.new.bitmap c.decode_coded.new.decoder c.decode_coded.new.contexts)) c.if-header.false c.decode_coded.ensures.region in
    let fresh : c.deref_mut.result.now ≡ fresh_contexts (context_bits c.args.header.now.template) = c.deref_mut.ensures.value ∙ sym (same-ok _ _ c.in_ok-fresh_contexts.ensures) ∙ ap (λ (n : ℕ). fresh_contexts n) c.context_bits.ensures in
    let has_decoded : HasDecoded c.args.header.now.region_info.width c.args.header.now.region_info.height c.args.header.now.bytes.now (generic_region (header_view c.args.header.now)) (region_state c.decode_coded.new.bitmap c.decode_coded.new.decoder c.decode_coded.new.contexts) =
    region-decoded (header_view c.args.header.now) c.args.bitmap.now c.decode_coded.new.bitmap c.new-decoder.result c.decode_coded.new.decoder c.deref_mut.result.now c.decode_coded.new.contexts c.requires.white c.new-decoder.ensures.bytes c.new-decoder.ensures.registers fresh decoded in
    contexts-decoded (header_view c.args.header.now) c.args.contexts.now.items _ c.if-header.false
    (whole-slice c.fresh_contexts.new.contexts.len c.decode_coded.new.contexts (drop (length c.decode_coded.new.contexts) c.fresh_contexts.new.contexts.items) (c.decode_coded.auto.contexts ∙ c.deref_mut.ensures.len) ∙ has_decoded.contexts)

pub returns-clause-steps : goal.returns-clause-steps
returns-clause-steps g c =
    let h = c.args.header.now in
    let counted = as-coded h (λ (a : List AdaptiveTemplatePixel). CountsCoded (is_extended h.adaptive_template_pixels) h.template a (coding_of h.tpgdon h.template (template_pixels (is_extended h.adaptive_template_pixels) h.template a)) (source c.args.bitmap.now.width c.args.bitmap.now.height c.new-decoder.result.bytes (no_pixels c.new-decoder.result.registers c.deref_mut.result.now)) c.args.steps.now c.decode_coded.new.steps) c.if-header.false c.decode_coded.ensures.steps in
    let fresh : c.deref_mut.result.now ≡ fresh_contexts (context_bits c.args.header.now.template) = c.deref_mut.ensures.value ∙ sym (same-ok _ _ c.in_ok-fresh_contexts.ensures) ∙ ap (λ (n : ℕ). fresh_contexts n) c.context_bits.ensures in
    counts-decoded (header_view c.args.header.now) c.args.bitmap.now c.new-decoder.result c.deref_mut.result.now c.args.steps.now c.decode_coded.new.steps c.requires.white c.new-decoder.ensures.bytes c.new-decoder.ensures.registers fresh counted

pub returns-clause-paid : goal.returns-clause-paid
returns-clause-paid g c =
    let h = header_view c.args.header.now in
    let within = coded-paid h.extended h.template h.adaptive_template_pixels _ h.region_info.width h.region_info.height _ _ c.args.steps.now c.decode_coded.new.steps (returns-clause-steps g c c.if-header.false) in
    omega (arith, within)

-- MMR data
decoded-paid : (result : Result ℕ DecodeError) (info : RegionSegmentInfo) (old new : Grid) (strict : Bool) (bytes : List ℕ) (before after : Counts) → IsWhiteFor info old → Returns (λ used. record { grid = new; used = used }) result (mmr_rows strict old.width old.height bytes) → KeepsLanes before after → MovesWithin (3 * (words_of old + 8 * bytes_taken result (length bytes))) before after → CountsBeside (paid_words info.width info.height) (price_of_bitmap info.width info.height + length bytes) before after
decoded-paid result info old new strict bytes before after white value lanes moves =
    let paid = decode-paid result old new strict bytes before after value lanes moves in
    let w : old.width ≡ info.width = ap (λ (g : Grid). g.width) white in
    let h : old.height ≡ info.height = ap (λ (g : Grid). g.height) white in
    omega (arith, paid, price-same old.width info.width old.height info.height w h, words-same old.width info.width old.height info.height w h)

pub returns-then-header-clause-paid : goal.returns-then-header-clause-paid
returns-then-header-clause-paid g c =
    decoded-paid c.decode.result c.args.header.now.region_info c.args.bitmap.now c.decode.new.bitmap c.args.header.now.strict c.args.header.now.bytes.now c.args.steps.now c.decode.new.steps c.requires.white c.decode.ensures.value c.decode.ensures.lanes c.decode.ensures.work

pub returns-in_err-decode-clause-paid : goal.returns-in_err-decode-clause-paid
returns-in_err-decode-clause-paid g c =
    decoded-paid c.decode.result c.args.header.now.region_info c.args.bitmap.now c.decode.new.bitmap c.args.header.now.strict c.args.header.now.bytes.now c.args.steps.now c.decode.new.steps c.requires.white c.decode.ensures.value c.decode.ensures.lanes c.decode.ensures.work

pub returns-in_err-fresh_contexts-clause-paid : goal.returns-in_err-fresh_contexts-clause-paid
returns-in_err-fresh_contexts-clause-paid g c =
    let info = c.args.header.now.region_info in
    omega (arith, room-paid info.width info.height 0 (omega arith))
