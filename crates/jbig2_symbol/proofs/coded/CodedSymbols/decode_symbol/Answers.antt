use Rattle.std.proofs.Common.{◌*◌, List, take, false, ap, arith, rules, ◌∙◌}
use Rattle.jbig2_steps.specs.Work.{price_of_bitmap}
use Rattle.jbig2_text.proofs.PayingLemmas.{beside-worth}
use Rattle.jbig2_region.specs.Generic.{coding_of}
use Rattle.jbig2_region.specs.Raster.{Coding}
use Rattle.jbig2_region.specs.Templates.{adaptive_pixel_count, template_pixels}
use Rattle.jbig2_region.specs.declared.template.AdaptiveTemplatePixel.{AdaptiveTemplatePixel}
use Rattle.jbig2_region.specs.declared.template.Template.{Template}
use Rattle.jbig2_region.proofs.GenericPrices.{coded-paid}
use Rattle.jbig2_region.proofs.GenericLemmas.{whole-slice}
use Rattle.jbig2_symbol.specs.inner.HeaderViews.{header_view}
use Rattle.jbig2_symbol.specs.inner.SymbolViews.{coded_view}
use Rattle.jbig2_symbol.proofs.CodedLemmas.{filled-made}
use Rattle.jbig2_symbol.proofs.coded.CodedSymbols.decode_symbol.Goals as goal

pub returns-clause-value : goal.returns-clause-value
returns-clause-value g c =
    let same = ap coded_view c.self.view_is in
    filled-made (header_view c.args.header.now) _ (coded_view c.args.self.now) c.args.size.width c.args.size.height c.in_ok-bitmap.bitmap c.decode_coded.new.bitmap c.deref_mut.result.now c.decode_coded.new.decoder c.decode_coded.new.contexts _ c.symbol_pixels.result (whole-slice c.self.inside.0.1.0.generic.len c.decode_coded.new.contexts _ (c.decode_coded.auto.contexts ∙ c.deref_mut.ensures.len)) same (search rules) c.in_ok-bitmap.ensures.value c.symbol_pixels.ensures c.decode_coded.ensures.region

pub returns-clause-paid : goal.returns-clause-paid
returns-clause-paid g c =
    let b = c.in_ok-bitmap.bitmap in
    let template : Template = c.self.inside.0.1.0.template in
    let pixels : List AdaptiveTemplatePixel = take (adaptive_pixel_count false false template) c.symbol_pixels.result in
    let coding : Coding = coding_of false template (template_pixels false template pixels) in
    let within = coded-paid false template pixels coding b.width b.height _ _ c.new_symbol.new.work.steps c.decode_coded.new.steps c.decode_coded.ensures.steps in
    let more = beside-worth c.new_symbol.new.work c.decode_coded.new.steps _ (32 * price_of_bitmap b.width b.height) within in
    omega (arith, more, c.in_ok-bitmap.ensures.taken)
