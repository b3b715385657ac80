use Rattle.std.proofs.Common.{get_or, true, false, refl}
use Rattle.std.proofs.lemmas.List.{get_or_default}
use Rattle.jbig2_coder.specs.Coder.{fresh}
use Rattle.jbig2_region.proofs.RasterLemmas.{opening-decided, digit-black, digit-white}
use Rattle.jbig2_region.proofs.row_decision.decide_row.Goals as goal

pub returns-then-turned-clause-row : goal.returns-then-turned-clause-row
returns-then-turned-clause-row g c = λ w h grid r predicted has_decoded.
    opening-decided w h _ r c.args.predicted true _ grid c.args.decoder.now c.decode-turned.new.self c.args.contexts.now c.args.context (get_or c.args.contexts.now c.args.context c.index-contexts-context.result) c.decode-turned.new.context
    refl predicted (get_or_default c.args.contexts.now c.args.context c.index-contexts-context.result fresh c.requires.context) (digit-black _ _ c.decode-turned.ensures.value c.if-turned.true) refl c.decode-turned.ensures.coder c.decode-turned.ensures.context has_decoded

pub returns-clause-row : goal.returns-clause-row
returns-clause-row g c = λ w h grid r predicted has_decoded.
    opening-decided w h _ r c.args.predicted false _ grid c.args.decoder.now c.decode-turned.new.self c.args.contexts.now c.args.context (get_or c.args.contexts.now c.args.context c.index-contexts-context.result) c.decode-turned.new.context
    refl predicted (get_or_default c.args.contexts.now c.args.context c.index-contexts-context.result fresh c.requires.context) (digit-white _ _ c.decode-turned.ensures.value c.if-turned.false) refl c.decode-turned.ensures.coder c.decode-turned.ensures.context has_decoded
