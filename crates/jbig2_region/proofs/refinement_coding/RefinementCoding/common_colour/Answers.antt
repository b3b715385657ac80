use Rattle.std.proofs.Common.{rules, ◌≡◌, List, [], ◌++◌, map, refl, subst}
use Rattle.jbig2_base.specs.Bits.{number_of}
use Rattle.jbig2_region.specs.Refinement.{nine, reference_pixel}
use Rattle.jbig2_region.specs.inner.ReferenceViews.{reference_view}
use Rattle.jbig2_region.specs.declared.template.AdaptiveTemplatePixel.{AdaptiveTemplatePixel}
use Rattle.jbig2_region.proofs.RefinementLemmas.{common-black, common-white, common-none}
use Rattle.jbig2_region.proofs.refinement_coding.RefinementCoding.common_colour.Goals as goal

pub returns-in-511-clause-value : goal.returns-in-511-clause-value
returns-in-511-clause-value g c =
    let value : c.number.result ≡ number_of (map (reference_pixel (reference_view c.args.self.now.reference.now) c.args.x c.args.y) nine ++ []) =
    subst (λ (ps : List AdaptiveTemplatePixel). c.number.result ≡ number_of (map (reference_pixel (reference_view c.args.self.now.reference.now) c.args.x c.args.y) ps ++ [])) c.nine.ensures (c.number.ensures.value [] refl) in
    common-black (reference_view c.args.self.now.reference.now) c.args.x c.args.y c.number.result value c.in-511.is

pub returns-in-0-clause-value : goal.returns-in-0-clause-value
returns-in-0-clause-value g c =
    let value : c.number.result ≡ number_of (map (reference_pixel (reference_view c.args.self.now.reference.now) c.args.x c.args.y) nine ++ []) =
    subst (λ (ps : List AdaptiveTemplatePixel). c.number.result ≡ number_of (map (reference_pixel (reference_view c.args.self.now.reference.now) c.args.x c.args.y) ps ++ [])) c.nine.ensures (c.number.ensures.value [] refl) in
    common-white (reference_view c.args.self.now.reference.now) c.args.x c.args.y c.number.result value c.in-0.is

pub returns-in_default-clause-value : goal.returns-in_default-clause-value
returns-in_default-clause-value g c =
    let value : c.number.result ≡ number_of (map (reference_pixel (reference_view c.args.self.now.reference.now) c.args.x c.args.y) nine ++ []) =
    subst (λ (ps : List AdaptiveTemplatePixel). c.number.result ≡ number_of (map (reference_pixel (reference_view c.args.self.now.reference.now) c.args.x c.args.y) ps ++ [])) c.nine.ensures (c.number.ensures.value [] refl) in
    common-none (reference_view c.args.self.now.reference.now) c.args.x c.args.y c.number.result value (search rules) (search rules)
