-- A template takes of an array no pixels but the first that many.
use Rattle.std.proofs.Common.{◌≡◌, false, true, List, [], ◌∷◌, take, refl}
use Rattle.jbig2_region.specs.RefinementTemplates.{is_nominal as refinement_is_nominal}
use Rattle.jbig2_region.specs.RefinementTemplates.{reference_pixels, region_pixels}
use Rattle.jbig2_region.specs.inner.PixelArrays.{two_pixels}
use Rattle.jbig2_region.specs.Templates.{is_nominal, template_pixels}
use Rattle.jbig2_region.specs.inner.PixelArrays.{four_pixels}
use Rattle.jbig2_region.specs.declared.template.AdaptiveTemplatePixel.{AdaptiveTemplatePixel}
use Rattle.jbig2_region.specs.declared.template.RefinementTemplate.{RefinementTemplate}
use Rattle.jbig2_region.specs.declared.template.RefinementTemplate.TheVariants as refinements
use Rattle.jbig2_region.specs.declared.template.Template.{Template}
use Rattle.jbig2_region.specs.declared.template.Template.TheVariants.{Template0, Template1, Template2, Template3}

-- ---- generic regions
pub same_pixels : (template : Template) (a : List AdaptiveTemplatePixel) → template_pixels false template (four_pixels template a) ≡ template_pixels false template a
same_pixels Template0 [] = refl
same_pixels Template0 (p ∷ []) = refl
same_pixels Template0 (p ∷ q ∷ []) = refl
same_pixels Template0 (p ∷ q ∷ r ∷ []) = refl
same_pixels Template0 (p ∷ q ∷ r ∷ s ∷ a) = refl
same_pixels Template1 [] = refl
same_pixels Template1 (p ∷ a) = refl
same_pixels Template2 [] = refl
same_pixels Template2 (p ∷ a) = refl
same_pixels Template3 [] = refl
same_pixels Template3 (p ∷ a) = refl

pub same_nominal : (template : Template) (a : List AdaptiveTemplatePixel) → is_nominal template (four_pixels template a) ≡ is_nominal template a
same_nominal Template0 [] = refl
same_nominal Template0 (p ∷ []) = refl
same_nominal Template0 (p ∷ q ∷ []) = refl
same_nominal Template0 (p ∷ q ∷ r ∷ []) = refl
same_nominal Template0 (p ∷ q ∷ r ∷ s ∷ a) = refl
same_nominal Template1 [] = refl
same_nominal Template1 (p ∷ a) = refl
same_nominal Template2 [] = refl
same_nominal Template2 (p ∷ a) = refl
same_nominal Template3 [] = refl
same_nominal Template3 (p ∷ a) = refl

pub same_twelve : (a : List AdaptiveTemplatePixel) → template_pixels true Template0 (take 12 a) ≡ template_pixels true Template0 a
same_twelve [] = refl
same_twelve (p1 ∷ []) = refl
same_twelve (p1 ∷ p2 ∷ []) = refl
same_twelve (p1 ∷ p2 ∷ p3 ∷ []) = refl
same_twelve (p1 ∷ p2 ∷ p3 ∷ p4 ∷ []) = refl
same_twelve (p1 ∷ p2 ∷ p3 ∷ p4 ∷ p5 ∷ []) = refl
same_twelve (p1 ∷ p2 ∷ p3 ∷ p4 ∷ p5 ∷ p6 ∷ []) = refl
same_twelve (p1 ∷ p2 ∷ p3 ∷ p4 ∷ p5 ∷ p6 ∷ p7 ∷ []) = refl
same_twelve (p1 ∷ p2 ∷ p3 ∷ p4 ∷ p5 ∷ p6 ∷ p7 ∷ p8 ∷ []) = refl
same_twelve (p1 ∷ p2 ∷ p3 ∷ p4 ∷ p5 ∷ p6 ∷ p7 ∷ p8 ∷ p9 ∷ []) = refl
same_twelve (p1 ∷ p2 ∷ p3 ∷ p4 ∷ p5 ∷ p6 ∷ p7 ∷ p8 ∷ p9 ∷ p10 ∷ []) = refl
same_twelve (p1 ∷ p2 ∷ p3 ∷ p4 ∷ p5 ∷ p6 ∷ p7 ∷ p8 ∷ p9 ∷ p10 ∷ p11 ∷ []) = refl
same_twelve (p1 ∷ p2 ∷ p3 ∷ p4 ∷ p5 ∷ p6 ∷ p7 ∷ p8 ∷ p9 ∷ p10 ∷ p11 ∷ p12 ∷ a) = refl

-- ---- refinements
pub same_reference : (template : RefinementTemplate) (a : List AdaptiveTemplatePixel) → reference_pixels template (two_pixels template a) ≡ reference_pixels template a
same_reference refinements.Template0 [] = refl
same_reference refinements.Template0 (p ∷ []) = refl
same_reference refinements.Template0 (p ∷ q ∷ a) = refl
same_reference refinements.Template1 a = refl

pub same_region : (template : RefinementTemplate) (a : List AdaptiveTemplatePixel) → region_pixels template (two_pixels template a) ≡ region_pixels template a
same_region refinements.Template0 [] = refl
same_region refinements.Template0 (p ∷ a) = refl
same_region refinements.Template1 a = refl

pub same_near : (template : RefinementTemplate) (a : List AdaptiveTemplatePixel) → refinement_is_nominal template (two_pixels template a) ≡ refinement_is_nominal template a
same_near refinements.Template0 [] = refl
same_near refinements.Template0 (p ∷ []) = refl
same_near refinements.Template0 (p ∷ q ∷ a) = refl
same_near refinements.Template1 a = refl
