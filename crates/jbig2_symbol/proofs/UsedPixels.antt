-- Adaptive pixels that are filled up to four.
use Rattle.std.proofs.Common.{◌≡◌, false, List, [], ◌∷◌, take, refl}
use Rattle.jbig2_region.specs.Templates.{adaptive, right, template_pixels}
use Rattle.jbig2_region.specs.inner.PixelArrays.{pixel_array, four_pixels}
use Rattle.jbig2_region.specs.declared.template.AdaptiveTemplatePixel.{AdaptiveTemplatePixel}
use Rattle.jbig2_region.specs.declared.template.Template.{Template}
use Rattle.jbig2_region.specs.declared.template.Template.TheVariants.{Template0, Template1, Template2, Template3}

-- the first of a list, and four of it
pub first_filled : (a : List AdaptiveTemplatePixel) → adaptive a 0 ∷ right 0 0 ∷ right 0 0 ∷ right 0 0 ∷ [] ≡ pixel_array 4 (take 1 a)
first_filled [] = refl
first_filled (p ∷ a) = refl

pub four_filled : (a : List AdaptiveTemplatePixel) → adaptive a 0 ∷ adaptive a 1 ∷ adaptive a 2 ∷ adaptive a 3 ∷ [] ≡ pixel_array 4 (take 4 a)
four_filled [] = refl
four_filled (p ∷ []) = refl
four_filled (p ∷ q ∷ []) = refl
four_filled (p ∷ q ∷ r ∷ []) = refl
four_filled (p ∷ q ∷ r ∷ s ∷ a) = refl

-- a template takes of them what it takes of those that there are
pub filled_pixels : (template : Template) (a : List AdaptiveTemplatePixel) → template_pixels false template (four_pixels template (pixel_array 4 a)) ≡ template_pixels false template a
filled_pixels Template0 [] = refl
filled_pixels Template0 (p ∷ []) = refl
filled_pixels Template0 (p ∷ q ∷ []) = refl
filled_pixels Template0 (p ∷ q ∷ r ∷ []) = refl
filled_pixels Template0 (p ∷ q ∷ r ∷ s ∷ a) = refl
filled_pixels Template1 [] = refl
filled_pixels Template1 (p ∷ a) = refl
filled_pixels Template2 [] = refl
filled_pixels Template2 (p ∷ a) = refl
filled_pixels Template3 [] = refl
filled_pixels Template3 (p ∷ a) = refl
