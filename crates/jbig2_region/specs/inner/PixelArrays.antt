-- The code's arrays of four, twelve or two adaptive pixels. A region uses the first of them, as many as it has.
use Rattle.std.specs.Prelude.{ℕ, ◌≡◌, Bool, true, false, List, [], ◌∷◌, zero, suc, take}
use Rattle.jbig2_region.specs.declared.template.AdaptiveTemplatePixel.{AdaptiveTemplatePixel}
use Rattle.jbig2_region.specs.declared.template.Template.{Template}
use Rattle.jbig2_region.specs.declared.template.GenericTemplatePixels.{GenericTemplatePixels}
use Rattle.jbig2_region.specs.declared.template.GenericTemplatePixels.TheVariants.{Regular, Extended}
use Rattle.jbig2_region.specs.declared.template.RefinementTemplate.{RefinementTemplate}
use Rattle.jbig2_region.specs.Templates.{right, adaptive_pixel_count}
use Rattle.jbig2_region.specs.RefinementTemplates.{refinement_pixel_count}

abbrev pub four_pixels : Template → List AdaptiveTemplatePixel → List AdaptiveTemplatePixel
four_pixels template a = take (adaptive_pixel_count false false template) a

abbrev pub is_extended : GenericTemplatePixels → Bool
is_extended (Regular a) = false
is_extended (Extended a) = true

abbrev pub pixels_view : Bool → Template → GenericTemplatePixels → List AdaptiveTemplatePixel
pixels_view mmr template (Regular a) = take (adaptive_pixel_count mmr false template) a
pixels_view mmr template (Extended a) = take (adaptive_pixel_count mmr true template) a

-- An array of this many pixels that begins with these. The others lie at (0, 0), and no template uses them.
abbrev pub pixel_array : ℕ → List AdaptiveTemplatePixel → List AdaptiveTemplatePixel
pixel_array zero a = []
pixel_array (suc count) [] = right 0 0 ∷ pixel_array count []
pixel_array (suc count) (first ∷ others) = first ∷ pixel_array count others

abbrev pub IsFilled : GenericTemplatePixels → List AdaptiveTemplatePixel → Type 0
IsFilled (Regular a) pixels = a ≡ pixel_array 4 pixels
IsFilled (Extended a) pixels = a ≡ pixel_array 12 pixels

-- the pixels of the code's array of two that a template has
abbrev pub two_pixels : RefinementTemplate → List AdaptiveTemplatePixel → List AdaptiveTemplatePixel
two_pixels template a = take (refinement_pixel_count template) a
