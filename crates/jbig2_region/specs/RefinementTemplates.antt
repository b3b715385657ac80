-- The templates of refinements (T.88, 6.3.5.3, Figures 12 and 13), bit 0 of a context first. `reference_pixels` and
-- `region_pixels` take a template and its adaptive pixels, and give the pixels of a context in either grid. Then come
-- the context of the decision that begins a row, and how a segment holds the adaptive pixels (7.4.7.3).
use Rattle.std.specs.Prelude.{ℕ, ◌==◌, Bool, true, ◌&&◌, List, [], ◌∷◌, ℤ, pos, negsuc, Result, Ok, if◌then◌else◌}
use Rattle.jbig2_base.specs.declared.error.DecodeError.{DecodeError}
use Rattle.jbig2_base.specs.Results.{◌>>=◌}
use Rattle.jbig2_region.specs.Templates.{adaptive, free_pixel_at, lies_at}
use Rattle.jbig2_region.specs.declared.template.AdaptiveTemplatePixel.{AdaptiveTemplatePixel}
use Rattle.jbig2_region.specs.declared.template.RefinementTemplate.{RefinementTemplate}
use Rattle.jbig2_region.specs.declared.template.RefinementTemplate.TheVariants.{Template0, Template1}

abbrev pub refinement_template_of : ℕ → RefinementTemplate
refinement_template_of n = if n == 0 then Template0 else Template1

-- the pixel this many columns to the right and rows down; `negsuc 0` is one to the left or one up
abbrev pub at_xy : ℤ → ℤ → AdaptiveTemplatePixel
at_xy x y = record { x = x; y = y }

abbrev pub refinement_bits : RefinementTemplate → ℕ  -- how many bits a context's number has
refinement_bits Template0 = 13
refinement_bits Template1 = 10

-- the pixels of the reference (Figures 12 and 13)
abbrev pub reference_pixels : RefinementTemplate → List AdaptiveTemplatePixel → List AdaptiveTemplatePixel
reference_pixels Template0 a =
    at_xy (pos 1) (pos 1) ∷ at_xy (pos 0) (pos 1) ∷ at_xy (negsuc 0) (pos 1)
    ∷ at_xy (pos 1) (pos 0) ∷ at_xy (pos 0) (pos 0) ∷ at_xy (negsuc 0) (pos 0)
    ∷ at_xy (pos 1) (negsuc 0) ∷ at_xy (pos 0) (negsuc 0) ∷ adaptive a 1 ∷ []
reference_pixels Template1 a =
    at_xy (pos 1) (pos 1) ∷ at_xy (pos 0) (pos 1)
    ∷ at_xy (pos 1) (pos 0) ∷ at_xy (pos 0) (pos 0) ∷ at_xy (negsuc 0) (pos 0)
    ∷ at_xy (pos 0) (negsuc 0) ∷ []

-- the pixels of the region itself; their bits follow
abbrev pub region_pixels : RefinementTemplate → List AdaptiveTemplatePixel → List AdaptiveTemplatePixel
region_pixels Template0 a =
    at_xy (negsuc 0) (pos 0) ∷ at_xy (pos 1) (negsuc 0) ∷ at_xy (pos 0) (negsuc 0) ∷ adaptive a 0 ∷ []
region_pixels Template1 a =
    at_xy (negsuc 0) (pos 0) ∷ at_xy (pos 1) (negsuc 0) ∷ at_xy (pos 0) (negsuc 0) ∷ at_xy (negsuc 0) (negsuc 0) ∷ []

-- the context of the decision that begins a row under typical prediction (6.3.5.6, Figures 14 and 15)
abbrev pub refinement_row_context : RefinementTemplate → ℕ
refinement_row_context Template0 = 0x0010
refinement_row_context Template1 = 0x0008

abbrev pub refinement_pixel_count : RefinementTemplate → ℕ  -- how many adaptive pixels a template has (6.3.5.3)
refinement_pixel_count Template0 = 2
refinement_pixel_count Template1 = 0

-- whether the adaptive pixels lie where the standard has them by default (6.3.5.3, Figure 12)
abbrev pub is_nominal : RefinementTemplate → List AdaptiveTemplatePixel → Bool
is_nominal Template0 a = lies_at (adaptive a 0) (negsuc 0) (negsuc 0) && lies_at (adaptive a 1) (negsuc 0) (negsuc 0)
is_nominal Template1 a = true

-- the adaptive pixels as a segment holds them (7.4.7.3); their places are not checked
unfoldable pub refinement_pixels_at : RefinementTemplate → List ℕ
    → Result (List AdaptiveTemplatePixel × List ℕ) DecodeError
refinement_pixels_at Template0 bytes = do
  (first, rest) ← free_pixel_at bytes
  (second, rest) ← free_pixel_at rest
  Ok (first ∷ second ∷ [], rest)
refinement_pixels_at Template1 bytes = Ok ([], bytes)
