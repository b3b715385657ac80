-- A small region, computed from its decisions alone.
use Rattle.std.proofs.Common.{◌≡◌, true, false, [], ◌∷◌, refl}
use Rattle.jbig2_base.specs.Grid.{pixel_at, table}
use Rattle.jbig2_region.specs.Generic.{coding_of, context_at}
use Rattle.jbig2_region.specs.Raster.{so_far}
use Rattle.jbig2_region.specs.Templates.{nominal_adaptive_pixels, template_pixels}
use Rattle.jbig2_region.specs.declared.template.Template.TheVariants.{Template0}
use Rattle.jbig2_second_forms.specs.RasterDecisions.{decision_in, seen_after}
use Rattle.jbig2_second_forms.specs.ExtendedTemplate.{nominal_extended_pixels}

-- Two rows of two pixels, with typical prediction: SLTP is 0, the pixels are black and white, and SLTP is 1. So the
-- second row is the first one again.
two_rows : seen_after (coding_of true Template0 (template_pixels false Template0 (nominal_adaptive_pixels Template0))) 2 2 (decision_in (false ∷ true ∷ false ∷ true ∷ [])) 4
    ≡ record { pixels = true ∷ false ∷ true ∷ false ∷ []; predicted = true; asked = 0x9B25 ∷ 0 ∷ 1 ∷ 0x9B25 ∷ [] }
unfolding seen_after so_far table pixel_at context_at
two_rows = refl

-- without it each pixel takes a decision
four_decisions : seen_after (coding_of false Template0 (template_pixels true Template0 nominal_extended_pixels)) 2 2 (decision_in (false ∷ true ∷ false ∷ true ∷ [])) 4
    ≡ record { pixels = false ∷ true ∷ false ∷ true ∷ []; predicted = false; asked = 0 ∷ 0 ∷ 64 ∷ 128 ∷ [] }
unfolding seen_after so_far table pixel_at context_at
four_decisions = refl
