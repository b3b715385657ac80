-- Short generic regions, written by the definition.
use Rattle.std.proofs.Common.{◌≡◌, true, false, [], ◌∷◌, refl}
use Rattle.jbig2_base.specs.Grid.{table, pixel_at}
use Rattle.jbig2_region.specs.declared.template.Template.TheVariants.{Template3}
use Rattle.jbig2_region.specs.Raster.{so_far}
use Rattle.jbig2_region.specs.Templates.{template_pixels, nominal_adaptive_pixels}
use Rattle.jbig2_region.specs.Generic.{coding_of, context_at}
use Rattle.jbig2_inverses.specs.RegionWriter.{pixels_before, entries_before, is_typical}

-- two black pixels by template 3: the second one has the first one to its left
two_pixels : entries_before (coding_of false Template3 (template_pixels false Template3 (nominal_adaptive_pixels Template3))) 2 1 (λ x y. true) (is_typical false 2 (λ x y. true)) 0 2
    ≡ (0, true) ∷ (1, true) ∷ []
unfolding entries_before pixels_before context_at so_far pixel_at table
two_pixels = refl

-- two black rows of one pixel with typical prediction: the second one is as the first, so LTP changes and no pixel follows
typical_row : entries_before (coding_of true Template3 (template_pixels false Template3 (nominal_adaptive_pixels Template3))) 1 2 (λ x y. true) (is_typical true 1 (λ x y. true)) 0 2
    ≡ (0x195, false) ∷ (0, true) ∷ (0x195, true) ∷ []
unfolding entries_before pixels_before context_at so_far pixel_at table
typical_row = refl
