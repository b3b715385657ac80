-- The decisions of a region row by row, as the writer makes them: each context is made from the whole bitmap.
use Rattle.std.specs.Prelude.{ℕ, zero, suc, Bool, false, if◌then◌else◌, List, [], ◌∷◌, ◌++◌}
use Rattle.jbig2_base.specs.Grid.{Grid, differ, pixel_at}
use Rattle.jbig2_region.specs.Generic.{context_at}
use Rattle.jbig2_region.specs.Templates.{nominal_adaptive_pixels, row_context, template_pixels}
use Rattle.jbig2_region.specs.declared.template.AdaptiveTemplatePixel.{AdaptiveTemplatePixel}
use Rattle.jbig2_region.specs.declared.template.Template.{Template}
use Rattle.jbig2_inverses.specs.CoderStates.{Entry}
use Rattle.jbig2_inverses.specs.RegionWriter.{is_typical}
use Rattle.jbig2_writer.specs.declared.settings.ArithmeticCoding.{ArithmeticCoding}

abbrev pub places : Template → List AdaptiveTemplatePixel  -- all pixels of a template with nominal adaptive pixels
places template = template_pixels false template (nominal_adaptive_pixels template)

unfoldable pub decisions_of_pixels : List AdaptiveTemplatePixel → Grid → ℕ → ℕ → List Entry  -- the first n pixels of row y
decisions_of_pixels template g y zero = []
decisions_of_pixels template g y (suc n) =
    decisions_of_pixels template g y n ++ (context_at template g n y, pixel_at g n y) ∷ []

module _ (s : ArithmeticCoding) (g : Grid) where
  abbrev pub typical_row : ℕ → Bool  -- whether row y is as the row above it, and typical prediction is on
  typical_row y = is_typical s.typical g.width (pixel_at g) y

  abbrev pub predicted_before : ℕ → Bool  -- LTP before row y
  predicted_before zero = false
  predicted_before (suc y) = typical_row y

  unfoldable pub decisions_of_row : ℕ → Bool → List Entry  -- row y, after this LTP
  decisions_of_row y predicted =
      (if s.typical then (row_context s.template, differ (typical_row y) predicted) ∷ [] else [])
      ++ (if typical_row y then [] else decisions_of_pixels (places s.template) g y g.width)

  unfoldable pub decisions_of_rows : ℕ → List Entry  -- the first rows
  decisions_of_rows zero = []
  decisions_of_rows (suc y) = decisions_of_rows y ++ decisions_of_row y (predicted_before y)
