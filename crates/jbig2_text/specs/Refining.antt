-- Symbols that are refined from others (T.88, 6.4.11). A region or a dictionary has one refinement template and one set
-- of contexts, which go on from symbol to symbol. It lends them to the code that reads the instances.
use Rattle.std.specs.Prelude.{ℕ, false, List}
use Rattle.jbig2_base.specs.Grid.{Grid}
use Rattle.jbig2_coder.specs.Coder.{Coder, Context, Registers}
use Rattle.jbig2_region.specs.Raster.{Region, no_pixels, so_far, decoded_region}
use Rattle.jbig2_region.specs.Refinement.{Reference, refinement_coding}
use Rattle.jbig2_region.specs.declared.template.AdaptiveTemplatePixel.{AdaptiveTemplatePixel}
use Rattle.jbig2_region.specs.declared.template.RefinementTemplate.{RefinementTemplate}

-- How symbols are refined (SBRTEMPLATE, SBRAT), and what the contexts have learned.
pub record Refining : Type 0 where
  pub template : RefinementTemplate
  pub pixels : List AdaptiveTemplatePixel
  pub contexts : List Context

-- a symbol of this width and height, refined by a coder over these bytes (Table 12)
unfoldable pub refined_by : Refining → Reference → ℕ → ℕ → List ℕ → Registers → Region
refined_by f from width height bytes registers =
    decoded_region (refinement_coding f.template false f.pixels from) width height bytes
    (no_pixels registers f.contexts)

pub record RefinedSymbol : Type 0 where  -- the symbol, and the coder and the contexts after it
  pub grid : Grid
  pub coder : Coder
  pub refining : Refining

abbrev pub refined_with : Refining → Reference → ℕ → ℕ → Coder → RefinedSymbol
refined_with f from width height c =
    let region = refined_by f from width height c.bytes c.registers in
    record {
      grid = so_far width height region.pixels;
      coder = record c { registers = region.registers };
      refining = record f { contexts = region.contexts };
    }
