-- Runs of any length; a run byte is a run of eight pixels (our own rule).
use Rattle.std.specs.Prelude.{ℕ, Bool, ◌&&◌, List, slice_index_or}
use Rattle.jbig2_base.specs.Grid.{same_colour}
use Rattle.jbig2_coder.specs.Coder.{fresh, all_quiet}
use Rattle.jbig2_region.specs.Raster.{Region}
use Rattle.jbig2_region.specs.Steps.{all_of, keeps_context}
use Rattle.jbig2_region.specs.declared.template.AdaptiveTemplatePixel.{AdaptiveTemplatePixel}

-- whether the next n pixels are a run of a colour: likely symbols, quiet, and in one context
unfoldable pub is_run_for : List AdaptiveTemplatePixel → ℕ → ℕ → List ℕ → Region → Bool → ℕ → Bool
is_run_for template w h bytes r colour n =
    let context = slice_index_or r.contexts (all_of template colour) fresh in
    keeps_context template w h colour n r.pixels
    && (same_colour colour context.likely && all_quiet n bytes r.registers context)
