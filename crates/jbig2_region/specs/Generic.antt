-- Generic regions (T.88, 6.2): coded by the arithmetic coder in the contexts of a template, or by MMR. Some pixels may
-- be skipped (USESKIP). `generic_decoded` takes the header with the coded bytes and gives the grid at its place.
-- `contexts_after` gives the contexts after the region.
use Rattle.std.specs.Prelude.{ℕ, ◌+◌, Bool, false, if◌then◌else◌, List, map, Option, Some, None, pos}
use Rattle.std.specs.Prelude.{negsuc, ◌+ℤ◌, Result, Ok}
use Rattle.jbig2_base.specs.Results.{◌>>=◌}
use Rattle.jbig2_base.specs.Grid.{Grid, pixel, pixel_at}
use Rattle.jbig2_base.specs.Bits.{number_of}
use Rattle.jbig2_base.specs.declared.error.DecodeError.{DecodeError}
use Rattle.jbig2_coder.specs.Coder.{Context, initial_registers}
use Rattle.jbig2_mmr.specs.T6.{mmr_rows, grid_of_rows, rows_of}
use Rattle.jbig2_region.specs.GenericHeader.{GenericHeader}
use Rattle.jbig2_region.specs.Raster.{Coding, Region, so_far, decoded_region, no_pixels}
use Rattle.jbig2_coder.specs.Coder.{fresh_contexts}
use Rattle.jbig2_region.specs.RegionInfo.{at_location, PlacedRegion}
use Rattle.jbig2_region.specs.Templates.{context_bits, row_context, template_pixels}
use Rattle.jbig2_region.specs.declared.template.AdaptiveTemplatePixel.{AdaptiveTemplatePixel}
use Rattle.jbig2_region.specs.declared.template.Template.{Template}

-- a template's pixel, seen from column x of row y
abbrev pub region_pixel : Grid → ℕ → ℕ → AdaptiveTemplatePixel → Bool
region_pixel g x y p = pixel g (pos x +ℤ p.x) (pos y +ℤ p.y)

unfoldable pub context_at : List AdaptiveTemplatePixel → Grid → ℕ → ℕ → ℕ
context_at template g x y = number_of (map (region_pixel g x y) template)

-- whether the pixel at column x of row y is skipped (USESKIP): the bitmap of skipped pixels, if any, is black there
abbrev pub is_skipped : Option Grid → ℕ → ℕ → Bool
is_skipped None x y = false
is_skipped (Some skip) x y = pixel_at skip x y

abbrev pub white_if_skipped : Option Grid → ℕ → ℕ → Option Bool
white_if_skipped skip x y = if is_skipped skip x y then Some false else None

-- the colour of a pixel that takes no decision (6.2.5.7): in a predicted row that above it, else white if skipped
abbrev pub known_colour : Option Grid → Bool → Grid → ℕ → ℕ → Option Bool
known_colour skip predicted g x y =
    if predicted then Some (pixel g (pos x) (pos y +ℤ negsuc 0)) else white_if_skipped skip x y

-- how pixels are coded, with a bitmap of skipped pixels if there is one
abbrev pub masked_coding : Bool → Template → List AdaptiveTemplatePixel → Option Grid → Coding
masked_coding typical template pixels skip = record {
  context = context_at pixels;
  known = known_colour skip;
  row_context = (if typical then Some (row_context template) else None);
}

abbrev pub coding_of : Bool → Template → List AdaptiveTemplatePixel → Coding
coding_of typical template pixels = masked_coding typical template pixels None

module _ (h : GenericHeader) where
  abbrev pub generic_coding : Coding
  generic_coding = coding_of h.tpgdon h.template (template_pixels h.extended h.template h.adaptive_template_pixels)

  -- the region and the coder's state after it, from fresh contexts
  unfoldable pub generic_region : Region
  generic_region =
      decoded_region generic_coding h.region_info.width h.region_info.height h.bytes
      (no_pixels (initial_registers h.bytes) (fresh_contexts (context_bits h.template)))

  unfoldable pub generic_grid : Grid
  generic_grid = so_far h.region_info.width h.region_info.height generic_region.pixels

  abbrev pub generic_result : Result Grid DecodeError  -- by the arithmetic coder or by MMR (6.2.6)
  generic_result =
      if h.mmr then (mmr_rows h.strict h.region_info.width h.region_info.height h.bytes >>= λ rows. Ok rows.grid)
      else Ok generic_grid

  -- the bitmap after a region is refused: with MMR the whole rows before the fault, and white below them
  abbrev pub refused_grid : Grid → Grid
  refused_grid g =
      let info = h.region_info in
      if h.mmr then grid_of_rows info.width info.height (rows_of info.width info.height h.bytes).rows else g

  abbrev pub contexts_after : List Context → List Context
  contexts_after contexts = if h.mmr then contexts else generic_region.contexts

  abbrev pub generic_decoded : Result PlacedRegion DecodeError
  generic_decoded = generic_result >>= λ g. Ok (at_location h.region_info g)

abbrev pub skipping_coding : List AdaptiveTemplatePixel → Option Grid → Coding
skipping_coding pixels skip = record { context = context_at pixels; known = known_colour skip; row_context = None }
