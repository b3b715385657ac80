-- Refinements (T.88, 6.3): they are coded as generic regions are, with templates that lie in two grids.
-- `refined_decoded` takes the header and the region that is refined. It gives the refined region at its place on the
-- page, or an error.
use Rattle.std.specs.Prelude.{ℕ, Bool, true, false, not, ◌||◌, nat_lt, if◌then◌else◌, List, [], ◌∷◌, ◌++◌, map}
use Rattle.std.specs.Prelude.{Option, Some, None, ℤ, pos, negsuc, ◌+ℤ◌, ◌-ℤ◌, Result, Ok, is_ok}
use Rattle.std.specs.List.{list_all}
use Rattle.jbig2_base.specs.Results.{◌>>=◌, refuse_if}
use Rattle.jbig2_base.specs.Grid.{Grid, pixel}
use Rattle.jbig2_base.specs.declared.error.DecodeError.{DecodeError}
use Rattle.jbig2_base.specs.declared.error.OverflowError.TheVariants.{ReferenceOffset}
use Rattle.jbig2_base.specs.declared.error.RegionError.TheVariants.{InvalidDimension}
use Rattle.jbig2_coder.specs.Coder.{Context, initial_registers}
use Rattle.jbig2_region.specs.Generic.{region_pixel}
use Rattle.jbig2_base.specs.Bits.{number_of}
use Rattle.jbig2_region.specs.Raster.{Coding, Region, so_far, decoded_region, no_pixels}
use Rattle.jbig2_coder.specs.Coder.{fresh_contexts}
use Rattle.jbig2_region.specs.RefinementHeader.{RefinementHeader}
use Rattle.jbig2_region.specs.RefinementTemplates.{at_xy, reference_pixels, refinement_row_context, region_pixels}
use Rattle.jbig2_region.specs.RefinementTemplates.{refinement_bits}
use Rattle.jbig2_region.specs.RegionInfo.{PlacedRegion, at_location, is_far}
use Rattle.jbig2_region.specs.declared.region_info.RegionSegmentInfo.{RegionSegmentInfo}
use Rattle.jbig2_region.specs.declared.template.AdaptiveTemplatePixel.{AdaptiveTemplatePixel}
use Rattle.jbig2_region.specs.declared.template.RefinementTemplate.{RefinementTemplate}
use Rattle.jbig2_base.specs.declared.error.DecodeError.TheVariants as errors

-- The reference of a refinement: a grid that lies dx columns to the right of the region and dy rows below it.
pub record Reference : Type 0 where
  pub grid : Grid
  pub dx : ℤ
  pub dy : ℤ

-- a template's pixel in the reference, seen from column x of row y of the region
abbrev pub reference_pixel : Reference → ℕ → ℕ → AdaptiveTemplatePixel → Bool
reference_pixel r x y p = pixel r.grid (pos x -ℤ r.dx +ℤ p.x) (pos y -ℤ r.dy +ℤ p.y)

-- the number of a context, from the template's pixels in the reference and those in the region
unfoldable pub refined_context : Reference → List AdaptiveTemplatePixel → List AdaptiveTemplatePixel → Grid → ℕ → ℕ → ℕ
refined_context r in_reference in_region g x y =
    number_of (map (reference_pixel r x y) in_reference ++ map (region_pixel g x y) in_region)

abbrev pub nine : List AdaptiveTemplatePixel  -- a pixel and the eight around it
nine =
    at_xy (negsuc 0) (negsuc 0) ∷ at_xy (pos 0) (negsuc 0) ∷ at_xy (pos 1) (negsuc 0)
    ∷ at_xy (negsuc 0) (pos 0) ∷ at_xy (pos 0) (pos 0) ∷ at_xy (pos 1) (pos 0)
    ∷ at_xy (negsuc 0) (pos 1) ∷ at_xy (pos 0) (pos 1) ∷ at_xy (pos 1) (pos 1) ∷ []

-- the common colour of the nine pixels of the reference, if they have one
unfoldable pub common_colour : Reference → ℕ → ℕ → Option Bool
common_colour r x y =
    if list_all (reference_pixel r x y) nine then Some true
    else if list_all (λ p. not (reference_pixel r x y p)) nine then Some false else None

-- how pixels are coded: in a predicted row a pixel takes the common colour of the nine (6.3.5.6)
abbrev pub refined_coding : RefinementTemplate → Bool → List AdaptiveTemplatePixel → List AdaptiveTemplatePixel
    → Reference → Coding
refined_coding template typical in_reference in_region r = record {
  context = refined_context r in_reference in_region;
  known = λ predicted g x y. (if predicted then common_colour r x y else None);
  row_context = (if typical then Some (refinement_row_context template) else None);
}

abbrev pub refinement_coding : RefinementTemplate → Bool → List AdaptiveTemplatePixel → Reference → Coding
refinement_coding template typical a r =
    refined_coding template typical (reference_pixels template a) (region_pixels template a) r

abbrev pub is_smaller : PlacedRegion → RegionSegmentInfo → Bool
is_smaller from info = nat_lt from.grid.width info.width || nat_lt from.grid.height info.height

-- dx and dy; a reference that is smaller than the region is refused, and so is a place of 2^31 or more (our own rules)
unfoldable pub offset : PlacedRegion → RegionSegmentInfo → Result (ℤ × ℤ) DecodeError
offset from info = do
  covered ← refuse_if (is_smaller from info) (errors.Region InvalidDimension)
  near ← refuse_if
      (is_far from.x_location || is_far info.x_location || is_far from.y_location || is_far info.y_location)
      (errors.Overflow ReferenceOffset)
  Ok (pos from.x_location -ℤ pos info.x_location, pos from.y_location -ℤ pos info.y_location)

-- a refinement, by its header and the region that is refined
module _ (h : RefinementHeader) (from : PlacedRegion) where
  -- the reference at its place on the page, seen from the region at its place
  abbrev pub reference_of : Reference
  reference_of = record {
    grid = from.grid;
    dx = pos from.x_location -ℤ pos h.region_info.x_location;
    dy = pos from.y_location -ℤ pos h.region_info.y_location;
  }

  unfoldable pub refined_region : Region
  refined_region =
      decoded_region (refinement_coding h.template h.tpgron h.adaptive_template_pixels reference_of)
      h.region_info.width h.region_info.height h.bytes
      (no_pixels (initial_registers h.bytes) (fresh_contexts (refinement_bits h.template)))

  unfoldable pub refined_grid : Grid
  refined_grid = so_far h.region_info.width h.region_info.height refined_region.pixels

  abbrev pub refined_result : Result Grid DecodeError
  refined_result = offset from h.region_info >>= λ d. Ok refined_grid

  abbrev pub refined_contexts : List Context → List Context
  refined_contexts contexts = if is_ok (offset from h.region_info) then refined_region.contexts else contexts

  abbrev pub refined_decoded : Result PlacedRegion DecodeError
  refined_decoded = refined_result >>= λ g. Ok (at_location h.region_info g)
