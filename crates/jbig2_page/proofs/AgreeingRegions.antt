-- Where strict reading accepts, lenient reading gives the same: generic regions, refinements, patterns and halftones.
use Rattle.std.proofs.Common.{◌≡◌, ℕ, zero, suc, ◌+◌, ◌-◌, Bool, true, false, not, ◌&&◌, ◌||◌, nat_lt, List, [], ◌∷◌, length, map, slice_index_or, Result, Ok, refl, ap}
use Rattle.std.specs.Int.{w8, w16, w32}
use Rattle.std.specs.List.{range_with_len}
use Rattle.jbig2_base.specs.Results.{refuse_if}
use Rattle.jbig2_base.specs.Fields.{number_at}
use Rattle.jbig2_base.specs.Grid.{Grid, blank}
use Rattle.jbig2_base.specs.declared.error.DecodeError.{DecodeError}
use Rattle.jbig2_base.specs.declared.error.DecodeError.TheVariants.{Overflow}
use Rattle.jbig2_base.specs.declared.error.OverflowError.TheVariants.{BitmapDimension}
use Rattle.jbig2_halftone.specs.GrayScale.{GrayScale, after_planes, gray_scale_image, image_is_too_large, mmr_plane, mmr_planes, planes_of}
use Rattle.jbig2_halftone.specs.Halftone.{cells_drawn, gray_params, halftone_result, halftone_decoded, pattern_for, with_cell}
use Rattle.jbig2_halftone.specs.HalftoneHeader.{HalftoneHeader, halftone_flags_at, halftone_grid_at, halftone_header_at}
use Rattle.jbig2_halftone.specs.PatternHeader.{PatternHeader, pattern_header_at, side_at}
use Rattle.jbig2_halftone.specs.Patterns.{Patterns, collective_header, collective_width, patterns_decoded}
use Rattle.jbig2_mmr.specs.T6.{mmr_rows, rows_of}
use Rattle.jbig2_region.specs.Generic.{generic_result, generic_decoded, generic_grid, generic_region, skipping_coding}
use Rattle.jbig2_region.specs.GenericHeader.{GenericHeader, generic_header_at, rows_at}
use Rattle.jbig2_region.specs.Raster.{Region, decoded_region, no_pixels, so_far}
use Rattle.jbig2_region.specs.RegionInfo.{region_info_at}
use Rattle.jbig2_region.specs.Templates.{adaptive_pixels_at, template_pixels, nominal_adaptive_pixels}
use Rattle.jbig2_framing.proofs.Agreeing.{Agrees, Same, agrees-then, same-if, same-next, same-then, same-unless}
use Rattle.jbig2_page.proofs.PackedRows.{map-same}

-- ---- MMR data
pub mmr-same : (strict : Bool) (w h : ℕ) (bytes : List ℕ) → Same (mmr_rows strict w h bytes) (mmr_rows false w h bytes)
unfolding mmr_rows
mmr-same strict w h bytes = same-unless (strict && not (rows_of w h bytes).whole) _ _

-- ---- generic regions
-- the same header, read leniently
abbrev pub lenient_generic : GenericHeader → GenericHeader
lenient_generic h = record h { strict = false }

pub generic-header-agrees : (unknown_length : Bool) (bytes : List ℕ) → Agrees (λ h. (lenient_generic h.0, h.1)) (generic_header_at unknown_length true bytes) (generic_header_at unknown_length false bytes)
unfolding generic_header_at
generic-header-agrees unknown_length bytes =
    let view : GenericHeader × List ℕ → GenericHeader × List ℕ = λ h. (lenient_generic h.0, h.1) in
    agrees-then view (region_info_at bytes) _ _ (λ info. agrees-then view (number_at w8 info.1) _ _ (λ flags.
    agrees-then view (adaptive_pixels_at _ flags.1) _ _ (λ pixels. agrees-then view (rows_at unknown_length info.0.height pixels.1) _ _ (λ rows.
    agrees-then view (refuse_if (nat_lt 65535 info.0.width || nat_lt 65535 rows.0) (Overflow BitmapDimension)) _ _ (λ fits. refl)))))

unread : (h : GenericHeader) → generic_grid (lenient_generic h) ≡ generic_grid h
unfolding generic_grid generic_region
unread h = refl

pub generic-result-same : (h : GenericHeader) → Same (generic_result h) (generic_result (lenient_generic h))
generic-result-same h =
    same-if h.mmr _ _ (Ok (generic_grid h)) (Ok (generic_grid (lenient_generic h)))
    (same-next (mmr_rows h.strict h.region_info.width h.region_info.height h.bytes) (mmr_rows false h.region_info.width h.region_info.height h.bytes) _ _ (mmr-same h.strict h.region_info.width h.region_info.height h.bytes) (λ rows. refl))
    (ap (λ (g : Grid). let r : Result Grid DecodeError = Ok g in r) (unread h))

pub generic-same : (h : GenericHeader) → Same (generic_decoded h) (generic_decoded (lenient_generic h))
generic-same h = same-next (generic_result h) (generic_result (lenient_generic h)) _ _ (generic-result-same h) (λ g. refl)

-- ---- pattern dictionaries
abbrev pub lenient_pattern : PatternHeader → PatternHeader
lenient_pattern h = record h { strict = false }

pub pattern-header-agrees : (bytes : List ℕ) → Agrees (λ h. (lenient_pattern h.0, h.1)) (pattern_header_at true bytes) (pattern_header_at false bytes)
unfolding pattern_header_at
pattern-header-agrees bytes =
    let view : PatternHeader × List ℕ → PatternHeader × List ℕ = λ h. (lenient_pattern h.0, h.1) in
    agrees-then view (number_at w8 bytes) _ _ (λ flags. agrees-then view (side_at flags.1) _ _ (λ width. agrees-then view (side_at width.1) _ _ (λ height.
    agrees-then view (number_at w32 height.1) _ _ (λ largest. refl))))

pub patterns-same : (h : PatternHeader) → Same (patterns_decoded h) (patterns_decoded (lenient_pattern h))
unfolding patterns_decoded
patterns-same h =
    same-then (refuse_if (nat_lt 65535 (collective_width h)) _) _ _ (λ fits.
    same-next (generic_result (collective_header h)) (generic_result (collective_header (lenient_pattern h))) _ _ (generic-result-same (collective_header h)) (λ g. refl))

-- ---- gray-scale images
abbrev pub lenient_gray : GrayScale → GrayScale
lenient_gray p = record p { strict = false }

plane-same : (p : GrayScale) (bytes : List ℕ) → Same (mmr_plane p bytes) (mmr_plane (lenient_gray p) bytes)
unfolding mmr_plane
plane-same p bytes = same-next (mmr_rows p.strict p.width p.height bytes) (mmr_rows false p.width p.height bytes) _ _ (mmr-same p.strict p.width p.height bytes) (λ rows. refl)

planes-same : (p : GrayScale) (bytes : List ℕ) (count : ℕ) → Same (mmr_planes p bytes count) (mmr_planes (lenient_gray p) bytes count)
unfolding mmr_planes
planes-same p bytes zero = refl
planes-same p bytes (suc count) =
    same-next (mmr_plane p bytes) (mmr_plane (lenient_gray p) bytes) _ _ (plane-same p bytes) (λ plane.
    same-next (mmr_planes p plane.1 count) (mmr_planes (lenient_gray p) plane.1 count) _ _ (planes-same p plane.1 count) (λ others. refl))

after-same : (p : GrayScale) (bytes : List ℕ) (count : ℕ) → after_planes (lenient_gray p) bytes count ≡ after_planes p bytes count
unfolding after_planes
after-same p bytes zero = refl
after-same p bytes (suc count) =
    ap (λ (before : Region). decoded_region (skipping_coding (template_pixels false p.template (nominal_adaptive_pixels p.template)) p.skip_mask) p.width p.height bytes (no_pixels before.registers before.contexts)) (after-same p bytes count)

coded-same : (p : GrayScale) (bytes : List ℕ) → map (λ k. so_far p.width p.height (after_planes (lenient_gray p) bytes (k + 1)).pixels) (range_with_len 0 p.bits_per_pixel) ≡ map (λ k. so_far p.width p.height (after_planes p bytes (k + 1)).pixels) (range_with_len 0 p.bits_per_pixel)
coded-same p bytes =
    map-same (λ k. so_far p.width p.height (after_planes (lenient_gray p) bytes (k + 1)).pixels) (λ k. so_far p.width p.height (after_planes p bytes (k + 1)).pixels) 0 p.bits_per_pixel
    (λ k above below. ap (λ (r : Region). so_far p.width p.height r.pixels) (after-same p bytes (k + 1)))

planes_of-same : (p : GrayScale) (bytes : List ℕ) → Same (planes_of p bytes) (planes_of (lenient_gray p) bytes)
planes_of-same p bytes =
    same-if p.use_mmr (mmr_planes p bytes p.bits_per_pixel) (mmr_planes (lenient_gray p) bytes p.bits_per_pixel) _ _ (planes-same p bytes p.bits_per_pixel)
    (ap (λ (grids : List Grid). let r : Result (List Grid) DecodeError = Ok grids in r) (coded-same p bytes))

gray-same : (p : GrayScale) (bytes : List ℕ) → Same (gray_scale_image p bytes) (gray_scale_image (lenient_gray p) bytes)
unfolding gray_scale_image
gray-same p bytes =
    same-then (refuse_if (image_is_too_large p) _) _ _ (λ fits. same-next (planes_of p bytes) (planes_of (lenient_gray p) bytes) _ _ (planes_of-same p bytes) (λ planes. refl))

-- ---- halftone regions
abbrev pub lenient_halftone : HalftoneHeader → HalftoneHeader
lenient_halftone h = record h { strict = false }

pub halftone-header-agrees : (bytes : List ℕ) → Agrees (λ h. (lenient_halftone h.0, h.1)) (halftone_header_at true bytes) (halftone_header_at false bytes)
unfolding halftone_header_at
halftone-header-agrees bytes =
    let view : HalftoneHeader × List ℕ → HalftoneHeader × List ℕ = λ h. (lenient_halftone h.0, h.1) in
    agrees-then view (region_info_at bytes) _ _ (λ info. agrees-then view (halftone_flags_at info.1) _ _ (λ flags. agrees-then view (halftone_grid_at flags.1) _ _ (λ grid.
    agrees-then view (number_at w16 grid.1) _ _ (λ x. agrees-then view (number_at w16 x.1) _ _ (λ y. refl)))))

pattern-same : (strict : Bool) (grids : List Grid) (value : ℕ) → Same (pattern_for strict grids value) (pattern_for false grids value)
pattern-same strict grids value =
    same-if (nat_lt value (length grids)) (Ok (slice_index_or grids value (blank 0 0 false))) (Ok (slice_index_or grids value (blank 0 0 false))) _ _ refl (same-unless strict _ (Ok (slice_index_or grids (length grids - 1) (blank 0 0 false))))

cells-same : (h : HalftoneHeader) (d : Patterns) (k : ℕ) (values : List ℕ) (region : Grid) → Same (cells_drawn h d k values region) (cells_drawn (lenient_halftone h) d k values region)
unfolding cells_drawn
cells-same h d k [] region = refl
cells-same h d k (value ∷ values) region =
    same-next (pattern_for h.strict d.grids value) (pattern_for false d.grids value) _ _ (pattern-same h.strict d.grids value) (λ pattern. cells-same h d (k + 1) values (with_cell h k pattern region))

halftone-result-same : (h : HalftoneHeader) (d : Patterns) → Same (halftone_result h d) (halftone_result (lenient_halftone h) d)
unfolding halftone_result
halftone-result-same h d =
    same-next (gray_scale_image (gray_params h d) h.bytes) (gray_scale_image (gray_params (lenient_halftone h) d) h.bytes) _ _ (gray-same (gray_params h d) h.bytes) (λ values.
    cells-same h d 0 values (blank h.region_info.width h.region_info.height h.flags.initial_pixel_color))

pub halftone-same : (h : HalftoneHeader) (d : Patterns) → Same (halftone_decoded h d) (halftone_decoded (lenient_halftone h) d)
unfolding halftone_decoded
halftone-same h d =
    same-then (refuse_if (nat_lt 65535 h.region_info.width || nat_lt 65535 h.region_info.height) (Overflow BitmapDimension)) _ _ (λ fits. same-next (halftone_result h d) (halftone_result (lenient_halftone h) d) _ _ (halftone-result-same h d) (λ grid. refl))
