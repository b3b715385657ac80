-- The rule that the bytes break where a header or a region is refused (docs/FORMAT.md), one line for each error. A
-- predicate `Breaks..` takes the bytes, or two regions, and an error. The function that refuses cites it.
use Rattle.std.specs.Prelude.{◌≡◌, ◌<◌, ◌≤◌, ◌⊎◌, ℕ, ◌+◌, ◌-◌, ◌*◌, ◌/◌, ◌%◌, ◌^◌, ◌==◌, Bool, true, if◌then◌else◌}
use Rattle.std.specs.Prelude.{List, length, ℤ, pos, ◌<ℤ◌, ◌≤ℤ◌}
use Rattle.std.specs.Int.{w8, w32, cast_signed}
use Rattle.jbig2_base.specs.Grid.{max_side}
use Rattle.jbig2_base.specs.Causes.{number_in}
use Rattle.jbig2_base.specs.declared.error.DecodeError.{DecodeError}
use Rattle.jbig2_base.specs.declared.error.OverflowError.TheVariants.{BitmapDimension, ReferenceOffset}
use Rattle.jbig2_base.specs.declared.error.ParseError.TheVariants.{UnexpectedEof}
use Rattle.jbig2_base.specs.declared.error.RegionError.TheVariants.{InvalidCombinationOperator, InvalidDimension}
use Rattle.jbig2_base.specs.declared.error.TemplateError.TheVariants.{InvalidAtPixel}
use Rattle.jbig2_region.specs.RefinementTemplates.{refinement_pixel_count}
use Rattle.jbig2_region.specs.RegionInfo.{PlacedRegion}
use Rattle.jbig2_region.specs.Templates.{adaptive_pixel_count, template_of}
use Rattle.jbig2_region.specs.declared.region_info.RegionSegmentInfo.{RegionSegmentInfo}
use Rattle.jbig2_region.specs.declared.template.RefinementTemplate.{RefinementTemplate}
use Rattle.jbig2_base.specs.declared.error.DecodeError.TheVariants as errors

-- ---- region information (7.4.1): the two sides and the place, four bytes each, and the flags
abbrev pub BreaksRegionInfo : List ℕ → DecodeError → Type 0
BreaksRegionInfo bytes (errors.Parse UnexpectedEof) = length bytes < 17
BreaksRegionInfo bytes (errors.Region InvalidCombinationOperator) =
    (17 ≤ length bytes) × (4 < number_in w8 16 bytes % 8)
BreaksRegionInfo bytes errors.Unsupported = (17 ≤ length bytes) × (number_in w8 16 bytes / 8 % 2 ≡ 1)
BreaksRegionInfo bytes _ = ⊥

-- ---- adaptive pixels (7.4.6.3)
-- a pixel this many columns to the right and rows down is the one that is decoded, or comes after it
abbrev pub IsLate : ℤ → ℤ → Type 0
IsLate columns rows = (pos 0 <ℤ rows) ⊎ ((rows ≡ pos 0) × (pos 0 ≤ℤ columns))

-- this many pixels from this byte on, each as two bytes in two's complement
abbrev pub BreaksPixels : ℕ → ℕ → List ℕ → DecodeError → Type 0
BreaksPixels count place bytes (errors.Parse UnexpectedEof) = length bytes < place + 2 * count
BreaksPixels count place bytes (errors.Template InvalidAtPixel) =
    (k : ℕ) × (k < count) × (place + 2 * k + 2 ≤ length bytes)
    × IsLate (cast_signed w8 (number_in w8 (place + 2 * k) bytes))
    (cast_signed w8 (number_in w8 (place + 2 * k + 1) bytes))
BreaksPixels count place bytes _ = ⊥

-- ---- generic regions (7.4.6): if the segment's length is unknown, the last four bytes are the number of rows
abbrev pub BreaksRowCount : Bool → ℕ → List ℕ → DecodeError → Type 0
BreaksRowCount unknown height bytes (errors.Parse UnexpectedEof) = (unknown ≡ true) × (length bytes < 4)
BreaksRowCount unknown height bytes (errors.Region InvalidDimension) =
    (unknown ≡ true) × (4 ≤ length bytes) × (height < number_in w32 (length bytes - 4) bytes)
BreaksRowCount unknown height bytes _ = ⊥

-- how many adaptive pixels the flags at byte 17 ask for; they begin at byte 18
abbrev pub pixels_in : List ℕ → ℕ
pixels_in bytes =
    let flags = number_in w8 17 bytes in
    adaptive_pixel_count (flags % 2 == 1) (flags / 16 % 2 == 1) (template_of (flags / 2 % 4))

-- the width is at byte 0, the height at byte 4
abbrev pub BreaksGenericHeader : Bool → List ℕ → DecodeError → Type 0
BreaksGenericHeader unknown bytes (errors.Parse UnexpectedEof) =
    length bytes < 18 + 2 * pixels_in bytes + (if unknown then 4 else 0)
BreaksGenericHeader unknown bytes (errors.Region InvalidDimension) =
    (unknown ≡ true) × (18 + 2 * pixels_in bytes + 4 ≤ length bytes)
    × (number_in w32 4 bytes < number_in w32 (length bytes - 4) bytes)
BreaksGenericHeader unknown bytes (errors.Overflow BitmapDimension) =
    (18 + 2 * pixels_in bytes ≤ length bytes)
    × ((max_side < number_in w32 0 bytes) ⊎ (max_side < number_in w32 (if unknown then length bytes - 4 else 4) bytes))
BreaksGenericHeader unknown bytes (errors.Template InvalidAtPixel) =
    BreaksPixels (pixels_in bytes) 18 bytes (errors.Template InvalidAtPixel)
BreaksGenericHeader unknown bytes e = BreaksRegionInfo bytes e

-- ---- refinements (7.4.7), whose adaptive pixels may lie anywhere
abbrev pub BreaksRefinementPixels : RefinementTemplate → List ℕ → DecodeError → Type 0
BreaksRefinementPixels template bytes (errors.Parse UnexpectedEof) = length bytes < 2 * refinement_pixel_count template
BreaksRefinementPixels template bytes _ = ⊥

-- region information, the flags at byte 17, and four bytes of adaptive pixels at template 0, where bit 0 is clear
abbrev pub BreaksRefinementHeader : List ℕ → DecodeError → Type 0
BreaksRefinementHeader bytes (errors.Parse UnexpectedEof) =
    length bytes < 18 + (if number_in w8 17 bytes % 2 == 0 then 4 else 0)
BreaksRefinementHeader bytes (errors.Overflow BitmapDimension) =
    (18 ≤ length bytes) × ((max_side < number_in w32 0 bytes) ⊎ (max_side < number_in w32 4 bytes))
BreaksRefinementHeader bytes e = BreaksRegionInfo bytes e

abbrev pub BreaksOffset : PlacedRegion → RegionSegmentInfo → DecodeError → Type 0
BreaksOffset from info (errors.Region InvalidDimension) =
    (from.grid.width < info.width) ⊎ (from.grid.height < info.height)
BreaksOffset from info (errors.Overflow ReferenceOffset) =
    ((2 ^ 31 ≤ from.x_location) ⊎ (2 ^ 31 ≤ info.x_location))
    ⊎ ((2 ^ 31 ≤ from.y_location) ⊎ (2 ^ 31 ≤ info.y_location))
BreaksOffset from info _ = ⊥
