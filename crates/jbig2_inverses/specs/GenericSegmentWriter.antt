-- The data of a generic region segment (T.88, 7.4.1 and 7.4.6) as it is written: region information, flags, adaptive
-- pixels and the coded bytes. Then the law that `generic_header_at` gives back the header.
use Rattle.std.specs.Prelude.{◌≡◌, ℕ, ◌+◌, ◌-◌, ◌*◌, ◌^◌, ◌<◌, ◌≤◌, true, false, List, [], ◌∷◌, ◌++◌, length}
use Rattle.std.specs.Prelude.{ℤ, pos, negsuc, Ok}
use Rattle.std.specs.List.{flat_map}
use Rattle.std.specs.Int.{w32, to_be_bytes}
use Rattle.jbig2_base.specs.Grid.{max_side}
use Rattle.jbig2_base.specs.Bits.{bit_number}
use Rattle.jbig2_region.specs.declared.region_info.RegionSegmentInfo.{RegionSegmentInfo}
use Rattle.jbig2_region.specs.declared.template.AdaptiveTemplatePixel.{AdaptiveTemplatePixel}
use Rattle.jbig2_region.specs.declared.template.Template.{Template}
use Rattle.jbig2_region.specs.declared.template.Template.TheVariants.{Template0, Template1, Template2, Template3}
use Rattle.jbig2_region.specs.GenericHeader.{GenericHeader, generic_header_at}
use Rattle.jbig2_region.specs.Templates.{adaptive_pixel_count, is_earlier, takes_extended}
use Rattle.jbig2_inverses.specs.SegmentWriter.{operator_number}

abbrev pub template_number : Template → ℕ  -- GBTEMPLATE
template_number Template0 = 0
template_number Template1 = 1
template_number Template2 = 2
template_number Template3 = 3

unfoldable pub info_bytes : RegionSegmentInfo → List ℕ  -- region information (7.4.1)
info_bytes info =
    to_be_bytes w32 info.width ++ (to_be_bytes w32 info.height
    ++ (to_be_bytes w32 info.x_location ++ (to_be_bytes w32 info.y_location
    ++ operator_number info.combination_operator ∷ [])))

abbrev pub generic_flags : GenericHeader → ℕ  -- MMR, GBTEMPLATE, TPGDON and EXTTEMPLATE (7.4.6.2)
generic_flags h =
    bit_number h.mmr + 2 * template_number h.template + 8 * bit_number h.tpgdon + 16 * bit_number h.extended

abbrev pub signed_byte : ℤ → ℕ  -- a number from -128 to 127 in two's complement
signed_byte (pos n) = n
signed_byte (negsuc n) = 255 - n

abbrev pub adaptive_bytes : AdaptiveTemplatePixel → List ℕ  -- 7.4.6.3
adaptive_bytes p = signed_byte p.x ∷ signed_byte p.y ∷ []

unfoldable pub generic_bytes : GenericHeader → List ℕ
generic_bytes h =
    info_bytes h.region_info ++ (generic_flags h ∷ (flat_map adaptive_bytes h.adaptive_template_pixels ++ h.bytes))

abbrev pub IsSignedByte : ℤ → Type 0
IsSignedByte (pos n) = n < 128
IsSignedByte (negsuc n) = n < 128

abbrev pub AreAdaptive : List AdaptiveTemplatePixel → Type 0  -- earlier pixels, whose places fit
AreAdaptive [] = Unit {0}
AreAdaptive (p ∷ others) = (is_earlier p ≡ true) × IsSignedByte p.x × IsSignedByte p.y × AreAdaptive others

pub record IsHeader (h : GenericHeader) : Type 0 where  -- a header that a segment can have
  pub columns : h.region_info.width ≤ max_side
  pub rows : h.region_info.height ≤ max_side
  pub left : h.region_info.x_location < 2 ^ 32
  pub top : h.region_info.y_location < 2 ^ 32
  pub extended : takes_extended h.mmr h.extended h.template ≡ h.extended
  pub count : length h.adaptive_template_pixels ≡ adaptive_pixel_count h.mmr h.extended h.template
  pub pixels : AreAdaptive h.adaptive_template_pixels

-- Each header with its coded bytes is read back from a segment of known length.
abbrev pub GenericSegmentsReadBack : Type 0
GenericSegmentsReadBack = (h : GenericHeader) → IsHeader h
    → generic_header_at false h.strict (generic_bytes h) ≡ Ok (h, h.bytes)
