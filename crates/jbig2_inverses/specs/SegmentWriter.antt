-- Segments and page information (T.88, 7.2, 7.3, 7.4.8 and D.3) as they are written. Then the laws that `Sequential`
-- and `PageInfo` give them back.
use Rattle.std.specs.Prelude.{◌≡◌, ℕ, ◌+◌, ◌*◌, ◌^◌, ◌<◌, Bool, false, not, ◌&&◌, List, [], ◌∷◌, ◌++◌, length}
use Rattle.std.specs.Prelude.{Option, Some, None, Ok}
use Rattle.std.specs.List.{flat_map}
use Rattle.std.specs.Int.{w16, w32, to_be_bytes}
use Rattle.jbig2_framing.specs.PageInfo.{information_at}
use Rattle.jbig2_framing.specs.Reading.{is_strict}
use Rattle.jbig2_framing.specs.Segment.{Header, SegmentView, is_reserved}
use Rattle.jbig2_framing.specs.Sequential.{is_end_of_file, sequential}
use Rattle.jbig2_base.specs.declared.bitmap.operator.CombinationOperator.{CombinationOperator}
use Rattle.jbig2_base.specs.declared.bitmap.operator.CombinationOperator.TheVariants.{Or, And, Xor, Xnor, Replace}
use Rattle.jbig2_framing.specs.declared.page_info.PageFlags.{PageFlags}
use Rattle.jbig2_framing.specs.declared.page_info.PageInformation.{PageInformation}
use Rattle.jbig2_framing.specs.declared.page_info.PageStriping.{PageStriping}
use Rattle.jbig2_framing.specs.declared.reading.Reading.{Reading}
use Rattle.jbig2_framing.specs.declared.segment.SegmentType.{SegmentType}
use Rattle.jbig2_framing.specs.declared.segment.SegmentType.TheVariants as types
use Rattle.jbig2_base.specs.Bits.{bit_number}

abbrev pub type_number : SegmentType → ℕ  -- 7.3; one of the numbers that have no meaning
type_number types.SymbolDictionary = 0
type_number types.IntermediateTextRegion = 4
type_number types.ImmediateTextRegion = 6
type_number types.ImmediateLosslessTextRegion = 7
type_number types.PatternDictionary = 16
type_number types.IntermediateHalftoneRegion = 20
type_number types.ImmediateHalftoneRegion = 22
type_number types.ImmediateLosslessHalftoneRegion = 23
type_number types.IntermediateGenericRegion = 36
type_number types.ImmediateGenericRegion = 38
type_number types.ImmediateLosslessGenericRegion = 39
type_number types.IntermediateGenericRefinementRegion = 40
type_number types.ImmediateGenericRefinementRegion = 42
type_number types.ImmediateLosslessGenericRefinementRegion = 43
type_number types.PageInformation = 48
type_number types.EndOfPage = 49
type_number types.EndOfStripe = 50
type_number types.EndOfFile = 51
type_number types.Profiles = 52
type_number types.Tables = 53
type_number types.ColourPalette = 54
type_number types.Extension = 62
type_number types.Reserved = 63

abbrev pub header_flags : Header → ℕ  -- 7.2.3: the type, bit 6 for a page association of four bytes, and bit 7
header_flags h = type_number h.segment_type + 64 + 128 * bit_number (not h.retain_flag)

-- A segment of known length that refers to none (7.2): its number, flags, a count of 0, its page, its length, its data.
unfoldable pub segment_bytes : SegmentView → List ℕ
segment_bytes p =
    to_be_bytes w32 p.header.segment_number
    ++ (header_flags p.header ∷ 0 ∷ (to_be_bytes w32 p.header.page_association
    ++ (to_be_bytes w32 (length p.bytes) ++ p.bytes)))

pub record IsSegment (strict : Bool) (p : SegmentView) : Type 0 where  -- what can be written so
  pub number : p.header.segment_number < 2 ^ 32
  pub page : p.header.page_association < 2 ^ 32
  pub known : (strict && is_reserved p.header.segment_type) ≡ false
  pub no_references : p.header.referred_to_segments ≡ []
  pub data_length : p.header.data_length ≡ Some (length p.bytes)
  pub short : length p.bytes < 4294967295

-- Only the last one may be an end of file (7.4.11).
abbrev pub AreSegments : Bool → List SegmentView → Type 0
AreSegments strict [] = Unit {0}
AreSegments strict (p ∷ []) = IsSegment strict p
AreSegments strict (p ∷ q ∷ ps) =
    IsSegment strict p × (is_end_of_file p.header.segment_type ≡ false) × AreSegments strict (q ∷ ps)

-- Segments one after the other (D.1, D.3) are read back, in each mode.
abbrev pub SegmentsReadBack : Type 0
SegmentsReadBack = (reading : Reading) (ps : List SegmentView) → AreSegments (is_strict reading) ps
    → sequential reading (flat_map segment_bytes ps) ≡ Ok ps

-- ---- page information (7.4.8)
abbrev pub number_or_0 : Option ℕ → ℕ  -- an unknown resolution is 0
number_or_0 None = 0
number_or_0 (Some n) = n

abbrev pub operator_number : CombinationOperator → ℕ  -- 7.4.1.5
operator_number Or = 0
operator_number And = 1
operator_number Xor = 2
operator_number Xnor = 3
operator_number Replace = 4

abbrev pub page_flags : PageFlags → ℕ  -- 7.4.8.5
page_flags f =
    bit_number f.is_lossless + 2 * bit_number f.might_contain_refinements + 4 * bit_number f.default_pixel
    + 8 * operator_number f.default_combination_operator + 32 * bit_number f.requires_auxiliary_buffers
    + 64 * bit_number f.combination_operator_overridden + 128 * bit_number f.might_contain_coloured

abbrev pub striping_number : PageStriping → ℕ  -- 7.4.8.6
striping_number s = 32768 * bit_number s.is_striped + s.max_stripe_size

unfoldable pub information_bytes : PageInformation → List ℕ
information_bytes i =
    to_be_bytes w32 i.width ++ (to_be_bytes w32 i.height
    ++ (to_be_bytes w32 (number_or_0 i.x_resolution) ++ (to_be_bytes w32 (number_or_0 i.y_resolution)
    ++ (page_flags i.flags ∷ to_be_bytes w16 (striping_number i.striping)))))

abbrev pub IsResolution : Option ℕ → Type 0
IsResolution None = Unit {0}
IsResolution (Some n) = (0 < n) × (n < 2 ^ 32)

pub record IsInformation (i : PageInformation) : Type 0 where  -- what can be written so
  pub width : i.width < 2 ^ 32
  pub height : i.height < 2 ^ 32
  pub x_resolution : IsResolution i.x_resolution
  pub y_resolution : IsResolution i.y_resolution
  pub operator : i.flags.default_combination_operator ≡ Replace → ⊥
  pub stripes : i.striping.max_stripe_size < 32768

-- Page information is read back, and the bytes after it are left.
abbrev pub PageInformationReadsBack : Type 0
PageInformationReadsBack = (i : PageInformation) → IsInformation i → (rest : List ℕ)
    → information_at (information_bytes i ++ rest) ≡ Ok (i, rest)
