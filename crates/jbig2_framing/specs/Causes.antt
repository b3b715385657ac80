-- The rule of framing that the bytes break where a call refuses them (docs/FORMAT.md): file headers, segments and page
-- information. There is a line for each error.
use Rattle.std.specs.Prelude.{◌≡◌, ◌≢◌, ◌<◌, ◌≤◌, ◌+◌, ◌*◌, ◌-◌, ◌/◌, ◌%◌, ◌^◌, ◌==◌, ◌⊎◌, ℕ, Bool, true, List, [], ◌∷◌}
use Rattle.std.specs.Prelude.{take, drop, length, All, Any, Option, Some, None, if◌then◌else◌}
use Rattle.std.specs.Int.{w8, w32, byte_len}
use Rattle.jbig2_base.specs.Causes.{number_in}
use Rattle.jbig2_base.specs.Grid.{max_side}
use Rattle.jbig2_base.specs.declared.error.DecodeError.{DecodeError}
use Rattle.jbig2_base.specs.declared.error.DecodeError.TheVariants.{Parse, Format, Segment, Overflow}
use Rattle.jbig2_base.specs.declared.error.FormatError.TheVariants.{InvalidHeader, ReservedBits, MissingPageInfo}
use Rattle.jbig2_base.specs.declared.error.FormatError.TheVariants.{UnknownPageHeight, EmptyPage}
use Rattle.jbig2_base.specs.declared.error.OverflowError.TheVariants.{BitmapDimension}
use Rattle.jbig2_base.specs.declared.error.ParseError.TheVariants.{UnexpectedEof}
use Rattle.jbig2_base.specs.declared.error.SegmentError.TheVariants.{UnknownType, InvalidReferredCount}
use Rattle.jbig2_base.specs.declared.error.SegmentError.TheVariants.{InvalidReference, InvalidUnknownLength}
use Rattle.jbig2_base.specs.declared.error.SegmentError.TheVariants.{MissingEndMarker}
use Rattle.jbig2_framing.specs.File.{identification}
use Rattle.jbig2_framing.specs.Segment.{SegmentView, adaptive_byte_count, number_width}
use Rattle.jbig2_framing.specs.declared.segment.SegmentType.TheVariants as types

-- A file header (D.4) has thirteen bytes. If bit 1 of byte 8 is set, it states no page count and has nine.
abbrev pub BreaksFileHeader : List ℕ → DecodeError → Type 0
BreaksFileHeader bytes (Parse UnexpectedEof) = length bytes < (if number_in w8 8 bytes / 2 % 2 == 1 then 9 else 13)
BreaksFileHeader bytes (Format InvalidHeader) = (8 ≤ length bytes) × (take 8 bytes ≢ identification)
BreaksFileHeader bytes (Format ReservedBits) = (9 ≤ length bytes) × (16 ≤ number_in w8 8 bytes)
BreaksFileHeader bytes _ = ⊥

abbrev pub BreaksInformation : List ℕ → DecodeError → Type 0  -- page information (7.4.8) has 19 bytes
BreaksInformation bytes (Parse UnexpectedEof) = length bytes < 19
BreaksInformation bytes _ = ⊥

-- There is page information, and the bytes of the first one have this property.
abbrev pub FirstInformation : (List ℕ → Type 0) → List SegmentView → Type 0
FirstInformation P [] = ⊥
FirstInformation P (p ∷ ps) =
    ((p.header.segment_type ≡ types.PageInformation) × P p.bytes)
    ⊎ ((p.header.segment_type ≢ types.PageInformation) × FirstInformation P ps)

-- an end of stripe that states a height: four bytes, not all ones (7.4.10)
abbrev pub StatesHeight : SegmentView → Type 0
StatesHeight p =
    (p.header.segment_type ≡ types.EndOfStripe) × (length p.bytes ≡ 4) × (number_in w32 0 p.bytes ≢ 4294967295)

-- Page information: the width is in its first four bytes, the height in the next four. All ones leave the height open.
abbrev pub LeavesHeightOpen : List SegmentView → Type 0
LeavesHeightOpen ps = FirstInformation (λ bytes. (19 ≤ length bytes) × (number_in w32 4 bytes ≡ 4294967295)) ps

abbrev pub StatesLongSide : List SegmentView → Type 0  -- a side above 65535 is too long
StatesLongSide ps =
    FirstInformation (λ bytes. (19 ≤ length bytes) × (max_side < number_in w32 0 bytes)) ps
    ⊎ FirstInformation (λ bytes. (19 ≤ length bytes) × (max_side < number_in w32 4 bytes) × (number_in w32 4 bytes ≢ 4294967295)) ps

-- The stripes state an open height. It is too large if the number of a stripe's last row is 65535 or more.
abbrev pub BreaksInitialPage : List SegmentView → DecodeError → Type 0
BreaksInitialPage ps (Format MissingPageInfo) = All (λ p. p.header.segment_type ≢ types.PageInformation) ps
BreaksInitialPage ps (Parse UnexpectedEof) = FirstInformation (λ bytes. length bytes < 19) ps
BreaksInitialPage ps (Format UnknownPageHeight) = LeavesHeightOpen ps × All (λ p. StatesHeight p → ⊥) ps
BreaksInitialPage ps (Format EmptyPage) =
    FirstInformation (λ bytes. (19 ≤ length bytes) × ((number_in w32 0 bytes ≡ 0) ⊎ (number_in w32 4 bytes ≡ 0))) ps
BreaksInitialPage ps (Overflow BitmapDimension) =
    StatesLongSide ps ⊎ (LeavesHeightOpen ps × Any (λ p. StatesHeight p × (max_side ≤ number_in w32 0 p.bytes)) ps)
BreaksInitialPage ps _ = ⊥

-- An open height is this number, which is 0 if nothing states it.
abbrev pub BreaksInitialPageBy : ℕ → List SegmentView → DecodeError → Type 0
BreaksInitialPageBy known_height ps (Format UnknownPageHeight) = LeavesHeightOpen ps × (known_height ≡ 0)
BreaksInitialPageBy known_height ps (Overflow BitmapDimension) =
    StatesLongSide ps ⊎ (LeavesHeightOpen ps × (max_side < known_height))
BreaksInitialPageBy known_height ps e = BreaksInitialPage ps e

-- ---- segments (7.2)
module _ (bytes : List ℕ) where
  -- how many segments are referred to: the top three bits of byte 5, or if they are 7, the other 29 bits of bytes 5
  -- to 8
  abbrev pub referred_count : ℕ
  referred_count =
      if number_in w8 5 bytes / 32 == 7 then number_in w32 5 bytes - 7 * 2 ^ 29 else number_in w8 5 bytes / 32

  -- the place of the first referred number: after the count, and after the retention flags of a long count
  abbrev pub referred_place : ℕ
  referred_place = if number_in w8 5 bytes / 32 == 7 then 9 + (referred_count + 8) / 8 else 6

  -- the place of the page association, and of the data length after it, which ends the header
  abbrev pub page_place : ℕ
  page_place = referred_place + referred_count * byte_len (number_width (number_in w32 0 bytes))

  abbrev pub length_place : ℕ
  length_place = page_place + (if number_in w8 4 bytes / 64 % 2 == 1 then 4 else 1)

abbrev pub listed_types : List ℕ  -- the numbers of the types in 7.3
listed_types =
    0 ∷ 4 ∷ 6 ∷ 7 ∷ 16 ∷ 20 ∷ 22 ∷ 23 ∷ 36 ∷ 38 ∷ 39 ∷ 40 ∷ 42 ∷ 43 ∷ 48 ∷ 49 ∷ 50 ∷ 51 ∷ 52 ∷ 53 ∷ 54 ∷ 62 ∷ []

-- The first four bytes of a header are the segment's number. The low six bits of byte 4 are its type.
abbrev pub BreaksHeader : Bool → List ℕ → DecodeError → Type 0
BreaksHeader strict bytes (Parse UnexpectedEof) = length bytes < length_place bytes + 4
BreaksHeader strict bytes (Segment UnknownType) =
    (strict ≡ true) × (5 ≤ length bytes) × All (λ n. number_in w8 4 bytes % 64 ≢ n) listed_types
BreaksHeader strict bytes (Segment InvalidReferredCount) =
    (6 ≤ length bytes) × ((number_in w8 5 bytes / 32 ≡ 5) ⊎ (number_in w8 5 bytes / 32 ≡ 6))
BreaksHeader strict bytes (Segment InvalidReference) =
    let own = number_in w32 0 bytes in
    (page_place bytes ≤ length bytes) × ((k : ℕ) × (k < referred_count bytes)
    × (own ≤ number_in (number_width own) (referred_place bytes + k * byte_len (number_width own)) bytes))
BreaksHeader strict bytes (Segment InvalidUnknownLength) =
    (strict ≡ true) × (length_place bytes + 4 ≤ length bytes) × (number_in w32 (length_place bytes) bytes ≡ 4294967295)
    × (number_in w8 4 bytes % 64 ≢ 38)
BreaksHeader strict bytes _ = ⊥

-- Data of this length, after the header (7.2.7). If the length is unknown, byte 17 has the region's flags. The fields
-- must be there, and after them the end marker with four more bytes.
abbrev pub BreaksData : Option ℕ → List ℕ → DecodeError → Type 0
BreaksData (Some n) bytes (Parse UnexpectedEof) = length bytes < n
BreaksData None bytes (Parse UnexpectedEof) = length bytes < 18 + adaptive_byte_count (number_in w8 17 bytes)
BreaksData None bytes (Segment MissingEndMarker) =
    let flags = number_in w8 17 bytes in
    (k : ℕ) → 18 + adaptive_byte_count flags ≤ k → k + 6 ≤ length bytes
    → take 2 (drop k bytes) ≢ (if flags % 2 == 1 then 0 ∷ 0 ∷ [] else 255 ∷ 172 ∷ [])
BreaksData _ bytes _ = ⊥
