-- Segments: their headers and their data (T.88, 7.2). `segment_at` takes the bytes from the beginning of a segment on.
-- It gives the segment and the bytes after it, or the first fault.
use Rattle.std.specs.Prelude.{ℕ, suc, zero, ◌+◌, ◌*◌, ◌/◌, ◌%◌, ◌==◌, nat_le, nat_lt, Bool, true, false, not, ◌&&◌}
use Rattle.std.specs.Prelude.{◌||◌, List, [], ◌∷◌, take, drop, length, slice_index, Option, Some, None, Result, Ok, Err}
use Rattle.std.specs.Prelude.{if◌then◌else◌}
use Rattle.std.specs.List.{list_any}
use Rattle.std.specs.Option.{option_map_or}
use Rattle.std.specs.Int.{Width, w8, w16, w32, byte_len, from_be_bytes}
use Rattle.jbig2_base.specs.Results.{◌>>=◌, refuse_if}
use Rattle.jbig2_base.specs.Fields.{bytes_at, number_at}
use Rattle.jbig2_base.specs.Search.{place_from}
use Rattle.jbig2_base.specs.declared.error.DecodeError.{DecodeError}
use Rattle.jbig2_base.specs.declared.error.DecodeError.TheVariants.{Segment}
use Rattle.jbig2_base.specs.declared.error.SegmentError.TheVariants.{UnknownType, InvalidReferredCount}
use Rattle.jbig2_base.specs.declared.error.SegmentError.TheVariants.{InvalidReference, InvalidUnknownLength}
use Rattle.jbig2_base.specs.declared.error.SegmentError.TheVariants.{MissingEndMarker}
use Rattle.jbig2_framing.specs.declared.segment.SegmentType.{SegmentType}
use Rattle.jbig2_framing.specs.declared.segment.SegmentType.TheVariants as types

pub record Header : Type 0 where  -- a segment's header (7.2.2 to 7.2.7)
  pub segment_number : ℕ
  pub segment_type : SegmentType
  pub retain_flag : Bool
  pub page_association : ℕ
  pub referred_to_segments : List ℕ
  pub data_length : Option ℕ

pub record SegmentView : Type 0 where
  pub header : Header
  pub bytes : List ℕ

-- Whether the data of a segment is cut off: there are fewer bytes than its header says.
abbrev pub is_partial : SegmentView → Bool
is_partial p = option_map_or (λ n. nat_lt (length p.bytes) n) p.header.data_length false

unfoldable pub type_of : ℕ → SegmentType  -- the segment types of 7.3, by their numbers
type_of n =
    if n == 0 then types.SymbolDictionary
    else if n == 4 then types.IntermediateTextRegion
    else if n == 6 then types.ImmediateTextRegion
    else if n == 7 then types.ImmediateLosslessTextRegion
    else if n == 16 then types.PatternDictionary
    else if n == 20 then types.IntermediateHalftoneRegion
    else if n == 22 then types.ImmediateHalftoneRegion
    else if n == 23 then types.ImmediateLosslessHalftoneRegion
    else if n == 36 then types.IntermediateGenericRegion
    else if n == 38 then types.ImmediateGenericRegion
    else if n == 39 then types.ImmediateLosslessGenericRegion
    else if n == 40 then types.IntermediateGenericRefinementRegion
    else if n == 42 then types.ImmediateGenericRefinementRegion
    else if n == 43 then types.ImmediateLosslessGenericRefinementRegion
    else if n == 48 then types.PageInformation
    else if n == 49 then types.EndOfPage
    else if n == 50 then types.EndOfStripe
    else if n == 51 then types.EndOfFile
    else if n == 52 then types.Profiles
    else if n == 53 then types.Tables
    else if n == 54 then types.ColourPalette
    else if n == 62 then types.Extension
    else types.Reserved

abbrev pub is_reserved : SegmentType → Bool
is_reserved types.Reserved = true
is_reserved _ = false

abbrev pub is_immediate_generic : SegmentType → Bool
is_immediate_generic types.ImmediateGenericRegion = true
is_immediate_generic _ = false

-- A long count (7.2.4) has 29 bits; `high` has the first five. Then retention bits follow for each referred segment and
-- for this one.
unfoldable pub long_count_at : ℕ → List ℕ → Result (ℕ × List ℕ) DecodeError
long_count_at high bytes = do
  (low, rest) ← bytes_at 3 bytes
  let count = from_be_bytes w32 (high ∷ low)
  (retention, rest) ← bytes_at ((count + 8) / 8) rest
  Ok (count, rest)

-- The count of referred segments (7.2.4) has three bits; 7 means that a long count follows.
unfoldable pub count_at : List ℕ → Result (ℕ × List ℕ) DecodeError
count_at bytes = do
  (first, rest) ← number_at w8 bytes
  coded ← refuse_if (first / 32 == 5 || first / 32 == 6) (Segment InvalidReferredCount)
  if first / 32 == 7 then long_count_at (first % 32) rest else Ok (first / 32, rest)

-- A referred number has one, two or four bytes; this depends on the segment's own number (7.2.5).
abbrev pub number_width : ℕ → Width
number_width own = if nat_le own 256 then w8 else if nat_le own 65536 then w16 else w32

abbrev pub numbers_in : Width → ℕ → List ℕ → List ℕ  -- this many numbers, one after the other
numbers_in w zero bytes = []
numbers_in w (suc count) bytes =
    from_be_bytes w (take (byte_len w) bytes) ∷ numbers_in w count (drop (byte_len w) bytes)

-- The referred numbers (7.2.5): all must be there, and each must be smaller than the segment's own.
unfoldable pub referred_at : ℕ → List ℕ → Result (List ℕ × List ℕ) DecodeError
referred_at own bytes = do
  (count, rest) ← count_at bytes
  (coded, rest) ← bytes_at (count * byte_len (number_width own)) rest
  let numbers = numbers_in (number_width own) count coded
  earlier ← refuse_if (list_any (λ n. nat_le own n) numbers) (Segment InvalidReference)
  Ok (numbers, rest)

-- The data length (7.2.7): all ones mean an unknown length. Strict mode allows it only for immediate generic regions.
abbrev pub length_of : Bool → SegmentType → ℕ → Result (Option ℕ) DecodeError
length_of strict kind n =
    if n == 4294967295
    then (refuse_if (strict && not (is_immediate_generic kind)) (Segment InvalidUnknownLength) >>= λ known. Ok None)
    else Ok (Some n)

-- A segment header. The page association (7.2.6) has four bytes or one.
unfoldable pub header_at : Bool → List ℕ → Result (Header × List ℕ) DecodeError
header_at strict bytes = do
  (number, rest) ← number_at w32 bytes
  (flags, rest) ← number_at w8 rest
  let kind = type_of (flags % 64)
  known ← refuse_if (strict && is_reserved kind) (Segment UnknownType)
  (referred, rest) ← referred_at number rest
  (page, rest) ← number_at (if flags / 64 % 2 == 1 then w32 else w8) rest
  (n, rest) ← number_at w32 rest
  len ← length_of strict kind n
  Ok (
    record {
      segment_number = number;
      segment_type = kind;
      retain_flag = flags / 128 == 0;
      page_association = page;
      referred_to_segments = referred;
      data_length = len;
    },
    rest,
  )

abbrev pub adaptive_byte_count : ℕ → ℕ  -- how many bytes a generic region's adaptive pixels have, by its flags (7.4.6.3)
adaptive_byte_count flags =
    if flags % 2 == 1 then 0 else if flags / 2 % 4 == 0 then (if flags / 16 % 2 == 1 then 24 else 8) else 2

-- whether the bytes begin with the end marker that the region's flags ask for, and a row count of four bytes after it
abbrev pub is_end_marker : ℕ → List ℕ → Bool
is_end_marker flags bytes =
    nat_le 6 (length bytes) && (if flags % 2 == 1 then slice_index bytes 0 == 0 && slice_index bytes 1 == 0
    else slice_index bytes 0 == 255 && slice_index bytes 1 == 172)

abbrev pub first_end_marker : ℕ → List ℕ → Result ℕ DecodeError
first_end_marker flags bytes =
    let place = place_from (λ k. is_end_marker flags (drop k bytes)) 0 (length bytes) in
    if nat_lt place (length bytes) then Ok place else Err (Segment MissingEndMarker)

-- The length of data of unknown length (7.2.7): fields (7.4.6), coded bytes, the first end marker, and the row count.
unfoldable pub unknown_length_of : List ℕ → Result ℕ DecodeError
unknown_length_of bytes = do
  (information, rest) ← bytes_at 17 bytes
  (flags, rest) ← number_at w8 rest
  (pixels, rest) ← bytes_at (adaptive_byte_count flags) rest
  place ← first_end_marker flags rest
  Ok (18 + adaptive_byte_count flags + place + 6)

abbrev pub data_at : Option ℕ → List ℕ → Result (List ℕ × List ℕ) DecodeError  -- the data after a header (7.2.7)
data_at (Some n) bytes = bytes_at n bytes
data_at None bytes = unknown_length_of bytes >>= λ n. bytes_at n bytes

abbrev pub segment_data_at : Header → List ℕ → Result (SegmentView × List ℕ) DecodeError
segment_data_at header bytes =
    data_at header.data_length bytes >>= λ (coded, rest). Ok (record { header = header; bytes = coded }, rest)

unfoldable pub segment_at : Bool → List ℕ → Result (SegmentView × List ℕ) DecodeError
segment_at strict bytes = header_at strict bytes >>= λ (header, rest). segment_data_at header rest
