-- Files (T.88, Annex D), in sequential organisation, or in random access organisation: all headers and then all data
-- (D.2). `file_at` takes a file's bytes and gives its header (D.4) and its segments. `SpellsFile` is the way back.
use Rattle.std.specs.Prelude.{◌≡◌, ℕ, suc, zero, Bool, true, false, ◌==◌, List, [], ◌∷◌, ◌++◌, length, Some, Result, Ok}
use Rattle.std.specs.Prelude.{Err, if◌then◌else◌, ◌/◌, ◌%◌, not, Option, None}
use Rattle.std.specs.List.{flat_map}
use Rattle.std.specs.Int.{w8, w32}
use Rattle.std.specs.Str.{bytes_eq}
use Rattle.jbig2_base.specs.Results.{◌>>=◌, refuse_if}
use Rattle.jbig2_framing.specs.Reading.{is_strict, is_salvaged}
use Rattle.jbig2_framing.specs.Segment.{Header, SegmentView, header_at, segment_data_at}
use Rattle.jbig2_framing.specs.Sequential.{by_number, is_end_of_file, sequential}
use Rattle.jbig2_base.specs.declared.error.DecodeError.{DecodeError}
use Rattle.jbig2_base.specs.declared.error.DecodeError.TheVariants.{Format}
use Rattle.jbig2_base.specs.declared.error.FormatError.TheVariants.{InvalidHeader, ReservedBits}
use Rattle.jbig2_framing.specs.declared.file_header.FileHeader.{FileHeader}
use Rattle.jbig2_framing.specs.declared.file_header.FileOrganization.{FileOrganization}
use Rattle.jbig2_framing.specs.declared.file_header.FileOrganization.TheVariants.{Sequential, RandomAccess}
use Rattle.jbig2_framing.specs.declared.reading.Reading.{Reading}
use Rattle.jbig2_base.specs.Fields.{bytes_at, number_at}

abbrev pub identification : List ℕ  -- the first bytes of each file (D.4.1)
identification = 151 ∷ 74 ∷ 66 ∷ 50 ∷ 13 ∷ 10 ∷ 26 ∷ 10 ∷ []

-- the number of pages (D.4.3), unless it is unknown
abbrev pub page_count_at : Bool → List ℕ → Result (Option ℕ × List ℕ) DecodeError
page_count_at unknown bytes =
    if unknown then Ok (None, bytes) else (number_at w32 bytes >>= λ (count, rest). Ok (Some count, rest))

-- the fields of the file header; the flags (D.4.2) have four reserved bits
unfoldable pub file_header_at : List ℕ → Result (FileHeader × List ℕ) DecodeError
file_header_at bytes = do
  (front, rest) ← bytes_at 8 bytes
  known ← refuse_if (not (bytes_eq front identification)) (Format InvalidHeader)
  (flags, rest) ← number_at w8 rest
  clear ← refuse_if (not (flags / 16 == 0)) (Format ReservedBits)
  (pages, rest) ← page_count_at (flags / 2 % 2 == 1) rest
  Ok (
    record {
      organization = if flags % 2 == 1 then Sequential else RandomAccess;
      number_of_pages = pages;
      uses_extended_templates = flags / 4 % 2 == 1;
      contains_coloured_regions = flags / 8 % 2 == 1;
    },
    rest,
  )

-- What follows a header: nothing after the header of an end of file, else the headers in the bytes that are left.
-- Salvage ends the headers at the first one that is refused, and takes the data from there.
abbrev pub header_goes_on : Reading → List ℕ → Result (Header × List ℕ) DecodeError
    → (List ℕ → Result (List Header × List ℕ) DecodeError) → Result (List Header × List ℕ) DecodeError
header_goes_on reading bytes (Ok (h, rest)) others =
    if is_end_of_file h.segment_type then Ok (h ∷ [], rest)
    else (others rest >>= λ (hs, rest). Ok (h ∷ hs, rest))
header_goes_on reading bytes (Err e) others = if is_salvaged reading e then Ok ([], bytes) else Err e

-- at most this many headers, up to that of an end of file, and the bytes after them; each has at least one byte
unfoldable pub headers_in : ℕ → Reading → List ℕ → Result (List Header × List ℕ) DecodeError
headers_in zero reading bytes = Ok ([], bytes)
headers_in (suc most) reading bytes =
    if length bytes == 0 then Ok ([], bytes)
    else header_goes_on reading bytes (header_at (is_strict reading) bytes) (headers_in most reading)

-- a segment, then the others; salvage drops a segment whose data is missing, and all after it, as no bytes are left
abbrev pub gathered_before : Reading → Result (SegmentView × List ℕ) DecodeError
    → (List ℕ → Result (List SegmentView) DecodeError) → Result (List SegmentView) DecodeError
gathered_before reading (Ok (p, rest)) others = others rest >>= λ ps. Ok (p ∷ ps)
gathered_before reading (Err e) others = if is_salvaged reading e then Ok [] else Err e

-- the segments with these headers; their data comes one after the other
abbrev pub with_data : Reading → List Header → List ℕ → Result (List SegmentView) DecodeError
with_data reading [] bytes = Ok []
with_data reading (h ∷ hs) bytes = gathered_before reading (segment_data_at h bytes) (with_data reading hs)

abbrev pub segments_by : FileOrganization → Reading → List ℕ → Result (List SegmentView) DecodeError
segments_by Sequential reading bytes = sequential reading bytes
segments_by RandomAccess reading bytes =
    headers_in (length bytes) reading bytes >>= λ (hs, rest). with_data reading hs rest

unfoldable pub file_at : Reading → List ℕ → Result (FileHeader × List SegmentView) DecodeError
file_at reading bytes = do
  (header, rest) ← file_header_at bytes
  ps ← segments_by header.organization reading rest
  Ok (header, by_number ps)

-- The way back, from segments to the bytes of a file: a segment, and the bytes of its header.
pub record SpelledSegment : Type 0 where
  pub header_bytes : List ℕ
  pub segment : SegmentView

-- The mode reads exactly these bytes as this header, and the header states the length of the data.
pub record IsSpelled (strict : Bool) (s : SpelledSegment) : Type 0 where
  pub accepted : header_at strict s.header_bytes ≡ Ok (s.segment.header, [])
  pub known : s.segment.header.data_length ≡ Some (length s.segment.bytes)

-- Each segment is written like this, and the last one is the only end of file.
abbrev pub AreSpelled : Bool → List SpelledSegment → Type 0
AreSpelled strict [] = ⊥
AreSpelled strict (s ∷ []) = IsSpelled strict s × (is_end_of_file s.segment.header.segment_type ≡ true)
AreSpelled strict (s ∷ t ∷ ts) =
    IsSpelled strict s × (is_end_of_file s.segment.header.segment_type ≡ false) × AreSpelled strict (t ∷ ts)

-- the bytes of these segments, in either organisation (D.1, D.2)
abbrev pub spelling : FileOrganization → List SpelledSegment → List ℕ
spelling Sequential ss = flat_map (λ s. s.header_bytes ++ s.segment.bytes) ss
spelling RandomAccess ss = flat_map (λ s. s.header_bytes) ss ++ flat_map (λ s. s.segment.bytes) ss

-- The bytes are a file header and then these segments, in its organisation. The mode accepts them.
abbrev pub SpellsFile : Reading → List ℕ → FileHeader → List SpelledSegment → Type 0
SpellsFile reading bytes header ss =
    (file_header_at bytes ≡ Ok (header, spelling header.organization ss)) × AreSpelled (is_strict reading) ss
