-- Where a list of segments ends early (our own rule). Lenient reading drops a segment that the end of the bytes cuts
-- off, and salvage ends the list at any segment that is refused. A cut-off says which segment that is, and why.
use Rattle.std.specs.Prelude.{ℕ, suc, zero, Bool, ◌==◌, List, [], ◌∷◌, length, Option, Some, None, Result, Ok, Err}
use Rattle.std.specs.Prelude.{is_none, option_map, if◌then◌else◌}
use Rattle.std.specs.Int.{w32}
use Rattle.std.specs.Option.{option_or}
use Rattle.jbig2_base.specs.Fields.{number_at}
use Rattle.jbig2_base.specs.declared.error.DecodeError.{DecodeError}
use Rattle.jbig2_framing.specs.File.{file_header_at, headers_in}
use Rattle.jbig2_framing.specs.Reading.{is_strict}
use Rattle.jbig2_framing.specs.Segment.{Header, SegmentView, header_at, segment_at, segment_data_at}
use Rattle.jbig2_framing.specs.Sequential.{is_end_of_file}
use Rattle.jbig2_framing.specs.declared.cut_off.CutOff.{CutOff}
use Rattle.jbig2_framing.specs.declared.file_header.FileHeader.{FileHeader}
use Rattle.jbig2_framing.specs.declared.file_header.FileOrganization.{FileOrganization}
use Rattle.jbig2_framing.specs.declared.file_header.FileOrganization.TheVariants.{Sequential, RandomAccess}
use Rattle.jbig2_framing.specs.declared.reading.Reading.{Reading}

abbrev pub read_value : {X : Type 0} → Result (X × List ℕ) DecodeError → Option X  -- what is read, unless it is refused
read_value (Ok (x, rest)) = Some x
read_value (Err e) = None

-- The segment whose header begins at these bytes. Its number (7.2.2) and its page (7.2.6) are known if they are there.
abbrev pub cut_off_at : Bool → List ℕ → DecodeError → CutOff
cut_off_at strict bytes e = record {
  segment_number = read_value (number_at w32 bytes);
  page_association = option_map (λ h. h.page_association) (read_value (header_at strict bytes));
  error = e;
}

module _ {X : Type 0} (read : List ℕ → Result (X × List ℕ) DecodeError) (is_last : X → Bool) where
  -- what is refused: these bytes, or something in the bytes after what was read
  abbrev pub refused_or : List ℕ → Result (X × List ℕ) DecodeError → (List ℕ → Option (List ℕ × DecodeError))
      → Option (List ℕ × DecodeError)
  refused_or bytes (Ok (x, rest)) others = if is_last x then None else others rest
  refused_or bytes (Err e) others = Some (bytes, e)

  -- Reads at most this many values, one after the other, up to a last one or the end of the bytes. It gives the first
  -- place that is refused, with the error.
  unfoldable pub first_refused : ℕ → List ℕ → Option (List ℕ × DecodeError)
  first_refused zero bytes = None
  first_refused (suc most) bytes = if length bytes == 0 then None else refused_or bytes (read bytes) (first_refused most)

abbrev pub with_place : Bool → Option (List ℕ × DecodeError) → Option CutOff
with_place strict place = option_map (λ (bytes, e). cut_off_at strict bytes e) place

-- of segments one after the other (D.1, D.3)
abbrev pub sequence_cut_off : Reading → List ℕ → Option CutOff
sequence_cut_off reading bytes =
    let ends = λ (p : SegmentView). is_end_of_file p.header.segment_type in
    with_place (is_strict reading) (first_refused (segment_at (is_strict reading)) ends (length bytes) bytes)

-- What is there of the segment whose header begins at these bytes: all that comes after its header. None if the header
-- is refused or leaves the data length open.
abbrev pub partial_of : Result (Header × List ℕ) DecodeError → Option SegmentView
partial_of (Ok (h, rest)) = if is_none h.data_length then None else Some (record { header = h; bytes = rest })
partial_of (Err e) = None

abbrev pub partial_at : Bool → List ℕ → Option SegmentView
partial_at strict bytes = partial_of (header_at strict bytes)

abbrev pub with_partial : Bool → Option (List ℕ × DecodeError) → Option SegmentView
with_partial strict None = None
with_partial strict (Some (bytes, e)) = partial_at strict bytes

-- the same of the segment at which segments one after the other end early
abbrev pub sequence_partial : Reading → List ℕ → Option SegmentView
sequence_partial reading bytes =
    let ends = λ (p : SegmentView). is_end_of_file p.header.segment_type in
    with_partial (is_strict reading) (first_refused (segment_at (is_strict reading)) ends (length bytes) bytes)

-- of the headers in random access (D.2)
abbrev pub headers_cut_off : Reading → List ℕ → Option CutOff
headers_cut_off reading bytes =
    let ends = λ (h : Header). is_end_of_file h.segment_type in
    with_place (is_strict reading) (first_refused (header_at (is_strict reading)) ends (length bytes) bytes)

-- the first of these headers whose data is refused
abbrev pub missing_or : Header → Result (SegmentView × List ℕ) DecodeError → (List ℕ → Option CutOff) → Option CutOff
missing_or h (Ok (p, rest)) others = others rest
missing_or h (Err e) others = Some (record {
  segment_number = Some h.segment_number;
  page_association = Some h.page_association;
  error = e;
})

-- of the data that comes after all headers
abbrev pub data_cut_off : List Header → List ℕ → Option CutOff
data_cut_off [] bytes = None
data_cut_off (h ∷ hs) bytes = missing_or h (segment_data_at h bytes) (data_cut_off hs)

-- of random access: a header that is refused, or else data
abbrev pub random_cut_off : Reading → List ℕ → Option CutOff
random_cut_off reading bytes = option_or (headers_cut_off reading bytes) (on (headers_in (length bytes) reading bytes))
  where
    on : Result (List Header × List ℕ) DecodeError → Option CutOff
    on (Ok (hs, rest)) = data_cut_off hs rest
    on (Err e) = None

abbrev pub cut_off_by : FileOrganization → Reading → List ℕ → Option CutOff
cut_off_by Sequential reading bytes = sequence_cut_off reading bytes
cut_off_by RandomAccess reading bytes = random_cut_off reading bytes

-- in random access no part of a segment is known
abbrev pub partial_by : FileOrganization → Reading → List ℕ → Option SegmentView
partial_by Sequential reading bytes = sequence_partial reading bytes
partial_by RandomAccess reading bytes = None

-- of a file (Annex D), by the way its segments are laid out
abbrev pub of_file : {X : Type 0} → (FileOrganization → Reading → List ℕ → Option X) → Reading → List ℕ → Option X
of_file {X = X} by reading bytes = on (file_header_at bytes)
  where
    on : Result (FileHeader × List ℕ) DecodeError → Option X
    on (Ok (header, rest)) = by header.organization reading rest
    on (Err e) = None

unfoldable pub file_partial : Reading → List ℕ → Option SegmentView
file_partial reading bytes = of_file partial_by reading bytes

unfoldable pub file_cut_off : Reading → List ℕ → Option CutOff
file_cut_off reading bytes = of_file cut_off_by reading bytes
