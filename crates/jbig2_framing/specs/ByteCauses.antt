-- Which rule the bytes break where the segments in them can't be read (docs/FORMAT.md, 1 and 2): segments one after the
-- other, or headers and then data. `k` counts the segments, or the headers, before the fault.
use Rattle.std.specs.Prelude.{◌⊎◌, ℕ, zero, suc, Bool, IsFalse, List, [], ◌∷◌, length}
use Rattle.jbig2_base.specs.declared.error.DecodeError.{DecodeError}
use Rattle.jbig2_framing.specs.Causes.{BreaksData, BreaksHeader}
use Rattle.jbig2_framing.specs.File.{headers_in}
use Rattle.jbig2_framing.specs.Reading.{is_strict}
use Rattle.jbig2_framing.specs.Segment.{Header, header_at, segment_at, segment_data_at}
use Rattle.jbig2_framing.specs.Sequential.{is_end_of_file}
use Rattle.jbig2_framing.specs.declared.file_header.FileOrganization.{FileOrganization}
use Rattle.jbig2_framing.specs.declared.file_header.FileOrganization.TheVariants.{RandomAccess, Sequential}
use Rattle.jbig2_framing.specs.declared.reading.Reading.{Reading}
use Rattle.jbig2_base.specs.Causes.{After}

-- a segment at the beginning of these bytes (7.2): its header, or its data
abbrev pub BreaksSegmentBytes : Bool → List ℕ → DecodeError → Type 0
BreaksSegmentBytes strict bytes e =
    BreaksHeader strict bytes e ⊎ After (header_at strict bytes) (λ (h, rest). BreaksData h.data_length rest e)

-- segments one after the other (D.1, D.3): the one after k others, of which none is an end of file
abbrev pub BreaksSequence : ℕ → Reading → List ℕ → DecodeError → Type 0
BreaksSequence zero reading bytes e = BreaksSegmentBytes (is_strict reading) bytes e
BreaksSequence (suc k) reading bytes e =
    After (segment_at (is_strict reading) bytes) (λ (p, rest).
    IsFalse (is_end_of_file p.header.segment_type) × BreaksSequence k reading rest e)

-- headers one after the other (D.2): the one after k others, of which none is that of an end of file
abbrev pub BreaksHeaders : ℕ → Reading → List ℕ → DecodeError → Type 0
BreaksHeaders zero reading bytes e = BreaksHeader (is_strict reading) bytes e
BreaksHeaders (suc k) reading bytes e =
    After (header_at (is_strict reading) bytes) (λ (h, rest).
    IsFalse (is_end_of_file h.segment_type) × BreaksHeaders k reading rest e)

abbrev pub BreaksSomeData : List Header → List ℕ → DecodeError → Type 0  -- the data of one of these headers
BreaksSomeData [] bytes e = ⊥
BreaksSomeData (h ∷ hs) bytes e =
    BreaksData h.data_length bytes e ⊎ After (segment_data_at h bytes) (λ (_, rest). BreaksSomeData hs rest e)

abbrev pub BreaksSegments : FileOrganization → Reading → List ℕ → DecodeError → Type 0
BreaksSegments Sequential reading bytes e = (k : ℕ) × BreaksSequence k reading bytes e
BreaksSegments RandomAccess reading bytes e =
    ((k : ℕ) × BreaksHeaders k reading bytes e)
    ⊎ After (headers_in (length bytes) reading bytes) (λ (hs, rest). BreaksSomeData hs rest e)
