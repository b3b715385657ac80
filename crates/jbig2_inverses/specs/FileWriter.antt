-- A file in sequential organisation (T.88, D.1) as it is written: its header (D.4), then segments one after the other.
-- Then the law that `File` gives both back.
use Rattle.std.specs.Prelude.{◌≡◌, ℕ, ◌+◌, ◌*◌, ◌^◌, ◌<◌, Bool, true, false, List, [], ◌∷◌, ◌++◌, Option, Some, None, Ok}
use Rattle.std.specs.Prelude.{is_none}
use Rattle.std.specs.List.{flat_map}
use Rattle.std.specs.Int.{w32, to_be_bytes}
use Rattle.jbig2_framing.specs.File.{file_at, identification}
use Rattle.jbig2_framing.specs.Reading.{is_strict}
use Rattle.jbig2_framing.specs.Segment.{SegmentView}
use Rattle.jbig2_framing.specs.Sequential.{by_number}
use Rattle.jbig2_framing.specs.declared.file_header.FileHeader.{FileHeader}
use Rattle.jbig2_framing.specs.declared.file_header.FileOrganization.{FileOrganization}
use Rattle.jbig2_framing.specs.declared.file_header.FileOrganization.TheVariants.{Sequential, RandomAccess}
use Rattle.jbig2_framing.specs.declared.reading.Reading.{Reading}
use Rattle.jbig2_inverses.specs.SegmentWriter.{AreSegments, segment_bytes}
use Rattle.jbig2_base.specs.Bits.{bit_number}

abbrev pub is_sequential : FileOrganization → Bool
is_sequential Sequential = true
is_sequential RandomAccess = false

abbrev pub file_flags : FileHeader → ℕ  -- D.4.2
file_flags h =
    bit_number (is_sequential h.organization) + 2 * bit_number (is_none h.number_of_pages)
    + 4 * bit_number h.uses_extended_templates + 8 * bit_number h.contains_coloured_regions

abbrev pub page_count_bytes : Option ℕ → List ℕ  -- D.4.3: no bytes if the number of pages is unknown
page_count_bytes None = []
page_count_bytes (Some n) = to_be_bytes w32 n

unfoldable pub file_header_bytes : FileHeader → List ℕ
file_header_bytes h = identification ++ (file_flags h ∷ page_count_bytes h.number_of_pages)

abbrev pub file_bytes : FileHeader → List SegmentView → List ℕ
file_bytes h ps = file_header_bytes h ++ flat_map segment_bytes ps

abbrev pub IsPageCount : Option ℕ → Type 0
IsPageCount None = Unit {0}
IsPageCount (Some n) = n < 2 ^ 32

-- The header and the segments of a file in sequential organisation are read back, in each mode. The segments are sorted.
abbrev pub FilesReadBack : Type 0
FilesReadBack = (reading : Reading) (h : FileHeader) (ps : List SegmentView)
    → h.organization ≡ Sequential → IsPageCount h.number_of_pages → AreSegments (is_strict reading) ps
    → file_at reading (file_bytes h ps) ≡ Ok (h, by_number ps)
