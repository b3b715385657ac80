-- Worked files: what the definition says of them, computed.
use Rattle.std.proofs.Common.{◌≡◌, ℕ, List, [], ◌∷◌, ◌++◌, length, take, Some, Result, Ok, Err, Bool, true, false, refl}
use Rattle.std.specs.List.{list_all, range_with_len}
use Rattle.jbig2_base.specs.Fields.{end_of_bytes}
use Rattle.jbig2_framing.specs.File.{file_at, headers_in, SpelledSegment, AreSpelled, SpellsFile, file_header_at, identification}
use Rattle.jbig2_framing.specs.Segment.{SegmentView, type_of, count_at, referred_at, header_at, segment_at}
use Rattle.jbig2_framing.specs.Sequential.{segments_in, is_cut_off}
use Rattle.jbig2_base.specs.declared.error.DecodeError.{DecodeError}
use Rattle.jbig2_base.specs.declared.error.DecodeError.TheVariants.{Format}
use Rattle.jbig2_base.specs.declared.error.FormatError.TheVariants.{InvalidHeader, ReservedBits}
use Rattle.jbig2_framing.specs.declared.file_header.FileHeader.{FileHeader}
use Rattle.jbig2_framing.specs.declared.file_header.FileOrganization.{FileOrganization}
use Rattle.jbig2_framing.specs.declared.file_header.FileOrganization.TheVariants.{Sequential, RandomAccess}
use Rattle.jbig2_framing.specs.declared.reading.Reading.{Reading}
use Rattle.jbig2_framing.specs.declared.reading.Reading.TheVariants.{Strict, Lenient, Salvage}
use Rattle.jbig2_framing.specs.declared.segment.SegmentType.{SegmentType}
use Rattle.jbig2_framing.specs.declared.segment.SegmentType.TheVariants as types

no_file : (reading : Reading) → file_at reading [] ≡ Err end_of_bytes
unfolding file_at file_header_at
no_file reading = refl

no_header : (reading : Reading) → file_at reading (0 ∷ 0 ∷ 0 ∷ 0 ∷ 0 ∷ 0 ∷ 0 ∷ 0 ∷ []) ≡ Err (Format InvalidHeader)
unfolding file_at file_header_at
no_header reading = refl

reserved : (reading : Reading) → file_at reading (identification ++ 17 ∷ []) ≡ Err (Format ReservedBits)
unfolding file_at file_header_at
reserved reading = refl

abbrev one_page : FileOrganization → FileHeader
one_page organization = record { organization = organization; number_of_pages = Some 1; uses_extended_templates = false; contains_coloured_regions = false }

-- a page of 8 by 1, its end, and an end of file
abbrev page_header : List ℕ
page_header = 0 ∷ 0 ∷ 0 ∷ 0 ∷ 48 ∷ 0 ∷ 1 ∷ 0 ∷ 0 ∷ 0 ∷ 19 ∷ []

abbrev page_data : List ℕ
page_data = 0 ∷ 0 ∷ 0 ∷ 8 ∷ 0 ∷ 0 ∷ 0 ∷ 1 ∷ 0 ∷ 0 ∷ 0 ∷ 0 ∷ 0 ∷ 0 ∷ 0 ∷ 0 ∷ 0 ∷ 0 ∷ 0 ∷ []

abbrev end_of_page : List ℕ
end_of_page = 0 ∷ 0 ∷ 0 ∷ 1 ∷ 49 ∷ 0 ∷ 1 ∷ 0 ∷ 0 ∷ 0 ∷ 0 ∷ []

abbrev end_of_file : List ℕ
end_of_file = 0 ∷ 0 ∷ 0 ∷ 2 ∷ 51 ∷ 0 ∷ 0 ∷ 0 ∷ 0 ∷ 0 ∷ 0 ∷ []

abbrev segment : ℕ → SegmentType → ℕ → List ℕ → SegmentView
segment number kind page bytes = record {
  header = record { segment_number = number; segment_type = kind; retain_flag = true; page_association = page; referred_to_segments = []; data_length = Some (length bytes) };
  bytes = bytes;
}

abbrev three : List SegmentView
three = segment 0 types.PageInformation 1 page_data ∷ segment 1 types.EndOfPage 1 [] ∷ segment 2 types.EndOfFile 0 [] ∷ []

abbrev sequential_file : List ℕ
sequential_file = identification ++ (1 ∷ 0 ∷ 0 ∷ 0 ∷ 1 ∷ page_header ++ (page_data ++ (end_of_page ++ end_of_file)))

abbrev random_file : List ℕ
random_file = identification ++ (0 ∷ 0 ∷ 0 ∷ 0 ∷ 1 ∷ page_header ++ (end_of_page ++ (end_of_file ++ page_data)))

by_turns : file_at Strict sequential_file ≡ Ok (one_page Sequential, three)
unfolding file_at file_header_at segments_in segment_at header_at referred_at count_at type_of
by_turns = refl

headers_first : file_at Strict random_file ≡ Ok (one_page RandomAccess, three)
unfolding file_at file_header_at headers_in header_at referred_at count_at type_of
headers_first = refl

-- cut after its header, and elsewhere
no_segments : file_at Lenient (take 13 random_file) ≡ Ok (one_page RandomAccess, [])
unfolding file_at file_header_at headers_in header_at referred_at count_at type_of
no_segments = refl

abbrev lacks_bytes : Result (FileHeader × List SegmentView) DecodeError → Bool
lacks_bytes (Ok file) = false
lacks_bytes (Err e) = is_cut_off Lenient e

cut_off : list_all (λ n. lacks_bytes (file_at Lenient (take n random_file))) (range_with_len 0 13 ++ range_with_len 14 51) ≡ true
unfolding file_at file_header_at headers_in header_at referred_at count_at type_of
cut_off = refl

-- both files spell the same segments
abbrev listed : List SpelledSegment
listed =
    record { header_bytes = page_header; segment = segment 0 types.PageInformation 1 page_data }
    ∷ record { header_bytes = end_of_page; segment = segment 1 types.EndOfPage 1 [] }
    ∷ record { header_bytes = end_of_file; segment = segment 2 types.EndOfFile 0 [] }
    ∷ []

are_spelled : AreSpelled true listed
unfolding header_at referred_at count_at type_of
are_spelled = (record { accepted = refl; known = refl }, refl, (record { accepted = refl; known = refl }, refl, (record { accepted = refl; known = refl }, refl)))

spelled_by_turns : SpellsFile Strict sequential_file (one_page Sequential) listed
unfolding file_header_at
spelled_by_turns = (refl, are_spelled)

spelled_headers_first : SpellsFile Strict random_file (one_page RandomAccess) listed
unfolding file_header_at
spelled_headers_first = (refl, are_spelled)

-- Salvage: data that isn't all there is dropped, and headers end before one that is refused, where the data begins.
data_dropped : file_at Salvage (take 64 random_file) ≡ Ok (one_page RandomAccess, [])
unfolding file_at file_header_at headers_in header_at referred_at count_at type_of
data_dropped = refl

abbrev no_header_data : List ℕ
no_header_data = 0 ∷ 0 ∷ 0 ∷ 8 ∷ 0 ∷ 160 ∷ 0 ∷ 1 ∷ 0 ∷ 0 ∷ 0 ∷ 0 ∷ 0 ∷ 0 ∷ 0 ∷ 0 ∷ 0 ∷ 0 ∷ 0 ∷ []

header_left_out : file_at Salvage (identification ++ (0 ∷ 0 ∷ 0 ∷ 0 ∷ 1 ∷ page_header ++ no_header_data)) ≡ Ok (one_page RandomAccess, segment 0 types.PageInformation 1 no_header_data ∷ [])
unfolding file_at file_header_at headers_in header_at referred_at count_at type_of
header_left_out = refl

-- the same segments one after the other, where a header is refused after the first
segment_left_out : file_at Salvage (identification ++ (1 ∷ 0 ∷ 0 ∷ 0 ∷ 1 ∷ page_header ++ (page_data ++ no_header_data))) ≡ Ok (one_page Sequential, segment 0 types.PageInformation 1 page_data ∷ [])
unfolding file_at file_header_at segments_in segment_at header_at referred_at count_at type_of
segment_left_out = refl
