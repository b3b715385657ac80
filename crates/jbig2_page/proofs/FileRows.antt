-- Worked rows of files, computed from the definitions alone: from bytes to pages, calls and images, or an error.
use Rattle.std.proofs.Common.{◌≡◌, ℕ, Bool, true, false, List, [], ◌∷◌, ◌++◌, map, replicate, Result, Ok, Err, refl}
use Rattle.jbig2_base.specs.Results.{◌>>=◌}
use Rattle.jbig2_framing.specs.CutOff.{file_cut_off, file_partial, first_refused}
use Rattle.jbig2_framing.specs.File.{file_at, headers_in, identification, file_header_at}
use Rattle.jbig2_base.specs.Grid.{table, pixel_at}
use Rattle.jbig2_framing.specs.PageInfo.{information_at}
use Rattle.jbig2_framing.specs.Segment.{type_of, count_at, referred_at, header_at, segment_at}
use Rattle.jbig2_framing.specs.Sequential.{segments_in}
use Rattle.jbig2_base.specs.declared.error.DecodeError.{DecodeError}
use Rattle.jbig2_base.specs.declared.error.DecodeError.TheVariants.{Parse, Format, Segment}
use Rattle.jbig2_base.specs.declared.error.FormatError.TheVariants.{InvalidHeader, ReservedBits, MissingPageInfo, PageCountMismatch, InvalidEndOfPage}
use Rattle.jbig2_base.specs.declared.error.ParseError.TheVariants.{UnexpectedEof}
use Rattle.jbig2_base.specs.declared.error.SegmentError.TheVariants.{InvalidReferredCount, InvalidReference}
use Rattle.jbig2_framing.specs.Reading.{reading_of}
use Rattle.jbig2_framing.specs.declared.reading.Reading.{Reading}
use Rattle.jbig2_framing.specs.declared.reading.Reading.TheVariants.{Strict, Lenient}
use Rattle.jbig2_page.specs.Calls.{Call, Chunk, Line, whole_calls, row_of_grid, calls_of}
use Rattle.jbig2_page.specs.Files.{page_in_file, book_at, pages_of, segments_at}
use Rattle.jbig2_page.specs.Image.{image_of}
use Rattle.jbig2_page.specs.Page.{beginning_of, grid_of_page}
use Rattle.jbig2_page.specs.Globals.{globals_at}
use Rattle.jbig2_page.specs.FirstPage.{first_image, first_page, first_size}

-- for each page of a file its number, and its calls or its error
calls_in : Bool → List ℕ → Result (List (ℕ × Result (List Call) DecodeError)) DecodeError
calls_in strict bytes = book_at (reading_of strict) bytes >>= λ book. Ok (map (λ page. (page.initial_page.number, grid_of_page page >>= λ g. Ok (calls_of g))) (pages_of book))

-- one page, of a row of eight white pixels
abbrev one_white : List (ℕ × Result (List Call) DecodeError)
one_white = (1, Ok (Chunk false 1 ∷ Line ∷ [])) ∷ []

-- a page of 8 by 1 on its own, its end, and an end of file
abbrev page_header : List ℕ
page_header = 0 ∷ 0 ∷ 0 ∷ 0 ∷ 48 ∷ 0 ∷ 1 ∷ 0 ∷ 0 ∷ 0 ∷ 19 ∷ []

abbrev page_data : List ℕ
page_data = 0 ∷ 0 ∷ 0 ∷ 8 ∷ 0 ∷ 0 ∷ 0 ∷ 1 ∷ replicate 11 0

abbrev end_of_page : List ℕ
end_of_page = 0 ∷ 0 ∷ 0 ∷ 1 ∷ 49 ∷ 0 ∷ 1 ∷ 0 ∷ 0 ∷ 0 ∷ 0 ∷ []

abbrev end_of_file : List ℕ
end_of_file = 0 ∷ 0 ∷ 0 ∷ 2 ∷ 51 ∷ 0 ∷ 0 ∷ 0 ∷ 0 ∷ 0 ∷ 0 ∷ []

-- a file's header that tells one page
abbrev headed : ℕ → List ℕ → List ℕ
headed flags bytes = identification ++ (flags ∷ 0 ∷ 0 ∷ 0 ∷ 1 ∷ bytes)

row_1-empty : (reading : Reading) → book_at reading [] ≡ Err (Parse UnexpectedEof)
unfolding book_at file_at segments_at file_header_at file_cut_off file_partial
row_1-empty reading = refl

row_1-header : (reading : Reading) → book_at reading (replicate 8 0) ≡ Err (Format InvalidHeader)
unfolding book_at file_at segments_at file_header_at file_cut_off file_partial
row_1-header reading = refl

row_1-reserved : (reading : Reading) → book_at reading (identification ++ 17 ∷ []) ≡ Err (Format ReservedBits)
unfolding book_at file_at segments_at file_header_at file_cut_off file_partial
row_1-reserved reading = refl

row_1-strict : calls_in true (identification ++ 3 ∷ []) ≡ Ok []
unfolding calls_in book_at file_at segments_at file_header_at segments_in file_cut_off file_partial first_refused
row_1-strict = refl

row_1-lenient : calls_in false (identification ++ 3 ∷ []) ≡ Ok []
unfolding calls_in book_at file_at segments_at file_header_at segments_in file_cut_off file_partial first_refused
row_1-lenient = refl

row_2-strict : book_at Strict (headed 1 []) ≡ Err (Format PageCountMismatch)
unfolding book_at file_at segments_at file_header_at segments_in file_cut_off file_partial first_refused
row_2-strict = refl

row_2-lenient : calls_in false (headed 1 []) ≡ Ok []
unfolding calls_in book_at file_at segments_at file_header_at segments_in file_cut_off file_partial first_refused
row_2-lenient = refl

row_3-count : globals_at Strict (0 ∷ 0 ∷ 0 ∷ 1 ∷ 48 ∷ 160 ∷ []) ≡ Err (Segment InvalidReferredCount)
unfolding globals_at segments_in segment_at header_at referred_at count_at type_of first_refused
row_3-count = refl

row_3-reference : globals_at Lenient (0 ∷ 0 ∷ 0 ∷ 2 ∷ 0 ∷ 32 ∷ 2 ∷ []) ≡ Err (Segment InvalidReference)
unfolding globals_at segments_in segment_at header_at referred_at count_at type_of first_refused
row_3-reference = refl

row_16 : calls_in true (headed 1 (page_header ++ (page_data ++ end_of_page))) ≡ Ok one_white
unfolding calls_in book_at file_at segments_at file_header_at segments_in segment_at header_at referred_at count_at type_of page_in_file beginning_of information_at grid_of_page table pixel_at calls_of row_of_grid whole_calls file_cut_off file_partial first_refused
row_16 = refl

row_16-unended : book_at Strict (headed 1 (page_header ++ page_data)) ≡ Err (Format InvalidEndOfPage)
unfolding book_at file_at segments_at file_header_at segments_in segment_at header_at referred_at count_at type_of page_in_file file_cut_off file_partial first_refused
row_16-unended = refl

row_16-headers_first : calls_in true (headed 0 (page_header ++ (end_of_page ++ (end_of_file ++ page_data)))) ≡ Ok one_white
unfolding calls_in book_at file_at segments_at file_header_at headers_in header_at referred_at count_at type_of page_in_file beginning_of information_at grid_of_page table pixel_at calls_of row_of_grid whole_calls file_cut_off file_partial first_refused
row_16-headers_first = refl

row_R9_3-size : first_size (headed 1 (page_header ++ (page_data ++ end_of_page))) ≡ Ok (8, 1)
unfolding first_page book_at file_at segments_at file_header_at segments_in segment_at header_at referred_at count_at type_of page_in_file beginning_of information_at file_cut_off file_partial first_refused
row_R9_3-size = refl

row_R9_3-image : first_image (headed 1 (page_header ++ (page_data ++ end_of_page))) ≡ Ok (replicate 8 255)
unfolding first_page book_at file_at segments_at file_header_at segments_in segment_at header_at referred_at count_at type_of page_in_file beginning_of information_at grid_of_page table pixel_at image_of file_cut_off file_partial first_refused
row_R9_3-image = refl

row_R9_4 : first_image (identification ++ 3 ∷ []) ≡ Err (Format MissingPageInfo)
unfolding first_page book_at file_at segments_at file_header_at segments_in file_cut_off file_partial first_refused
row_R9_4 = refl

-- cut after its header
row_R13_5-strict : book_at Strict (headed 0 []) ≡ Err (Format PageCountMismatch)
unfolding book_at file_at segments_at file_header_at headers_in file_cut_off file_partial first_refused
row_R13_5-strict = refl

row_R13_5-lenient : calls_in false (headed 0 []) ≡ Ok []
unfolding calls_in book_at file_at segments_at file_header_at headers_in file_cut_off file_partial first_refused
row_R13_5-lenient = refl
