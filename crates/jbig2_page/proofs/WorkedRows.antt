-- Worked rows, computed from the definitions alone: from bytes to calls or an error.
use Rattle.std.proofs.Common.{◌≡◌, ℕ, Bool, true, false, List, [], ◌∷◌, ◌++◌, replicate, Result, Ok, Err, refl}
use Rattle.jbig2_base.specs.Results.{◌>>=◌}
use Rattle.jbig2_base.specs.Grid.{table, pixel_at}
use Rattle.jbig2_framing.specs.CutOff.{first_refused}
use Rattle.jbig2_framing.specs.PageInfo.{information_at}
use Rattle.jbig2_framing.specs.Segment.{type_of, count_at, referred_at, header_at, segment_at}
use Rattle.jbig2_framing.specs.Sequential.{segments_in}
use Rattle.jbig2_base.specs.declared.error.DecodeError.{DecodeError}
use Rattle.jbig2_base.specs.declared.error.DecodeError.TheVariants.{Parse, Format, Overflow, Unsupported}
use Rattle.jbig2_base.specs.declared.error.FormatError.TheVariants.{UnknownPageHeight, EmptyPage}
use Rattle.jbig2_base.specs.declared.error.OverflowError.TheVariants.{BitmapDimension}
use Rattle.jbig2_base.specs.declared.error.ParseError.TheVariants.{UnexpectedEof}
use Rattle.jbig2_base.specs.Combination.{drawn_pixel}
use Rattle.jbig2_coder.specs.Coder.{byte_at, byte_in, byte_in_if_empty, shift_left, renormd, initial_registers, likely_next, unlikely_next, choice, decision}
use Rattle.jbig2_coder.specs.QeTable.{rows, qe_row as state_of}
use Rattle.jbig2_region.specs.Generic.{context_at, generic_region, generic_grid}
use Rattle.jbig2_region.specs.{Templates.{adaptive_pixel_at}, GenericHeader.{rows_at, generic_header_at}}
use Rattle.jbig2_region.specs.Raster.{so_far, with_next, after_pixel, after_ltp, at_next, first_pixels, decoded_region}
use Rattle.jbig2_region.specs.RegionInfo.{region_info_at}
use Rattle.jbig2_framing.specs.Reading.{reading_of}
use Rattle.jbig2_page.specs.Calls.{Call, Pixel, Chunk, Line, singles, whole_calls, row_of_grid, calls_of}
use Rattle.jbig2_page.specs.Names.{no_names}
use Rattle.jbig2_page.specs.Page.{beginning_of, page_from, grid_of_page, immediate}
use Rattle.jbig2_page.specs.Regions.{generic_at}

-- the calls of an embedded page, or its error
unfoldable pub calls_at : Bool → List ℕ → Result (List Call) DecodeError
calls_at strict bytes = page_from (reading_of strict) no_names bytes >>= λ page. grid_of_page page >>= λ g. Ok (calls_of g)

-- a page information segment with this number, width, height and flags
abbrev pub page : ℕ → List ℕ → List ℕ → ℕ → List ℕ
page number width height flags = (0 ∷ 0 ∷ 0 ∷ number ∷ 48 ∷ 0 ∷ 1 ∷ 0 ∷ 0 ∷ 0 ∷ 19 ∷ []) ++ width ++ height ++ (replicate 8 0 ++ flags ∷ 0 ∷ 0 ∷ [])

abbrev pub one : List ℕ
one = 0 ∷ 0 ∷ 0 ∷ 1 ∷ []

abbrev pub eight : List ℕ
eight = 0 ∷ 0 ∷ 0 ∷ 8 ∷ []

abbrev unknown : List ℕ
unknown = 255 ∷ 255 ∷ 255 ∷ 255 ∷ []

-- an end of stripe after row 1, with number 1
abbrev stripe : List ℕ
stripe = 0 ∷ 0 ∷ 0 ∷ 1 ∷ 50 ∷ 0 ∷ 1 ∷ 0 ∷ 0 ∷ 0 ∷ 4 ∷ 0 ∷ 0 ∷ 0 ∷ 1 ∷ []

abbrev pub white : List Call
white = Chunk false 1 ∷ Line ∷ []

row_5 : calls_at true (page 0 eight one 0) ≡ Ok white
unfolding calls_at page_from segments_in segment_at header_at referred_at count_at type_of beginning_of information_at grid_of_page table pixel_at calls_of row_of_grid whole_calls first_refused
row_5 = refl

row_5-black : calls_at false (page 0 eight one 4) ≡ Ok (Chunk true 1 ∷ Line ∷ [])
unfolding calls_at page_from segments_in segment_at header_at referred_at count_at type_of beginning_of information_at grid_of_page table pixel_at calls_of row_of_grid whole_calls first_refused
row_5-black = refl

row_5-nine : calls_at true (page 0 (0 ∷ 0 ∷ 0 ∷ 9 ∷ []) one 0) ≡ Ok (Chunk false 1 ∷ Pixel false ∷ Line ∷ [])
unfolding calls_at page_from segments_in segment_at header_at referred_at count_at type_of beginning_of information_at grid_of_page table pixel_at calls_of row_of_grid whole_calls first_refused
row_5-nine = refl

row_5-too_wide : calls_at true (page 0 (0 ∷ 1 ∷ 0 ∷ 0 ∷ []) one 0) ≡ Err (Overflow BitmapDimension)
unfolding calls_at page_from segments_in segment_at header_at referred_at count_at type_of beginning_of information_at first_refused
row_5-too_wide = refl

row_5-empty : calls_at false (page 0 (0 ∷ 0 ∷ 0 ∷ 0 ∷ []) one 0) ≡ Err (Format EmptyPage)
unfolding calls_at page_from segments_in segment_at header_at referred_at count_at type_of beginning_of information_at first_refused
row_5-empty = refl

row_6 : calls_at true (page 0 eight unknown 0) ≡ Err (Format UnknownPageHeight)
unfolding calls_at page_from segments_in segment_at header_at referred_at count_at type_of beginning_of information_at first_refused
row_6 = refl

row_6-stripe : calls_at true (page 0 eight unknown 0 ++ stripe) ≡ Ok (white ++ white)
unfolding calls_at page_from segments_in segment_at header_at referred_at count_at type_of beginning_of information_at grid_of_page table pixel_at calls_of row_of_grid whole_calls first_refused
row_6-stripe = refl

row_14-strict : calls_at true (page 0 eight one 0 ++ 0 ∷ 0 ∷ 0 ∷ 1 ∷ 38 ∷ []) ≡ Err (Parse UnexpectedEof)
unfolding calls_at page_from segments_in segment_at header_at referred_at count_at type_of first_refused
row_14-strict = refl

row_14-lenient : calls_at false (page 0 eight one 0 ++ 0 ∷ 0 ∷ 0 ∷ 1 ∷ 38 ∷ []) ≡ Ok white
unfolding calls_at page_from segments_in segment_at header_at referred_at count_at type_of beginning_of information_at grid_of_page table pixel_at calls_of row_of_grid whole_calls first_refused
row_14-lenient = refl

-- an extension with number 1 whose data is this
abbrev extended : ℕ → List ℕ → List ℕ
extended length bytes = 0 ∷ 0 ∷ 0 ∷ 1 ∷ 62 ∷ 0 ∷ 1 ∷ 0 ∷ 0 ∷ 0 ∷ length ∷ bytes

row_R1_1-strict : calls_at true (page 0 eight one 0 ++ extended 4 (128 ∷ 0 ∷ 0 ∷ 0 ∷ [])) ≡ Err Unsupported
unfolding calls_at page_from segments_in segment_at header_at referred_at count_at type_of beginning_of information_at grid_of_page table pixel_at calls_of row_of_grid whole_calls first_refused
row_R1_1-strict = refl

row_R1_1-lenient : calls_at false (page 0 eight one 0 ++ extended 4 (128 ∷ 0 ∷ 0 ∷ 0 ∷ [])) ≡ Ok white
unfolding calls_at page_from segments_in segment_at header_at referred_at count_at type_of beginning_of information_at grid_of_page table pixel_at calls_of row_of_grid whole_calls first_refused
row_R1_1-lenient = refl

row_R1_1-short : calls_at true (page 0 eight one 0 ++ extended 3 (128 ∷ 0 ∷ 0 ∷ [])) ≡ Err (Parse UnexpectedEof)
unfolding calls_at page_from segments_in segment_at header_at referred_at count_at type_of beginning_of information_at grid_of_page table pixel_at calls_of row_of_grid whole_calls first_refused
row_R1_1-short = refl

row_R1_1-short_lenient : calls_at false (page 0 eight one 0 ++ extended 3 (128 ∷ 0 ∷ 0 ∷ [])) ≡ Ok white
unfolding calls_at page_from segments_in segment_at header_at referred_at count_at type_of beginning_of information_at grid_of_page table pixel_at calls_of row_of_grid whole_calls first_refused
row_R1_1-short_lenient = refl

row_R1_2 : calls_at true (page 5 eight unknown 0 ++ stripe) ≡ Ok (white ++ white)
unfolding calls_at page_from segments_in segment_at header_at referred_at count_at type_of beginning_of information_at grid_of_page table pixel_at calls_of row_of_grid whole_calls first_refused
row_R1_2 = refl

-- a 1 by 1 generic region without coded bytes, with number 1, at this place and with these flags
abbrev dot_at : List ℕ → ℕ → List ℕ
dot_at x flags = (0 ∷ 0 ∷ 0 ∷ 1 ∷ 38 ∷ 0 ∷ 1 ∷ 0 ∷ 0 ∷ 0 ∷ 26 ∷ []) ++ one ++ one ++ x ++ (0 ∷ 0 ∷ 0 ∷ 0 ∷ flags ∷ 0 ∷ 3 ∷ 255 ∷ 253 ∷ 255 ∷ 2 ∷ 254 ∷ 254 ∷ 254 ∷ [])

abbrev pub origin : List ℕ
origin = 0 ∷ 0 ∷ 0 ∷ 0 ∷ []

row_7 : calls_at true (page 0 eight one 0 ++ dot_at origin 0) ≡ Ok (Pixel true ∷ (singles (replicate 7 false) ++ Line ∷ []))
unfolding calls_at page_from segments_in segment_at header_at referred_at count_at type_of beginning_of information_at grid_of_page table pixel_at calls_of row_of_grid whole_calls generic_at immediate generic_header_at region_info_at adaptive_pixel_at rows_at generic_grid generic_region decoded_region first_pixels at_next after_pixel with_next after_ltp so_far context_at choice decision byte_in byte_at byte_in_if_empty shift_left renormd initial_registers likely_next unlikely_next rows state_of drawn_pixel first_refused
row_7 = refl

row_7-left_of_the_page : calls_at true (page 0 eight one 0 ++ dot_at unknown 0) ≡ Ok white
unfolding calls_at page_from segments_in segment_at header_at referred_at count_at type_of beginning_of information_at grid_of_page table pixel_at calls_of row_of_grid whole_calls generic_at immediate generic_header_at region_info_at adaptive_pixel_at rows_at generic_grid generic_region decoded_region first_pixels at_next after_pixel with_next after_ltp so_far context_at choice decision byte_in byte_at byte_in_if_empty shift_left renormd initial_registers likely_next unlikely_next rows state_of drawn_pixel first_refused
row_7-left_of_the_page = refl

row_R2_1-xnor : calls_at true (page 0 eight one 4 ++ dot_at origin 3) ≡ Ok (Chunk true 1 ∷ Line ∷ [])
unfolding calls_at page_from segments_in segment_at header_at referred_at count_at type_of beginning_of information_at grid_of_page table pixel_at calls_of row_of_grid whole_calls generic_at immediate generic_header_at region_info_at adaptive_pixel_at rows_at generic_grid generic_region decoded_region first_pixels at_next after_pixel with_next after_ltp so_far context_at choice decision byte_in byte_at byte_in_if_empty shift_left renormd initial_registers likely_next unlikely_next rows state_of drawn_pixel first_refused
row_R2_1-xnor = refl

row_R2_1-colour : calls_at false (page 0 eight one 0 ++ dot_at origin 8) ≡ Ok white
unfolding calls_at page_from segments_in segment_at header_at referred_at count_at type_of beginning_of information_at grid_of_page table pixel_at calls_of row_of_grid whole_calls generic_at immediate generic_header_at region_info_at adaptive_pixel_at rows_at generic_grid generic_region decoded_region first_pixels at_next after_pixel with_next after_ltp so_far context_at choice decision byte_in byte_at byte_in_if_empty shift_left renormd initial_registers likely_next unlikely_next rows state_of drawn_pixel first_refused
row_R2_1-colour = refl
