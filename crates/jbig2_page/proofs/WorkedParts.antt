-- Worked rows of segments that are cut off, computed from the definitions alone: from bytes to calls, in salvage.
use Rattle.std.proofs.Common.{◌≡◌, ℕ, true, false, List, [], ◌∷◌, ◌++◌, replicate, Result, Ok, refl}
use Rattle.jbig2_base.specs.Results.{◌>>=◌}
use Rattle.jbig2_base.specs.Grid.{table, pixel_at}
use Rattle.jbig2_framing.specs.CutOff.{first_refused}
use Rattle.jbig2_framing.specs.PageInfo.{information_at}
use Rattle.jbig2_framing.specs.Segment.{type_of, count_at, referred_at, header_at, segment_at}
use Rattle.jbig2_framing.specs.Sequential.{segments_in}
use Rattle.jbig2_base.specs.declared.error.DecodeError.{DecodeError}
use Rattle.jbig2_base.specs.Combination.{drawn_pixel}
use Rattle.jbig2_base.specs.Search.{least}
use Rattle.jbig2_mmr.specs.T6Codes.{modes, longer_runs, white_runs, black_runs}
use Rattle.jbig2_mmr.specs.T6.{read_code, run_from, is_change, is_change_from, b1_of, b2_of, after_pass, after_runs, after_vertical, next_step, row_from, black_at, ends_block, rows_from, rows_of, mmr_rows}
use Rattle.jbig2_coder.specs.Coder.{byte_at, byte_in, byte_in_if_empty, shift_left, renormd, initial_registers, likely_next, unlikely_next, choice, decision}
use Rattle.jbig2_coder.specs.QeTable.{rows, qe_row as state_of}
use Rattle.jbig2_region.specs.Generic.{context_at, generic_region, generic_grid}
use Rattle.jbig2_region.specs.{Templates.{adaptive_pixel_at}, GenericHeader.{rows_at, generic_header_at}}
use Rattle.jbig2_region.specs.Raster.{so_far, with_next, after_pixel, after_ltp, at_next, first_pixels, decoded_region}
use Rattle.jbig2_region.specs.Refinement.{common_colour, offset, refined_context, refined_grid, refined_region}
use Rattle.jbig2_region.specs.{RefinementHeader.{refinement_header_at}, RefinementTemplates.{refinement_pixels_at}}
use Rattle.jbig2_region.specs.RegionInfo.{region_info_at}
use Rattle.jbig2_page.specs.Calls.{Call, Chunk, Line, singles, whole_calls, row_of_grid, calls_of}
use Rattle.jbig2_page.specs.Names.{no_names}
use Rattle.jbig2_page.specs.Page.{beginning_of, page_from, grid_of_page, immediate}
use Rattle.jbig2_page.specs.Regions.{generic_at, refinement_at}
use Rattle.jbig2_region.specs.WholeRows.{refined_part, whole_rows}
use Rattle.jbig2_framing.specs.declared.reading.Reading.TheVariants.{Salvage}
use Rattle.jbig2_page.proofs.WorkedRows.{calls_at, eight, page, white}

unfoldable calls_salvaged : List ℕ → Result (List Call) DecodeError
calls_salvaged bytes = page_from Salvage no_names bytes >>= λ page. grid_of_page page >>= λ g. Ok (calls_of g)

abbrev two : List ℕ
two = 0 ∷ 0 ∷ 0 ∷ 2 ∷ []

-- an 8 by 2 generic region that lacks its last three bytes, with number 1
abbrev part : List ℕ
part = (0 ∷ 0 ∷ 0 ∷ 1 ∷ 38 ∷ 0 ∷ 1 ∷ 0 ∷ 0 ∷ 0 ∷ 32 ∷ []) ++ eight ++ two ++ (replicate 10 0 ++ 3 ∷ 255 ∷ 253 ∷ 255 ∷ 2 ∷ 254 ∷ 254 ∷ 254 ∷ 0xBE ∷ 0x3C ∷ 0x87 ∷ [])

-- its first row is whole
row_R17_1-part : calls_salvaged (page 0 eight two 0 ++ part) ≡ Ok (singles (true ∷ false ∷ true ∷ false ∷ false ∷ true ∷ false ∷ true ∷ []) ++ Line ∷ white)
unfolding calls_salvaged page_from segments_in segment_at header_at referred_at count_at type_of beginning_of information_at grid_of_page table pixel_at calls_of row_of_grid whole_calls generic_at immediate generic_header_at region_info_at adaptive_pixel_at rows_at generic_grid generic_region decoded_region first_pixels at_next after_pixel with_next after_ltp so_far context_at choice decision byte_in byte_at byte_in_if_empty shift_left renormd initial_registers likely_next unlikely_next rows state_of drawn_pixel first_refused whole_rows
row_R17_1-part = refl

row_R17_1-lenient : calls_at false (page 0 eight two 0 ++ part) ≡ Ok (white ++ white)
unfolding calls_at page_from segments_in segment_at header_at referred_at count_at type_of beginning_of information_at grid_of_page table pixel_at calls_of row_of_grid whole_calls first_refused
row_R17_1-lenient = refl

-- an 8 by 2 refinement of the page at template 1 that lacks its last bytes: its first row is whole, and below it the page
-- shows
abbrev refined : List ℕ
refined = (0 ∷ 0 ∷ 0 ∷ 1 ∷ 42 ∷ 0 ∷ 1 ∷ 0 ∷ 0 ∷ 0 ∷ 32 ∷ []) ++ eight ++ two ++ (replicate 8 0 ++ 4 ∷ 1 ∷ 0x0E ∷ 0x71 ∷ 0xE0 ∷ [])

row_R17_1-refined : calls_salvaged (page 0 eight two 4 ++ refined) ≡ Ok (singles (false ∷ true ∷ true ∷ true ∷ false ∷ true ∷ false ∷ false ∷ []) ++ Line ∷ Chunk true 1 ∷ Line ∷ [])
unfolding calls_salvaged page_from segments_in segment_at header_at referred_at count_at type_of beginning_of information_at grid_of_page table pixel_at calls_of row_of_grid whole_calls region_info_at decoded_region first_pixels at_next after_pixel with_next after_ltp so_far choice decision byte_in byte_at byte_in_if_empty shift_left renormd initial_registers likely_next unlikely_next rows state_of drawn_pixel immediate refinement_at refinement_header_at refinement_pixels_at offset refined_grid refined_region refined_context common_colour first_refused whole_rows refined_part
row_R17_1-refined = refl

-- an 8 by 2 generic region of MMR data that lacks its last bytes: its first row is whole
abbrev mmr : List ℕ
mmr = (0 ∷ 0 ∷ 0 ∷ 1 ∷ 38 ∷ 0 ∷ 1 ∷ 0 ∷ 0 ∷ 0 ∷ 32 ∷ []) ++ eight ++ two ++ (replicate 8 0 ++ 4 ∷ 1 ∷ 0x26 ∷ 0xAB ∷ [])

row_R17_1-mmr : calls_salvaged (page 0 eight two 4 ++ mmr) ≡ Ok (singles (true ∷ replicate 7 false) ++ Line ∷ Chunk true 1 ∷ Line ∷ [])
unfolding calls_salvaged page_from segments_in segment_at header_at referred_at count_at type_of beginning_of information_at grid_of_page table pixel_at calls_of row_of_grid whole_calls generic_at immediate generic_header_at region_info_at rows_at drawn_pixel first_refused mmr_rows rows_of rows_from ends_block black_at row_from next_step after_vertical after_runs after_pass b2_of b1_of is_change_from is_change least run_from read_code modes white_runs black_runs longer_runs
row_R17_1-mmr = refl
