-- Worked rows of refinements, computed from the definitions alone: from bytes to calls or an error.
use Rattle.std.proofs.Common.{◌≡◌, ℕ, true, false, List, [], ◌∷◌, ◌++◌, replicate, Ok, Err, refl}
use Rattle.jbig2_base.specs.Combination.{drawn_pixel}
use Rattle.jbig2_base.specs.Grid.{table, pixel_at}
use Rattle.jbig2_framing.specs.CutOff.{first_refused}
use Rattle.jbig2_framing.specs.PageInfo.{information_at}
use Rattle.jbig2_framing.specs.Segment.{type_of, count_at, referred_at, header_at, segment_at}
use Rattle.jbig2_framing.specs.Sequential.{segments_in}
use Rattle.jbig2_base.specs.declared.error.DecodeError.TheVariants.{Segment, Region, Overflow}
use Rattle.jbig2_base.specs.declared.error.OverflowError.TheVariants.{ReferenceOffset}
use Rattle.jbig2_base.specs.declared.error.RegionError.TheVariants.{InvalidDimension}
use Rattle.jbig2_base.specs.declared.error.SegmentError.TheVariants.{InvalidReference}
use Rattle.jbig2_coder.specs.Coder.{byte_at, byte_in, byte_in_if_empty, shift_left, renormd, initial_registers, likely_next, unlikely_next, choice, decision}
use Rattle.jbig2_coder.specs.QeTable.{rows, qe_row as state_of}
use Rattle.jbig2_region.specs.Generic.{context_at, generic_region, generic_grid}
use Rattle.jbig2_region.specs.{Templates.{adaptive_pixel_at}, GenericHeader.{rows_at, generic_header_at}}
use Rattle.jbig2_region.specs.Raster.{so_far, with_next, after_pixel, after_ltp, at_next, first_pixels, decoded_region}
use Rattle.jbig2_region.specs.Refinement.{common_colour, offset, refined_context, refined_grid, refined_region}
use Rattle.jbig2_region.specs.{RefinementHeader.{refinement_header_at}, RefinementTemplates.{refinement_pixels_at}}
use Rattle.jbig2_region.specs.RegionInfo.{region_info_at}
use Rattle.jbig2_page.specs.Calls.{Chunk, Pixel, Line, singles, whole_calls, row_of_grid, calls_of}
use Rattle.jbig2_page.specs.Page.{beginning_of, page_from, grid_of_page, immediate, intermediate}
use Rattle.jbig2_page.specs.Regions.{generic_at, refinement_at}
use Rattle.jbig2_page.proofs.WorkedRows.{calls_at, page, one, eight, white, origin}

-- the data of a refinement of this width at this column, of one row at template 1, with these flags
abbrev refined_by : List ℕ → List ℕ → ℕ → List ℕ
refined_by width x flags = width ++ one ++ x ++ (0 ∷ 0 ∷ 0 ∷ 0 ∷ 0 ∷ flags ∷ [])

-- a refinement of this type, with number 1, that refers to nothing
abbrev alone : ℕ → List ℕ → List ℕ
alone kind body = (0 ∷ 0 ∷ 0 ∷ 1 ∷ kind ∷ 0 ∷ 1 ∷ 0 ∷ 0 ∷ 0 ∷ 18 ∷ []) ++ body

-- an immediate refinement with number 2 that refers to number 1
abbrev referring : List ℕ → List ℕ
referring body = (0 ∷ 0 ∷ 0 ∷ 2 ∷ 42 ∷ 32 ∷ 1 ∷ 1 ∷ 0 ∷ 0 ∷ 0 ∷ 18 ∷ []) ++ body

-- an intermediate generic region of 8 by 1 without coded bytes, with number 1
abbrev region : List ℕ
region = (0 ∷ 0 ∷ 0 ∷ 1 ∷ 36 ∷ 0 ∷ 1 ∷ 0 ∷ 0 ∷ 0 ∷ 26 ∷ []) ++ eight ++ one ++ origin ++ (0 ∷ 0 ∷ 0 ∷ 0 ∷ 0 ∷ 0 ∷ 3 ∷ 255 ∷ 253 ∷ 255 ∷ 2 ∷ 254 ∷ 254 ∷ 254 ∷ [])

abbrev nine : List ℕ
nine = 0 ∷ 0 ∷ 0 ∷ 9 ∷ []

abbrev far : List ℕ
far = 128 ∷ 0 ∷ 0 ∷ 0 ∷ []

row_R6_1 : calls_at true (page 0 eight one 0 ++ alone 42 (refined_by eight origin 1)) ≡ Ok (Chunk true 1 ∷ Line ∷ [])
unfolding calls_at page_from segments_in segment_at header_at referred_at count_at type_of beginning_of information_at grid_of_page table pixel_at calls_of row_of_grid whole_calls region_info_at decoded_region first_pixels at_next after_pixel with_next after_ltp so_far choice decision byte_in byte_at byte_in_if_empty shift_left renormd initial_registers likely_next unlikely_next rows state_of drawn_pixel immediate intermediate refinement_at refinement_header_at refinement_pixels_at offset refined_grid refined_region refined_context common_colour first_refused
row_R6_1 = refl

row_R6_1-predicted : calls_at true (page 0 eight one 0 ++ alone 42 (refined_by eight origin 3)) ≡ Ok white
unfolding calls_at page_from segments_in segment_at header_at referred_at count_at type_of beginning_of information_at grid_of_page table pixel_at calls_of row_of_grid whole_calls region_info_at decoded_region first_pixels at_next after_pixel with_next after_ltp so_far choice decision byte_in byte_at byte_in_if_empty shift_left renormd initial_registers likely_next unlikely_next rows state_of drawn_pixel immediate intermediate refinement_at refinement_header_at refinement_pixels_at offset refined_grid refined_region refined_context common_colour first_refused
row_R6_1-predicted = refl

row_R6_2 : calls_at true (page 0 eight one 0 ++ region ++ referring (refined_by eight origin 1)) ≡ Ok (singles (replicate 7 true) ++ Pixel false ∷ Line ∷ [])
unfolding calls_at page_from segments_in segment_at header_at referred_at count_at type_of beginning_of information_at grid_of_page table pixel_at calls_of row_of_grid whole_calls region_info_at decoded_region first_pixels at_next after_pixel with_next after_ltp so_far choice decision byte_in byte_at byte_in_if_empty shift_left renormd initial_registers likely_next unlikely_next rows state_of drawn_pixel immediate intermediate refinement_at refinement_header_at refinement_pixels_at offset refined_grid refined_region refined_context common_colour generic_at generic_header_at adaptive_pixel_at rows_at generic_grid generic_region context_at first_refused
row_R6_2 = refl

row_R6_2-wider_strict : calls_at true (page 0 eight one 0 ++ region ++ referring (refined_by nine origin 1)) ≡ Err (Region InvalidDimension)
unfolding calls_at page_from segments_in segment_at header_at referred_at count_at type_of beginning_of information_at grid_of_page table pixel_at calls_of row_of_grid whole_calls region_info_at decoded_region first_pixels at_next after_pixel with_next after_ltp so_far choice decision byte_in byte_at byte_in_if_empty shift_left renormd initial_registers likely_next unlikely_next rows state_of drawn_pixel immediate intermediate refinement_at refinement_header_at refinement_pixels_at offset refined_grid refined_region refined_context common_colour generic_at generic_header_at adaptive_pixel_at rows_at generic_grid generic_region context_at first_refused
row_R6_2-wider_strict = refl

row_R6_2-wider_lenient : calls_at false (page 0 eight one 0 ++ region ++ referring (refined_by nine origin 1)) ≡ Ok white
unfolding calls_at page_from segments_in segment_at header_at referred_at count_at type_of beginning_of information_at grid_of_page table pixel_at calls_of row_of_grid whole_calls region_info_at decoded_region first_pixels at_next after_pixel with_next after_ltp so_far choice decision byte_in byte_at byte_in_if_empty shift_left renormd initial_registers likely_next unlikely_next rows state_of drawn_pixel immediate intermediate refinement_at refinement_header_at refinement_pixels_at offset refined_grid refined_region refined_context common_colour generic_at generic_header_at adaptive_pixel_at rows_at generic_grid generic_region context_at first_refused
row_R6_2-wider_lenient = refl

row_R6_2-unnamed_strict : calls_at true (page 0 eight one 0 ++ referring (refined_by eight origin 1)) ≡ Err (Segment InvalidReference)
unfolding calls_at page_from segments_in segment_at header_at referred_at count_at type_of beginning_of information_at grid_of_page table pixel_at calls_of row_of_grid whole_calls region_info_at decoded_region first_pixels at_next after_pixel with_next after_ltp so_far choice decision byte_in byte_at byte_in_if_empty shift_left renormd initial_registers likely_next unlikely_next rows state_of drawn_pixel immediate intermediate refinement_at refinement_header_at refinement_pixels_at offset refined_grid refined_region refined_context common_colour first_refused
row_R6_2-unnamed_strict = refl

row_R6_2-unnamed_lenient : calls_at false (page 0 eight one 0 ++ referring (refined_by eight origin 1)) ≡ Ok (Chunk true 1 ∷ Line ∷ [])
unfolding calls_at page_from segments_in segment_at header_at referred_at count_at type_of beginning_of information_at grid_of_page table pixel_at calls_of row_of_grid whole_calls region_info_at decoded_region first_pixels at_next after_pixel with_next after_ltp so_far choice decision byte_in byte_at byte_in_if_empty shift_left renormd initial_registers likely_next unlikely_next rows state_of drawn_pixel immediate intermediate refinement_at refinement_header_at refinement_pixels_at offset refined_grid refined_region refined_context common_colour first_refused
row_R6_2-unnamed_lenient = refl

row_R6_3-far_strict : calls_at true (page 0 eight one 0 ++ alone 42 (refined_by eight far 1)) ≡ Err (Overflow ReferenceOffset)
unfolding calls_at page_from segments_in segment_at header_at referred_at count_at type_of beginning_of information_at grid_of_page table pixel_at calls_of row_of_grid whole_calls region_info_at decoded_region first_pixels at_next after_pixel with_next after_ltp so_far choice decision byte_in byte_at byte_in_if_empty shift_left renormd initial_registers likely_next unlikely_next rows state_of drawn_pixel immediate intermediate refinement_at refinement_header_at refinement_pixels_at offset refined_grid refined_region refined_context common_colour first_refused
row_R6_3-far_strict = refl

row_R6_3-far_lenient : calls_at false (page 0 eight one 0 ++ alone 42 (refined_by eight far 1)) ≡ Ok white
unfolding calls_at page_from segments_in segment_at header_at referred_at count_at type_of beginning_of information_at grid_of_page table pixel_at calls_of row_of_grid whole_calls region_info_at decoded_region first_pixels at_next after_pixel with_next after_ltp so_far choice decision byte_in byte_at byte_in_if_empty shift_left renormd initial_registers likely_next unlikely_next rows state_of drawn_pixel immediate intermediate refinement_at refinement_header_at refinement_pixels_at offset refined_grid refined_region refined_context common_colour first_refused
row_R6_3-far_lenient = refl

row_R6_3-alone_strict : calls_at true (page 0 eight one 0 ++ alone 40 (refined_by eight origin 1)) ≡ Err (Segment InvalidReference)
unfolding calls_at page_from segments_in segment_at header_at referred_at count_at type_of beginning_of information_at grid_of_page table pixel_at calls_of row_of_grid whole_calls region_info_at decoded_region first_pixels at_next after_pixel with_next after_ltp so_far choice decision byte_in byte_at byte_in_if_empty shift_left renormd initial_registers likely_next unlikely_next rows state_of drawn_pixel immediate intermediate refinement_at refinement_header_at refinement_pixels_at offset refined_grid refined_region refined_context common_colour first_refused
row_R6_3-alone_strict = refl

row_R6_3-alone_lenient : calls_at false (page 0 eight one 0 ++ alone 40 (refined_by eight origin 1)) ≡ Ok white
unfolding calls_at page_from segments_in segment_at header_at referred_at count_at type_of beginning_of information_at grid_of_page table pixel_at calls_of row_of_grid whole_calls region_info_at decoded_region first_pixels at_next after_pixel with_next after_ltp so_far choice decision byte_in byte_at byte_in_if_empty shift_left renormd initial_registers likely_next unlikely_next rows state_of drawn_pixel immediate intermediate refinement_at refinement_header_at refinement_pixels_at offset refined_grid refined_region refined_context common_colour first_refused
row_R6_3-alone_lenient = refl
