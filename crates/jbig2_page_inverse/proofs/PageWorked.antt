-- A short page and its file, written by the definition.
use Rattle.std.proofs.Common.{◌≡◌, true, false, [], ◌∷◌, Some, None, refl}
use Rattle.jbig2_base.specs.Search.{least}
use Rattle.jbig2_mmr.specs.T6Codes.{modes, longer_runs, white_runs, black_runs}
use Rattle.jbig2_mmr.specs.T6.{is_change, is_change_from, b1_of, b2_of}
use Rattle.jbig2_region.specs.declared.template.Template.TheVariants.{Template0}
use Rattle.jbig2_inverses.specs.MmrRowWriter.{word_of, run_bits, code_of, bits_from, row_bits}
use Rattle.jbig2_inverses.specs.MmrWriter.{rows_bits, packed, mmr_bits, mmr_bytes}
use Rattle.jbig2_inverses.specs.FileWriter.{file_header_bytes}
use Rattle.jbig2_inverses.specs.GenericSegmentWriter.{info_bytes, generic_bytes}
use Rattle.jbig2_inverses.specs.SegmentWriter.{information_bytes, segment_bytes}
use Rattle.jbig2_page_inverse.specs.PageFile.{page_file}
use Rattle.jbig2_page_inverse.specs.PageWriter.{coded_bytes, page_bytes}

-- eight black pixels by MMR, 11811 of them in a metre: page information, and a region whose data ends with 26 A2 80
black_page : page_bytes (record { mmr = true; end_of_block = false; template = Template0; extended = false; typical = false; adaptive = []; x_resolution = Some 11811; y_resolution = None }) 8 1 (λ x y. true)
    ≡ 0 ∷ 0 ∷ 0 ∷ 0 ∷ 0x70 ∷ 0 ∷ 0 ∷ 0 ∷ 0 ∷ 1 ∷ 0 ∷ 0 ∷ 0 ∷ 19
    ∷ 0 ∷ 0 ∷ 0 ∷ 8 ∷ 0 ∷ 0 ∷ 0 ∷ 1 ∷ 0 ∷ 0 ∷ 0x2E ∷ 0x23 ∷ 0 ∷ 0 ∷ 0 ∷ 0 ∷ 1 ∷ 0 ∷ 0
    ∷ 0 ∷ 0 ∷ 0 ∷ 1 ∷ 0x66 ∷ 0 ∷ 0 ∷ 0 ∷ 0 ∷ 1 ∷ 0 ∷ 0 ∷ 0 ∷ 21
    ∷ 0 ∷ 0 ∷ 0 ∷ 8 ∷ 0 ∷ 0 ∷ 0 ∷ 1 ∷ 0 ∷ 0 ∷ 0 ∷ 0 ∷ 0 ∷ 0 ∷ 0 ∷ 0 ∷ 0 ∷ 1 ∷ 0x26 ∷ 0xA2 ∷ 0x80 ∷ []
unfolding page_bytes coded_bytes segment_bytes information_bytes generic_bytes info_bytes mmr_bytes mmr_bits rows_bits packed row_bits bits_from code_of run_bits word_of b2_of b1_of is_change_from is_change least modes white_runs black_runs longer_runs
black_page = refl

-- the same in a file: its header before the page, and the two ends after it
black_file : page_file (record { mmr = true; end_of_block = false; template = Template0; extended = false; typical = false; adaptive = []; x_resolution = Some 11811; y_resolution = None }) 8 1 (λ x y. true)
    ≡ 0x97 ∷ 0x4A ∷ 0x42 ∷ 0x32 ∷ 0x0D ∷ 0x0A ∷ 0x1A ∷ 0x0A ∷ 1 ∷ 0 ∷ 0 ∷ 0 ∷ 1
    ∷ 0 ∷ 0 ∷ 0 ∷ 0 ∷ 0x70 ∷ 0 ∷ 0 ∷ 0 ∷ 0 ∷ 1 ∷ 0 ∷ 0 ∷ 0 ∷ 19
    ∷ 0 ∷ 0 ∷ 0 ∷ 8 ∷ 0 ∷ 0 ∷ 0 ∷ 1 ∷ 0 ∷ 0 ∷ 0x2E ∷ 0x23 ∷ 0 ∷ 0 ∷ 0 ∷ 0 ∷ 1 ∷ 0 ∷ 0
    ∷ 0 ∷ 0 ∷ 0 ∷ 1 ∷ 0x66 ∷ 0 ∷ 0 ∷ 0 ∷ 0 ∷ 1 ∷ 0 ∷ 0 ∷ 0 ∷ 21
    ∷ 0 ∷ 0 ∷ 0 ∷ 8 ∷ 0 ∷ 0 ∷ 0 ∷ 1 ∷ 0 ∷ 0 ∷ 0 ∷ 0 ∷ 0 ∷ 0 ∷ 0 ∷ 0 ∷ 0 ∷ 1 ∷ 0x26 ∷ 0xA2 ∷ 0x80
    ∷ 0 ∷ 0 ∷ 0 ∷ 2 ∷ 0x71 ∷ 0 ∷ 0 ∷ 0 ∷ 0 ∷ 1 ∷ 0 ∷ 0 ∷ 0 ∷ 0
    ∷ 0 ∷ 0 ∷ 0 ∷ 3 ∷ 0x73 ∷ 0 ∷ 0 ∷ 0 ∷ 0 ∷ 0 ∷ 0 ∷ 0 ∷ 0 ∷ 0 ∷ []
unfolding page_file file_header_bytes coded_bytes segment_bytes information_bytes generic_bytes info_bytes mmr_bytes mmr_bits rows_bits packed row_bits bits_from code_of run_bits word_of b2_of b1_of is_change_from is_change least modes white_runs black_runs longer_runs
black_file = refl
