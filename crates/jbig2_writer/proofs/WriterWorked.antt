-- Short pages, written by the definition. Another encoder wrote the same bytes.
use Rattle.std.proofs.Common.{◌≡◌, true, false, [], ◌∷◌, Some, None, Ok, Err, refl}
use Rattle.jbig2_base.specs.Grid.{grid_of, pixel_at, table}
use Rattle.jbig2_base.specs.Search.{least}
use Rattle.jbig2_coder.specs.Coder.{likely_next, unlikely_next}
use Rattle.jbig2_coder.specs.Encoder.{byte_out, eight_bits_out, encode_from, encoded_bytes, encoding, flush_coder, initial_coding, is_full, narrowed_interval, narrowed_likely, narrowed_unlikely, renorme, set_bits, seven_bits_out, shift_once, with_context, with_marker}
use Rattle.jbig2_coder.specs.QeTable.{qe_row, rows}
use Rattle.jbig2_region.specs.declared.template.Template.TheVariants.{Template0, Template3}
use Rattle.jbig2_region.specs.Generic.{context_at}
use Rattle.jbig2_region.specs.Raster.{so_far}
use Rattle.jbig2_mmr.specs.T6Codes.{modes, longer_runs, white_runs, black_runs}
use Rattle.jbig2_mmr.specs.T6.{is_change, is_change_from, b1_of, b2_of}
use Rattle.jbig2_inverses.specs.MmrWriter.{rows_bits, packed, mmr_bits, mmr_bytes}
use Rattle.jbig2_inverses.specs.GenericSegmentWriter.{generic_bytes, info_bytes}
use Rattle.jbig2_inverses.specs.RegionWriter.{entries_before, generic_entries, pixels_before}
use Rattle.jbig2_inverses.specs.MmrRowWriter.{word_of, run_bits, code_of, bits_from, row_bits}
use Rattle.jbig2_inverses.specs.SegmentWriter.{information_bytes, segment_bytes}
use Rattle.jbig2_page_inverse.specs.PageWriter.{coded_bytes, page_bytes}
use Rattle.jbig2_writer.specs.declared.error.WriteError.TheVariants.{InvalidSides}
use Rattle.jbig2_writer.specs.declared.settings.Container.TheVariants.{EmbeddedPage}
use Rattle.jbig2_writer.specs.declared.settings.RegionCoding.TheVariants.{Arithmetic, Mmr}
use Rattle.jbig2_writer.specs.Written.{check_size, written}

-- two black rows of one pixel, with typical prediction; a resolution of 0 states none
column : written (record { container = EmbeddedPage; coding = Arithmetic (record { template = Template3; typical = true }); x_resolution = None; y_resolution = Some 0 }) (grid_of 1 2 (λ x y. true))
    ≡ Ok (0 ∷ 0 ∷ 0 ∷ 0 ∷ 0x70 ∷ 0 ∷ 0 ∷ 0 ∷ 0 ∷ 1 ∷ 0 ∷ 0 ∷ 0 ∷ 0x13 ∷ 0 ∷ 0 ∷ 0 ∷ 1 ∷ 0 ∷ 0 ∷ 0 ∷ 2 ∷ 0 ∷ 0 ∷ 0 ∷ 0 ∷ 0
    ∷ 0 ∷ 0 ∷ 0 ∷ 1 ∷ 0 ∷ 0 ∷ 0 ∷ 0 ∷ 0 ∷ 1 ∷ 0x66 ∷ 0 ∷ 0 ∷ 0 ∷ 0 ∷ 1 ∷ 0 ∷ 0 ∷ 0 ∷ 0x17 ∷ 0 ∷ 0 ∷ 0 ∷ 1 ∷ 0 ∷ 0
    ∷ 0 ∷ 2 ∷ 0 ∷ 0 ∷ 0 ∷ 0 ∷ 0 ∷ 0 ∷ 0 ∷ 0 ∷ 0 ∷ 0x0E ∷ 2 ∷ 0xFF ∷ 0x0F ∷ 0xFF ∷ 0xAC ∷ [])
unfolding page_bytes coded_bytes segment_bytes information_bytes generic_bytes info_bytes generic_entries entries_before pixels_before context_at so_far pixel_at table initial_coding eight_bits_out seven_bits_out byte_out set_bits flush_coder is_full with_marker encode_from encoded_bytes rows qe_row likely_next unlikely_next shift_once renorme narrowed_likely narrowed_unlikely narrowed_interval encoding with_context
column = refl

-- two black pixels side by side, 11811 in a metre, with four adaptive pixels
row : written (record { container = EmbeddedPage; coding = Arithmetic (record { template = Template0; typical = false }); x_resolution = Some 11811; y_resolution = None }) (grid_of 2 1 (λ x y. true))
    ≡ Ok (0 ∷ 0 ∷ 0 ∷ 0 ∷ 0x70 ∷ 0 ∷ 0 ∷ 0 ∷ 0 ∷ 1 ∷ 0 ∷ 0 ∷ 0 ∷ 0x13 ∷ 0 ∷ 0 ∷ 0 ∷ 2 ∷ 0 ∷ 0 ∷ 0 ∷ 1 ∷ 0 ∷ 0 ∷ 0x2E ∷ 0x23 ∷ 0
    ∷ 0 ∷ 0 ∷ 0 ∷ 1 ∷ 0 ∷ 0 ∷ 0 ∷ 0 ∷ 0 ∷ 1 ∷ 0x66 ∷ 0 ∷ 0 ∷ 0 ∷ 0 ∷ 1 ∷ 0 ∷ 0 ∷ 0 ∷ 0x1E ∷ 0 ∷ 0 ∷ 0 ∷ 2 ∷ 0 ∷ 0
    ∷ 0 ∷ 1 ∷ 0 ∷ 0 ∷ 0 ∷ 0 ∷ 0 ∷ 0 ∷ 0 ∷ 0 ∷ 0 ∷ 0 ∷ 3 ∷ 0xFF ∷ 0xFD ∷ 0xFF ∷ 2 ∷ 0xFE ∷ 0xFE ∷ 0xFE ∷ 0xFF ∷ 0x7F
    ∷ 0xFF ∷ 0xAC ∷ [])
unfolding page_bytes coded_bytes segment_bytes information_bytes generic_bytes info_bytes generic_entries entries_before pixels_before context_at so_far pixel_at table initial_coding eight_bits_out seven_bits_out byte_out set_bits flush_coder is_full with_marker encode_from encoded_bytes rows qe_row likely_next unlikely_next shift_once renorme narrowed_likely narrowed_unlikely narrowed_interval encoding with_context
row = refl

-- one black pixel, as MMR data
pixel : written (record { container = EmbeddedPage; coding = Mmr; x_resolution = None; y_resolution = None }) (grid_of 1 1 (λ x y. true))
    ≡ Ok (0 ∷ 0 ∷ 0 ∷ 0 ∷ 0x70 ∷ 0 ∷ 0 ∷ 0 ∷ 0 ∷ 1 ∷ 0 ∷ 0 ∷ 0 ∷ 0x13 ∷ 0 ∷ 0 ∷ 0 ∷ 1 ∷ 0 ∷ 0 ∷ 0 ∷ 1 ∷ 0 ∷ 0 ∷ 0 ∷ 0 ∷ 0
    ∷ 0 ∷ 0 ∷ 0 ∷ 1 ∷ 0 ∷ 0 ∷ 0 ∷ 0 ∷ 0 ∷ 1 ∷ 0x66 ∷ 0 ∷ 0 ∷ 0 ∷ 0 ∷ 1 ∷ 0 ∷ 0 ∷ 0 ∷ 0x16 ∷ 0 ∷ 0 ∷ 0 ∷ 1 ∷ 0 ∷ 0
    ∷ 0 ∷ 1 ∷ 0 ∷ 0 ∷ 0 ∷ 0 ∷ 0 ∷ 0 ∷ 0 ∷ 0 ∷ 0 ∷ 1 ∷ 0x50 ∷ 1 ∷ 0 ∷ 0x10 ∷ [])
unfolding page_bytes coded_bytes segment_bytes information_bytes generic_bytes info_bytes pixel_at table mmr_bytes mmr_bits rows_bits packed row_bits bits_from code_of run_bits word_of b2_of b1_of is_change_from is_change least modes white_runs black_runs longer_runs
pixel = refl

no_columns : check_size 0 1 ≡ Err InvalidSides
no_columns = refl

too_long : check_size 65536 1 ≡ Err InvalidSides
too_long = refl

just_fits : check_size 65535 65535 ≡ Ok tt
just_fits = refl
