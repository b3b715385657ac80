-- Short bitmaps, written by the definition.
use Rattle.std.proofs.Common.{◌≡◌, true, false, [], ◌∷◌, refl}
use Rattle.jbig2_base.specs.Search.{least}
use Rattle.jbig2_mmr.specs.T6Codes.{modes, longer_runs, white_runs, black_runs}
use Rattle.jbig2_mmr.specs.T6.{is_change, is_change_from, b1_of, b2_of}
use Rattle.jbig2_inverses.specs.MmrRowWriter.{word_of, run_bits, code_of, bits_from, row_bits}
use Rattle.jbig2_inverses.specs.MmrWriter.{rows_bits, packed, mmr_bits, mmr_bytes}

-- two black rows of eight pixels: a row of runs, and V0 twice
black-bytes : mmr_bytes false 8 2 (λ x y. true) ≡ 0x26 ∷ 0xA2 ∷ 0xE0 ∷ []
unfolding mmr_bytes mmr_bits rows_bits packed row_bits bits_from code_of run_bits word_of b2_of b1_of is_change_from is_change least modes white_runs black_runs longer_runs
black-bytes = refl

-- a black row and an end of block
ended-bytes : mmr_bytes true 8 1 (λ x y. true) ≡ 0x26 ∷ 0xA2 ∷ 0x80 ∷ 0x08 ∷ 0x00 ∷ 0x80 ∷ []
unfolding mmr_bytes mmr_bits rows_bits packed row_bits bits_from code_of run_bits word_of b2_of b1_of is_change_from is_change least modes white_runs black_runs longer_runs
ended-bytes = refl
