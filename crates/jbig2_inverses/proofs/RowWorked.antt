-- Short rows of T.6, written by the definition.
use Rattle.std.proofs.Common.{◌≡◌, true, false, [], ◌∷◌, refl}
use Rattle.std.specs.Prelude.{codes}
use Rattle.jbig2_base.specs.Search.{least}
use Rattle.jbig2_mmr.specs.T6Codes.{word, modes, longer_runs, white_runs, black_runs}
use Rattle.jbig2_mmr.specs.T6.{pixel_of, is_change, is_change_from, b1_of, b2_of, black_at}
use Rattle.jbig2_inverses.specs.MmrRowWriter.{word_of, run_bits, code_of, bits_from, row_bits}

-- eight black pixels under a white row: the horizontal mode, no white pixel, eight black ones
black_row : row_bits 8 (λ x. false) (λ x. true) ≡ word (codes "00100110101000101")
unfolding row_bits bits_from code_of run_bits word_of b2_of b1_of is_change_from is_change least modes white_runs black_runs longer_runs
black_row = refl

-- the row above again: V0 at its two changes, and at the end
same_row : row_bits 8 (pixel_of 8 (2 ∷ 5 ∷ [])) (pixel_of 8 (2 ∷ 5 ∷ [])) ≡ word (codes "111")
unfolding row_bits bits_from code_of run_bits word_of b2_of b1_of is_change_from is_change least modes white_runs black_runs longer_runs black_at
same_row = refl

-- white under three black pixels: the pass mode, and V0 at the end
passed_row : row_bits 8 (pixel_of 8 (2 ∷ 5 ∷ [])) (λ x. false) ≡ word (codes "00011")
unfolding row_bits bits_from code_of run_bits word_of b2_of b1_of is_change_from is_change least modes white_runs black_runs longer_runs black_at
passed_row = refl

-- black from pixel 3 to 6 under black from 2 to 4: VR(1), VR(2), and V0 at the end
moved_row : row_bits 8 (pixel_of 8 (2 ∷ 5 ∷ [])) (pixel_of 8 (3 ∷ 7 ∷ [])) ≡ word (codes "0110000111")
unfolding row_bits bits_from code_of run_bits word_of b2_of b1_of is_change_from is_change least modes white_runs black_runs longer_runs black_at
moved_row = refl

-- 70 white pixels, as 64 and 6, and 30 black ones
long_runs : row_bits 100 (λ x. false) (pixel_of 100 (70 ∷ [])) ≡ word (codes "001110111110000001101000")
unfolding row_bits bits_from code_of run_bits word_of b2_of b1_of is_change_from is_change least modes white_runs black_runs longer_runs black_at
long_runs = refl
