-- Short prefix codes, written by the definition.
use Rattle.std.proofs.Common.{◌≡◌, [], ◌∷◌, pos, refl}
use Rattle.jbig2_coder.specs.PrefixCode.{shorter}
use Rattle.jbig2_coder.specs.Tables.{line, lower, upper, out_of_band, minus}
use Rattle.jbig2_inverses.specs.Digits.{digits}
use Rattle.jbig2_inverses.specs.PrefixWriter.{code_of_line, number_bits}

-- 19 by Table B.1: the second line's code 10, and 3 in eight bits
nineteen : number_bits (record { before = line 1 4 (pos 0) ∷ []; line = line 2 8 (pos 16); after = line 3 16 (pos 272) ∷ upper 3 (pos 65808) ∷ [] }) 3
    ≡ 1 ∷ 0 ∷ 0 ∷ 0 ∷ 0 ∷ 0 ∷ 0 ∷ 0 ∷ 1 ∷ 1 ∷ []
unfolding number_bits code_of_line digits shorter
nineteen = refl

-- out of band by Table B.2: the last code of six bits
out_of_band-b2 : code_of_line (record { before = line 1 0 (pos 0) ∷ line 2 0 (pos 1) ∷ line 3 0 (pos 2) ∷ line 4 3 (pos 3) ∷ line 5 6 (pos 11) ∷ upper 6 (pos 75) ∷ []; line = out_of_band 6; after = [] })
    ≡ 1 ∷ 1 ∷ 1 ∷ 1 ∷ 1 ∷ 1 ∷ []
unfolding code_of_line digits shorter
out_of_band-b2 = refl

-- -258 by Table B.3: the lower range line's code 11111111, and 1 in 32 bits
below-b3 : code_of_line (record { before = line 8 8 (minus 256) ∷ line 1 0 (pos 0) ∷ line 2 0 (pos 1) ∷ line 3 0 (pos 2) ∷ line 4 3 (pos 3) ∷ line 5 6 (pos 11) ∷ []; line = lower 8 (minus 257); after = upper 7 (pos 75) ∷ out_of_band 6 ∷ [] })
    ≡ 1 ∷ 1 ∷ 1 ∷ 1 ∷ 1 ∷ 1 ∷ 1 ∷ 1 ∷ []
unfolding code_of_line digits shorter
below-b3 = refl
