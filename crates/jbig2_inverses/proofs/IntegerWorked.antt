-- Short integers and symbol ids, written by the definition.
use Rattle.std.proofs.Common.{◌≡◌, true, false, [], ◌∷◌, pos, negsuc, Some, None, refl}
use Rattle.jbig2_coder.specs.Integers.{ranges}
use Rattle.jbig2_base.specs.Bits.{value_of_bits}
use Rattle.jbig2_inverses.specs.Digits.{digits}
use Rattle.jbig2_inverses.specs.IntegerWriter.{range_of, integer_decisions, in_contexts, integer_entries, id_entries}

-- -1: minus, the first row of Table A.1, and 1 in two bits. PREV is 1, 3, 6 and 12.
minus_one : integer_entries 0 (Some (negsuc 0)) ≡ (1, true) ∷ (3, false) ∷ (6, false) ∷ (12, true) ∷ []
unfolding integer_decisions in_contexts range_of ranges digits value_of_bits
minus_one = refl

-- 5: plus, the second row, and 1 in four bits
five : integer_decisions (Some (pos 5)) ≡ false ∷ true ∷ false ∷ false ∷ false ∷ false ∷ true ∷ []
unfolding integer_decisions range_of ranges digits
five = refl

-- out of band: minus, the first row, and 0 in two bits
no_number : integer_decisions None ≡ true ∷ false ∷ false ∷ false ∷ []
unfolding integer_decisions range_of ranges digits
no_number = refl

-- 20: plus, the third row, and 0 in six bits. From its ninth decision on PREV has nine bits: 256 and the last eight.
twenty : integer_entries 0 (Some (pos 20)) ≡ (1, false) ∷ (2, true) ∷ (5, true) ∷ (11, false) ∷ (22, false) ∷ (44, false) ∷ (88, false) ∷ (176, false) ∷ (352, false) ∷ (448, false) ∷ []
unfolding integer_decisions in_contexts range_of ranges digits value_of_bits
twenty = refl

-- the symbol id 5 of three bits
id_five : id_entries 0 3 5 ≡ (1, true) ∷ (3, false) ∷ (6, true) ∷ []
unfolding in_contexts digits value_of_bits
id_five = refl
