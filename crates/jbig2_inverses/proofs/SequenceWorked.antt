-- A short sequence of an integer and a symbol id, written by the definition.
use Rattle.std.proofs.Common.{◌≡◌, true, false, [], ◌∷◌, pos, Some, refl}
use Rattle.std.specs.List.{flat_map}
use Rattle.jbig2_coder.specs.declared.integer_procedures.IntegerProcedure.TheVariants.{Iadh}
use Rattle.jbig2_coder.specs.Integers.{ranges}
use Rattle.jbig2_base.specs.Bits.{value_of_bits}
use Rattle.jbig2_inverses.specs.Digits.{digits}
use Rattle.jbig2_inverses.specs.IntegerWriter.{range_of, integer_decisions, in_contexts}
use Rattle.jbig2_inverses.specs.SequenceWriter.{IntegerOf, IdOf, entries_of}

-- 1 by the second procedure, whose contexts begin at 512, and the id 2 of two bits
height_and_id : flat_map (entries_of 2) (IntegerOf Iadh (Some (pos 1)) ∷ IdOf 2 ∷ [])
    ≡ (513, false) ∷ (514, false) ∷ (516, false) ∷ (520, true) ∷ (6657, true) ∷ (6659, false) ∷ []
unfolding integer_decisions in_contexts range_of ranges digits value_of_bits
height_and_id = refl
