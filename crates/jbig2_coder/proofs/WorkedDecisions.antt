-- Decisions that the definitions compute.
use Rattle.std.specs.Prelude.{◌≡◌, [], ◌∷◌, true, false, refl}
use Rattle.jbig2_coder.specs.Coder.{byte_at, byte_in, choice, decision, fresh, initial_registers, unlikely_next}
use Rattle.jbig2_coder.specs.QeTable.{qe_row, rows}

-- row 8: from no bytes, the first symbol and its context afterwards
symbol_of_nothing : (decision [] (initial_registers []) fresh).symbol ≡ true
unfolding decision initial_registers byte_in byte_at choice qe_row rows
symbol_of_nothing = refl

context_of_nothing : (decision [] (initial_registers []) fresh).context ≡ record { row = 1; likely = true }
unfolding decision initial_registers byte_in byte_at choice unlikely_next qe_row rows
context_of_nothing = refl

-- where Annex E has the decision 1
by_annex_g : (decision (0xFF ∷ 0x8F ∷ []) (initial_registers (0xFF ∷ 0x8F ∷ [])) fresh).symbol ≡ false
unfolding decision initial_registers byte_in byte_at choice qe_row rows
by_annex_g = refl
