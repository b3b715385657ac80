-- The rule that the bits break where a read by a prefix code refuses them (docs/FORMAT.md), one line for each error.
-- `Breaks..` takes a table and the bits, or a table's lines, and an error. The function that refuses cites it.
use Rattle.std.specs.Prelude.{◌≡◌, ◌<◌, ◌≤◌, ◌⊎◌, ℕ, zero, suc, ◌+◌, ◌-◌, ◌*◌, ◌/◌, ◌^◌, true, false, if◌then◌else◌}
use Rattle.std.specs.Prelude.{List, [], length, drop, All, Any, Ok, ℤ, pos, ◌+ℤ◌, int_lt}
use Rattle.jbig2_base.specs.Bits.{Place, bits_left, bits_on, number_after}
use Rattle.jbig2_base.specs.Causes.{LeavesWord}
use Rattle.jbig2_base.specs.declared.error.DecodeError.{DecodeError}
use Rattle.jbig2_base.specs.declared.error.DecodeError.TheVariants.{Parse, Huffman}
use Rattle.jbig2_base.specs.declared.error.ParseError.TheVariants.{UnexpectedEof}
use Rattle.jbig2_base.specs.declared.error.HuffmanError.TheVariants.{InvalidCode, MissingTables, UnexpectedOob}
use Rattle.jbig2_coder.specs.CustomTable.{custom_header, custom_lines, range_lines}
use Rattle.jbig2_coder.specs.PrefixCode.{Member, front_number, longest, value_of_line, weight}
use Rattle.jbig2_coder.specs.declared.huffman_table.custom.Header.{Header}
use Rattle.jbig2_coder.specs.declared.huffman_table.line.TableLine.{TableLine}

-- The sum of 2^-len over the codes exceeds 1 (B.3): they take up more codes of the greatest length than there are.
abbrev pub AreCrowded : List TableLine → Type 0
AreCrowded lines = 2 ^ longest lines < weight (longest lines) lines

abbrev pub BreaksTable : List TableLine → DecodeError → Type 0
BreaksTable lines (Huffman InvalidCode) = AreCrowded lines
BreaksTable lines _ = ⊥

abbrev pub Begins : List ℕ → Member → Type 0  -- the bits begin with a code of at least one bit (B.4)
Begins bits m = (1 ≤ m.bits) × (m.bits ≤ length bits) × (m.number ≡ front_number m.bits bits)

abbrev pub EndWithin : List ℕ → Member → Type 0  -- the bits end within a code: it has more, and begins with them
EndWithin bits m = (length bits < m.bits) × (m.number / 2 ^ (m.bits - length bits) ≡ number_after 0 bits)

-- The bits begin with no code. They end within a code or are empty (the first error), or they fit no code (the second).
abbrev pub BreaksCode : List Member → List ℕ → DecodeError → Type 0
BreaksCode ms bits (Parse UnexpectedEof) =
    All (λ m. Begins bits m → ⊥) ms × ((length bits ≡ 0) ⊎ Any (EndWithin bits) ms)
BreaksCode ms bits (Huffman InvalidCode) = All (λ m. Begins bits m → ⊥) ms × All (λ m. EndWithin bits m → ⊥) ms
BreaksCode ms bits _ = ⊥

-- the bits of a line's range are missing, or the value does not fit signed 32 bits
abbrev pub BreaksRange : TableLine → List ℕ → DecodeError → Type 0
BreaksRange line bits (Huffman InvalidCode) =
    (length bits < line.range_length) ⊎ LeavesWord (value_of_line line (front_number line.range_length bits))
BreaksRange line bits _ = ⊥

-- A value: the fault is in its code, or after it in the range of the code's line.
abbrev pub BreaksValue : List Member → List ℕ → DecodeError → Type 0
BreaksValue ms bits (Parse UnexpectedEof) = BreaksCode ms bits (Parse UnexpectedEof)
BreaksValue ms bits (Huffman InvalidCode) =
    BreaksCode ms bits (Huffman InvalidCode)
    ⊎ Any (λ m. Begins bits m × ((m.line.is_out_of_band ≡ false) × BreaksRange m.line (drop m.bits bits) (Huffman InvalidCode))) ms
BreaksValue ms bits _ = ⊥

abbrev pub BreaksNumber : List Member → List ℕ → DecodeError → Type 0  -- the same where no value may be out of band
BreaksNumber ms bits (Huffman UnexpectedOob) = Any (λ m. Begins bits m × (m.line.is_out_of_band ≡ true)) ms
BreaksNumber ms bits e = BreaksValue ms bits e

-- No value can be read there by this table (B.4), not even out of band: no code begins the bits, or bits are missing, or
-- the value doesn't fit.
abbrev pub BreaksValueAt : List Member → Place → DecodeError → Type 0
BreaksValueAt table p e = BreaksValue table (bits_left p) e

abbrev pub BreaksNumberAt : List Member → Place → DecodeError → Type 0  -- the same where no value may be out of band
BreaksNumberAt table p e = BreaksNumber table (bits_left p) e

-- A line of a custom table (B.2), this one or one of the n - 1 after it, begins below the maximum and has a fault: its
-- two lengths are missing, or its range is above 31 bits, or the next low value does not fit signed 32 bits.
abbrev pub BreaksSomeLine : ℕ → Header → ℤ → Place → Type 0
BreaksSomeLine zero h low p = ⊥
BreaksSomeLine (suc n) h low p =
    let after_prefix = bits_on h.prefix_bits p in
    let range = front_number h.range_bits (bits_left after_prefix) in
    let next = low +ℤ pos (2 ^ range) in
    (int_lt low h.maximum ≡ true)
    × (((length (bits_left p) < h.prefix_bits + h.range_bits) ⊎ ((32 ≤ range) ⊎ LeavesWord next))
    ⊎ BreaksSomeLine n h next (bits_on h.range_bits after_prefix))

-- The lines that the header asks for: one of the range lines has a fault; or after them the lengths of the lower, the
-- upper and the out-of-band line are not all there.
abbrev pub BreaksLines : Header → Place → Type 0
BreaksLines h p =
    BreaksSomeLine (length (bits_left p) + 1) h h.minimum p
    ⊎ ((ranges : List TableLine) × (place : Place) × (range_lines h p ≡ Ok (ranges, place))
    × (length (bits_left place) < (if h.has_out_of_band then 3 else 2) * h.prefix_bits))

-- The header has 72 bits. After it a line of the table has a fault; or all lines are there, and their codes do not fit.
abbrev pub BreaksCustom : Place → DecodeError → Type 0
BreaksCustom p (Parse UnexpectedEof) = length (bits_left p) < 72
BreaksCustom p (Huffman InvalidCode) =
    ((header : Header) × (place : Place) × (custom_header p ≡ Ok (header, place)) × BreaksLines header place)
    ⊎ ((lines : List TableLine) × (place : Place) × (custom_lines p ≡ Ok (lines, place)) × AreCrowded lines)
BreaksCustom p _ = ⊥

abbrev pub BreaksSelection : List (List Member) → DecodeError → Type 0  -- a custom table is selected, but none is left
BreaksSelection customs (Huffman MissingTables) = customs ≡ []
BreaksSelection customs _ = ⊥
