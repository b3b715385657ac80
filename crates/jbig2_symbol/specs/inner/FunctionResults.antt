-- Parts of the definitions that have a name here, because private functions give them.
use Rattle.std.specs.Prelude.{Err, length, List, None, Ok, Option, option_map, Result, Some, ℕ, ◌*◌, ◌++◌, ◌+◌, ◌-◌, ◌==◌, ◌≡◌}
use Rattle.jbig2_base.specs.Results.{◌>>=◌}
use Rattle.jbig2_base.specs.Bits.{bit_number, byte_boundary, Place}
use Rattle.jbig2_base.specs.Fields.{bytes_at}
use Rattle.jbig2_base.specs.Grid.{Grid, wide_or_overflow}
use Rattle.jbig2_base.specs.declared.error.OverflowError.TheVariants.{BitmapDimension}
use Rattle.jbig2_base.specs.declared.error.HuffmanError.TheVariants.{UnexpectedOob}
use Rattle.jbig2_base.specs.declared.error.DecodeError.TheVariants.{Huffman, Overflow}
use Rattle.jbig2_base.specs.declared.error.DecodeError.{DecodeError}
use Rattle.jbig2_coder.specs.Integers.{in_band}
use Rattle.jbig2_symbol.specs.SymbolBitmaps.{collective_bitmap, raw_stride}
use Rattle.jbig2_symbol.specs.SymbolReading.{by_table, not_negative, SymbolInput, SymbolState}
use Rattle.jbig2_symbol.specs.declared.widths.RunningWidths.{RunningWidths}

-- a result of which only the error matters
abbrev pub with_no_value : {X : Type 0} → Result X DecodeError → Result (Unit {0}) DecodeError
with_no_value result = result >>= λ _. Ok tt

-- the bytes of rows that are not coded, with those after them
abbrev pub bytes_of_rows : ℕ → ℕ → List ℕ → Result (List ℕ × List ℕ) DecodeError
bytes_of_rows width height bytes = wide_or_overflow width height >>= λ _. bytes_at (height * raw_stride width) bytes

-- the number of bytes of a collective bitmap, and the state at the first of them
abbrev pub size_of_rows : SymbolInput → SymbolState Place → Result (ℕ × SymbolState Place) DecodeError
size_of_rows d s = do
  (value, after_value) ← by_table d.tables.sizes s
  number ← in_band (Huffman UnexpectedOob) value
  size ← not_negative (Overflow BitmapDimension) number
  Ok (size, record after_value { coding = byte_boundary after_value.coding })

-- the error of a class that is too high for its symbols: that of its collective bitmap, or else of its first symbol
abbrev pub tall_class : SymbolInput → ℕ → ℕ → SymbolState Place → Result (Unit {0}) DecodeError
tall_class d width height s = collective_bitmap d width height s >>= λ _. Err (Overflow BitmapDimension)

-- all that was read, where these came before
abbrev pub concat : {X S : Type 0} → List X → Result (List X × S) DecodeError → Result (List X × S) DecodeError
concat before result = result >>= λ (more, after). Ok (before ++ more, after)

-- all symbols, where these came before
abbrev pub symbols_after : List Grid → Result (List Grid) DecodeError → Result (List Grid) DecodeError
symbols_after before result = result >>= λ more. Ok (before ++ more)

-- how many more new symbols may come
abbrev pub room_after : SymbolInput → List Grid → ℕ
room_after d new = d.header.num_new_symbols - length new

-- the number of empty classes, after a class with these symbols
abbrev pub empty_with : List Grid → ℕ → ℕ
empty_with symbols empty = empty + bit_number (length symbols == 0)

-- a class after others: all symbols so far, its height, and the number of empty classes
abbrev pub class_after : {S : Type 0} → List Grid → ℕ → Result (ℕ × List Grid × S) DecodeError
    → Result (List Grid × (ℕ × (ℕ × S))) DecodeError
class_after before empty result =
    result >>= λ (height, symbols, after). Ok (before ++ symbols, (height, (empty_with symbols empty, after)))

-- a width that was read, and the total with it
abbrev pub with_total : ℕ → Option ℕ → Option (ℕ × ℕ)
with_total total next = option_map (λ width. (width, total)) next

-- The widths after one reading: they have moved to this width, or not at all.
abbrev pub IsNextWidth : RunningWidths → Option ℕ → RunningWidths → Type 0
IsNextWidth before None after = after ≡ before
IsNextWidth before (Some width) after =
    (before.left ≡ after.left + 1) × (after.width ≡ width) × (after.total ≡ before.total + width)
