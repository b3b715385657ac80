-- Height classes of a symbol dictionary (T.88, 6.5.5, step 4): the widths of symbols, classes whose symbols are drawn
-- one by one, and all classes. They use the readings of a coding, and give the new symbols and the state after them.
use Rattle.std.specs.Prelude.{ℕ, zero, suc, ◌+◌, ◌-◌, ◌==◌, nat_lt, nat_le, ◌&&◌, if◌then◌else◌, List, [], ◌∷◌, ◌++◌}
use Rattle.std.specs.Prelude.{length, Option, Some, None, Result, Ok, Err, ℤ, pos, negsuc, ◌+ℤ◌}
use Rattle.jbig2_base.specs.Results.{◌>>=◌, refuse_if}
use Rattle.jbig2_base.specs.Grid.{Grid}
use Rattle.jbig2_base.specs.Bits.{bit_number}
use Rattle.jbig2_base.specs.declared.error.DecodeError.{DecodeError}
use Rattle.jbig2_base.specs.declared.error.OverflowError.TheVariants.{BitmapDimension}
use Rattle.jbig2_base.specs.declared.error.SymbolError.TheVariants.{Invalid, TooManySymbols, UnexpectedOob}
use Rattle.jbig2_coder.specs.Integers.{in_band}
use Rattle.jbig2_symbol.specs.SymbolReading.{ClassReadings, SymbolInput, SymbolReadings}
use Rattle.jbig2_base.specs.declared.error.DecodeError.TheVariants as errors

abbrev pub size_in_word : ℤ → Result ℕ DecodeError  -- a size below 2^32; others are refused (our own rule)
size_in_word (pos n) = if nat_lt n 4294967296 then Ok n else Err (errors.Overflow BitmapDimension)
size_in_word (negsuc n) = Err (errors.Overflow BitmapDimension)

-- The next symbol's width (SYMWIDTH), and the sum of the widths in its class so far (TOTWIDTH). They come from the
-- width and the sum before it and from its difference (step 4 c). At most `room` more symbols may come. Out of band
-- ends the class.
abbrev pub width_by : ℕ → ℕ → ℕ → Option ℤ → Result (Option (ℕ × ℕ)) DecodeError
width_by room width total None = Ok None
width_by room width total (Some difference) = do
  missing ← refuse_if (room == 0) (errors.Symbol TooManySymbols)
  next ← size_in_word (pos width +ℤ difference)
  all ← size_in_word (pos total +ℤ pos next)
  Ok (Some (next, all))

abbrev pub max_empty : ℕ  -- how many height classes, or runs of exports, may be empty (our own rule)
max_empty = 1048576

-- a class without a symbol is refused if 2^20 empty ones came before (our own rule)
abbrev pub empty_class : ℕ → ℕ → Result (Unit {0}) DecodeError
empty_class symbols empty = refuse_if (symbols == 0 && nat_le max_empty empty) (errors.Symbol Invalid)

module _ {S : Type 0} (r : SymbolReadings S) (d : SymbolInput) where
  unfoldable pub next_width : ℕ → ℕ → ℕ → S → Result (Option (ℕ × ℕ) × S) DecodeError
  next_width room width total s = do
    (difference, after) ← r.width_difference d s
    next ← width_by room width total difference
    Ok (next, after)

  -- the widths of a class after one of this width and total: each is the width before it plus a difference
  unfoldable pub widths_from : ℕ → ℕ → ℕ → S → Result (List ℕ × S) DecodeError
  widths_from zero width total s = next_width 0 width total s >>= λ (_, after). Ok ([], after)
  widths_from (suc room) width total s =
      next_width (suc room) width total s >>= λ (next, after_width). (elim next [
        | None ↦ Ok ([], after_width)
        | Some (symwidth, totwidth) ↦
            widths_from room symwidth totwidth after_width >>= λ (others, after). Ok (symwidth ∷ others, after)
      ])

  -- the symbols of a class after these new ones and after one of this width and total; each has its own bitmap
  unfoldable pub symbols_from : ℕ → ℕ → ℕ → ℕ → List Grid → S → Result (List Grid × S) DecodeError
  symbols_from zero height width total new s = next_width 0 width total s >>= λ (_, after). Ok ([], after)
  symbols_from (suc room) height width total new s =
      next_width (suc room) width total s >>= λ (next, after_width). (elim next [
        | None ↦ Ok ([], after_width)
        | Some (symwidth, totwidth) ↦
            r.symbol_bitmap d new symwidth height after_width >>= λ (symbol, after_symbol).
            symbols_from room height symwidth totwidth (new ++ symbol ∷ []) after_symbol >>= λ (others, after).
            Ok (symbol ∷ others, after)
      ])

  -- a class of such symbols, after these new ones and this many empty classes
  unfoldable pub drawn_class : ℕ → ℕ → List Grid → S → Result (List Grid × S) DecodeError
  drawn_class height empty new s = do
    (symbols, after) ← symbols_from (d.header.num_new_symbols - length new) height 0 0 new s
    few ← empty_class (length symbols) empty
    Ok (symbols, after)

module _ {S : Type 0} (r : ClassReadings S) (d : SymbolInput) where
  -- the height class after one of this height: its own height (HCHEIGHT), and its symbols, which all have that height
  unfoldable pub height_class : ℕ → ℕ → List Grid → S → Result (ℕ × List Grid × S) DecodeError
  height_class before empty new s = do
    (value, after_value) ← r.height_difference d s
    difference ← in_band (errors.Symbol UnexpectedOob) value
    height ← size_in_word (pos before +ℤ difference)
    (symbols, after) ← r.class_of_height d height empty new after_value
    Ok (height, symbols, after)

  -- The symbols of the classes after one of this height, until there are enough. Each class has a symbol or is one of
  -- the 2^20 that may be empty. So n classes are enough if n is at least the number of symbols and empty classes to
  -- come.
  unfoldable pub classes_from : ℕ → ℕ → ℕ → List Grid → S → Result (List Grid × S) DecodeError
  classes_from zero before empty new s = Ok ([], s)
  classes_from (suc n) before empty new s =
      if nat_le d.header.num_new_symbols (length new) then Ok ([], s)
      else (height_class before empty new s >>= λ (height, symbols, after_class).
      classes_from n height (empty + bit_number (length symbols == 0)) (new ++ symbols) after_class
      >>= λ (others, after). Ok (symbols ++ others, after))

  abbrev pub new_symbols : S → Result (List Grid × S) DecodeError
  new_symbols s = classes_from (d.header.num_new_symbols + max_empty) 0 0 [] s
