-- The symbols of a dictionary (T.88, 6.5.5, step 4) as a list of height classes. Each class is read after the classes
-- before it. What else a class needs is read from that list: the height before it, the symbols so far, and how many
-- classes were empty. The law: these classes, one after the other, have the new symbols that `HeightClasses` gives.
use Rattle.std.specs.Prelude.{◌≡◌, ℕ, zero, suc, ◌+◌, ◌==◌, nat_le, if◌then◌else◌, pos, ◌+ℤ◌, List, [], ◌∷◌, ◌++◌}
use Rattle.std.specs.Prelude.{length, Result, Ok}
use Rattle.std.specs.List.{flat_map}
use Rattle.jbig2_base.specs.Results.{◌>>=◌}
use Rattle.jbig2_base.specs.Grid.{Grid}
use Rattle.jbig2_base.specs.Bits.{bit_number}
use Rattle.jbig2_base.specs.declared.error.DecodeError.{DecodeError}
use Rattle.jbig2_base.specs.declared.error.DecodeError.TheVariants.{Symbol}
use Rattle.jbig2_base.specs.declared.error.SymbolError.TheVariants.{UnexpectedOob}
use Rattle.jbig2_coder.specs.Integers.{in_band}
use Rattle.jbig2_symbol.specs.HeightClasses.{max_empty, new_symbols, size_in_word}
use Rattle.jbig2_symbol.specs.SymbolCoding.{classes_by_coder, classes_by_prefix_codes}
use Rattle.jbig2_symbol.specs.SymbolReading.{ClassReadings, SymbolInput}

pub record HeightClass : Type 0 where  -- its height (HCHEIGHT), and its symbols in order
  pub height : ℕ
  pub symbols : List Grid

abbrev pub symbols_of : List HeightClass → List Grid  -- all symbols, class after class
symbols_of classes = flat_map (λ c. c.symbols) classes

abbrev pub height_of_last : ℕ → List HeightClass → ℕ  -- the first class comes after a height of 0
height_of_last before [] = before
height_of_last before (c ∷ classes) = height_of_last c.height classes

abbrev pub empty_in : List HeightClass → ℕ  -- how many classes have no symbol
empty_in [] = 0
empty_in (c ∷ classes) = bit_number (length c.symbols == 0) + empty_in classes

module _ {S : Type 0} (r : ClassReadings S) (d : SymbolInput) where
  -- the class after these classes (steps 4 b to d): HCDH is added to the height before it, and then come its symbols
  unfoldable pub class_after : List HeightClass → S → Result (HeightClass × S) DecodeError
  class_after classes s = do
    (value, after_value) ← r.height_difference d s
    difference ← in_band (Symbol UnexpectedOob) value
    height ← size_in_word (pos (height_of_last 0 classes) +ℤ difference)
    (symbols, after) ← r.class_of_height d height (empty_in classes) (symbols_of classes) after_value
    Ok (record { height = height; symbols = symbols }, after)

  -- these classes and at most n more, until there are SDNUMNEWSYMS symbols (step 4 a)
  unfoldable pub classes_after : ℕ → List HeightClass → S → Result (List HeightClass × S) DecodeError
  classes_after zero classes s = Ok (classes, s)
  classes_after (suc n) classes s =
      if nat_le d.header.num_new_symbols (length (symbols_of classes)) then Ok (classes, s)
      else (class_after classes s >>= λ (c, after). classes_after n (classes ++ c ∷ []) after)

  -- All classes. Each has a symbol or is one of the 2^20 that may be empty (our own rule).
  abbrev pub all_classes : S → Result (List HeightClass × S) DecodeError
  all_classes s = classes_after (d.header.num_new_symbols + max_empty) [] s

-- The new symbols are those of the classes. The state after them is the same, and so is each error.
abbrev pub IsListOfClasses : {S : Type 0} → ClassReadings S → Type 0
IsListOfClasses {S = S} r = (d : SymbolInput) (s : S)
    → new_symbols r d s ≡ (all_classes r d s >>= λ (classes, after). Ok (symbols_of classes, after))

pub record SymbolsComeInClasses : Type 0 where
  pub coded : IsListOfClasses classes_by_coder
  pub prefixed : IsListOfClasses classes_by_prefix_codes
