-- Which rule the coded data of a symbol dictionary breaks where it is refused (T.88, 6.5.5 to 6.5.10; docs/FORMAT.md,
-- 11): at a width, at a symbol, at a height class or in the exports. `k` counts what was read before the fault. Each
-- predicate takes the state of the coding that the definitions reach there.
use Rattle.std.specs.Prelude.{◌≡◌, ◌≢◌, ◌⊎◌, ◌≤◌, ◌<◌, ℕ, Bool, true, false, zero, suc, ◌+◌, ◌-◌, ◌==◌, List, [], ◌∷◌}
use Rattle.std.specs.Prelude.{◌++◌, length, sum, Any, Option, Some, None, IfErr, ℤ, pos, negsuc, ◌+ℤ◌}
use Rattle.jbig2_base.specs.Bits.{bit_number, Place}
use Rattle.jbig2_base.specs.Causes.{After, BreaksSides}
use Rattle.jbig2_base.specs.Grid.{Grid, max_side}
use Rattle.jbig2_base.specs.declared.error.DecodeError.{DecodeError}
use Rattle.jbig2_base.specs.declared.error.DecodeError.TheVariants.{Huffman, Overflow, Symbol}
use Rattle.jbig2_base.specs.declared.error.HuffmanError.TheVariants.{InvalidCode}
use Rattle.jbig2_base.specs.declared.error.HuffmanError.TheVariants as huffman
use Rattle.jbig2_base.specs.declared.error.OverflowError.TheVariants.{BitmapDimension}
use Rattle.jbig2_base.specs.declared.error.SymbolError.TheVariants.{Invalid, NoSymbols, OutOfRange, TooManySymbols}
use Rattle.jbig2_base.specs.declared.error.SymbolError.TheVariants.{UnexpectedOob}
use Rattle.jbig2_text.specs.TextCoding.{CodedState}
use Rattle.jbig2_symbol.specs.Causes.{BreaksCodedAggregate, BreaksCollectiveBitmap}
use Rattle.jbig2_symbol.specs.Causes.{BreaksPrefixedAggregate}
use Rattle.jbig2_symbol.specs.HeightClasses.{max_empty, next_width, symbols_from, widths_from}
use Rattle.jbig2_symbol.specs.SymbolCoding.{classes_by_coder, classes_by_prefix_codes, symbols_by_coder}
use Rattle.jbig2_symbol.specs.SymbolCoding.{symbols_by_prefix_codes}
use Rattle.jbig2_symbol.specs.SymbolReading.{ClassReadings, SymbolInput, SymbolReadings, SymbolState}
use Rattle.jbig2_symbol.specs.Symbols.{export_runs, exported_grids, next_run}
use Rattle.jbig2_coder.specs.Causes.{BreaksValueAt}
use Rattle.jbig2_base.specs.declared.error.DecodeError.TheVariants as errors

abbrev pub Where : Bool → Type 0 → Type 0 → Type 0  -- the first of two, where this is so, and else the second
Where true P Q = P
Where false P Q = Q

-- for each reading of a coding, why it is refused at a state
pub record SymbolCauses (S : Type 0) : Type 1 where
  pub width_difference : SymbolInput → S → DecodeError → Type 0
  pub symbol_bitmap : SymbolInput → List Grid → ℕ → ℕ → S → DecodeError → Type 0

pub record ClassCauses (S : Type 0) : Type 1 where
  pub height_difference : SymbolInput → S → DecodeError → Type 0
  pub class_of_height : SymbolInput → ℕ → ℕ → List Grid → S → DecodeError → Type 0
  pub export_run : SymbolInput → S → DecodeError → Type 0

pub record SymbolsHaveCauses {S : Type 0} (r : SymbolReadings S) (c : SymbolCauses S) : Type 0 where
  pub width_difference : (d : SymbolInput) (s : S) → IfErr (r.width_difference d s) (c.width_difference d s)
  pub symbol_bitmap : (d : SymbolInput) (new : List Grid) (width height : ℕ) (s : S)
      → IfErr (r.symbol_bitmap d new width height s) (c.symbol_bitmap d new width height s)

pub record ClassesHaveCauses {S : Type 0} (r : ClassReadings S) (c : ClassCauses S) : Type 0 where
  pub height_difference : (d : SymbolInput) (s : S) → IfErr (r.height_difference d s) (c.height_difference d s)
  pub class_of_height : (d : SymbolInput) (height empty : ℕ) (new : List Grid) (s : S)
      → IfErr (r.class_of_height d height empty new s) (c.class_of_height d height empty new s)
  pub export_run : (d : SymbolInput) (s : S) → IfErr (r.export_run d s) (c.export_run d s)

-- ---- the symbols of a class (6.5.5, step 4 c)
abbrev pub IsNoSize : ℤ → Type 0  -- a number that isn't an unsigned number of 32 bits
IsNoSize (pos n) = 4294967296 ≤ n
IsNoSize (negsuc n) = Unit {0}

-- A width (6.5.7), after one of this width and total, at most `room` more of which may come: there are enough symbols
-- already, or it isn't a number of 32 bits.
abbrev pub BreaksWidthBy : ℕ → ℕ → ℕ → Option ℤ → DecodeError → Type 0
BreaksWidthBy room width total value e =
    ((e ≡ Symbol TooManySymbols) × (room ≡ 0) × (value ≢ None))
    ⊎ ((e ≡ Overflow BitmapDimension) × ((difference : ℤ) × (value ≡ Some difference)
    × (IsNoSize (pos width +ℤ difference) ⊎ IsNoSize (pos total +ℤ (pos width +ℤ difference)))))

-- A class that is too high for its symbols: its collective bitmap is refused, or else the first symbol cut from it.
abbrev pub BreaksTallClass : SymbolInput → ℕ → ℕ → SymbolState Place → DecodeError → Type 0
BreaksTallClass d width height s e =
    BreaksCollectiveBitmap d width height s e ⊎ ((e ≡ errors.Overflow BitmapDimension) × (max_side < height))

-- A class without symbols (6.5.5, step 4), after 2^20 classes that had none.
abbrev pub BreaksEmptyClass : ℕ → ℕ → DecodeError → Type 0
BreaksEmptyClass count empty (errors.Symbol Invalid) = (count ≡ 0) × (max_empty ≤ empty)
BreaksEmptyClass count empty _ = ⊥

module _ {S : Type 0} (c : SymbolCauses S) (r : SymbolReadings S) (d : SymbolInput) where
  abbrev pub BreaksNextWidth : ℕ → ℕ → ℕ → S → DecodeError → Type 0
  BreaksNextWidth room width total s e =
      c.width_difference d s e
      ⊎ After (r.width_difference d s) (λ (value, _). BreaksWidthBy room width total value e)

  -- the next width is these two numbers, and this holds for them and for the state after them
  abbrev pub AfterWidth : ℕ → ℕ → ℕ → S → (ℕ → ℕ → S → Type 0) → Type 0
  AfterWidth room width total s P =
      After (next_width r d room width total s) (λ (next, after).
      (symwidth : ℕ) × (totwidth : ℕ) × (next ≡ Some (symwidth, totwidth)) × P symwidth totwidth after)

  -- the width after k others
  abbrev pub BreaksWidthAfter : ℕ → ℕ → ℕ → ℕ → S → DecodeError → Type 0
  BreaksWidthAfter zero room width total s e = BreaksNextWidth room width total s e
  BreaksWidthAfter (suc k) room width total s e =
      AfterWidth room width total s (λ symwidth totwidth after.
      BreaksWidthAfter k (room - 1) symwidth totwidth after e)

  -- the symbol after k others: its width, or its bitmap
  abbrev pub BreaksSymbolAfter : ℕ → ℕ → ℕ → ℕ → ℕ → List Grid → S → DecodeError → Type 0
  BreaksSymbolAfter zero room height width total new s e =
      BreaksNextWidth room width total s e
      ⊎ AfterWidth room width total s (λ symwidth totwidth after. c.symbol_bitmap d new symwidth height after e)
  BreaksSymbolAfter (suc k) room height width total new s e =
      AfterWidth room width total s (λ symwidth totwidth after.
      After (r.symbol_bitmap d new symwidth height after) (λ (symbol, after_symbol).
      BreaksSymbolAfter k (room - 1) height symwidth totwidth (new ++ symbol ∷ []) after_symbol e))

  -- a class whose symbols have bitmaps of their own
  abbrev pub BreaksDrawnClass : ℕ → ℕ → List Grid → S → DecodeError → Type 0
  BreaksDrawnClass height empty new s e =
      let room = d.header.num_new_symbols - length new in
      ((k : ℕ) × BreaksSymbolAfter k room height 0 0 new s e)
      ⊎ After (symbols_from r d room height 0 0 new s) (λ (symbols, _). BreaksEmptyClass (length symbols) empty e)

abbrev pub coded_symbol_causes : SymbolCauses (SymbolState CodedState)
coded_symbol_causes = record {
  width_difference = λ d s e. ⊥;
  symbol_bitmap =
      λ d new width height s e. Where d.header.flags.use_refagg (BreaksCodedAggregate d new width height s e)
      (BreaksSides width height e);
}

abbrev pub prefixed_symbol_causes : SymbolCauses (SymbolState Place)
prefixed_symbol_causes = record {
  width_difference = λ d s. BreaksValueAt d.tables.widths s.coding;
  symbol_bitmap = BreaksPrefixedAggregate;
}

-- A class with a collective bitmap (step 4 d): a width, the bitmap or its size, or a side of a symbol.
abbrev pub BreaksCollectiveClass : SymbolInput → ℕ → ℕ → List Grid → SymbolState Place → DecodeError → Type 0
BreaksCollectiveClass d height empty new s e =
    let room = d.header.num_new_symbols - length new in
    ((k : ℕ) × BreaksWidthAfter prefixed_symbol_causes symbols_by_prefix_codes d k room 0 0 s e)
    ⊎ After (widths_from symbols_by_prefix_codes d room 0 0 s) (λ (widths, after_widths).
    BreaksEmptyClass (length widths) empty e
    ⊎ BreaksCollectiveBitmap d (sum widths) height after_widths e
    ⊎ Any (λ width. BreaksSides width height e) widths)

-- ---- classes and exports
abbrev pub coded_class_causes : ClassCauses (SymbolState CodedState)
coded_class_causes = record {
  height_difference = λ d s e. ⊥;
  class_of_height = BreaksDrawnClass coded_symbol_causes symbols_by_coder;
  export_run = λ d s e. ⊥;
}

abbrev pub prefixed_class_causes : ClassCauses (SymbolState Place)
prefixed_class_causes = record {
  height_difference = λ d s. BreaksValueAt d.tables.heights s.coding;
  class_of_height =
      λ d height empty new s e. Where d.header.flags.use_refagg
      (BreaksDrawnClass prefixed_symbol_causes symbols_by_prefix_codes d height empty new s e)
      (BreaksCollectiveClass d height empty new s e);
  export_run = λ d s. BreaksValueAt d.tables.runs s.coding;
}

-- The value of a run (6.5.10), where `left` symbols are not covered yet and `empty` runs of length 0 came before.
abbrev pub BreaksRunValue : ℕ → ℕ → Option ℤ → DecodeError → Type 0
BreaksRunValue empty left value (Huffman huffman.UnexpectedOob) = value ≡ None
BreaksRunValue empty left value (Huffman InvalidCode) = (n : ℕ) × (value ≡ Some (negsuc n))
BreaksRunValue empty left value (Symbol Invalid) = (value ≡ Some (pos 0)) × (max_empty ≤ empty)
BreaksRunValue empty left value (Symbol OutOfRange) = (run : ℕ) × (value ≡ Some (pos run)) × (left < run)
BreaksRunValue empty left value _ = ⊥

module _ {S : Type 0} (c : ClassCauses S) (r : ClassReadings S) (d : SymbolInput) where
  -- A height class (6.5.6) after one of this height: the difference of its height is refused or out of band, or the
  -- height isn't an unsigned number of 32 bits, or its symbols are refused.
  abbrev pub BreaksHeightClass : ℕ → ℕ → List Grid → S → DecodeError → Type 0
  BreaksHeightClass before empty new s e =
      c.height_difference d s e
      ⊎ After (r.height_difference d s) (λ (value, after).
      ((e ≡ Symbol UnexpectedOob) × (value ≡ None))
      ⊎ ((difference : ℤ) × (value ≡ Some difference)
      × (((e ≡ Overflow BitmapDimension) × IsNoSize (pos before +ℤ difference))
      ⊎ ((height : ℕ) × (pos before +ℤ difference ≡ pos height) × c.class_of_height d height empty new after e))))

  -- the run after k others
  abbrev pub BreaksRunAfter : ℕ → ℕ → ℕ → S → DecodeError → Type 0
  BreaksRunAfter zero empty left s e =
      c.export_run d s e ⊎ After (r.export_run d s) (λ (value, _). BreaksRunValue empty left value e)
  BreaksRunAfter (suc k) empty left s e =
      After (next_run r d empty left s) (λ (run, after).
      BreaksRunAfter k (empty + bit_number (run == 0)) (left - run) after e)

  -- a run is refused, or the runs export another number of symbols than the header says
  abbrev pub BreaksExports : List Grid → S → DecodeError → Type 0
  BreaksExports grids s e =
      ((k : ℕ) × BreaksRunAfter k 0 (length grids) s e)
      ⊎ After (export_runs r d (length grids) s) (λ (runs, _).
      (e ≡ Symbol NoSymbols) × (length (exported_grids runs grids) ≢ d.header.num_exported_symbols))

-- In each coding, whatever was read before, each reading that refuses has its cause.
pub record CodingsHaveCauses : Type 0 where
  pub coded_symbols : SymbolsHaveCauses symbols_by_coder coded_symbol_causes
  pub coded_classes : ClassesHaveCauses classes_by_coder coded_class_causes
  pub prefixed_symbols : SymbolsHaveCauses symbols_by_prefix_codes prefixed_symbol_causes
  pub prefixed_classes : ClassesHaveCauses classes_by_prefix_codes prefixed_class_causes
