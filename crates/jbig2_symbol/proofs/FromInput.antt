-- Law: no definition of symbol dictionaries returns an error that bytes cannot bring about.
use Rattle.std.proofs.Common.{ℕ, zero, suc, Bool, List, [], ◌∷◌, ◌++◌, Option, Some, None, Result, Ok, ℤ, pos, negsuc}
use Rattle.jbig2_base.specs.Bits.{Place}
use Rattle.jbig2_base.specs.Grid.{Grid}
use Rattle.jbig2_base.specs.declared.error.DecodeError.{DecodeError}
use Rattle.jbig2_base.proofs.FromInput.{FromInput, IsFromInput, from_input-bits, from_input-bytes, from_input-if, from_input-next, from_input-number, from_input-refusal}
use Rattle.jbig2_coder.specs.PrefixCode.{Member}
use Rattle.jbig2_coder.specs.declared.integer_procedures.IntegerProcedure.TheVariants.{Iaai}
use Rattle.jbig2_coder.proofs.FromInput.{from_input-decoded, from_input-next_custom, from_input-table_of}
use Rattle.jbig2_mmr.proofs.FromInput.{from_input-mmr}
use Rattle.jbig2_region.proofs.FromInput.{from_input-pixels, from_input-refinement_pixels}
use Rattle.jbig2_text.specs.Refining.{Refining}
use Rattle.jbig2_text.specs.Text.{Readings, TextParams}
use Rattle.jbig2_text.specs.TextCoding.{CodedState, PrefixedState, by_coder, by_prefix_codes, next_id}
use Rattle.jbig2_text.proofs.FromInput.{AreFromInput, from_input-some_symbol, from_input-text_region}
use Rattle.jbig2_text.proofs.RegionsFromInput.{from_input-in_band, by_coder-from_input, by_prefix_codes-from_input}
use Rattle.jbig2_symbol.specs.Symbols.{exports, next_run, runs_from, dictionary_by, dictionary_from, symbols_decoded}
use Rattle.jbig2_symbol.specs.HeightClasses.{classes_from, drawn_class, height_class, next_width, size_in_word, symbols_from, width_by, widths_from}
use Rattle.jbig2_symbol.specs.SymbolBitmaps.{aggregate_params, by_instances, coded_aggregate, coded_instances, coded_symbol, collective_bitmap, instance_count, mmr_bitmap, plain_id, prefixed_aggregate, prefixed_instances, put_together, raw_rows, refined_alone, some_instances, symbol_cut, symbols_cut}
use Rattle.jbig2_symbol.specs.SymbolCoding.{classes_by_coder, classes_by_prefix_codes, coded_bitmap, coder_start, collective_class, prefix_codes_start, symbols_by_coder, symbols_by_prefix_codes}
use Rattle.jbig2_symbol.specs.SymbolHeader.{SymbolHeader, coded_pixels_at, refined_pixels_at, selection_of, symbol_flags_of, symbol_header_at}
use Rattle.jbig2_symbol.specs.SymbolReading.{BitmapContexts, ClassReadings, SymbolInput, SymbolReadings, SymbolState, by_procedure, by_table, first_contexts, not_negative, symbol_tables, table_for}
use Rattle.jbig2_symbol.specs.declared.header.HuffmanTableSelection.{HuffmanTableSelection}
use Rattle.jbig2_symbol.specs.declared.header.HuffmanTableSelection.TheVariants.{TableB1, TableB2, TableB3, TableB4, TableB5, UserSupplied}
use Rattle.jbig2_symbol.specs.declared.header.SymbolDictionaryFlags.{SymbolDictionaryFlags}

-- ---- the header
from_input-selection : (first second : HuffmanTableSelection) (n : ℕ) → FromInput (selection_of first second n)
from_input-selection first second n = search from_input-if

from_input-flags : (flags : ℕ) → FromInput (symbol_flags_of flags)
unfolding symbol_flags_of
from_input-flags flags = search (from_input-next, from_input-selection)

from_input-coded_pixels : (flags : SymbolDictionaryFlags) (bytes : List ℕ) → FromInput (coded_pixels_at flags bytes)
from_input-coded_pixels flags bytes = search (from_input-if, from_input-pixels)

from_input-refined_pixels : (flags : SymbolDictionaryFlags) (bytes : List ℕ) → FromInput (refined_pixels_at flags bytes)
from_input-refined_pixels flags bytes = search (from_input-if, from_input-refinement_pixels)

pub from_input-symbol_header : (strict : Bool) (bytes : List ℕ) → FromInput (symbol_header_at strict bytes)
unfolding symbol_header_at
from_input-symbol_header strict bytes =
    search (from_input-next, from_input-number, from_input-flags, from_input-coded_pixels, from_input-refined_pixels, from_input-refusal) depth 16

-- ---- tables, contexts and numbers
from_input-table : (selection : HuffmanTableSelection) (customs : List (List Member)) → FromInput (table_for selection customs)
unfolding table_for
from_input-table TableB1 customs = tt
from_input-table TableB2 customs = tt
from_input-table TableB3 customs = tt
from_input-table TableB4 customs = tt
from_input-table TableB5 customs = tt
from_input-table UserSupplied customs = from_input-next_custom customs

from_input-tables : (flags : SymbolDictionaryFlags) (customs : List (List Member)) → FromInput (symbol_tables flags customs)
unfolding symbol_tables
from_input-tables flags customs = search (from_input-next, from_input-table) depth 10

from_input-contexts : (flags : SymbolDictionaryFlags) (kept : Option BitmapContexts) → FromInput (first_contexts flags kept)
unfolding first_contexts
from_input-contexts flags (Some contexts) = search (from_input-if, from_input-next, from_input-refusal)
from_input-contexts flags None = search from_input-if

from_input-by_table : (table : List Member) (s : SymbolState Place) → FromInput (by_table table s)
from_input-by_table table s = search (from_input-next, from_input-decoded)

from_input-not_negative : (e : DecodeError) (n : ℤ) → IsFromInput e → FromInput (not_negative e n)
from_input-not_negative e (pos n) is = tt
from_input-not_negative e (negsuc n) is = is

-- ---- aggregates
from_input-some : (value : Option ℤ) → FromInput (some_instances value)
from_input-some None = tt
from_input-some (Some (pos zero)) = tt
from_input-some (Some (pos (suc n))) = tt
from_input-some (Some (negsuc n)) = tt

from_input-count : {S : Type 0} (reading : Result (Option ℤ × S) DecodeError) → FromInput reading → FromInput (instance_count reading)
unfolding instance_count
from_input-count reading number = search (from_input-next, number, from_input-some)

from_input-alone : {S : Type 0} (r : Readings S) (a : AreFromInput r) (symbols : List Grid) (id : ℤ) (width height : ℕ) (f : Refining) (s : S) → FromInput (refined_alone r symbols id width height f s)
unfolding refined_alone
from_input-alone r a symbols id width height f s = search (from_input-next, a.x_delta, a.y_delta, from_input-some_symbol, from_input-refusal, a.refined) depth 10

from_input-together : {S : Type 0} (r : Readings S) (a : AreFromInput r) (p : TextParams) (width height : ℕ) (f : Refining) (s : S) → FromInput (put_together r p width height f s)
unfolding put_together
from_input-together r a p width height f s = search (from_input-next, from_input-refusal, from_input-text_region r a)

from_input-instances : {S : Type 0} (r : Readings S) (a : AreFromInput r) (alone : S → Result (ℤ × S) DecodeError) → ((s : S) → FromInput (alone s))
    → (p : TextParams) (width height : ℕ) (f : Refining) (s : S) → FromInput (by_instances r alone p width height f s)
from_input-instances r a alone first p width height f s = search (from_input-if, from_input-next, first, from_input-alone r a, from_input-together r a) depth 8

from_input-coded : (d : SymbolInput) (new : List Grid) (width height : ℕ) (s : SymbolState CodedState) → FromInput (coded_aggregate d new width height s)
unfolding coded_aggregate
from_input-coded d new width height s =
    from_input-next (instance_count (by_procedure Iaai s)) _ (from_input-count (by_procedure Iaai s) tt) (λ count. instances (aggregate_params d new count.0) count.1)
  where
    instances : (p : TextParams) (t : SymbolState CodedState) → FromInput (coded_instances p width height t)
    instances p t =
        from_input-next (by_instances by_coder (λ c. Ok (next_id c)) p width height t.contexts.refining t.coding) _ (from_input-instances by_coder by_coder-from_input (λ c. Ok (next_id c)) (λ c. tt) p width height t.contexts.refining t.coding) (λ symbol. tt)

from_input-plain_id : (bits : ℕ) (s : PrefixedState) → FromInput (plain_id bits s)
from_input-plain_id bits s = search (from_input-next, from_input-bits)

from_input-prefixed : (d : SymbolInput) (new : List Grid) (width height : ℕ) (s : SymbolState Place) → FromInput (prefixed_aggregate d new width height s)
unfolding prefixed_aggregate
from_input-prefixed d new width height s =
    from_input-next (instance_count (by_table d.tables.counts s)) _ (from_input-count (by_table d.tables.counts s) (from_input-by_table d.tables.counts s)) (λ count. instances (aggregate_params d new count.0) count.1)
  where
    instances : (p : TextParams) (t : SymbolState Place) → FromInput (prefixed_instances d p width height t)
    instances p t =
        from_input-next (by_instances by_prefix_codes (plain_id _) p width height t.contexts.refining _) _ (from_input-instances by_prefix_codes by_prefix_codes-from_input (plain_id _) (from_input-plain_id _) p width height t.contexts.refining _) (λ symbol. tt)

-- ---- bitmaps
from_input-coded_symbol : (h : SymbolHeader) (width height : ℕ) (s : SymbolState CodedState) → FromInput (coded_symbol h width height s)
unfolding coded_symbol
from_input-coded_symbol h width height s = search (from_input-next, from_input-refusal)

from_input-raw : (width height : ℕ) (bytes : List ℕ) → FromInput (raw_rows width height bytes)
unfolding raw_rows
from_input-raw width height bytes = search (from_input-next, from_input-refusal, from_input-bytes) depth 8

from_input-mmr_bytes : (strict : Bool) (size width height : ℕ) (bytes : List ℕ) → FromInput (mmr_bitmap strict size width height bytes)
unfolding mmr_bitmap
from_input-mmr_bytes strict size width height bytes = search (from_input-next, from_input-refusal, from_input-bytes, from_input-mmr) depth 8

from_input-collective : (d : SymbolInput) (width height : ℕ) (s : SymbolState Place) → FromInput (collective_bitmap d width height s)
unfolding collective_bitmap
from_input-collective d width height s =
    search (from_input-next, from_input-by_table, from_input-in_band, from_input-not_negative, from_input-if, from_input-raw, from_input-mmr_bytes) depth 10

from_input-cut : (collective : Grid) (from width height : ℕ) → FromInput (symbol_cut collective from width height)
unfolding symbol_cut
from_input-cut collective from width height = search (from_input-next, from_input-refusal)

from_input-cuts : (collective : Grid) (height from : ℕ) (widths : List ℕ) → FromInput (symbols_cut collective height from widths)
unfolding symbols_cut
from_input-cuts collective height from [] = tt
from_input-cuts collective height from (width ∷ widths) =
    let others : (place : ℕ) → FromInput (symbols_cut collective height place widths) = λ place. from_input-cuts collective height place widths in
    search (from_input-next, from_input-cut, others)

-- ---- classes
from_input-size : (n : ℤ) → FromInput (size_in_word n)
from_input-size (pos n) = search from_input-if
from_input-size (negsuc n) = tt

from_input-width_by : (room width total : ℕ) (value : Option ℤ) → FromInput (width_by room width total value)
from_input-width_by room width total None = tt
from_input-width_by room width total (Some difference) = search (from_input-next, from_input-refusal, from_input-size) depth 8

-- the readings of a coding
record SymbolsFromInput {S : Type 0} (r : SymbolReadings S) : Type 0 where
  width_difference : (d : SymbolInput) (s : S) → FromInput (r.width_difference d s)
  symbol_bitmap : (d : SymbolInput) (new : List Grid) (width height : ℕ) (s : S) → FromInput (r.symbol_bitmap d new width height s)

record ClassesFromInput {S : Type 0} (r : ClassReadings S) : Type 0 where
  height_difference : (d : SymbolInput) (s : S) → FromInput (r.height_difference d s)
  class_of_height : (d : SymbolInput) (height empty : ℕ) (new : List Grid) (s : S) → FromInput (r.class_of_height d height empty new s)
  export_run : (d : SymbolInput) (s : S) → FromInput (r.export_run d s)

from_input-width : {S : Type 0} (r : SymbolReadings S) (a : SymbolsFromInput r) (d : SymbolInput) (room width total : ℕ) (s : S) → FromInput (next_width r d room width total s)
unfolding next_width
from_input-width r a d room width total s = search (from_input-next, a.width_difference, from_input-width_by)

from_input-either : {A B : Type 0} (x : Option A) (none : Result B DecodeError) (some : A → Result B DecodeError) → FromInput none → ((y : A) → FromInput (some y)) → FromInput (elim x [ None ↦ none | Some y ↦ some y ])
from_input-either None none some at_none at_some = at_none
from_input-either (Some y) none some at_none at_some = at_some y

from_input-widths : {S : Type 0} (r : SymbolReadings S) (a : SymbolsFromInput r) (d : SymbolInput) (room width total : ℕ) (s : S) → FromInput (widths_from r d room width total s)
unfolding widths_from
from_input-widths r a d zero width total s = search (from_input-next, from_input-width r a)
from_input-widths r a d (suc room) width total s =
    from_input-next (next_width r d (suc room) width total s) _ (from_input-width r a d (suc room) width total s) (λ next.
    from_input-either next.0 _ _ tt (λ at. from_input-next (widths_from r d room at.0 at.1 next.1) _ (from_input-widths r a d room at.0 at.1 next.1) (λ all. tt)))

from_input-symbols : {S : Type 0} (r : SymbolReadings S) (a : SymbolsFromInput r) (d : SymbolInput) (room height width total : ℕ) (new : List Grid) (s : S) → FromInput (symbols_from r d room height width total new s)
unfolding symbols_from
from_input-symbols r a d zero height width total new s = search (from_input-next, from_input-width r a)
from_input-symbols r a d (suc room) height width total new s =
    from_input-next (next_width r d (suc room) width total s) _ (from_input-width r a d (suc room) width total s) (λ next.
    from_input-either next.0 _ _ tt (λ at.
    from_input-next (r.symbol_bitmap d new at.0 height next.1) _ (a.symbol_bitmap d new at.0 height next.1) (λ symbol.
    from_input-next (symbols_from r d room height at.0 at.1 (new ++ symbol.0 ∷ []) symbol.1) _ (from_input-symbols r a d room height at.0 at.1 (new ++ symbol.0 ∷ []) symbol.1) (λ all. tt))))

from_input-drawn : {S : Type 0} (r : SymbolReadings S) (a : SymbolsFromInput r) (d : SymbolInput) (height empty : ℕ) (new : List Grid) (s : S) → FromInput (drawn_class r d height empty new s)
unfolding drawn_class
from_input-drawn r a d height empty new s = search (from_input-next, from_input-symbols r a, from_input-refusal)

from_input-class : {S : Type 0} (r : ClassReadings S) (a : ClassesFromInput r) (d : SymbolInput) (before empty : ℕ) (new : List Grid) (s : S) → FromInput (height_class r d before empty new s)
unfolding height_class
from_input-class r a d before empty new s = search (from_input-next, a.height_difference, from_input-in_band, from_input-size, a.class_of_height) depth 10

from_input-classes : {S : Type 0} (r : ClassReadings S) (a : ClassesFromInput r) (d : SymbolInput) (n before empty : ℕ) (new : List Grid) (s : S) → FromInput (classes_from r d n before empty new s)
unfolding classes_from
from_input-classes r a d zero before empty new s = tt
from_input-classes r a d (suc n) before empty new s =
    let others = from_input-classes r a d n in
    search (from_input-if, from_input-next, from_input-class r a, others) depth 8

-- ---- exports
from_input-next_run : {S : Type 0} (r : ClassReadings S) (a : ClassesFromInput r) (d : SymbolInput) (empty left : ℕ) (s : S) → FromInput (next_run r d empty left s)
unfolding next_run
from_input-next_run r a d empty left s = search (from_input-next, a.export_run, from_input-in_band, from_input-not_negative, from_input-refusal) depth 10

from_input-runs : {S : Type 0} (r : ClassReadings S) (a : ClassesFromInput r) (d : SymbolInput) (n empty left : ℕ) (s : S) → FromInput (runs_from r d n empty left s)
unfolding runs_from
from_input-runs r a d zero empty left s = tt
from_input-runs r a d (suc n) empty left s =
    let others = from_input-runs r a d n in
    search (from_input-if, from_input-next, from_input-next_run r a, others) depth 8

from_input-exports : {S : Type 0} (r : ClassReadings S) (a : ClassesFromInput r) (d : SymbolInput) (grids : List Grid) (s : S) → FromInput (exports r d grids s)
unfolding exports
from_input-exports r a d grids s = search (from_input-next, from_input-runs r a, from_input-refusal)

-- ---- the codings
from_input-coded_bitmap : (d : SymbolInput) (new : List Grid) (width height : ℕ) (s : SymbolState CodedState) → FromInput (coded_bitmap d new width height s)
unfolding coded_bitmap
from_input-coded_bitmap d new width height s = search (from_input-if, from_input-coded, from_input-coded_symbol)

coder-symbols : SymbolsFromInput symbols_by_coder
coder-symbols = record { width_difference = λ d s. tt; symbol_bitmap = from_input-coded_bitmap }

coder-classes : ClassesFromInput classes_by_coder
coder-classes = record {
  height_difference = λ d s. tt;
  class_of_height = from_input-drawn symbols_by_coder coder-symbols;
  export_run = λ d s. tt;
}

prefixed-symbols : SymbolsFromInput symbols_by_prefix_codes
prefixed-symbols = record { width_difference = λ d. from_input-by_table d.tables.widths; symbol_bitmap = from_input-prefixed }

from_input-collective_class : (d : SymbolInput) (height empty : ℕ) (new : List Grid) (s : SymbolState Place) → FromInput (collective_class d height empty new s)
unfolding collective_class
from_input-collective_class d height empty new s =
    search (from_input-next, from_input-widths symbols_by_prefix_codes prefixed-symbols, from_input-refusal, from_input-collective, from_input-cuts) depth 10

from_input-prefixed_class : (d : SymbolInput) (height empty : ℕ) (new : List Grid) (s : SymbolState Place) → FromInput (classes_by_prefix_codes.class_of_height d height empty new s)
from_input-prefixed_class d height empty new s =
    from_input-if d.header.flags.use_refagg _ _ (from_input-drawn symbols_by_prefix_codes prefixed-symbols d height empty new s) (from_input-collective_class d height empty new s)

prefixed-classes : ClassesFromInput classes_by_prefix_codes
prefixed-classes = record {
  height_difference = λ d. from_input-by_table d.tables.heights;
  class_of_height = from_input-prefixed_class;
  export_run = λ d. from_input-by_table d.tables.runs;
}

-- ---- the dictionary
from_input-dictionary_by : {C : Type 0} (r : ClassReadings (SymbolState C)) (a : ClassesFromInput r) (d : SymbolInput) (s : SymbolState C) → FromInput (dictionary_by r d s)
from_input-dictionary_by r a d s = search (from_input-next, from_input-classes r a, from_input-exports r a) depth 8

from_input-dictionary : (d : SymbolInput) (contexts : BitmapContexts) → FromInput (dictionary_from d contexts)
from_input-dictionary d contexts =
    from_input-if d.header.flags.use_huffman _ _ (from_input-dictionary_by classes_by_prefix_codes prefixed-classes d (prefix_codes_start d contexts)) (from_input-dictionary_by classes_by_coder coder-classes d (coder_start d contexts))

pub from_input-symbols_decoded : (h : SymbolHeader) (symbols : List Grid) (referred : List (List Member)) (kept : Option BitmapContexts) → FromInput (symbols_decoded h symbols referred kept)
unfolding symbols_decoded
from_input-symbols_decoded h symbols referred kept = search (from_input-next, from_input-contexts, from_input-tables, from_input-table_of, from_input-dictionary) depth 8
