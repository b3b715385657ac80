-- Where strict reading accepts, lenient reading gives the same: symbol dictionaries.
use Rattle.std.proofs.Common.{◌≡◌, ℕ, zero, suc, ◌+◌, ◌-◌, eqb, nat_le, nat_lt, Bool, true, false, not, ◌||◌, ℤ, pos, ◌+ℤ◌, List, [], ◌∷◌, ◌++◌, length, sum, Option, Result, Ok, refl, sym}
use Rattle.std.specs.Int.{w16, w32}
use Rattle.jbig2_base.specs.Results.{◌>>=◌, refuse_if}
use Rattle.jbig2_base.specs.Bits.{bit_number, Place}
use Rattle.jbig2_base.specs.Fields.{bytes_at, number_at}
use Rattle.jbig2_base.specs.Grid.{Grid, blank, wide_or_overflow}
use Rattle.jbig2_base.specs.declared.error.DecodeError.{DecodeError}
use Rattle.jbig2_base.specs.declared.error.DecodeError.TheVariants.{Huffman, Overflow, Symbol}
use Rattle.jbig2_base.specs.declared.error.HuffmanError.TheVariants.{UnexpectedOob}
use Rattle.jbig2_base.specs.declared.error.OverflowError.TheVariants.{BitmapDimension, SymbolCount}
use Rattle.jbig2_base.specs.declared.error.SymbolError.TheVariants as errors
use Rattle.jbig2_coder.specs.PrefixCode.{Member}
use Rattle.jbig2_mmr.specs.T6.{mmr_rows}
use Rattle.jbig2_symbol.specs.HeightClasses.{classes_from, drawn_class, empty_class, height_class, new_symbols, next_width, size_in_word, symbols_from, widths_from}
use Rattle.jbig2_symbol.specs.SymbolBitmaps.{aggregate_params, by_instances, coded_aggregate, coded_instances, coded_symbol, collective_bitmap, fits_symbol, id_codes, instance_count, mmr_bitmap, plain_id, prefixed_aggregate, prefixed_at, prefixed_instances, put_together, raw_rows, refined_alone, rows_of_size, symbols_cut}
use Rattle.jbig2_symbol.specs.SymbolCoding.{classes_by_coder, classes_by_prefix_codes, coded_bitmap, coder_start, collective_class, prefix_codes_start, symbols_by_coder, symbols_by_prefix_codes}
use Rattle.jbig2_symbol.specs.SymbolHeader.{SymbolHeader, coded_pixels_at, refined_pixels_at, symbol_flags_of, symbol_header_at}
use Rattle.jbig2_symbol.specs.SymbolReading.{BitmapContexts, ClassReadings, SymbolInput, SymbolReadings, SymbolState, by_procedure, by_table, first_contexts, not_negative, symbol_tables}
use Rattle.jbig2_symbol.specs.Symbols.{dictionary_by, dictionary_from, exported_grids, exports, export_runs, next_run, runs_from, symbols_decoded, symbols_exported}
use Rattle.jbig2_text.specs.Refining.{Refining}
use Rattle.jbig2_text.specs.Text.{Readings, TextParams}
use Rattle.jbig2_text.specs.TextCoding.{CodedState, PrefixedState, by_coder, by_prefix_codes, next_id}
use Rattle.jbig2_coder.specs.Integers.{in_band}
use Rattle.jbig2_framing.proofs.Agreeing.{Agrees, Same, agrees-then, same-if, same-itself, same-next, same-of, same-option, same-then}
use Rattle.jbig2_page.proofs.AgreeingRegions.{mmr-same}
use Rattle.jbig2_page.proofs.AgreeingTexts.{lenient_params, text-region-same}

abbrev pub lenient_symbols : SymbolHeader → SymbolHeader
lenient_symbols h = record h { strict = false }

-- the same input, read leniently
abbrev leniently : SymbolInput → SymbolInput
leniently d = record d { header = lenient_symbols d.header }

pub symbol-header-agrees : (bytes : List ℕ) → Agrees (λ h. (lenient_symbols h.0, h.1)) (symbol_header_at true bytes) (symbol_header_at false bytes)
unfolding symbol_header_at
symbol-header-agrees bytes =
    let view : SymbolHeader × List ℕ → SymbolHeader × List ℕ = λ h. (lenient_symbols h.0, h.1) in
    agrees-then view (number_at w16 bytes) _ _ (λ number. agrees-then view (symbol_flags_of number.0) _ _ (λ flags. agrees-then view (coded_pixels_at flags number.1) _ _ (λ pixels.
    agrees-then view (refined_pixels_at flags pixels.1) _ _ (λ refined. agrees-then view (number_at w32 refined.1) _ _ (λ exports. agrees-then view (number_at w32 exports.1) _ _ (λ fresh.
    agrees-then view (refuse_if (nat_lt 1048576 exports.0 || nat_lt 1048576 fresh.0) (Overflow SymbolCount)) _ _ (λ few. refl)))))))

-- ---- bitmaps
together-same : {S : Type 0} (r : Readings S) (p : TextParams) (width height : ℕ) (f : Refining) (s : S) → Same (put_together r p width height f s) (put_together r (lenient_params p) width height f s)
unfolding put_together
together-same r p width height f s = same-then (fits_symbol width height) _ _ (λ fits. text-region-same r p (blank width height false) f s)

instances-same : {S : Type 0} (r : Readings S) (alone : S → Result (ℤ × S) DecodeError) (p : TextParams) (width height : ℕ) (f : Refining) (s : S) → Same (by_instances r alone p width height f s) (by_instances r alone (lenient_params p) width height f s)
instances-same r alone p width height f s =
    same-if (eqb p.count 1) _ _ (put_together r p width height f s) (put_together r (lenient_params p) width height f s)
    (same-itself (alone s >>= λ id. refined_alone r p.symbols id.0 width height f id.1)) (together-same r p width height f s)

coded-instances-same : (p : TextParams) (width height : ℕ) (s : SymbolState CodedState) → Same (coded_instances p width height s) (coded_instances (lenient_params p) width height s)
coded-instances-same p width height s =
    same-next (by_instances by_coder (λ c. Ok (next_id c)) p width height s.contexts.refining s.coding) (by_instances by_coder (λ c. Ok (next_id c)) (lenient_params p) width height s.contexts.refining s.coding) _ _
    (instances-same by_coder (λ c. Ok (next_id c)) p width height s.contexts.refining s.coding) (λ symbol. refl)

coded-aggregate-same : (d : SymbolInput) (new : List Grid) (width height : ℕ) (s : SymbolState CodedState) → Same (coded_aggregate d new width height s) (coded_aggregate (leniently d) new width height s)
unfolding coded_aggregate
coded-aggregate-same d new width height s = same-then (instance_count (by_procedure _ s)) _ _ (λ count. coded-instances-same (aggregate_params d new count.0) width height count.1)

prefixed-instances-same : (d : SymbolInput) (p : TextParams) (width height : ℕ) (s : SymbolState Place) → Same (prefixed_instances d p width height s) (prefixed_instances (leniently d) (lenient_params p) width height s)
prefixed-instances-same d p width height s =
    let alone : PrefixedState → Result (ℤ × PrefixedState) DecodeError = plain_id _ in
    same-next (by_instances by_prefix_codes alone p width height s.contexts.refining (prefixed_at d s.coding)) (by_instances by_prefix_codes alone (lenient_params p) width height s.contexts.refining (prefixed_at d s.coding)) _ _
    (instances-same by_prefix_codes alone p width height s.contexts.refining (prefixed_at d s.coding)) (λ symbol. refl)

prefixed-aggregate-same : (d : SymbolInput) (new : List Grid) (width height : ℕ) (s : SymbolState Place) → Same (prefixed_aggregate d new width height s) (prefixed_aggregate (leniently d) new width height s)
unfolding prefixed_aggregate
prefixed-aggregate-same d new width height s = same-then (instance_count (by_table d.tables.counts s)) _ _ (λ count. prefixed-instances-same d (aggregate_params d new count.0) width height count.1)

coded-symbol-same : (h : SymbolHeader) (width height : ℕ) (s : SymbolState CodedState) → Same (coded_symbol h width height s) (coded_symbol (lenient_symbols h) width height s)
unfolding coded_symbol
coded-symbol-same h width height s = same-then (fits_symbol width height) _ _ (λ fits. refl)

coded-bitmap-same : (d : SymbolInput) (new : List Grid) (width height : ℕ) (s : SymbolState CodedState) → Same (coded_bitmap d new width height s) (coded_bitmap (leniently d) new width height s)
unfolding coded_bitmap
coded-bitmap-same d new width height s =
    same-if d.header.flags.use_refagg (coded_aggregate d new width height s) (coded_aggregate (leniently d) new width height s) (coded_symbol d.header width height s) (coded_symbol (lenient_symbols d.header) width height s)
    (coded-aggregate-same d new width height s) (coded-symbol-same d.header width height s)

mmr-bytes-same : (strict : Bool) (size width height : ℕ) (bytes : List ℕ) → Same (mmr_bitmap strict size width height bytes) (mmr_bitmap false size width height bytes)
unfolding mmr_bitmap
mmr-bytes-same strict size width height bytes =
    same-then (bytes_at size bytes) _ _ (λ coded. same-then (wide_or_overflow width height) _ _ (λ fits.
    same-next (mmr_rows strict width height coded.0) (mmr_rows false width height coded.0) _ _ (mmr-same strict width height coded.0) (λ rows. refl)))

rows-same : (strict : Bool) (size width height : ℕ) (bytes : List ℕ) → Same (rows_of_size strict size width height bytes) (rows_of_size false size width height bytes)
rows-same strict size width height bytes =
    same-if (eqb size 0) (raw_rows width height bytes) (raw_rows width height bytes) (mmr_bitmap strict size width height bytes) (mmr_bitmap false size width height bytes)
    (same-itself (raw_rows width height bytes)) (mmr-bytes-same strict size width height bytes)

collective-same : (d : SymbolInput) (width height : ℕ) (s : SymbolState Place) → Same (collective_bitmap d width height s) (collective_bitmap (leniently d) width height s)
unfolding collective_bitmap
collective-same d width height s =
    same-then (by_table d.tables.sizes s) _ _ (λ value. same-then (in_band (Huffman UnexpectedOob) value.0) _ _ (λ number. same-then (not_negative (Overflow BitmapDimension) number) _ _ (λ size.
    same-next (rows_of_size d.header.strict size width height _) (rows_of_size false size width height _) _ _ (rows-same d.header.strict size width height _) (λ rows. refl))))

-- ---- height classes
-- how the symbols of a class are read
record ReadsAlike {S : Type 0} (r : SymbolReadings S) (d : SymbolInput) : Type 0 where
  widths : (s : S) → r.width_difference (leniently d) s ≡ r.width_difference d s
  bitmaps : (new : List Grid) (width height : ℕ) (s : S) → Same (r.symbol_bitmap d new width height s) (r.symbol_bitmap (leniently d) new width height s)

width-same : {S : Type 0} (r : SymbolReadings S) (d : SymbolInput) → ReadsAlike r d → (room width total : ℕ) (s : S) → Same (next_width r d room width total s) (next_width r (leniently d) room width total s)
unfolding next_width
width-same r d alike room width total s =
    same-next (r.width_difference d s) (r.width_difference (leniently d) s) _ _ (same-of (r.width_difference d s) (r.width_difference (leniently d) s) (sym (alike.widths s))) (λ value. same-itself _)

widths-same : {S : Type 0} (r : SymbolReadings S) (d : SymbolInput) → ReadsAlike r d → (room width total : ℕ) (s : S) → Same (widths_from r d room width total s) (widths_from r (leniently d) room width total s)
unfolding widths_from
widths-same r d alike zero width total s = same-next (next_width r d 0 width total s) (next_width r (leniently d) 0 width total s) _ _ (width-same r d alike 0 width total s) (λ end. refl)
widths-same r d alike (suc room) width total s =
    same-next (next_width r d (suc room) width total s) (next_width r (leniently d) (suc room) width total s) _ _ (width-same r d alike (suc room) width total s) (λ next.
    same-option next.0 (Ok ([], next.1)) (λ at. widths_from r d room at.0 at.1 next.1 >>= λ others. Ok (at.0 ∷ others.0, others.1)) (λ at. widths_from r (leniently d) room at.0 at.1 next.1 >>= λ others. Ok (at.0 ∷ others.0, others.1)) (λ at.
    same-next (widths_from r d room at.0 at.1 next.1) (widths_from r (leniently d) room at.0 at.1 next.1) _ _ (widths-same r d alike room at.0 at.1 next.1) (λ others. refl)))

symbols-same : {S : Type 0} (r : SymbolReadings S) (d : SymbolInput) → ReadsAlike r d → (room height width total : ℕ) (new : List Grid) (s : S) → Same (symbols_from r d room height width total new s) (symbols_from r (leniently d) room height width total new s)
unfolding symbols_from
symbols-same r d alike zero height width total new s = same-next (next_width r d 0 width total s) (next_width r (leniently d) 0 width total s) _ _ (width-same r d alike 0 width total s) (λ end. refl)
symbols-same r d alike (suc room) height width total new s =
    same-next (next_width r d (suc room) width total s) (next_width r (leniently d) (suc room) width total s) _ _ (width-same r d alike (suc room) width total s) (λ next.
    same-option next.0 (Ok ([], next.1))
    (λ at. r.symbol_bitmap d new at.0 height next.1 >>= λ symbol. symbols_from r d room height at.0 at.1 (new ++ symbol.0 ∷ []) symbol.1 >>= λ others. Ok (symbol.0 ∷ others.0, others.1))
    (λ at. r.symbol_bitmap (leniently d) new at.0 height next.1 >>= λ symbol. symbols_from r (leniently d) room height at.0 at.1 (new ++ symbol.0 ∷ []) symbol.1 >>= λ others. Ok (symbol.0 ∷ others.0, others.1)) (λ at.
    same-next (r.symbol_bitmap d new at.0 height next.1) (r.symbol_bitmap (leniently d) new at.0 height next.1) _ _ (alike.bitmaps new at.0 height next.1) (λ symbol.
    same-next (symbols_from r d room height at.0 at.1 (new ++ symbol.0 ∷ []) symbol.1) (symbols_from r (leniently d) room height at.0 at.1 (new ++ symbol.0 ∷ []) symbol.1) _ _ (symbols-same r d alike room height at.0 at.1 (new ++ symbol.0 ∷ []) symbol.1) (λ others. refl))))

drawn-same : {S : Type 0} (r : SymbolReadings S) (d : SymbolInput) → ReadsAlike r d → (height empty : ℕ) (new : List Grid) (s : S) → Same (drawn_class r d height empty new s) (drawn_class r (leniently d) height empty new s)
unfolding drawn_class
drawn-same r d alike height empty new s =
    let room : ℕ = d.header.num_new_symbols - length new in
    same-next (symbols_from r d room height 0 0 new s) (symbols_from r (leniently d) room height 0 0 new s) _ _ (symbols-same r d alike room height 0 0 new s) (λ symbols.
    same-then (empty_class (length symbols.0) empty) _ _ (λ few. refl))

-- how the classes are read
record ClassesAlike {S : Type 0} (r : ClassReadings S) (d : SymbolInput) : Type 0 where
  heights : (s : S) → r.height_difference (leniently d) s ≡ r.height_difference d s
  classes : (height empty : ℕ) (new : List Grid) (s : S) → Same (r.class_of_height d height empty new s) (r.class_of_height (leniently d) height empty new s)
  runs : (s : S) → r.export_run (leniently d) s ≡ r.export_run d s

class-same : {S : Type 0} (r : ClassReadings S) (d : SymbolInput) → ClassesAlike r d → (before empty : ℕ) (new : List Grid) (s : S) → Same (height_class r d before empty new s) (height_class r (leniently d) before empty new s)
unfolding height_class
class-same r d alike before empty new s =
    same-next (r.height_difference d s) (r.height_difference (leniently d) s) _ _ (same-of (r.height_difference d s) (r.height_difference (leniently d) s) (sym (alike.heights s))) (λ value.
    same-then (in_band (Symbol errors.UnexpectedOob) value.0) _ _ (λ difference. same-then (size_in_word (pos before +ℤ difference)) _ _ (λ height.
    same-next (r.class_of_height d height empty new value.1) (r.class_of_height (leniently d) height empty new value.1) _ _ (alike.classes height empty new value.1) (λ class. refl))))

classes-same : {S : Type 0} (r : ClassReadings S) (d : SymbolInput) → ClassesAlike r d → (n before empty : ℕ) (new : List Grid) (s : S) → Same (classes_from r d n before empty new s) (classes_from r (leniently d) n before empty new s)
unfolding classes_from
classes-same r d alike zero before empty new s = refl
classes-same r d alike (suc n) before empty new s =
    same-if (nat_le d.header.num_new_symbols (length new)) (Ok ([], s)) (Ok ([], s)) _ _ refl
    (same-next (height_class r d before empty new s) (height_class r (leniently d) before empty new s) _ _ (class-same r d alike before empty new s) (λ class.
    same-next (classes_from r d n class.0 (empty + bit_number (eqb (length class.1) 0)) (new ++ class.1) class.2) (classes_from r (leniently d) n class.0 (empty + bit_number (eqb (length class.1) 0)) (new ++ class.1) class.2) _ _
    (classes-same r d alike n class.0 (empty + bit_number (eqb (length class.1) 0)) (new ++ class.1) class.2) (λ others. refl)))

-- ---- exports
run-same : {S : Type 0} (r : ClassReadings S) (d : SymbolInput) → ClassesAlike r d → (empty left : ℕ) (s : S) → Same (next_run r d empty left s) (next_run r (leniently d) empty left s)
unfolding next_run
run-same r d alike empty left s =
    same-next (r.export_run d s) (r.export_run (leniently d) s) _ _ (same-of (r.export_run d s) (r.export_run (leniently d) s) (sym (alike.runs s))) (λ value. same-itself _)

runs-same : {S : Type 0} (r : ClassReadings S) (d : SymbolInput) → ClassesAlike r d → (n empty left : ℕ) (s : S) → Same (runs_from r d n empty left s) (runs_from r (leniently d) n empty left s)
unfolding runs_from
runs-same r d alike zero empty left s = refl
runs-same r d alike (suc n) empty left s =
    same-if (eqb left 0) (Ok ([], s)) (Ok ([], s)) _ _ refl
    (same-next (next_run r d empty left s) (next_run r (leniently d) empty left s) _ _ (run-same r d alike empty left s) (λ run.
    same-next (runs_from r d n (empty + bit_number (eqb run.0 0)) (left - run.0) run.1) (runs_from r (leniently d) n (empty + bit_number (eqb run.0 0)) (left - run.0) run.1) _ _
    (runs-same r d alike n (empty + bit_number (eqb run.0 0)) (left - run.0) run.1) (λ others. refl)))

exports-same : {S : Type 0} (r : ClassReadings S) (d : SymbolInput) → ClassesAlike r d → (grids : List Grid) (s : S) → Same (exports r d grids s) (exports r (leniently d) grids s)
unfolding exports
exports-same r d alike grids s =
    same-next (export_runs r d (length grids) s) (export_runs r (leniently d) (length grids) s) _ _ (runs-same r d alike (length grids + 1048576) 0 (length grids) s) (λ runs.
    same-then (refuse_if (not (eqb (length (exported_grids runs.0 grids)) d.header.num_exported_symbols)) (Symbol errors.NoSymbols)) _ _ (λ right. refl))

-- ---- dictionaries
dictionary-same : {C : Type 0} (r : ClassReadings (SymbolState C)) (d : SymbolInput) → ClassesAlike r d → (s : SymbolState C) → Same (dictionary_by r d s) (dictionary_by r (leniently d) s)
dictionary-same r d alike s =
    same-next (symbols_exported r d s) (symbols_exported r (leniently d) s) _ _
    (same-next (new_symbols r d s) (new_symbols r (leniently d) s) _ _ (classes-same r d alike (d.header.num_new_symbols + 1048576) 0 0 [] s) (λ new. exports-same r d alike (d.symbols ++ new.0) new.1))
    (λ out. refl)

by-coder-alike : (d : SymbolInput) → ClassesAlike classes_by_coder d
by-coder-alike d = record {
  heights = λ s. refl;
  classes = drawn-same symbols_by_coder d (record { widths = λ s. refl; bitmaps = coded-bitmap-same d });
  runs = λ s. refl;
}

by-prefix-codes : (d : SymbolInput) → ReadsAlike symbols_by_prefix_codes d
by-prefix-codes d = record { widths = λ s. refl; bitmaps = prefixed-aggregate-same d }

collective-class-same : (d : SymbolInput) (height empty : ℕ) (new : List Grid) (s : SymbolState Place) → Same (collective_class d height empty new s) (collective_class (leniently d) height empty new s)
unfolding collective_class
collective-class-same d height empty new s =
    let room : ℕ = d.header.num_new_symbols - length new in
    same-next (widths_from symbols_by_prefix_codes d room 0 0 s) (widths_from symbols_by_prefix_codes (leniently d) room 0 0 s) _ _ (widths-same symbols_by_prefix_codes d (by-prefix-codes d) room 0 0 s) (λ widths.
    same-then (empty_class (length widths.0) empty) _ _ (λ few.
    same-next (collective_bitmap d (sum widths.0) height widths.1) (collective_bitmap (leniently d) (sum widths.0) height widths.1) _ _ (collective-same d (sum widths.0) height widths.1) (λ collective.
    same-then (symbols_cut collective.0 height 0 widths.0) _ _ (λ symbols. refl))))

by-prefix-codes-alike : (d : SymbolInput) → ClassesAlike classes_by_prefix_codes d
by-prefix-codes-alike d = record {
  heights = λ s. refl;
  classes = λ height empty new s.
      same-if d.header.flags.use_refagg (drawn_class symbols_by_prefix_codes d height empty new s) (drawn_class symbols_by_prefix_codes (leniently d) height empty new s) (collective_class d height empty new s) (collective_class (leniently d) height empty new s)
      (drawn-same symbols_by_prefix_codes d (by-prefix-codes d) height empty new s) (collective-class-same d height empty new s);
  runs = λ s. refl;
}

from-same : (d : SymbolInput) (contexts : BitmapContexts) → Same (dictionary_from d contexts) (dictionary_from (leniently d) contexts)
from-same d contexts =
    same-if d.header.flags.use_huffman _ _ _ _
    (dictionary-same classes_by_prefix_codes d (by-prefix-codes-alike d) (prefix_codes_start d contexts))
    (dictionary-same classes_by_coder d (by-coder-alike d) (coder_start d contexts))

pub symbols-decoded-same : (h : SymbolHeader) (symbols : List Grid) (referred : List (List Member)) (kept : Option BitmapContexts) → Same (symbols_decoded h symbols referred kept) (symbols_decoded (lenient_symbols h) symbols referred kept)
unfolding symbols_decoded
symbols-decoded-same h symbols referred kept =
    same-then (first_contexts h.flags kept) _ _ (λ contexts. same-then (symbol_tables h.flags referred) _ _ (λ tables. same-then (id_codes h (length symbols)) _ _ (λ ids.
    from-same (record { header = h; symbols = symbols; tables = tables; ids = ids }) contexts)))
