-- Which rule is broken where a symbol or a class of a dictionary is refused, in each coding.
use Rattle.std.proofs.Common.{◌≡◌, ◌⊎◌, inl, inr, ℕ, zero, suc, ◌+◌, ◌-◌, Bool, true, false, if◌then◌else◌, List, [], ◌∷◌, ◌++◌, length, sum, Option, Some, None, Result, Ok, Err, refl, subst, arith}
use Rattle.std.specs.Prelude.{Any, IfErr}
use Rattle.jbig2_base.specs.Results.{◌>>=◌}
use Rattle.jbig2_base.specs.Bits.{Place}
use Rattle.jbig2_base.specs.Causes.{BreaksSides}
use Rattle.jbig2_base.specs.Grid.{Grid}
use Rattle.jbig2_base.specs.declared.error.DecodeError.{DecodeError}
use Rattle.jbig2_base.proofs.Causes.{cause-next}
use Rattle.jbig2_region.proofs.ResultCauses.{cause-more}
use Rattle.jbig2_text.specs.TextCoding.{CodedState}
use Rattle.jbig2_symbol.specs.Causes.{BreaksCodedAggregate, BreaksCollectiveBitmap}
use Rattle.jbig2_symbol.specs.ClassCauses.{BreaksCollectiveClass, BreaksDrawnClass, BreaksNextWidth, BreaksSymbolAfter, BreaksWidthAfter, ClassesHaveCauses, CodingsHaveCauses, SymbolCauses, SymbolsHaveCauses, Where, coded_class_causes, coded_symbol_causes, prefixed_class_causes, prefixed_symbol_causes, BreaksEmptyClass}
use Rattle.jbig2_symbol.specs.HeightClasses.{drawn_class, empty_class, next_width, symbols_from, widths_from}
use Rattle.jbig2_symbol.specs.SymbolBitmaps.{coded_aggregate, coded_symbol, collective_bitmap, fits_symbol, symbol_cut, symbols_cut}
use Rattle.jbig2_symbol.specs.SymbolCoding.{classes_by_coder, classes_by_prefix_codes, coded_bitmap, collective_class, symbols_by_coder, symbols_by_prefix_codes}
use Rattle.jbig2_symbol.specs.SymbolReading.{SymbolInput, SymbolReadings, SymbolState}
use Rattle.jbig2_symbol.proofs.ClassCauses.{collective_causes, no-symbols}
use Rattle.jbig2_symbol.proofs.ReadingCauses.{by-table, widths_causes}
use Rattle.jbig2_symbol.proofs.SymbolCauses.{coded_aggregate_causes, prefixed_aggregate_causes, sides-cause}

-- a step, and what comes after it
step : {A B : Type 0} (P Q : DecodeError → Type 0) (r : Result A DecodeError) (next : A → Result B DecodeError)
    → IfErr r P → ((e : DecodeError) → P e → Q e) → ((x : A) → r ≡ Ok x → IfErr (next x) Q) → IfErr (r >>= next) Q
step P Q r next is why rest = cause-next Q r next (cause-more P Q r is why) rest

-- ---- the symbols of a class
module _ {S : Type 0} (c : SymbolCauses S) (r : SymbolReadings S) (law : SymbolsHaveCauses r c) (d : SymbolInput) where
  one-less : (room : ℕ) (P : ℕ → Type 0) → P room → P (suc room - 1)
  one-less room P is = let e : room ≡ suc room - 1 = omega arith in subst P e is

  abbrev Widths : ℕ → ℕ → ℕ → S → DecodeError → Type 0
  Widths room width total s e = (k : ℕ) × BreaksWidthAfter c r d k room width total s e

  the-widths : (room width total : ℕ) (s : S) → IfErr (widths_from r d room width total s) (Widths room width total s)
  unfolding widths_from
  the-widths zero width total s = step (BreaksNextWidth c r d 0 width total s) (Widths 0 width total s) (next_width r d 0 width total s) _ (widths_causes c r law d 0 width total s) (λ e no. (0, no)) (λ x is. tt)
  the-widths (suc room) width total s =
      step (BreaksNextWidth c r d (suc room) width total s) (Widths (suc room) width total s) (next_width r d (suc room) width total s) _ (widths_causes c r law d (suc room) width total s) (λ e no. (0, no)) (λ x x_is.
      on x x_is x.0 refl (λ symwidth totwidth. the-widths room symwidth totwidth x.1))
    where
      on : (x : Option (ℕ × ℕ) × S) → next_width r d (suc room) width total s ≡ Ok x → (next : Option (ℕ × ℕ)) → x.0 ≡ next
          → ((symwidth totwidth : ℕ) → IfErr (widths_from r d room symwidth totwidth x.1) (Widths room symwidth totwidth x.1))
          → IfErr (elim next [ None ↦ (let r : Result (List ℕ × S) DecodeError = Ok ([], x.1) in r) | Some (symwidth, totwidth) ↦ widths_from r d room symwidth totwidth x.1 >>= λ others. Ok (symwidth ∷ others.0, others.1) ]) (Widths (suc room) width total s)
      on x x_is None same others = tt
      on x x_is (Some w) same others =
          step (Widths room w.0 w.1 x.1) (Widths (suc room) width total s) (widths_from r d room w.0 w.1 x.1) _ (others w.0 w.1)
          (λ e no. (suc no.0, (x, x_is, (w.0, w.1, same, one-less room (λ n. BreaksWidthAfter c r d no.0 n w.0 w.1 x.1 e) no.1)))) (λ y y_is. tt)

  abbrev SomeSymbol : ℕ → ℕ → ℕ → ℕ → List Grid → S → DecodeError → Type 0
  SomeSymbol room height width total new s e = (k : ℕ) × BreaksSymbolAfter c r d k room height width total new s e

  the-symbols : (room height width total : ℕ) (new : List Grid) (s : S) → IfErr (symbols_from r d room height width total new s) (SomeSymbol room height width total new s)
  unfolding symbols_from
  the-symbols zero height width total new s = step (BreaksNextWidth c r d 0 width total s) (SomeSymbol 0 height width total new s) (next_width r d 0 width total s) _ (widths_causes c r law d 0 width total s) (λ e no. (0, inl no)) (λ x is. tt)
  the-symbols (suc room) height width total new s =
      step (BreaksNextWidth c r d (suc room) width total s) (SomeSymbol (suc room) height width total new s) (next_width r d (suc room) width total s) _ (widths_causes c r law d (suc room) width total s) (λ e no. (0, inl no)) (λ x x_is.
      on x x_is x.0 refl (λ symwidth totwidth symbol after. the-symbols room height symwidth totwidth (new ++ symbol ∷ []) after))
    where
      on : (x : Option (ℕ × ℕ) × S) → next_width r d (suc room) width total s ≡ Ok x → (next : Option (ℕ × ℕ)) → x.0 ≡ next
          → ((symwidth totwidth : ℕ) (symbol : Grid) (after : S) → IfErr (symbols_from r d room height symwidth totwidth (new ++ symbol ∷ []) after) (SomeSymbol room height symwidth totwidth (new ++ symbol ∷ []) after))
          → IfErr (elim next [ None ↦ (let r : Result (List Grid × S) DecodeError = Ok ([], x.1) in r) | Some (symwidth, totwidth) ↦ r.symbol_bitmap d new symwidth height x.1 >>= λ symbol. symbols_from r d room height symwidth totwidth (new ++ symbol.0 ∷ []) symbol.1 >>= λ others. Ok (symbol.0 ∷ others.0, others.1) ]) (SomeSymbol (suc room) height width total new s)
      on x x_is None same others = tt
      on x x_is (Some w) same others =
          let P : DecodeError → Type 0 = SomeSymbol (suc room) height width total new s in
          step (c.symbol_bitmap d new w.0 height x.1) P (r.symbol_bitmap d new w.0 height x.1) _ (law.symbol_bitmap d new w.0 height x.1) (λ e no. (0, inr (x, x_is, (w.0, w.1, same, no)))) (λ g g_is.
          let grown : List Grid = new ++ g.0 ∷ [] in
          step (SomeSymbol room height w.0 w.1 grown g.1) P (symbols_from r d room height w.0 w.1 grown g.1) _ (others w.0 w.1 g.0 g.1)
          (λ e no. (suc no.0, (x, x_is, (w.0, w.1, same, (g, g_is, one-less room (λ n. BreaksSymbolAfter c r d no.0 n height w.0 w.1 grown g.1 e) no.1))))) (λ y y_is. tt))

  a-drawn-class : (height empty : ℕ) (new : List Grid) (s : S) → IfErr (drawn_class r d height empty new s) (BreaksDrawnClass c r d height empty new s)
  unfolding drawn_class
  a-drawn-class height empty new s =
      let room = d.header.num_new_symbols - length new in
      let P : DecodeError → Type 0 = BreaksDrawnClass c r d height empty new s in
      step (SomeSymbol room height 0 0 new s) P (symbols_from r d room height 0 0 new s) _ (the-symbols room height 0 0 new s) (λ e no. inl no) (λ x x_is.
      step (BreaksEmptyClass (length x.0) empty) P (empty_class (length x.0) empty) _ (no-symbols (length x.0) empty) (λ e no. inr (x, x_is, no)) (λ y y_is. tt))

-- ---- by the arithmetic coder
coded-bitmap : (d : SymbolInput) (new : List Grid) (width height : ℕ) (s : SymbolState CodedState) → IfErr (coded_bitmap d new width height s) (coded_symbol_causes.symbol_bitmap d new width height s)
unfolding coded_bitmap coded_symbol
coded-bitmap d new width height s = by d.header.flags.use_refagg
  where
    by : (aggregates : Bool) → IfErr (if aggregates then coded_aggregate d new width height s else coded_symbol d.header width height s) (λ e. Where aggregates (BreaksCodedAggregate d new width height s e) (BreaksSides width height e))
    by true = coded_aggregate_causes d new width height s
    by false = cause-next (BreaksSides width height) (fits_symbol width height) _ (sides-cause width height) (λ fits is. tt)

pub coded_symbols_have_causes : SymbolsHaveCauses symbols_by_coder coded_symbol_causes
coded_symbols_have_causes = record { width_difference = λ d s. tt; symbol_bitmap = coded-bitmap }

pub coded_classes_have_causes : ClassesHaveCauses classes_by_coder coded_class_causes
coded_classes_have_causes = record {
  height_difference = λ d s. tt;
  class_of_height = λ d height empty new s. a-drawn-class coded_symbol_causes symbols_by_coder coded_symbols_have_causes d height empty new s;
  export_run = λ d s. tt;
}

-- ---- by prefix codes
pub prefixed_symbols_have_causes : SymbolsHaveCauses symbols_by_prefix_codes prefixed_symbol_causes
prefixed_symbols_have_causes = record {
  width_difference = λ d s. by-table d.tables.widths s;
  symbol_bitmap = prefixed_aggregate_causes;
}

abbrev SomeSide : ℕ → List ℕ → DecodeError → Type 0
SomeSide height widths e = Any (λ width. BreaksSides width height e) widths

first-side : (height width : ℕ) (widths : List ℕ) (e : DecodeError) → BreaksSides width height e → SomeSide height (width ∷ widths) e
first-side height width widths e is = (0, width, omega arith, refl, is)

later-side : (height width : ℕ) (widths : List ℕ) (e : DecodeError) → SomeSide height widths e → SomeSide height (width ∷ widths) e
later-side height width widths e some = (suc some.0, some.1, omega (arith, some.2), some.3, some.4)

cuts : (g : Grid) (height from : ℕ) (widths : List ℕ) → IfErr (symbols_cut g height from widths) (SomeSide height widths)
unfolding symbols_cut symbol_cut
cuts g height from [] = tt
cuts g height from (width ∷ widths) =
    let P : DecodeError → Type 0 = SomeSide height (width ∷ widths) in
    step (BreaksSides width height) P (symbol_cut g from width height) _ (cause-next (BreaksSides width height) (fits_symbol width height) _ (sides-cause width height) (λ x is. tt))
    (λ e no. first-side height width widths e no) (λ symbol is.
    step (SomeSide height widths) P (symbols_cut g height (from + width) widths) _ (cuts g height (from + width) widths) (λ e no. later-side height width widths e no) (λ others is. tt))

a-collective-class : (d : SymbolInput) (height empty : ℕ) (new : List Grid) (s : SymbolState Place) → IfErr (collective_class d height empty new s) (BreaksCollectiveClass d height empty new s)
unfolding collective_class
a-collective-class d height empty new s =
    let c = prefixed_symbol_causes in
    let r = symbols_by_prefix_codes in
    let room = d.header.num_new_symbols - length new in
    let P : DecodeError → Type 0 = BreaksCollectiveClass d height empty new s in
    step (Widths c r prefixed_symbols_have_causes d room 0 0 s) P (widths_from r d room 0 0 s) _ (the-widths c r prefixed_symbols_have_causes d room 0 0 s) (λ e no. inl no) (λ x x_is.
    step (BreaksEmptyClass (length x.0) empty) P (empty_class (length x.0) empty) _ (no-symbols (length x.0) empty) (λ e no. inr (x, x_is, inl no)) (λ few few_is.
    step (BreaksCollectiveBitmap d (sum x.0) height x.1) P (collective_bitmap d (sum x.0) height x.1) _ (collective_causes d (sum x.0) height x.1) (λ e no. inr (x, x_is, inr (inl no))) (λ g g_is.
    step (SomeSide height x.0) P (symbols_cut g.0 height 0 x.0) _ (cuts g.0 height 0 x.0) (λ e no. inr (x, x_is, inr (inr no))) (λ symbols is. tt))))

prefixed-class : (d : SymbolInput) (height empty : ℕ) (new : List Grid) (s : SymbolState Place) → IfErr (classes_by_prefix_codes.class_of_height d height empty new s) (prefixed_class_causes.class_of_height d height empty new s)
prefixed-class d height empty new s = by d.header.flags.use_refagg
  where
    by : (drawn : Bool) → IfErr (if drawn then drawn_class symbols_by_prefix_codes d height empty new s else collective_class d height empty new s)
        (λ e. Where drawn (BreaksDrawnClass prefixed_symbol_causes symbols_by_prefix_codes d height empty new s e) (BreaksCollectiveClass d height empty new s e))
    by true = a-drawn-class prefixed_symbol_causes symbols_by_prefix_codes prefixed_symbols_have_causes d height empty new s
    by false = a-collective-class d height empty new s

pub prefixed_classes_have_causes : ClassesHaveCauses classes_by_prefix_codes prefixed_class_causes
prefixed_classes_have_causes = record {
  height_difference = λ d s. by-table d.tables.heights s;
  class_of_height = prefixed-class;
  export_run = λ d s. by-table d.tables.runs s;
}

pub codings_have_causes : CodingsHaveCauses
codings_have_causes = record {
  coded_symbols = coded_symbols_have_causes;
  coded_classes = coded_classes_have_causes;
  prefixed_symbols = prefixed_symbols_have_causes;
  prefixed_classes = prefixed_classes_have_causes;
}
