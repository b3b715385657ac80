-- Why the coded data of a symbol dictionary is refused.
use Rattle.std.proofs.Common.{◌≡◌, ◌⊎◌, inl, inr, ℕ, zero, suc, ◌+◌, leb, Bool, true, false, ◌&&◌, if◌then◌else◌, List, [], ◌∷◌, ◌++◌, length, Option, Some, None, ℤ, pos, Result, Ok, Err, refl, sym, ◌∙◌, ap, subst}
use Rattle.std.specs.Prelude.{◌+ℤ◌, ◌<◌}
use Rattle.std.proofs.lemmas.Bool.{leb-false}
use Rattle.jbig2_base.specs.Results.{◌>>=◌}
use Rattle.jbig2_base.specs.Bits.{Place}
use Rattle.jbig2_base.specs.Grid.{Grid}
use Rattle.jbig2_base.specs.Causes.{After}
use Rattle.jbig2_base.specs.declared.error.DecodeError.{DecodeError}
use Rattle.jbig2_base.specs.declared.error.DecodeError.TheVariants.{Symbol}
use Rattle.jbig2_base.specs.declared.error.SymbolError.TheVariants.{UnexpectedOob}
use Rattle.jbig2_coder.specs.PrefixCode.{Member}
use Rattle.jbig2_region.proofs.ResultCauses.{IfResult}
use Rattle.jbig2_text.specs.TextCoding.{CodedState}
use Rattle.jbig2_coder.specs.Integers.{in_band}
use Rattle.jbig2_symbol.specs.Causes.{BreaksContexts, BreaksIdCodes, BreaksTables}
use Rattle.jbig2_symbol.specs.ClassCauses.{BreaksExports, ClassCauses, ClassesHaveCauses, Where, coded_class_causes, prefixed_class_causes}
use Rattle.jbig2_symbol.specs.HeightClasses.{new_symbols, size_in_word}
use Rattle.jbig2_symbol.specs.SymbolBitmaps.{id_codes}
use Rattle.jbig2_symbol.specs.SymbolCoding.{classes_by_coder, classes_by_prefix_codes, coder_start, prefix_codes_start}
use Rattle.jbig2_symbol.specs.SymbolHeader.{SymbolHeader}
use Rattle.jbig2_symbol.specs.SymbolReading.{BitmapContexts, ClassReadings, SymbolInput, SymbolState, first_contexts, symbol_tables}
use Rattle.jbig2_symbol.specs.Symbols.{dictionary_by, dictionary_from, exports, symbols_decoded, symbols_exported}
use Rattle.jbig2_symbol.proofs.CodingCauses.{coded_classes_have_causes, prefixed_classes_have_causes}
use Rattle.jbig2_symbol.proofs.IdCodes.{id_codes_cause}
use Rattle.jbig2_symbol.proofs.ReadingCauses.{contexts_cause, exports_cause, result-size, symbol_tables_cause}
use Rattle.jbig2_second_forms.specs.SymbolClasses.{HeightClass, all_classes, class_after, classes_after, empty_in, height_of_last, symbols_of}
use Rattle.jbig2_second_forms.proofs.SymbolClasses.{symbols-are}
use Rattle.jbig2_base.proofs.ErrorSteps.{OrMemory, Refused, if-refused, itself, itself_or_memory, more, refused-by, refused-or, step, with-memory}
use Rattle.jbig2_page_laws.specs.SymbolErrors.{BreaksClass, BreaksSymbolData, BreaksSymbols, BreaksSymbolsFrom}

-- what comes after a number whose size is known
sized-next : {B : Type 0} (P : DecodeError → Type 0) (Q : ℕ → Type 0) (r : Result ℕ DecodeError) (next : ℕ → Result B DecodeError) → IfResult r (OrMemory P) Q → ((n : ℕ) → Q n → Refused (next n) P) → Refused (r >>= next) P
sized-next P Q (Ok n) next is rest = rest n is
sized-next P Q (Err e) next is rest = is

module _ {S : Type 0} (c : ClassCauses S) (r : ClassReadings S) (law : ClassesHaveCauses r c) (d : SymbolInput) where
  -- the size of a class and its symbols, after its difference
  class-on : (classes : List HeightClass) (s : S) (v : Option ℤ × S) → r.height_difference d s ≡ Ok v → (value : Option ℤ) → v.0 ≡ value
      → Refused (in_band (Symbol UnexpectedOob) value >>= λ difference. size_in_word (pos (height_of_last 0 classes) +ℤ difference) >>= λ height.
      r.class_of_height d height (empty_in classes) (symbols_of classes) v.1 >>= λ symbols. (let x : Result (HeightClass × S) DecodeError = Ok (record { height = height; symbols = symbols.0 }, symbols.1) in x)) (BreaksClass c r d classes s)
  class-on classes s v is None same = inr (inr (v, is, inl (refl, same)))
  class-on classes s v is (Some difference) same =
      let P : DecodeError → Type 0 = BreaksClass c r d classes s in
      let size : ℤ = pos (height_of_last 0 classes) +ℤ difference in
      sized-next P (λ (n : ℕ). size ≡ pos n) (size_in_word size) _ (result-size (OrMemory P) size (λ no. inr (inr (v, is, inr (difference, same, inl (refl, no))))))
      (λ height height_is. step (c.class_of_height d height (empty_in classes) (symbols_of classes) v.1) P (r.class_of_height d height (empty_in classes) (symbols_of classes) v.1) _
      (with-memory _ (r.class_of_height d height (empty_in classes) (symbols_of classes) v.1) (law.class_of_height d height (empty_in classes) (symbols_of classes) v.1)) (λ e no. inr (v, is, inr (difference, same, inr (height, height_is, no)))) (λ symbols symbols_is. tt))

  a-class : (classes : List HeightClass) (s : S) → Refused (class_after r d classes s) (BreaksClass c r d classes s)
  unfolding class_after
  a-class classes s =
      step (c.height_difference d s) (BreaksClass c r d classes s) (r.height_difference d s) _ (with-memory _ (r.height_difference d s) (law.height_difference d s)) (λ e no. inl no) (λ v v_is. class-on classes s v v_is v.0 refl)

  abbrev SomeClass : List HeightClass → S → DecodeError → Type 0
  SomeClass classes s e = (k : ℕ) × After (classes_after r d k classes s) (λ x. (length (symbols_of x.0) < d.header.num_new_symbols) × BreaksClass c r d x.0 x.1 e)

  some-first : (classes : List HeightClass) (s : S) (e : DecodeError) → leb d.header.num_new_symbols (length (symbols_of classes)) ≡ false → BreaksClass c r d classes s e → SomeClass classes s e
  unfolding classes_after
  some-first classes s e few broken = (0, ((classes, s), refl, (leb-false d.header.num_new_symbols (length (symbols_of classes)) few, broken)))

  some-later : (classes : List HeightClass) (s : S) (x : HeightClass × S) (e : DecodeError) → leb d.header.num_new_symbols (length (symbols_of classes)) ≡ false → class_after r d classes s ≡ Ok x → SomeClass (classes ++ x.0 ∷ []) x.1 e → SomeClass classes s e
  unfolding classes_after
  some-later classes s x e few is later =
      let next : HeightClass × S → Result (List HeightClass × S) DecodeError = λ y. classes_after r d later.0 (classes ++ y.0 ∷ []) y.1 in
      let same : classes_after r d (suc later.0) classes s ≡ classes_after r d later.0 (classes ++ x.0 ∷ []) x.1 =
      ap (λ (b : Bool). if b then Ok (classes, s) else (class_after r d classes s >>= next)) few ∙ ap (λ (z : Result (HeightClass × S) DecodeError). z >>= next) is in
      (suc later.0, (later.1.0, same ∙ later.1.1, later.1.2))

  some-class : (n : ℕ) (classes : List HeightClass) (s : S) → Refused (classes_after r d n classes s) (SomeClass classes s)
  unfolding classes_after
  some-class zero classes s = tt
  some-class (suc n) classes s =
      let P : DecodeError → Type 0 = SomeClass classes s in
      if-refused P (leb d.header.num_new_symbols (length (symbols_of classes))) (Ok (classes, s)) _ (λ enough. tt) (λ few.
      step (BreaksClass c r d classes s) P (class_after r d classes s) _ (a-class classes s) (λ e no. some-first classes s e few no) (λ x x_is.
      more (SomeClass (classes ++ x.0 ∷ []) x.1) P (classes_after r d n (classes ++ x.0 ∷ []) x.1) (some-class n (classes ++ x.0 ∷ []) x.1) (λ e no. some-later classes s x e few x_is no)))

  the-new : (s : S) → Refused (new_symbols r d s) (SomeClass [] s)
  the-new s =
      let classes = all_classes r d s in
      subst (λ (x : Result (List Grid × S) DecodeError). Refused x (SomeClass [] s)) (sym (symbols-are r d s))
      (step (SomeClass [] s) (SomeClass [] s) classes _ (some-class (d.header.num_new_symbols + 1048576) [] s) (λ e no. no) (λ x is. tt))

  pub the-data : (s : S) → Refused (symbols_exported r d s) (BreaksSymbolData c r d s)
  the-data s =
      let P : DecodeError → Type 0 = BreaksSymbolData c r d s in
      step (SomeClass [] s) P (new_symbols r d s) _ (the-new s) (λ e no. inl no) (λ x x_is.
      let all = exports r d (d.symbols ++ x.0) x.1 in
      let E : DecodeError → Type 0 = BreaksExports c r d (d.symbols ++ x.0) x.1 in
      more E P all (refused-or E all (exports_cause c r law d (d.symbols ++ x.0) x.1 all (itself_or_memory all))) (λ e no. inr (x, x_is, no)))

-- ---- the dictionary
by-coding : (d : SymbolInput) (contexts : BitmapContexts) → Refused (dictionary_from d contexts) (BreaksSymbolsFrom d contexts)
by-coding d contexts = by d.header.flags.use_huffman
  where
    coded : SymbolState CodedState
    coded = coder_start d contexts

    prefixed : SymbolState Place
    prefixed = prefix_codes_start d contexts

    by : (huffman : Bool) → Refused (if huffman then dictionary_by classes_by_prefix_codes d prefixed else dictionary_by classes_by_coder d coded)
        (λ e. Where huffman (BreaksSymbolData prefixed_class_causes classes_by_prefix_codes d prefixed e) (BreaksSymbolData coded_class_causes classes_by_coder d coded e))
    by true =
        let P : DecodeError → Type 0 = BreaksSymbolData prefixed_class_causes classes_by_prefix_codes d prefixed in
        step P P (symbols_exported classes_by_prefix_codes d prefixed) _ (the-data prefixed_class_causes classes_by_prefix_codes prefixed_classes_have_causes d prefixed) (λ e no. no) (λ x is. tt)
    by false =
        let P : DecodeError → Type 0 = BreaksSymbolData coded_class_causes classes_by_coder d coded in
        step P P (symbols_exported classes_by_coder d coded) _ (the-data coded_class_causes classes_by_coder coded_classes_have_causes d coded) (λ e no. no) (λ x is. tt)

pub dictionary : (h : SymbolHeader) (symbols : List Grid) (customs : List (List Member)) (kept : Option BitmapContexts) → Refused (symbols_decoded h symbols customs kept) (BreaksSymbols h symbols customs kept)
unfolding symbols_decoded
dictionary h symbols customs kept =
    let P : DecodeError → Type 0 = BreaksSymbols h symbols customs kept in
    let contexts = first_contexts h.flags kept in
    let tables = symbol_tables h.flags customs in
    let ids = id_codes h (length symbols) in
    step (BreaksContexts h.flags kept) P contexts _ (refused-or (BreaksContexts h.flags kept) contexts (contexts_cause h.flags kept contexts (itself_or_memory contexts))) (λ e no. inl no) (λ c c_is.
    step (BreaksTables h.flags customs) P tables _ (refused-by (BreaksTables h.flags customs) tables (symbol_tables_cause h.flags customs tables (itself tables))) (λ e no. inr (inl no)) (λ t t_is.
    let None : DecodeError → Type 0 = BreaksIdCodes h (length symbols) in
    step None P ids _ (refused-or None ids (id_codes_cause h (length symbols) ids (itself_or_memory ids))) (λ e never. absurd never) (λ i i_is.
    let d : SymbolInput = record { header = h; symbols = symbols; tables = t; ids = i } in
    more (BreaksSymbolsFrom d c) P (dictionary_from d c) (by-coding d c) (λ e no. inr (inr (c, c_is, (t, t_is, (i, i_is, no))))))))
