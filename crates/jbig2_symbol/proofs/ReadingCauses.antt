-- Which rule is broken where the tables, the contexts, the exports or a number of a symbol dictionary are refused.
use Rattle.std.proofs.Common.{◌≡◌, ◌≢◌, ◌⊎◌, inl, inr, ℕ, zero, suc, ◌+◌, ◌-◌, ◌<◌, ◌==◌, nat_le, nat_lt, Bool, true, false, not, ◌&&◌, List, [], ◌∷◌, length, Option, Some, None, Result, Ok, Err, ℤ, pos, negsuc, ◌+ℤ◌, refl, sym, ap, subst, ◌∙◌, arith}
use Rattle.std.proofs.lemmas.Bool.{and_cases, and_parts, eq-eqb, eqb-true, false≢true, leb-true, ltb-false, not-false, not-true}
use Rattle.std.proofs.lemmas.Bool as tests
use Rattle.std.specs.Prelude.{IfErr}
use Rattle.jbig2_base.specs.Results.{◌>>=◌, refuse_if}
use Rattle.jbig2_base.specs.Grid.{Grid}
use Rattle.jbig2_base.specs.Bits.{Place, bits_left, bit_number}
use Rattle.jbig2_base.specs.Causes.{After, HasCause, HasCauseOrNoMemory}
use Rattle.jbig2_base.proofs.CauseSteps.{call-cause, call-cause-or-memory}
use Rattle.jbig2_base.specs.declared.error.DecodeError.{DecodeError}
use Rattle.jbig2_base.specs.declared.error.DecodeError.TheVariants as errors
use Rattle.jbig2_base.specs.declared.error.HuffmanError.TheVariants as huffman
use Rattle.jbig2_base.specs.declared.error.OverflowError.TheVariants.{BitmapDimension}
use Rattle.jbig2_base.specs.declared.error.SymbolError.TheVariants as symbols
use Rattle.jbig2_base.proofs.Causes.{cause-next, cause-refused}
use Rattle.jbig2_coder.specs.PrefixCode.{Member, decoded_value}
use Rattle.jbig2_coder.specs.Causes.{BreaksValueAt}
use Rattle.jbig2_text.proofs.Causes.{no-value}
use Rattle.jbig2_coder.specs.Integers.{in_band}
use Rattle.jbig2_symbol.specs.SymbolBitmaps.{instance_count, some_instances}
use Rattle.jbig2_symbol.specs.Causes.{BreaksContexts, BreaksCount, BreaksTables, custom_count}
use Rattle.jbig2_symbol.specs.ClassCauses.{BreaksExports, BreaksNextWidth, BreaksRunAfter, BreaksRunValue, BreaksWidthBy, ClassCauses, ClassesHaveCauses, IsNoSize, SymbolCauses, SymbolsHaveCauses}
use Rattle.jbig2_symbol.specs.Symbols.{export_runs, exported_grids, exports, next_run, runs_from}
use Rattle.jbig2_symbol.specs.HeightClasses.{next_width, size_in_word, width_by}
use Rattle.jbig2_symbol.specs.SymbolReading.{BitmapContexts, ClassReadings, SymbolInput, SymbolReadings, SymbolState, by_table, first_contexts, is_refinement_template, is_template, not_negative, symbol_tables, table_for}
use Rattle.jbig2_symbol.specs.declared.header.HuffmanTableSelection.{HuffmanTableSelection}
use Rattle.jbig2_symbol.specs.declared.header.HuffmanTableSelection.TheVariants.{TableB1, TableB2, TableB3, TableB4, TableB5, UserSupplied}
use Rattle.jbig2_region.proofs.ResultCauses.{IfResult, cause-if, cause-last, cause-more, result-if, result-refused}
use Rattle.jbig2_symbol.specs.declared.header.SymbolDictionaryFlags.{SymbolDictionaryFlags}

-- ---- steps
pub or-after : {A B : Type 0} (r : Result A DecodeError) (next : A → Result B DecodeError) (F : DecodeError → Type 0) (N : A → DecodeError → Type 0)
    → IfErr r F → ((x : A) → r ≡ Ok x → IfErr (next x) (N x)) → IfErr (r >>= next) (λ e. F e ⊎ After r (λ x. N x e))
or-after (Ok x) next F N first rest = cause-more (N x) (λ e. F e ⊎ After (Ok x) (λ y. N y e)) (next x) (rest x refl) (λ e why. inr (x, refl, why))
or-after (Err e) next F N first rest = inl first

pub cause-by : {A : Type 0} (r : Result A DecodeError) (P Q : DecodeError → Type 0) → IfErr r P → ((e : DecodeError) → r ≡ Err e → P e → Q e) → IfErr r Q
cause-by (Ok x) P Q is why = tt
cause-by (Err e) P Q is why = why e refl is

differ : (m n : ℕ) → not (m == n) ≡ true → m ≢ n
differ m n apart same = false≢true (sym (not-true (m == n) apart) ∙ eq-eqb m n same)

-- ---- tables
abbrev Left : ℕ → List (List Member) → List Member × List (List Member) → Type 0
Left taken customs x = length customs ≡ taken + length x.1

result-table : (P : DecodeError → Type 0) (selection : HuffmanTableSelection) (customs : List (List Member)) → (length customs < custom_count selection → P (errors.Huffman huffman.MissingTables)) → IfResult (table_for selection customs) P (Left (custom_count selection) customs)
unfolding table_for
result-table P TableB1 customs why = omega arith
result-table P TableB2 customs why = omega arith
result-table P TableB3 customs why = omega arith
result-table P TableB4 customs why = omega arith
result-table P TableB5 customs why = omega arith
result-table P UserSupplied [] why = why (omega arith)
result-table P UserSupplied (table ∷ others) why = omega arith

symbol_tables_causes : (flags : SymbolDictionaryFlags) (customs : List (List Member)) → IfErr (symbol_tables flags customs) (BreaksTables flags customs)
unfolding symbol_tables
symbol_tables_causes flags customs =
    let P : DecodeError → Type 0 = BreaksTables flags customs in
    let h = custom_count flags.delta_height_table in
    let w = custom_count flags.delta_width_table in
    let c = custom_count flags.collective_bitmap_size_table in
    let a = custom_count flags.aggregate_instance_table in
    cause-last P (Left h customs) (table_for flags.delta_height_table customs) _ (result-table P flags.delta_height_table customs (λ few. omega (arith, few))) (λ heights one.
    cause-last P (Left w heights.1) (table_for flags.delta_width_table heights.1) _ (result-table P flags.delta_width_table heights.1 (λ few. omega (arith, few, one))) (λ widths two.
    cause-last P (Left c widths.1) (table_for flags.collective_bitmap_size_table widths.1) _ (result-table P flags.collective_bitmap_size_table widths.1 (λ few. omega (arith, few, one, two))) (λ sizes three.
    cause-last P (Left a sizes.1) (table_for flags.aggregate_instance_table sizes.1) _ (result-table P flags.aggregate_instance_table sizes.1 (λ few. omega (arith, few, one, two, three))) (λ counts four. tt))))

pub symbol_tables_cause : {X : Type 0} (flags : SymbolDictionaryFlags) (customs : List (List Member)) (r : Result X DecodeError) → IfErr r (λ e. symbol_tables flags customs ≡ Err e) → HasCause r (BreaksTables flags customs)
symbol_tables_cause flags customs r = call-cause (BreaksTables flags customs) (symbol_tables flags customs) r (symbol_tables_causes flags customs)

-- ---- contexts
contexts_causes : (flags : SymbolDictionaryFlags) (kept : Option BitmapContexts) → IfErr (first_contexts flags kept) (BreaksContexts flags kept)
unfolding first_contexts
contexts_causes flags None =
    cause-if (BreaksContexts flags None) (not flags.bitmap_context_used) _ _ (λ fresh. tt) (λ used. not-false flags.bitmap_context_used used)
contexts_causes flags (Some contexts) =
    let P : DecodeError → Type 0 = BreaksContexts flags (Some contexts) in
    let generic : Bool = is_template contexts.template flags.template in
    let refined : Bool = is_refinement_template contexts.refinement_template flags.refinement_template in
    let other : Bool = not (generic && refined) in
    cause-if P (not flags.bitmap_context_used) _ (refuse_if other (errors.Symbol symbols.Invalid) >>= λ same. Ok contexts) (λ fresh. tt) (λ used.
    cause-next P (refuse_if other (errors.Symbol symbols.Invalid)) _ (cause-refused P other (errors.Symbol symbols.Invalid) (λ is. (not-false flags.bitmap_context_used used, and_cases generic refined (not-true (generic && refined) is)))) (λ same same_is. tt))

pub contexts_cause : {X : Type 0} (flags : SymbolDictionaryFlags) (kept : Option BitmapContexts) (r : Result X DecodeError) → IfErr r (λ e. (e ≡ errors.OutOfMemory) ⊎ (first_contexts flags kept ≡ Err e))
    → HasCauseOrNoMemory r (BreaksContexts flags kept)
contexts_cause flags kept r = call-cause-or-memory (BreaksContexts flags kept) (first_contexts flags kept) r (contexts_causes flags kept)

-- ---- exports
run-of : {S : Type 0} (empty left : ℕ) (value : Option ℤ) (after : S)
    → IfErr (in_band (errors.Huffman huffman.UnexpectedOob) value >>= λ number. not_negative (errors.Huffman huffman.InvalidCode) number >>= λ run. refuse_if (run == 0 && nat_le 1048576 empty) (errors.Symbol symbols.Invalid) >>= λ few. refuse_if (nat_lt left run) (errors.Symbol symbols.OutOfRange) >>= λ within. (let r : Result (ℕ × S) DecodeError = Ok (run, after) in r)) (BreaksRunValue empty left value)
run-of empty left None after = refl
run-of empty left (Some (negsuc n)) after = (n, refl)
run-of empty left (Some (pos run)) after =
    let P : DecodeError → Type 0 = BreaksRunValue empty left (Some (pos run)) in
    let idle : Bool = run == 0 && nat_le 1048576 empty in
    let far : Bool = nat_lt left run in
    cause-next P (refuse_if idle (errors.Symbol symbols.Invalid)) _ (cause-refused P idle (errors.Symbol symbols.Invalid) (λ is.
    let both = and_parts (run == 0) (nat_le 1048576 empty) is in
    (ap (λ (n : ℕ). Some (pos n)) (eqb-true run 0 both.0), leb-true 1048576 empty both.1))) (λ few few_is.
    cause-next P (refuse_if far (errors.Symbol symbols.OutOfRange)) _ (cause-refused P far (errors.Symbol symbols.OutOfRange) (λ is. (run, refl, tests.ltb-true left run is))) (λ within within_is. tt))

module _ {S : Type 0} (c : ClassCauses S) (r : ClassReadings S) (law : ClassesHaveCauses r c) (d : SymbolInput) where
  run-causes : (empty left : ℕ) (s : S) → IfErr (next_run r d empty left s) (BreaksRunAfter c r d 0 empty left s)
  unfolding next_run
  run-causes empty left s =
      or-after (r.export_run d s) _ (c.export_run d s) (λ value. BreaksRunValue empty left value.0) (law.export_run d s) (λ value value_is. run-of empty left value.0 value.1)

  abbrev Runs : ℕ → ℕ → S → DecodeError → Type 0
  Runs empty left s e = (k : ℕ) × BreaksRunAfter c r d k empty left s e

  runs-cause : (n empty left : ℕ) (s : S) → IfErr (runs_from r d n empty left s) (Runs empty left s)
  unfolding runs_from
  runs-cause zero empty left s = tt
  runs-cause (suc n) empty left s =
      let P : DecodeError → Type 0 = Runs empty left s in
      cause-if P (left == 0) _ _ (λ whole. tt) (λ more.
      cause-next P (next_run r d empty left s) _ (cause-more (BreaksRunAfter c r d 0 empty left s) P (next_run r d empty left s) (run-causes empty left s) (λ e broken. (0, broken))) (λ run run_is.
      let others = runs_from r d n (empty + bit_number (run.0 == 0)) (left - run.0) run.1 in
      let Q : DecodeError → Type 0 = Runs (empty + bit_number (run.0 == 0)) (left - run.0) run.1 in
      cause-next P others _ (cause-more Q P others (runs-cause n (empty + bit_number (run.0 == 0)) (left - run.0) run.1) (λ e later. (suc later.0, (run, run_is, later.1)))) (λ all all_is. tt)))

  exports_causes : (grids : List Grid) (s : S) → IfErr (exports r d grids s) (BreaksExports c r d grids s)
  unfolding exports
  exports_causes grids s =
      let count = length grids in
      or-after (export_runs r d count s) _ (Runs 0 count s) (λ runs e. (e ≡ errors.Symbol symbols.NoSymbols) × (length (exported_grids runs.0 grids) ≢ d.header.num_exported_symbols)) (runs-cause (count + 1048576) 0 count s) (λ runs runs_is.
      let P : DecodeError → Type 0 = λ e. (e ≡ errors.Symbol symbols.NoSymbols) × (length (exported_grids runs.0 grids) ≢ d.header.num_exported_symbols) in
      let other : Bool = not (length (exported_grids runs.0 grids) == d.header.num_exported_symbols) in
      cause-next P (refuse_if other (errors.Symbol symbols.NoSymbols)) _ (cause-refused P other (errors.Symbol symbols.NoSymbols) (λ is. (refl, differ (length (exported_grids runs.0 grids)) d.header.num_exported_symbols is))) (λ right right_is. tt))

  pub exports_cause : {X : Type 0} (grids : List Grid) (s : S) (result : Result X DecodeError) → IfErr result (λ e. (e ≡ errors.OutOfMemory) ⊎ (exports r d grids s ≡ Err e))
      → HasCauseOrNoMemory result (BreaksExports c r d grids s)
  exports_cause grids s result = call-cause-or-memory (BreaksExports c r d grids s) (exports r d grids s) result (exports_causes grids s)

-- ---- widths and instances
pub result-size : (P : DecodeError → Type 0) (z : ℤ) → (IsNoSize z → P (errors.Overflow BitmapDimension)) → IfResult (size_in_word z) P (λ n. z ≡ pos n)
result-size P (pos n) why = result-if P (λ (m : ℕ). pos n ≡ pos m) (nat_lt n 4294967296) (Ok n) (Err (errors.Overflow BitmapDimension)) (λ fits. refl) (λ large. why (ltb-false n 4294967296 large))
result-size P (negsuc n) why = why tt

width-cause : (room width total : ℕ) (value : Option ℤ) → IfErr (width_by room width total value) (BreaksWidthBy room width total value)
width-cause room width total None = tt
width-cause room width total (Some difference) =
    let P : DecodeError → Type 0 = BreaksWidthBy room width total (Some difference) in
    let none : Bool = room == 0 in
    let next_width_is = pos width +ℤ difference in
    cause-last P (λ x. none ≡ false) (refuse_if none (errors.Symbol symbols.TooManySymbols)) _ (result-refused P none (errors.Symbol symbols.TooManySymbols) (λ is. inl (refl, eqb-true room 0 is, λ same. absurd (cc)))) (λ missing there.
    cause-last P (λ (n : ℕ). next_width_is ≡ pos n) (size_in_word next_width_is) _ (result-size P next_width_is (λ no. inr (refl, (difference, refl, inl no)))) (λ next is.
    cause-last P (λ (n : ℕ). pos total +ℤ pos next ≡ pos n) (size_in_word (pos total +ℤ pos next)) _ (result-size P (pos total +ℤ pos next) (λ no. inr (refl, (difference, refl, inr (subst (λ (z : ℤ). IsNoSize (pos total +ℤ z)) (sym is) no))))) (λ all all_is. tt)))

pub widths_causes : {S : Type 0} (c : SymbolCauses S) (r : SymbolReadings S) → SymbolsHaveCauses r c → (d : SymbolInput) (room width total : ℕ) (s : S)
    → IfErr (next_width r d room width total s) (BreaksNextWidth c r d room width total s)
unfolding next_width
widths_causes c r law d room width total s =
    or-after (r.width_difference d s) _ (c.width_difference d s) (λ value. BreaksWidthBy room width total value.0) (law.width_difference d s) (λ value value_is.
    cause-next (BreaksWidthBy room width total value.0) (width_by room width total value.0) _ (width-cause room width total value.0) (λ next next_is. tt))

pub widths_cause : {X S : Type 0} (c : SymbolCauses S) (r : SymbolReadings S) → SymbolsHaveCauses r c → (d : SymbolInput) (room width total : ℕ) (s : S) (result : Result X DecodeError)
    → IfErr result (λ e. next_width r d room width total s ≡ Err e) → HasCause result (BreaksNextWidth c r d room width total s)
widths_cause c r law d room width total s result =
    call-cause (BreaksNextWidth c r d room width total s) (next_width r d room width total s) result (widths_causes c r law d room width total s)

count-cause : (value : Option ℤ) → IfErr (some_instances value) (BreaksCount value)
count-cause None = refl
count-cause (Some (pos zero)) = inl refl
count-cause (Some (pos (suc n))) = tt
count-cause (Some (negsuc n)) = inr (n, refl)

pub instance_count_causes : {S : Type 0} (F : DecodeError → Type 0) (reading : Result (Option ℤ × S) DecodeError) → IfErr reading F
    → IfErr (instance_count reading) (λ e. F e ⊎ After reading (λ value. BreaksCount value.0 e))
unfolding instance_count
instance_count_causes F reading law =
    or-after reading _ F (λ value. BreaksCount value.0) law (λ value value_is.
    cause-next (BreaksCount value.0) (some_instances value.0) _ (count-cause value.0) (λ count count_is. tt))

-- ---- values by a table
pub by-table : (table : List Member) (s : SymbolState Place) → IfErr (by_table table s) (BreaksValueAt table s.coding)
by-table table s = cause-next (BreaksValueAt table s.coding) (decoded_value table (bits_left s.coding)).result _ (no-value table s.coding) (λ value value_is. tt)
