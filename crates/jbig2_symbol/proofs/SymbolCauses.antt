-- Which rule is broken where a symbol of a dictionary is refused.
use Rattle.std.proofs.Common.{◌≡◌, ◌⊎◌, inl, inr, ℕ, ◌==◌, ◌<◌, nat_lt, Bool, true, false, ◌||◌, max, List, length, Result, Ok, Err, ℤ, refl}
use Rattle.std.proofs.lemmas.Bool.{eqb-false, eqb-true, ltb-true}
use Rattle.std.specs.Prelude.{IfErr}
use Rattle.jbig2_base.specs.Results.{◌>>=◌}
use Rattle.jbig2_base.specs.Bits.{Place, bits_left}
use Rattle.jbig2_base.specs.Causes.{After, BreaksSides, HasCauseOrNoMemory}
use Rattle.jbig2_base.proofs.CauseSteps.{call-cause-or-memory}
use Rattle.jbig2_base.specs.Fields.{end_of_bytes}
use Rattle.jbig2_base.specs.Grid.{Grid, blank}
use Rattle.jbig2_base.specs.declared.error.DecodeError.{DecodeError}
use Rattle.jbig2_base.specs.declared.error.DecodeError.TheVariants as errors
use Rattle.jbig2_base.specs.declared.error.OverflowError.TheVariants.{BitmapDimension}
use Rattle.jbig2_base.specs.declared.error.ParseError.TheVariants.{UnexpectedEof}
use Rattle.jbig2_base.specs.declared.error.SymbolError.TheVariants.{OutOfRange}
use Rattle.jbig2_coder.specs.declared.integer_procedures.IntegerProcedure.TheVariants.{Iaai}
use Rattle.jbig2_text.specs.Causes.{BreaksInstances, ReadingsHaveCauses, NamesNone, ReadingCauses, coder_causes, prefix_causes}
use Rattle.jbig2_text.specs.Refining.{Refining}
use Rattle.jbig2_text.specs.Text.{Readings, TextParams, some_symbol, symbol_of, text_region}
use Rattle.jbig2_text.specs.TextCoding.{CodedState, PrefixedState, by_coder, by_prefix_codes, next_id}
use Rattle.jbig2_symbol.specs.Causes.{BreaksByInstances, BreaksCodedAggregate, BreaksCount, BreaksPrefixedAggregate}
use Rattle.jbig2_symbol.specs.SymbolBitmaps.{aggregate_params, by_instances, coded_aggregate, fits_symbol, id_bits, instance_count, plain_id, prefixed_aggregate, prefixed_at, put_together, refined_alone}
use Rattle.jbig2_symbol.specs.SymbolReading.{SymbolState, by_procedure, by_table, SymbolInput}
use Rattle.jbig2_text.proofs.CausesOfInstances.{cause-some}
use Rattle.jbig2_text.proofs.CausesOfRegions.{all_instance_causes, by_coder-causes, by_prefix_codes-causes}
use Rattle.jbig2_text.proofs.Causes.{cause-bits}
use Rattle.jbig2_region.proofs.ResultCauses.{cause-if, cause-more, cause-of}
use Rattle.jbig2_base.proofs.Causes.{cause-next, cause-refused}
use Rattle.jbig2_symbol.proofs.ReadingCauses.{by-table, instance_count_causes}
use Rattle.jbig2_coder.specs.Causes.{BreaksValueAt}

-- ---- the sides
either-of : (x y : Bool) → (x || y) ≡ true → (x ≡ true) ⊎ (y ≡ true)
either-of true y is = inl refl
either-of false y is = inr is

too-long : (width height : ℕ) → (nat_lt 65535 width || nat_lt 65535 height) ≡ true → (65535 < width) ⊎ (65535 < height)
too-long width height over = on (either-of (nat_lt 65535 width) (nat_lt 65535 height) over)
  where
    on : (nat_lt 65535 width ≡ true) ⊎ (nat_lt 65535 height ≡ true) → (65535 < width) ⊎ (65535 < height)
    on (inl wide) = inl (ltb-true 65535 width wide)
    on (inr high) = inr (ltb-true 65535 height high)

pub sides-cause : (width height : ℕ) → IfErr (fits_symbol width height) (BreaksSides width height)
sides-cause width height =
    let large : Bool = nat_lt 65535 width || nat_lt 65535 height in
    cause-refused (BreaksSides width height) large (errors.Overflow BitmapDimension) (too-long width height)

-- ---- refined, or put together
abbrev BreaksRefined : {S : Type 0} → ReadingCauses S → Readings S → List Grid → ℤ → ℕ → ℕ → S → DecodeError → Type 0
BreaksRefined c r symbols id width height s e =
    c.x_delta s e
    ⊎ After (r.x_delta s) (λ rdx. c.y_delta rdx.1 e
    ⊎ After (r.y_delta rdx.1) (λ rdy. ((e ≡ errors.Symbol OutOfRange) × NamesNone symbols id) ⊎ BreaksSides width height e ⊎ c.refined rdy.1 e))

cause-alone : {S : Type 0} (c : ReadingCauses S) (r : Readings S) (a : ReadingsHaveCauses r c) (P : DecodeError → Type 0) (symbols : List Grid) (id : ℤ) (width height : ℕ) (f : Refining) (s : S)
    → ((e : DecodeError) → BreaksRefined c r symbols id width height s e → P e) → IfErr (refined_alone r symbols id width height f s) P
unfolding refined_alone
cause-alone c r a P symbols id width height f s why =
    cause-next P (r.x_delta s) _ (cause-more (c.x_delta s) P (r.x_delta s) (a.x_delta s) (λ e no. why e (inl no))) (λ rdx x_is.
    cause-next P (r.y_delta rdx.1) _ (cause-more (c.y_delta rdx.1) P (r.y_delta rdx.1) (a.y_delta rdx.1) (λ e no. why e (inr (rdx, x_is, inl no)))) (λ rdy y_is.
    cause-next P (some_symbol (symbol_of symbols id)) _ (cause-of P _ (some_symbol (symbol_of symbols id)) (cause-some P symbols id (symbol_of symbols id) refl (λ none. why (errors.Symbol OutOfRange) (inr (rdx, x_is, inr (rdy, y_is, inl (refl, none))))))) (λ from from_is.
    cause-next P (fits_symbol width height) _ (cause-more (BreaksSides width height) P (fits_symbol width height) (sides-cause width height) (λ e no. why e (inr (rdx, x_is, inr (rdy, y_is, inr (inl no)))))) (λ fits fits_is.
    cause-more (c.refined rdy.1) P (r.refined _ width height f rdy.1) (a.refined _ width height f rdy.1) (λ e no. why e (inr (rdx, x_is, inr (rdy, y_is, inr (inr no)))))))))

cause-together : {S : Type 0} (c : ReadingCauses S) (r : Readings S) (a : ReadingsHaveCauses r c) (P : DecodeError → Type 0) (p : TextParams) (width height : ℕ) (f : Refining) (s : S)
    → ((e : DecodeError) → BreaksSides width height e ⊎ BreaksInstances c r p (blank width height false) f s e → P e) → IfErr (put_together r p width height f s) P
unfolding put_together
cause-together c r a P p width height f s why =
    cause-next P (fits_symbol width height) _ (cause-more (BreaksSides width height) P (fits_symbol width height) (sides-cause width height) (λ e no. why e (inl no))) (λ fits fits_is.
    let region : Grid = blank width height false in
    cause-more (BreaksInstances c r p region f s) P (text_region r p region f s) (all_instance_causes c r a p region f s) (λ e no. why e (inr no)))

cause-instances : {S : Type 0} (c : ReadingCauses S) (r : Readings S) (a : ReadingsHaveCauses r c) (alone : S → Result (ℤ × S) DecodeError) (lacks : S → DecodeError → Type 0) (law : (s : S) → IfErr (alone s) (lacks s)) (p : TextParams) (width height : ℕ) (f : Refining) (s : S)
    → IfErr (by_instances r alone p width height f s) (BreaksByInstances c r alone lacks p width height f s)
cause-instances c r a alone lacks law p width height f s =
    let P : DecodeError → Type 0 = BreaksByInstances c r alone lacks p width height f s in
    cause-if P (p.count == 1) _ (put_together r p width height f s)
    (λ one. cause-next P (alone s) _ (cause-more (lacks s) P (alone s) (law s) (λ e no. inl (eqb-true p.count 1 one, inl no))) (λ id id_is.
    cause-alone c r a P p.symbols id.0 width height f id.1 (λ e no. inl (eqb-true p.count 1 one, inr (id, id_is, no)))))
    (λ other. cause-together c r a P p width height f s (λ e no. inr (eqb-false p.count 1 other, no)))

pub coded_aggregate_causes : (d : SymbolInput) (new : List Grid) (width height : ℕ) (s : SymbolState CodedState) → IfErr (coded_aggregate d new width height s) (BreaksCodedAggregate d new width height s)
unfolding coded_aggregate
coded_aggregate_causes d new width height s =
    let P : DecodeError → Type 0 = BreaksCodedAggregate d new width height s in
    let reading = by_procedure Iaai s in
    cause-next P (instance_count reading) _ (cause-more (λ e. ⊥ ⊎ After reading (λ value. BreaksCount value.0 e)) P (instance_count reading) (instance_count_causes (λ e. ⊥) reading tt) (λ e why. counted e why)) (λ count count_is.
    let p = aggregate_params d new count.0 in
    let refining = count.1.contexts.refining in
    let alone : CodedState → Result (ℤ × CodedState) DecodeError = λ c. Ok (next_id c) in
    let lacks : CodedState → DecodeError → Type 0 = λ c e. ⊥ in
    cause-next P (by_instances by_coder alone p width height refining count.1.coding) _
    (cause-more (BreaksByInstances coder_causes by_coder alone lacks p width height refining count.1.coding) P (by_instances by_coder alone p width height refining count.1.coding)
    (cause-instances coder_causes by_coder by_coder-causes alone lacks (λ c. tt) p width height refining count.1.coding) (λ e no. inr (count, count_is, no))) (λ symbol symbol_is. tt))
  where
    counted : {A B : Type 0} (e : DecodeError) → ⊥ ⊎ A → A ⊎ B
    counted e (inl never) = absurd never
    counted e (inr why) = inl why

pub coded_aggregate_cause : {X : Type 0} (d : SymbolInput) (new : List Grid) (width height : ℕ) (s : SymbolState CodedState) (r : Result X DecodeError)
    → IfErr r (λ e. (e ≡ errors.OutOfMemory) ⊎ (coded_aggregate d new width height s ≡ Err e)) → HasCauseOrNoMemory r (BreaksCodedAggregate d new width height s)
coded_aggregate_cause d new width height s r =
    call-cause-or-memory (BreaksCodedAggregate d new width height s) (coded_aggregate d new width height s) r (coded_aggregate_causes d new width height s)

-- by prefix codes, the bits of the id are fewer than it has
abbrev LacksId : ℕ → PrefixedState → DecodeError → Type 0
LacksId bits s e = (e ≡ errors.Parse UnexpectedEof) × (length (bits_left s.place) < bits)

cause-plain_id : (bits : ℕ) (s : PrefixedState) → IfErr (plain_id bits s) (LacksId bits s)
cause-plain_id bits s =
    let P : DecodeError → Type 0 = LacksId bits s in
    cause-next P _ _ (cause-next P _ _ (cause-bits P end_of_bytes bits s.place (λ short. (refl, short))) (λ n is. tt)) (λ n is. tt)

pub prefixed_aggregate_causes : (d : SymbolInput) (new : List Grid) (width height : ℕ) (s : SymbolState Place) → IfErr (prefixed_aggregate d new width height s) (BreaksPrefixedAggregate d new width height s)
unfolding prefixed_aggregate
prefixed_aggregate_causes d new width height s =
    let P : DecodeError → Type 0 = BreaksPrefixedAggregate d new width height s in
    let reading = by_table d.tables.counts s in
    let bits : ℕ = max 1 (id_bits d.header (length d.symbols)) in
    let Counted : DecodeError → Type 0 = λ e. BreaksValueAt d.tables.counts s.coding e ⊎ After reading (λ value. BreaksCount value.0 e) in
    cause-next P (instance_count reading) _ (cause-more Counted P (instance_count reading) (instance_count_causes (BreaksValueAt d.tables.counts s.coding) reading (by-table d.tables.counts s)) (λ e why. counted e why)) (λ count count_is.
    let p = aggregate_params d new count.0 in
    let refining = count.1.contexts.refining in
    let at = prefixed_at d count.1.coding in
    cause-next P (by_instances by_prefix_codes (plain_id bits) p width height refining at) _
    (cause-more (BreaksByInstances prefix_causes by_prefix_codes (plain_id bits) (LacksId bits) p width height refining at) P (by_instances by_prefix_codes (plain_id bits) p width height refining at)
    (cause-instances prefix_causes by_prefix_codes by_prefix_codes-causes (plain_id bits) (LacksId bits) (cause-plain_id bits) p width height refining at) (λ e no. inr (inr (count, count_is, no)))) (λ symbol symbol_is. tt))
  where
    counted : {A B C : Type 0} (e : DecodeError) → A ⊎ B → A ⊎ B ⊎ C
    counted e (inl a) = inl a
    counted e (inr b) = inr (inl b)

pub prefixed_aggregate_cause : {X : Type 0} (d : SymbolInput) (new : List Grid) (width height : ℕ) (s : SymbolState Place) (r : Result X DecodeError)
    → IfErr r (λ e. (e ≡ errors.OutOfMemory) ⊎ (prefixed_aggregate d new width height s ≡ Err e)) → HasCauseOrNoMemory r (BreaksPrefixedAggregate d new width height s)
prefixed_aggregate_cause d new width height s r =
    call-cause-or-memory (BreaksPrefixedAggregate d new width height s) (prefixed_aggregate d new width height s) r (prefixed_aggregate_causes d new width height s)
