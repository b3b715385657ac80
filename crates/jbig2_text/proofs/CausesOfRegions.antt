-- Which rule the input breaks where a text region is refused.
use Rattle.std.proofs.Common.{◌≡◌, ◌⊎◌, inl, inr, ℕ, zero, suc, ◌+◌, ◌-◌, ◌*◌, ◌<◌, eqb, ltb, Bool, true, false, List, [], ◌∷◌, length, Option, Some, None, Result, Ok, Err, refl, sym, ◌∙◌, ap, subst, arith, ℤ, pos, negsuc}
use Rattle.std.specs.Prelude.{IfErr, ◌-ℤ◌}
use Rattle.std.proofs.lemmas.Bool.{cond-true, eqb-false, eqb-true, lt-ltb, ltb-true}
use Rattle.jbig2_base.specs.Results.{◌>>=◌, refuse_if}
use Rattle.jbig2_base.specs.Bits.{Place, byte_boundary}
use Rattle.jbig2_base.specs.Fields.{bytes_at, end_of_bytes}
use Rattle.jbig2_base.specs.Grid.{Grid}
use Rattle.jbig2_base.specs.declared.error.DecodeError.{DecodeError}
use Rattle.jbig2_base.specs.declared.error.DecodeError.TheVariants.{Huffman, OutOfMemory, Symbol}
use Rattle.jbig2_base.specs.declared.error.HuffmanError.TheVariants.{InvalidSelection, MissingTables}
use Rattle.jbig2_base.specs.declared.error.SymbolError.TheVariants.{TooManyInstances, UnexpectedOob}
use Rattle.jbig2_base.proofs.Causes.{cause-bytes, cause-next, cause-refused}
use Rattle.jbig2_coder.specs.PrefixCode.{Member, value_at}
use Rattle.jbig2_coder.specs.Tables.{next_custom}
use Rattle.jbig2_coder.specs.Causes.{BreaksNumberAt}
use Rattle.jbig2_coder.specs.declared.integer_procedures.IntegerProcedure.{IntegerProcedure}
use Rattle.jbig2_coder.specs.declared.integer_procedures.IntegerProcedure.TheVariants.{Iari}
use Rattle.jbig2_region.specs.Refinement.{Reference}
use Rattle.jbig2_text.specs.SymbolCodes.{invalid_code}
use Rattle.jbig2_text.specs.Causes.{BreaksInstance, BreaksInstances, BreaksStrip, ReadingsHaveCauses, ReadingCauses, BreaksRegionBy, BreaksTextRegion, BreaksTextTables, HasNoMeaning, IsOutOfBand, LacksBytes, coder_causes, customs_if, prefix_causes}
use Rattle.jbig2_text.specs.Refining.{Refining}
use Rattle.jbig2_text.specs.Text.{TextState, Readings, TextParams, after_instances, coordinate, next_cursor, strip_start, strip_delta, text_region, with_instance}
use Rattle.jbig2_text.specs.declared.cursor.Cursor.{Cursor}
use Rattle.jbig2_text.specs.inner.FunctionResults.{end_of_strip, reaching, some_strips, strips, table_of_size}
use Rattle.jbig2_text.specs.TextCoding.{CodedState, PrefixedState, by_coder, by_prefix_codes, next_integer, number_by_coder, prefixed_refined, prefixed_value, sized_bytes}
use Rattle.jbig2_coder.specs.Integers.{in_band}
use Rattle.jbig2_text.specs.TextHeader.{ArithmeticCoding, HuffmanCoding, NumberCoding, TextHeader}
use Rattle.jbig2_text.specs.TextRegion.{blank_region, coder_of, one_of_three, one_of_two, prefix_codes_of, refining_of, region_by, region_from, text_result, text_params, text_tables}
use Rattle.jbig2_text.proofs.Causes.{cause-bits, cause-value, no-value}
use Rattle.jbig2_text.proofs.CausesOfInstances.{instance_causes}
use Rattle.jbig2_text.proofs.CausesOfText.{BreaksMove, cause-delta, cause-move, cause-strip, result-word}
use Rattle.jbig2_region.proofs.ResultCauses.{IfResult, cause-if, cause-last, cause-more, result-if}
use Rattle.jbig2_base.specs.Causes.{After, HasCause, HasCauseOrNoMemory}
use Rattle.jbig2_base.proofs.CauseSteps.{call-cause, call-cause-or-memory}
use Rattle.jbig2_text.specs.declared.header.TextRegionHuffmanFlags.{TextRegionHuffmanFlags}

-- ---- all instances
cause-after : {S : Type 0} (c : ReadingCauses S) (r : Readings S) (a : ReadingsHaveCauses r c) (p : TextParams) (P : DecodeError → Type 0) (n : ℕ) (x : TextState S)
    → ((k : ℕ) → k < n → (e : DecodeError) → After (after_instances r p k x) (λ y. BreaksInstance c r p y e ⊎ After (with_instance r p y) (λ z. BreaksMove c r p.flags z.cursor z.state e)) → P e)
    → IfErr (after_instances r p n x) P
unfolding after_instances
cause-after c r a p P zero x why = tt
cause-after {S} c r a p P (suc n) x why =
    cause-next P (with_instance r p x) _ (cause-more (BreaksInstance c r p x) P (with_instance r p x) (instance_causes c r a p x) (λ e broken. why 0 (omega arith) e (x, refl, inl broken))) (λ y y_is.
    cause-next P (next_cursor r p.flags y.cursor y.state) _
    (cause-more (BreaksMove c r p.flags y.cursor y.state) P (next_cursor r p.flags y.cursor y.state) (cause-move c r a p.flags y.cursor y.state) (λ e broken. why 0 (omega arith) e (x, refl, inr (y, y_is, broken)))) (λ at at_is.
    let on : ℕ → Result (TextState S) DecodeError → Result (TextState S) DecodeError = λ k q. q >>= λ z. next_cursor r p.flags z.cursor z.state >>= λ d. after_instances r p k (record z { cursor = d.0; state = d.1 }) in
    let moved : ℕ → Result (Cursor × S) DecodeError → Result (TextState S) DecodeError = λ k q. q >>= λ d. after_instances r p k (record y { cursor = d.0; state = d.1 }) in
    cause-after c r a p P n (record y { cursor = at.0; state = at.1 }) (λ k below e there. why (suc k) (omega (arith, below)) e (there.0, ap (on k) y_is ∙ ap (moved k) at_is ∙ there.1, there.2))))

cause-end : (P : DecodeError → Type 0) (strict : Bool) (ids : Result (Option ℤ) DecodeError) → (strict ≡ true → After ids (λ o. (n : ℤ) × (o ≡ Some n)) → P (Symbol TooManyInstances))
    → (strict ≡ true → IfErr ids P) → IfErr (end_of_strip strict ids) P
cause-end P false ids more refused = tt
cause-end P true (Ok None) more refused = tt
cause-end P true (Ok (Some ids)) more refused = more refl (Some ids, refl, (ids, refl))
cause-end P true (Err e) more refused = refused refl

pub all_instance_causes : {S : Type 0} (c : ReadingCauses S) (r : Readings S) → ReadingsHaveCauses r c → (p : TextParams) (region : Grid) (f : Refining) (s : S) → IfErr (text_region r p region f s) (BreaksInstances c r p region f s)
unfolding text_region
all_instance_causes c r a p region f s =
    let P : DecodeError → Type 0 = BreaksInstances c r p region f s in
    cause-next P (refuse_if (ltb (32 * p.data_length) p.count) (Symbol TooManyInstances)) _
    (cause-refused P (ltb (32 * p.data_length) p.count) (Symbol TooManyInstances) (λ many. inl (refl, inl (ltb-true (32 * p.data_length) p.count many)))) (λ few few_is.
    cause-next P (strip_delta r p.flags s) _ (cause-delta c r a p.flags s P (λ leaves. inr (inl (refl, leaves))) (λ e no. inr (inr (inr (inl no))))) (λ dt dt_is.
    cause-last P _ (coordinate (pos 0 -ℤ dt.0)) _ (result-word P _ (pos 0 -ℤ dt.0) (λ large. inr (inr (inl (refl, (dt, dt_is, large)))))) (λ stript stript_is.
    subst (λ (n : ℤ). IfErr (strips r p region n f dt.1) P) stript_is
    (cause-if P (eqb p.count 0) _ (some_strips r p region (pos 0 -ℤ dt.0) f dt.1) (λ none. tt) (λ some.
    cause-next P (strip_start r p.flags (pos 0 -ℤ dt.0) (pos 0) dt.1) _
    (cause-more (BreaksStrip c r p.flags (pos 0 -ℤ dt.0) (pos 0) dt.1) P (strip_start r p.flags (pos 0 -ℤ dt.0) (pos 0) dt.1) (cause-strip c r a p.flags (pos 0 -ℤ dt.0) (pos 0) dt.1) (λ e broken. inr (inr (inr (inr (inl (dt, dt_is, broken))))))) (λ at at_is.
    let first = reaching region at.0 f at.1 in
    cause-next P (after_instances r p (p.count - 1) first) _
    (cause-after c r a p P (p.count - 1) first (λ k below e there. inr (inr (inr (inr (inr (inl (k, omega (arith, below), (dt, dt_is, (at, at_is, there)))))))))) (λ x x_is.
    cause-next P (with_instance r p x) _
    (cause-more (BreaksInstance c r p x) P (with_instance r p x) (instance_causes c r a p x)
    (λ e broken. inr (inr (inr (inr (inr (inl (p.count - 1, omega (arith, eqb-false p.count 0 some), (dt, dt_is, (at, at_is, (x, x_is, inl broken))))))))))) (λ last last_is.
    cause-next P (end_of_strip p.strict (r.delta_s last.state)) _
    (cause-end P p.strict (r.delta_s last.state)
    (λ strict there. inl (refl, inr (strict, (dt, dt_is, (at, at_is, (x, x_is, (last, last_is, there)))))))
    (λ strict. cause-more (c.delta_s last.state) P (r.delta_s last.state) (a.delta_s last.state)
    (λ e no. inr (inr (inr (inr (inr (inr (strict, (dt, dt_is, (at, at_is, (x, x_is, (last, last_is, no)))))))))))))
    (λ ends ends_is. tt)))))))))

-- ---- tables
-- a choice's table, and how many custom tables are left
abbrev Left : ℕ → List (List Member) → List Member × List (List Member) → Type 0
Left taken customs x = length x.1 + taken ≡ length customs

result-custom : (P : DecodeError → Type 0) (customs : List (List Member)) → (length customs < 1 → P (Huffman MissingTables)) → IfResult (next_custom customs) P (Left 1 customs)
result-custom P [] why = why (omega arith)
result-custom P (table ∷ others) why = omega arith

-- how many a choice takes among two tables of the standard, among three, and for the sizes
abbrev customs_of_two : ℕ → ℕ
customs_of_two n = customs_if (eqb n 3)

abbrev customs_of_three : ℕ → ℕ
customs_of_three n = customs_if (ltb 2 n)

abbrev customs_of_size : ℕ → ℕ
customs_of_size n = customs_if (ltb 0 n)

-- this many are taken where a number is a certain one
taken-at : (f : ℕ → ℕ) (n m : ℕ) → n ≡ m → f n ≡ f m
taken-at f n m same = ap f same

result-two : (P : DecodeError → Type 0) (first second : List Member) (n : ℕ) (customs : List (List Member)) → (HasNoMeaning n → P (Huffman InvalidSelection)) → (length customs < customs_of_two n → P (Huffman MissingTables))
    → IfResult (one_of_two first second n customs) P (Left (customs_of_two n) customs)
result-two P first second n customs unknown missing =
    let Q : List Member × List (List Member) → Type 0 = Left (customs_of_two n) customs in
    result-if P Q (eqb n 0) _ _ (λ is. omega (arith, taken-at customs_of_two n 0 (eqb-true n 0 is))) (λ a.
    result-if P Q (eqb n 1) _ _ (λ is. omega (arith, taken-at customs_of_two n 1 (eqb-true n 1 is))) (λ b.
    result-if P Q (eqb n 3) _ _
    (λ is. let one : customs_of_two n ≡ 1 = taken-at customs_of_two n 3 (eqb-true n 3 is) in
    subst (λ (k : ℕ). IfResult (next_custom customs) P (Left k customs)) (sym one) (result-custom P customs (λ none. missing (omega (arith, none, one)))))
    (λ d. unknown (omega (arith, eqb-false n 0 a, eqb-false n 1 b), eqb-false n 3 d))))

result-three : (P : DecodeError → Type 0) (first second third : List Member) (n : ℕ) (customs : List (List Member)) → (length customs < customs_of_three n → P (Huffman MissingTables))
    → IfResult (one_of_three first second third n customs) P (Left (customs_of_three n) customs)
result-three P first second third n customs missing =
    let Q : List Member × List (List Member) → Type 0 = Left (customs_of_three n) customs in
    result-if P Q (eqb n 0) _ _ (λ is. omega (arith, taken-at customs_of_three n 0 (eqb-true n 0 is))) (λ a.
    result-if P Q (eqb n 1) _ _ (λ is. omega (arith, taken-at customs_of_three n 1 (eqb-true n 1 is))) (λ b.
    result-if P Q (eqb n 2) _ _ (λ is. omega (arith, taken-at customs_of_three n 2 (eqb-true n 2 is)))
    (λ d. let one : customs_of_three n ≡ 1 = cond-true (ltb 2 n) 1 0 (lt-ltb 2 n (omega (arith, eqb-false n 0 a, eqb-false n 1 b, eqb-false n 2 d))) in
    subst (λ (k : ℕ). IfResult (next_custom customs) P (Left k customs)) (sym one) (result-custom P customs (λ none. missing (omega (arith, none, one)))))))

result-size : (P : DecodeError → Type 0) (n : ℕ) (customs : List (List Member)) → (length customs < customs_of_size n → P (Huffman MissingTables)) → IfResult (table_of_size n customs) P (Left (customs_of_size n) customs)
result-size P n customs missing =
    let Q : List Member × List (List Member) → Type 0 = Left (customs_of_size n) customs in
    result-if P Q (eqb n 0) _ _ (λ is. omega (arith, taken-at customs_of_size n 0 (eqb-true n 0 is)))
    (λ a. let one : customs_of_size n ≡ 1 = cond-true (ltb 0 n) 1 0 (lt-ltb 0 n (omega (arith, eqb-false n 0 a))) in
    subst (λ (k : ℕ). IfResult (next_custom customs) P (Left k customs)) (sym one) (result-custom P customs (λ none. missing (omega (arith, none, one)))))

text_table_causes : (flags : TextRegionHuffmanFlags) (customs : List (List Member)) → IfErr (text_tables flags customs) (BreaksTextTables flags customs)
unfolding text_tables
text_table_causes flags customs =
    let P : DecodeError → Type 0 = BreaksTextTables flags customs in
    cause-last P _ (one_of_two _ _ flags.first_s_table customs) _ (result-two P _ _ flags.first_s_table customs (λ no. inl (refl, inl no)) (λ few. inr (refl, omega (arith, few)))) (λ a a_is.
    cause-last P _ (one_of_three _ _ _ flags.delta_s_table a.1) _ (result-three P _ _ _ flags.delta_s_table a.1 (λ few. inr (refl, omega (arith, few, a_is)))) (λ b b_is.
    cause-last P _ (one_of_three _ _ _ flags.delta_t_table b.1) _ (result-three P _ _ _ flags.delta_t_table b.1 (λ few. inr (refl, omega (arith, few, a_is, b_is)))) (λ d d_is.
    cause-last P _ (one_of_two _ _ flags.refinement_width_table d.1) _ (result-two P _ _ flags.refinement_width_table d.1 (λ no. inl (refl, inr (inl no))) (λ few. inr (refl, omega (arith, few, a_is, b_is, d_is)))) (λ w w_is.
    cause-last P _ (one_of_two _ _ flags.refinement_height_table w.1) _ (result-two P _ _ flags.refinement_height_table w.1 (λ no. inl (refl, inr (inr (inl no)))) (λ few. inr (refl, omega (arith, few, a_is, b_is, d_is, w_is)))) (λ h h_is.
    cause-last P _ (one_of_two _ _ flags.refinement_x_table h.1) _ (result-two P _ _ flags.refinement_x_table h.1 (λ no. inl (refl, inr (inr (inr (inl no))))) (λ few. inr (refl, omega (arith, few, a_is, b_is, d_is, w_is, h_is)))) (λ x x_is.
    cause-last P _ (one_of_two _ _ flags.refinement_y_table x.1) _ (result-two P _ _ flags.refinement_y_table x.1 (λ no. inl (refl, inr (inr (inr (inr no))))) (λ few. inr (refl, omega (arith, few, a_is, b_is, d_is, w_is, h_is, x_is)))) (λ y y_is.
    cause-last P _ (table_of_size flags.refinement_size_table y.1) _ (result-size P flags.refinement_size_table y.1 (λ few. inr (refl, omega (arith, few, a_is, b_is, d_is, w_is, h_is, x_is, y_is)))) (λ size size_is. tt))))))))

pub text_table_cause : {X : Type 0} (flags : TextRegionHuffmanFlags) (customs : List (List Member)) (r : Result X DecodeError) → IfErr r (λ e. text_tables flags customs ≡ Err e) → HasCause r (BreaksTextTables flags customs)
text_table_cause flags customs r = call-cause (BreaksTextTables flags customs) (text_tables flags customs) r (text_table_causes flags customs)

-- ---- the two codings
cause-integer : (procedure : IntegerProcedure) (s : CodedState) → IfErr (number_by_coder procedure s) (IsOutOfBand procedure s)
cause-integer procedure s = cause-next (IsOutOfBand procedure s) (in_band (Symbol UnexpectedOob) (next_integer procedure s).0) _ (band (next_integer procedure s).0 refl) (λ n is. tt)
  where
    band : (n : Option ℤ) → (next_integer procedure s).0 ≡ n → IfErr (in_band (Symbol UnexpectedOob) n) (IsOutOfBand procedure s)
    band None is = (refl, is)
    band (Some n) is = tt

pub by_coder-causes : ReadingsHaveCauses by_coder coder_causes
by_coder-causes = record {
  delta_t = cause-integer _;
  first_s = cause-integer _;
  delta_s = λ s. tt;
  t_bits = λ log s. cause-integer _ s;
  id = λ s. tt;
  is_refined = λ s. cause-next (IsOutOfBand Iari s) (number_by_coder Iari s) _ (cause-integer Iari s) (λ flag is. tt);
  width_delta = cause-integer _;
  height_delta = cause-integer _;
  x_delta = cause-integer _;
  y_delta = cause-integer _;
  refined = λ from width height f s. tt;
}

cause-prefixed : (table : List Member) (s : PrefixedState) → IfErr (prefixed_value table s) (BreaksNumberAt table s.place)
cause-prefixed table s =
    let P : DecodeError → Type 0 = BreaksNumberAt table s.place in
    cause-next P (value_at table s.place) _ (cause-value P table s.place (λ e no. no)) (λ n is. tt)

cause-bytes_of : (size : ℤ) (p : Place) → IfErr (sized_bytes size p) (LacksBytes size p)
cause-bytes_of (pos size) p = cause-next (LacksBytes (pos size) p) (bytes_at size (byte_boundary p).bytes) _ (cause-bytes (LacksBytes (pos size) p) size (byte_boundary p).bytes (λ short. (refl, short))) (λ coded is. tt)
cause-bytes_of (negsuc size) p = refl

cause-refined_there : (from : Reference) (width height : ℕ) (f : Refining) (s : PrefixedState) → IfErr (prefixed_refined from width height f s) (prefix_causes.refined s)
cause-refined_there from width height f s =
    let P : DecodeError → Type 0 = prefix_causes.refined s in
    cause-next P (value_at s.tables.refinement_size s.place) _ (cause-value P s.tables.refinement_size s.place (λ e no. inl no)) (λ size is.
    cause-next P (sized_bytes size.0 size.1) _ (cause-more (LacksBytes size.0 size.1) P (sized_bytes size.0 size.1) (cause-bytes_of size.0 size.1) (λ e no. inr (size, is, no))) (λ coded r. tt))

pub by_prefix_codes-causes : ReadingsHaveCauses by_prefix_codes prefix_causes
by_prefix_codes-causes = record {
  delta_t = λ s. cause-prefixed _ s;
  first_s = λ s. cause-prefixed _ s;
  delta_s = λ s. no-value s.tables.delta_s s.place;
  t_bits = λ log s. cause-next (prefix_causes.t_bits log s) _ _ (cause-next (prefix_causes.t_bits log s) _ _ (cause-bits (prefix_causes.t_bits log s) invalid_code log s.place (λ short. (refl, short))) (λ n is. tt)) (λ n is. tt);
  id = λ s. cause-prefixed _ s;
  is_refined = λ s. cause-next (prefix_causes.is_refined s) _ _ (cause-next (prefix_causes.is_refined s) _ _ (cause-bits (prefix_causes.is_refined s) end_of_bytes 1 s.place (λ short. (refl, short))) (λ n is. tt)) (λ n is. tt);
  width_delta = λ s. cause-prefixed _ s;
  height_delta = λ s. cause-prefixed _ s;
  x_delta = λ s. cause-prefixed _ s;
  y_delta = λ s. cause-prefixed _ s;
  refined = cause-refined_there;
}

-- ---- regions
cause-from : {S : Type 0} (c : ReadingCauses S) (r : Readings S) (a : ReadingsHaveCauses r c) (h : TextHeader) (symbols : List Grid) (region : Grid) (s : S)
    → IfErr (region_from r h symbols region s) (BreaksInstances c r (text_params h symbols) region (refining_of h) s)
unfolding region_from
cause-from c r a h symbols region s =
    let P : DecodeError → Type 0 = BreaksInstances c r (text_params h symbols) region (refining_of h) s in
    cause-next P (text_region r (text_params h symbols) region (refining_of h) s) _ (all_instance_causes c r a (text_params h symbols) region (refining_of h) s) (λ drawn is. tt)

cause-by : (h : TextHeader) (coding : NumberCoding) (symbols : List Grid) (customs : List (List Member)) (region : Grid) → IfErr (region_by h coding symbols customs region) (BreaksRegionBy h coding symbols customs region)
cause-by h ArithmeticCoding symbols customs region = cause-from coder_causes by_coder by_coder-causes h symbols region (coder_of h symbols)
cause-by h (HuffmanCoding numbers ids) symbols customs region =
    let P : DecodeError → Type 0 = BreaksRegionBy h (HuffmanCoding numbers ids) symbols customs region in
    cause-next P (prefix_codes_of h numbers ids customs) _
    (cause-next P (text_tables numbers customs) _ (cause-more (BreaksTextTables numbers customs) P (text_tables numbers customs) (text_table_causes numbers customs) (λ e broken. inl broken)) (λ tables is. tt)) (λ s is.
    cause-more (BreaksInstances prefix_causes by_prefix_codes (text_params h symbols) region (refining_of h) s) P (region_from by_prefix_codes h symbols region s)
    (cause-from prefix_causes by_prefix_codes by_prefix_codes-causes h symbols region s) (λ e broken. inr (s, is, broken)))

text_region_causes : (h : TextHeader) (symbols : List Grid) (customs : List (List Member)) → IfErr (text_result h symbols customs) (BreaksTextRegion h symbols customs)
unfolding text_result BreaksTextRegion
text_region_causes h symbols customs = cause-by h h.coding symbols customs (blank_region h)

pub text_region_cause : {X : Type 0} (h : TextHeader) (symbols : List Grid) (customs : List (List Member)) (r : Result X DecodeError) → IfErr r (λ e. (e ≡ OutOfMemory) ⊎ (text_result h symbols customs ≡ Err e))
    → HasCauseOrNoMemory r (BreaksTextRegion h symbols customs)
text_region_cause h symbols customs r = call-cause-or-memory (BreaksTextRegion h symbols customs) (text_result h symbols customs) r (text_region_causes h symbols customs)
