-- Which rule is broken where a collective bitmap, a class of no symbol or a height class is refused.
use Rattle.std.proofs.Common.{if◌then◌else◌, ◌≡◌, ◌⊎◌, inl, inr, ℕ, ◌*◌, ◌<◌, ◌==◌, nat_le, nat_lt, Bool, true, false, ◌&&◌, List, length, take, Option, Some, None, Result, Ok, Err, ℤ, pos, negsuc, ◌+ℤ◌, refl, sym, ap, subst}
use Rattle.std.proofs.lemmas.Bool.{and_parts, cond-false, cond-true, eqb-false, eqb-true, leb-true, ltb-true}
use Rattle.std.specs.Prelude.{IfErr}
use Rattle.jbig2_base.specs.Results.{◌>>=◌, refuse_if}
use Rattle.jbig2_base.specs.Bits.{Place, byte_boundary, start_of}
use Rattle.jbig2_base.specs.Fields.{bytes_at}
use Rattle.jbig2_base.specs.Grid.{Grid, wide_or_overflow}
use Rattle.jbig2_base.specs.Causes.{HasCause, HasCauseOrNoMemory}
use Rattle.jbig2_base.specs.declared.error.DecodeError.{DecodeError}
use Rattle.jbig2_base.specs.declared.error.DecodeError.TheVariants as errors
use Rattle.jbig2_base.specs.declared.error.HuffmanError.TheVariants.{UnexpectedOob}
use Rattle.jbig2_base.specs.declared.error.OverflowError.TheVariants.{BitmapDimension}
use Rattle.jbig2_base.specs.declared.error.RegionError.TheVariants.{InvalidMmrData}
use Rattle.jbig2_base.specs.declared.error.SymbolError.TheVariants as symbols
use Rattle.jbig2_base.proofs.CauseSteps.{call-cause, call-cause-or-memory}
use Rattle.jbig2_base.proofs.Causes.{bytes-there, cause-bytes, cause-next, cause-refused}
use Rattle.jbig2_mmr.specs.Causes.{BreaksMmr}
use Rattle.jbig2_mmr.specs.T6.{mmr_rows}
use Rattle.jbig2_mmr.proofs.Causes.{cause-mmr}
use Rattle.jbig2_coder.specs.Integers.{in_band}
use Rattle.jbig2_symbol.specs.Causes.{BreaksCollectiveBitmap, BreaksSized}
use Rattle.jbig2_symbol.specs.ClassCauses.{BreaksEmptyClass, BreaksHeightClass, BreaksTallClass, ClassCauses, ClassesHaveCauses, IsNoSize}
use Rattle.jbig2_symbol.specs.HeightClasses.{empty_class, height_class, size_in_word}
use Rattle.jbig2_symbol.specs.SymbolBitmaps.{collective_bitmap, mmr_bitmap, raw_rows, raw_stride, rows_of_size}
use Rattle.jbig2_symbol.specs.SymbolReading.{ClassReadings, SymbolInput, SymbolState, by_table, not_negative}
use Rattle.jbig2_region.proofs.ResultCauses.{cause-if, cause-last, cause-more}
use Rattle.jbig2_symbol.proofs.ReadingCauses.{by-table, or-after, result-size}
use Rattle.jbig2_symbol.specs.inner.FunctionResults.{class_after, tall_class}
use Rattle.jbig2_coder.specs.Causes.{BreaksValueAt}

-- ---- collective bitmaps
-- how many bytes its rows have
abbrev rows_length : ℕ → ℕ → ℕ → ℕ
rows_length size width height = if size == 0 then height * raw_stride width else size

wide-cause : (P : DecodeError → Type 0) (width height : ℕ) → (65535 * 65535 < width * height → P (errors.Overflow BitmapDimension)) → IfErr (wide_or_overflow width height) P
wide-cause P width height why =
    let large : Bool = nat_lt (65535 * 65535) (width * height) in
    cause-next P (refuse_if large (errors.Overflow BitmapDimension)) _ (cause-refused P large (errors.Overflow BitmapDimension) (λ over. why (ltb-true (65535 * 65535) (width * height) over))) (λ fits fits_is. tt)

raw-cause : (strict : Bool) (size width height : ℕ) (bytes : List ℕ) → (size == 0) ≡ true → IfErr (raw_rows width height bytes) (BreaksSized strict width height (Some (pos size)) bytes)
unfolding raw_rows
raw-cause strict size width height bytes none =
    let P : DecodeError → Type 0 = BreaksSized strict width height (Some (pos size)) bytes in
    let n : ℕ = height * raw_stride width in
    let same : rows_length size width height ≡ n = cond-true (size == 0) n size none in
    cause-next P (wide_or_overflow width height) _ (wide-cause P width height (λ over. over)) (λ fits fits_is.
    cause-next P (bytes_at n bytes) _ (cause-bytes P n bytes (λ short. subst (λ (m : ℕ). length bytes < m) (sym same) short)) (λ rows rows_is. tt))

mmr-cause : (strict : Bool) (size width height : ℕ) (bytes : List ℕ) → (size == 0) ≡ false → IfErr (mmr_bitmap strict size width height bytes) (BreaksSized strict width height (Some (pos size)) bytes)
unfolding mmr_bitmap
mmr-cause strict size width height bytes some =
    let P : DecodeError → Type 0 = BreaksSized strict width height (Some (pos size)) bytes in
    let same_size : rows_length size width height ≡ size = cond-false (size == 0) (height * raw_stride width) size some in
    cause-next P (bytes_at size bytes) _ (cause-bytes P size bytes (λ short. subst (λ (m : ℕ). length bytes < m) (sym same_size) short)) (λ coded coded_is.
    let same : take size bytes ≡ coded.0 = ap (λ (x : List ℕ × List ℕ). x.0) (bytes-there size bytes coded coded_is).1 in
    cause-next P (wide_or_overflow width height) _ (wide-cause P width height (λ over. over)) (λ fits fits_is.
    let F : List ℕ → Type 0 = λ bs. BreaksMmr strict width height bs (errors.Region InvalidMmrData) in
    cause-next P (mmr_rows strict width height coded.0) _ (cause-mmr P strict width height coded.0 (λ why. (eqb-false size 0 some, subst F (sym same) why))) (λ rows rows_is. tt)))

rows-cause : (strict : Bool) (size width height : ℕ) (bytes : List ℕ) → IfErr (rows_of_size strict size width height bytes) (BreaksSized strict width height (Some (pos size)) bytes)
rows-cause strict size width height bytes =
    cause-if (BreaksSized strict width height (Some (pos size)) bytes) (size == 0) (raw_rows width height bytes) (mmr_bitmap strict size width height bytes) (raw-cause strict size width height bytes) (mmr-cause strict size width height bytes)

sized-cause : (d : SymbolInput) (width height : ℕ) (value : Option ℤ) (after : SymbolState Place)
    → IfErr (in_band (errors.Huffman UnexpectedOob) value >>= λ number. not_negative (errors.Overflow BitmapDimension) number >>= λ size. rows_of_size d.header.strict size width height (byte_boundary after.coding).bytes >>= λ rows. (let r : Result (Grid × SymbolState Place) DecodeError = Ok (rows.0, record after { coding = start_of rows.1 }) in r)) (BreaksSized d.header.strict width height value (byte_boundary after.coding).bytes)
sized-cause d width height None after = refl
sized-cause d width height (Some (negsuc n)) after = refl
sized-cause d width height (Some (pos size)) after =
    let bytes = (byte_boundary after.coding).bytes in
    let P : DecodeError → Type 0 = BreaksSized d.header.strict width height (Some (pos size)) bytes in
    let rows = rows_of_size d.header.strict size width height bytes in
    cause-next P rows _ (rows-cause d.header.strict size width height bytes) (λ grid grid_is. tt)

pub collective_causes : (d : SymbolInput) (width height : ℕ) (s : SymbolState Place) → IfErr (collective_bitmap d width height s) (BreaksCollectiveBitmap d width height s)
unfolding collective_bitmap
collective_causes d width height s =
    or-after (by_table d.tables.sizes s) _ (BreaksValueAt d.tables.sizes s.coding) (λ value. BreaksSized d.header.strict width height value.0 (byte_boundary value.1.coding).bytes) (by-table d.tables.sizes s) (λ value value_is. sized-cause d width height value.0 value.1)

pub collective_cause : {X : Type 0} (d : SymbolInput) (width height : ℕ) (s : SymbolState Place) (r : Result X DecodeError) → IfErr r (λ e. (e ≡ errors.OutOfMemory) ⊎ (collective_bitmap d width height s ≡ Err e))
    → HasCauseOrNoMemory r (BreaksCollectiveBitmap d width height s)
collective_cause d width height s r = call-cause-or-memory (BreaksCollectiveBitmap d width height s) (collective_bitmap d width height s) r (collective_causes d width height s)

-- ---- a class that is too high for its symbols
last-refused : {X : Type 0} (P Q : DecodeError → Type 0) (step : Result X DecodeError) (last : DecodeError) → IfErr step P → Q last → ((e : DecodeError) → P e → Q e) → IfErr (step >>= λ _. (let r : Result (Unit {0}) DecodeError = Err last in r)) Q
last-refused P Q (Ok x) last first why more = why
last-refused P Q (Err e) last first why more = more e first

pub tall_class_cause : {X : Type 0} (d : SymbolInput) (width height : ℕ) (s : SymbolState Place) (r : Result X DecodeError) → 65535 < height → IfErr r (λ e. (e ≡ errors.OutOfMemory) ⊎ (tall_class d width height s ≡ Err e))
    → HasCauseOrNoMemory r (BreaksTallClass d width height s)
tall_class_cause d width height s r tall =
    let causes = last-refused (BreaksCollectiveBitmap d width height s) (BreaksTallClass d width height s) (collective_bitmap d width height s) (errors.Overflow BitmapDimension) (collective_causes d width height s) (inr (refl, tall)) (λ e why. inl why) in
    call-cause-or-memory (BreaksTallClass d width height s) (tall_class d width height s) r causes

-- ---- a class of no symbol
pub no-symbols : (count empty : ℕ) → IfErr (empty_class count empty) (BreaksEmptyClass count empty)
no-symbols count empty =
    let many : Bool = count == 0 && nat_le 1048576 empty in
    cause-refused (BreaksEmptyClass count empty) many (errors.Symbol symbols.Invalid) (λ is.
    let both = and_parts (count == 0) (nat_le 1048576 empty) is in
    (eqb-true count 0 both.0, leb-true 1048576 empty both.1))

pub empty_class_cause : {X : Type 0} (count empty : ℕ) (r : Result X DecodeError) → IfErr r (λ e. empty_class count empty ≡ Err e) → HasCause r (BreaksEmptyClass count empty)
empty_class_cause count empty r = call-cause (BreaksEmptyClass count empty) (empty_class count empty) r (no-symbols count empty)

-- ---- height classes
module _ {S : Type 0} (c : ClassCauses S) (r : ClassReadings S) (law : ClassesHaveCauses r c) (d : SymbolInput) (before empty : ℕ) (new : List Grid) where
  abbrev BreaksClassAt : Option ℤ → S → DecodeError → Type 0
  BreaksClassAt value s e =
      ((e ≡ errors.Symbol symbols.UnexpectedOob) × (value ≡ None))
      ⊎ ((difference : ℤ) × (value ≡ Some difference)
      × (((e ≡ errors.Overflow BitmapDimension) × IsNoSize (pos before +ℤ difference))
      ⊎ ((height : ℕ) × (pos before +ℤ difference ≡ pos height) × c.class_of_height d height empty new s e)))

  class-of : (value : Option ℤ) (after : S)
      → IfErr (in_band (errors.Symbol symbols.UnexpectedOob) value >>= λ difference. size_in_word (pos before +ℤ difference) >>= λ height. r.class_of_height d height empty new after >>= λ class. (let x : Result (ℕ × List Grid × S) DecodeError = Ok (height, class.0, class.1) in x)) (BreaksClassAt value after)
  class-of None after = inl (refl, refl)
  class-of (Some difference) after =
      let P : DecodeError → Type 0 = BreaksClassAt (Some difference) after in
      let size : ℤ = pos before +ℤ difference in
      cause-last P (λ (n : ℕ). size ≡ pos n) (size_in_word size) _ (result-size P size (λ no. inr (difference, refl, inl (refl, no)))) (λ height height_is.
      cause-next P (r.class_of_height d height empty new after) _
      (cause-more (c.class_of_height d height empty new after) P (r.class_of_height d height empty new after) (law.class_of_height d height empty new after) (λ e no. inr (difference, refl, inr (height, height_is, no)))) (λ class class_is. tt))

  pub height_class_causes : (s : S) → IfErr (height_class r d before empty new s) (BreaksHeightClass c r d before empty new s)
  unfolding height_class
  height_class_causes s =
      or-after (r.height_difference d s) _ (c.height_difference d s) (λ value. BreaksClassAt value.0 value.1) (law.height_difference d s) (λ value value_is. class-of value.0 value.1)

  pub height_class_cause : {X : Type 0} (s : S) (result : Result X DecodeError)
      → IfErr result (λ e. (e ≡ errors.OutOfMemory) ⊎ (height_class r d before empty new s ≡ Err e)) → HasCauseOrNoMemory result (BreaksHeightClass c r d before empty new s)
  height_class_cause s result =
      call-cause-or-memory (BreaksHeightClass c r d before empty new s) (height_class r d before empty new s) result (height_class_causes s)

-- the class's own error, of what it makes with the symbols before it
pub class-error : {S : Type 0} (new : List Grid) (empty : ℕ) (result : Result (ℕ × List Grid × S) DecodeError) (e : DecodeError) → (e ≡ errors.OutOfMemory) ⊎ (class_after new empty result ≡ Err e)
    → (e ≡ errors.OutOfMemory) ⊎ (result ≡ Err e)
class-error new empty result e (inl memory) = inl memory
class-error new empty (Ok class) e (inr same) = absurd cc
class-error new empty (Err f) e (inr same) = inr cc
