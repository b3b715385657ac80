-- Which rule the bytes break where a header of this crate is refused.
use Rattle.std.proofs.Common.{◌≡◌, ℕ, ◌+◌, ◌-◌, ◌/◌, ◌%◌, ◌<◌, ◌≤◌, eqb, ltb, Bool, true, false, List, take, drop, length, Result, Ok, Err, refl, sym, ◌∙◌, ap, subst, arith, length-drop, ltb-true}
use Rattle.std.specs.Prelude.{IfErr}
use Rattle.std.specs.Int.{Width, w8, w32, byte_len, from_be_bytes}
use Rattle.std.proofs.lemmas.Bool.{cond_both, eqb-true, eqb-false}
use Rattle.std.proofs.lemmas.List.{drop-drop}
use Rattle.jbig2_base.specs.Results.{refuse_if}
use Rattle.jbig2_base.specs.Causes.{number_in, HasCause}
use Rattle.jbig2_base.specs.Fields.{end_of_bytes, number_at}
use Rattle.jbig2_base.specs.Combination.{operator_of}
use Rattle.jbig2_base.specs.declared.bitmap.operator.CombinationOperator.{CombinationOperator}
use Rattle.jbig2_base.specs.declared.error.DecodeError.{DecodeError}
use Rattle.jbig2_base.specs.declared.error.DecodeError.TheVariants as errors
use Rattle.jbig2_base.specs.declared.error.RegionError.TheVariants.{InvalidCombinationOperator, InvalidDimension}
use Rattle.jbig2_base.proofs.CauseSteps.{call-cause}
use Rattle.jbig2_base.proofs.Causes.{cause-next, cause-number, cause-refused, number-there, same-ok, went}
use Rattle.jbig2_region.specs.Causes.{BreaksRegionInfo, BreaksRowCount}
use Rattle.jbig2_region.specs.GenericHeader.{rows_at}
use Rattle.jbig2_region.specs.RegionInfo.{region_info_at}
use Rattle.jbig2_region.specs.declared.region_info.RegionSegmentInfo.{RegionSegmentInfo}

-- ---- places
-- what is there from byte k on
pub record At (k : ℕ) (bytes rest : List ℕ) : Type 0 where
  pub same : drop k bytes ≡ rest
  pub size : k + length rest ≡ length bytes

pub at-start : (bytes : List ℕ) → At 0 bytes bytes
at-start bytes = record { same = refl; size = omega arith }

-- after a number that is there, and its value
pub at-next : (w : Width) (k : ℕ) (bytes rest : List ℕ) (x : ℕ × List ℕ) → At k bytes rest → number_at w rest ≡ Ok x → At (k + byte_len w) bytes x.1
at-next w k bytes rest x at is =
    let there = number-there w rest x is in
    let last : drop (byte_len w) rest ≡ x.1 = ap (λ (y : ℕ × List ℕ). y.1) there.1 in
    record {
      same = sym (drop-drop (byte_len w) k bytes) ∙ ap (λ (l : List ℕ). drop (byte_len w) l) at.same ∙ last;
      size = omega (arith, ap length last, length-drop (byte_len w) rest, there.0, at.size);
    }

pub value-next : (w : Width) (k : ℕ) (bytes rest : List ℕ) (x : ℕ × List ℕ) → At k bytes rest → number_at w rest ≡ Ok x → number_in w k bytes ≡ x.0
value-next w k bytes rest x at is =
    let there = number-there w rest x is in
    ap (λ (l : List ℕ). from_be_bytes w (take (byte_len w) l)) at.same ∙ ap (λ (y : ℕ × List ℕ). y.0) there.1

-- ---- region information
operator-cause : (P : DecodeError → Type 0) (n : ℕ) → (4 < n → P (errors.Region InvalidCombinationOperator)) → IfErr (operator_of n) P
operator-cause P n why =
    let Q : Result CombinationOperator DecodeError → Type 0 = λ r. IfErr r P in
    cond_both (eqb n 0) _ _ Q (λ is. tt) (λ a.
    cond_both (eqb n 1) _ _ Q (λ is. tt) (λ b.
    cond_both (eqb n 2) _ _ Q (λ is. tt) (λ c.
    cond_both (eqb n 3) _ _ Q (λ is. tt) (λ d.
    cond_both (eqb n 4) _ _ Q (λ is. tt) (λ e.
    why (omega (arith, eqb-false n 0 a, eqb-false n 1 b, eqb-false n 2 c, eqb-false n 3 d, eqb-false n 4 e)))))))

-- its three errors, and what its four numbers leave
pub info-cause : (P : DecodeError → Type 0) (bytes : List ℕ) → (length bytes < 17 → P end_of_bytes) → ((17 ≤ length bytes) × (4 < number_in w8 16 bytes % 8) → P (errors.Region InvalidCombinationOperator)) → ((17 ≤ length bytes) × (number_in w8 16 bytes / 8 % 2 ≡ 1) → P errors.Unsupported) → IfErr (region_info_at bytes) P
unfolding region_info_at
info-cause P bytes at_end at_operator at_colour =
    let start = at-start bytes in
    cause-next P (number_at w32 bytes) _ (cause-number P w32 bytes (λ short. at_end (omega arith))) (λ width width_is.
    let a = at-next w32 0 bytes bytes width start width_is in
    cause-next P (number_at w32 width.1) _ (cause-number P w32 width.1 (λ short. at_end (omega (arith, a.size)))) (λ height height_is.
    let b = at-next w32 4 bytes width.1 height a height_is in
    cause-next P (number_at w32 height.1) _ (cause-number P w32 height.1 (λ short. at_end (omega (arith, b.size)))) (λ x x_is.
    let c = at-next w32 8 bytes height.1 x b x_is in
    cause-next P (number_at w32 x.1) _ (cause-number P w32 x.1 (λ short. at_end (omega (arith, c.size)))) (λ y y_is.
    let d = at-next w32 12 bytes x.1 y c y_is in
    cause-next P (number_at w8 y.1) _ (cause-number P w8 y.1 (λ short. at_end (omega (arith, d.size)))) (λ flags flags_is.
    let e = at-next w8 16 bytes y.1 flags d flags_is in
    let value = value-next w8 16 bytes y.1 flags d flags_is in
    let whole : 17 ≤ length bytes = omega (arith, e.size) in
    cause-next P (operator_of (flags.0 % 8)) _ (operator-cause P (flags.0 % 8) (λ high. at_operator (whole, omega arith))) (λ operator operator_is.
    cause-next P (refuse_if (eqb (flags.0 / 8 % 2) 1) errors.Unsupported) _
    (cause-refused P (eqb (flags.0 / 8 % 2) 1) errors.Unsupported (λ set. at_colour (whole, ap (λ (n : ℕ). n / 8 % 2) value ∙ eqb-true (flags.0 / 8 % 2) 1 set)))
    (λ plain plain_is. tt)))))))

pub info_has_cause : {X : Type 0} (bytes : List ℕ) (r : Result X DecodeError) → IfErr r (λ e. region_info_at bytes ≡ Err e) → HasCause r (BreaksRegionInfo bytes)
info_has_cause bytes r = call-cause (BreaksRegionInfo bytes) (region_info_at bytes) r (info-cause (BreaksRegionInfo bytes) bytes (λ why. why) (λ why. why) (λ why. why))

-- the sides that it gives, and the bytes after it
pub info-there : (bytes : List ℕ) (i : RegionSegmentInfo × List ℕ) → region_info_at bytes ≡ Ok i → At 17 bytes i.1 × (number_in w32 0 bytes ≡ i.0.width) × (number_in w32 4 bytes ≡ i.0.height)
unfolding region_info_at
info-there bytes i is =
    let width = went (number_at w32 bytes) _ i is in
    let height = went (number_at w32 width.0.1) _ i width.2 in
    let x = went (number_at w32 height.0.1) _ i height.2 in
    let y = went (number_at w32 x.0.1) _ i x.2 in
    let flags = went (number_at w8 y.0.1) _ i y.2 in
    let operator = went (operator_of (flags.0.0 % 8)) _ i flags.2 in
    let plain = went (refuse_if (eqb (flags.0.0 / 8 % 2) 1) errors.Unsupported) _ i operator.2 in
    let a = at-next w32 0 bytes bytes width.0 (at-start bytes) width.1 in
    let b = at-next w32 4 bytes width.0.1 height.0 a height.1 in
    let c = at-next w32 8 bytes height.0.1 x.0 b x.1 in
    let d = at-next w32 12 bytes x.0.1 y.0 c y.1 in
    let e = at-next w8 16 bytes y.0.1 flags.0 d flags.1 in
    let whole = same-ok _ i plain.2 in
    let A : List ℕ → Type 0 = λ l. At 17 bytes l in (
      subst A (ap (λ (j : RegionSegmentInfo × List ℕ). j.1) whole) e,
      value-next w32 0 bytes bytes width.0 (at-start bytes) width.1 ∙ ap (λ (j : RegionSegmentInfo × List ℕ). j.0.width) whole,
      value-next w32 4 bytes width.0.1 height.0 a height.1 ∙ ap (λ (j : RegionSegmentInfo × List ℕ). j.0.height) whole,
    )

-- ---- the number of rows
pub rows-cause : (P : DecodeError → Type 0) (unknown_length : Bool) (height : ℕ) (bytes : List ℕ) → (unknown_length ≡ true → length bytes < 4 → P end_of_bytes) → (unknown_length ≡ true → 4 ≤ length bytes → height < number_in w32 (length bytes - 4) bytes → P (errors.Region InvalidDimension)) → IfErr (rows_at unknown_length height bytes) P
unfolding rows_at
rows-cause P false height bytes at_end at_rows = tt
rows-cause P true height bytes at_end at_rows =
    let last = drop (length bytes - 4) bytes in
    let size : length last ≡ length bytes - (length bytes - 4) = length-drop (length bytes - 4) bytes in
    cause-next P (number_at w32 last) _ (cause-number P w32 last (λ short. at_end refl (omega (arith, size)))) (λ rows rows_is.
    let there = number-there w32 last rows rows_is in
    cause-next P (refuse_if (ltb height rows.0) (errors.Region InvalidDimension)) _
    (cause-refused P (ltb height rows.0) (errors.Region InvalidDimension)
    (λ more. at_rows refl (omega (arith, size, there.0)) (let above = ltb-true height rows.0 more in let value : number_in w32 (length bytes - 4) bytes ≡ rows.0 = ap (λ (x : ℕ × List ℕ). x.0) there.1 in omega (arith, above, value))))
    (λ fits fits_is. tt))

pub rows_have_cause : {X : Type 0} (unknown : Bool) (height : ℕ) (bytes : List ℕ) (r : Result X DecodeError) → IfErr r (λ e. rows_at unknown height bytes ≡ Err e) → HasCause r (BreaksRowCount unknown height bytes)
rows_have_cause unknown_length height bytes r =
    let P : DecodeError → Type 0 = BreaksRowCount unknown_length height bytes in
    call-cause P (rows_at unknown_length height bytes) r (rows-cause P unknown_length height bytes (λ unknown short. (unknown, short)) (λ unknown whole more. (unknown, whole, more)))
