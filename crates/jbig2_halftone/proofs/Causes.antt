-- Which rule the input breaks where patterns or a halftone region are refused.
use Rattle.std.proofs.Common.{◌≡◌, ◌⊎◌, inl, inr, ⊎_elim, ℕ, ◌+◌, ◌<◌, ◌≤◌, ◌/◌, ◌%◌, eqb, ltb, true, ◌||◌, List, length, Result, Err, ◌∙◌, arith}
use Rattle.std.specs.Int.{w8, w16, w32}
use Rattle.std.proofs.lemmas.Bool.{eqb-true, ltb-true, or_cases}
use Rattle.jbig2_base.specs.Results.{refuse_if}
use Rattle.jbig2_base.specs.Causes.{number_in, HasCause}
use Rattle.jbig2_base.specs.Fields.{number_at, signed_at, end_of_bytes}
use Rattle.jbig2_base.specs.Combination.{operator_of}
use Rattle.jbig2_base.specs.declared.error.DecodeError.{DecodeError}
use Rattle.jbig2_base.specs.declared.error.DecodeError.TheVariants.{Overflow, Region}
use Rattle.jbig2_base.specs.declared.error.OverflowError.TheVariants.{GridDimension}
use Rattle.jbig2_base.specs.declared.error.RegionError.TheVariants.{InvalidCombinationOperator}
use Rattle.jbig2_region.specs.RegionInfo.{region_info_at}
use Rattle.jbig2_halftone.specs.Causes.{BreaksHalftoneHeader, BreaksPatternHeader}
use Rattle.jbig2_halftone.specs.HalftoneHeader.{halftone_flags_at, halftone_grid_at, halftone_header_at}
use Rattle.jbig2_halftone.specs.PatternHeader.{pattern_header_at, side_at}
use Rattle.jbig2_halftone.specs.declared.halftone.header.HalftoneGridPositionAndSize.{HalftoneGridPositionAndSize}
use Rattle.jbig2_halftone.specs.declared.halftone.header.HalftoneRegionFlags.{HalftoneRegionFlags}
use Rattle.jbig2_base.proofs.CauseSteps.{call-cause}
use Rattle.jbig2_region.proofs.ResultCauses.{IsAtPlace, IfResult, at-start, cause-last, result-next, result-number, result-operator, result-refused, result-region_info, result-signed}
use Rattle.std.specs.Prelude.{Bool, IfErr}

-- ---- headers
result-side : (P : DecodeError → Type 0) (bytes : List ℕ) (place : ℕ) (rest : List ℕ) → IsAtPlace bytes place rest
    → (length bytes < place + 1 → P end_of_bytes) → (number_in w8 place bytes ≡ 0 → P end_of_bytes) → IfResult (side_at rest) P (λ x. IsAtPlace bytes (place + 1) x.1)
result-side P bytes place rest s short none =
    let Q : ℕ × List ℕ → Type 0 = λ x. IsAtPlace bytes (place + 1) x.1 in
    result-next P _ Q (number_at w8 rest) _ (result-number P w8 s short) (λ n read.
    result-next P _ Q (refuse_if (eqb n.0 0) end_of_bytes) _ (result-refused P (eqb n.0 0) end_of_bytes (λ is. none (read.value ∙ eqb-true n.0 0 is))) (λ some is. read.after))

pattern_header_causes : (strict : Bool) (bytes : List ℕ) → IfErr (pattern_header_at strict bytes) (BreaksPatternHeader bytes)
unfolding pattern_header_at
pattern_header_causes strict bytes =
    let P : DecodeError → Type 0 = BreaksPatternHeader bytes in
    cause-last P _ (number_at w8 bytes) _ (result-number P w8 (at-start bytes) (λ short. inl (omega (arith, short)))) (λ flags a.
    cause-last P _ (side_at flags.1) _ (result-side P bytes 1 flags.1 a.after (λ short. inl (omega (arith, short))) (λ none. inr (inl none))) (λ width b.
    cause-last P _ (side_at width.1) _ (result-side P bytes 2 width.1 b (λ short. inl (omega (arith, short))) (λ none. inr (inr none))) (λ height c.
    cause-last P _ (number_at w32 height.1) _ (result-number P w32 c (λ short. inl (omega (arith, short)))) (λ largest d. tt))))

pub pattern_header_cause : {X : Type 0} (strict : Bool) (bytes : List ℕ) (r : Result X DecodeError) → IfErr r (λ e. pattern_header_at strict bytes ≡ Err e) → HasCause r (BreaksPatternHeader bytes)
pattern_header_cause strict bytes r = call-cause (BreaksPatternHeader bytes) (pattern_header_at strict bytes) r (pattern_header_causes strict bytes)

result-flags : (P : DecodeError → Type 0) (bytes : List ℕ) (place : ℕ) (rest : List ℕ) → IsAtPlace bytes place rest → (length bytes < place + 1 → P end_of_bytes)
    → (4 < number_in w8 place bytes / 16 % 8 → P (Region InvalidCombinationOperator)) → IfResult (halftone_flags_at rest) P (λ x. IsAtPlace bytes (place + 1) x.1)
unfolding halftone_flags_at
result-flags P bytes place rest s short operator =
    let Q : HalftoneRegionFlags × List ℕ → Type 0 = λ x. IsAtPlace bytes (place + 1) x.1 in
    result-next P _ Q (number_at w8 rest) _ (result-number P w8 s short) (λ flags a.
    result-next P _ Q (operator_of (flags.0 / 16 % 8)) _ (result-operator P (flags.0 / 16 % 8) (λ other. operator (omega (arith, a.value, other)))) (λ o is. a.after))

too-long : (b c : ℕ) → (ltb 65535 b || ltb 65535 c) ≡ true → (65535 < b) ⊎ (65535 < c)
too-long b c is = ⊎_elim (λ left. inl (ltb-true 65535 b left)) (λ right. inr (ltb-true 65535 c right)) (or_cases (ltb 65535 b) (ltb 65535 c) is)

-- the grid's fields at byte 18: a side has four bytes, as a coordinate
result-grid : (P : DecodeError → Type 0) (bytes rest : List ℕ) → IsAtPlace bytes 18 rest → (length bytes < 34 → P end_of_bytes)
    → ((26 ≤ length bytes) × ((65535 < number_in w32 18 bytes) ⊎ (65535 < number_in w32 22 bytes)) → P (Overflow GridDimension)) → IfResult (halftone_grid_at rest) P (λ x. IsAtPlace bytes 34 x.1)
unfolding halftone_grid_at
result-grid P bytes rest s short sides =
    let Q : HalftoneGridPositionAndSize × List ℕ → Type 0 = λ x. IsAtPlace bytes 34 x.1 in
    result-next P _ Q (number_at w32 rest) _ (result-number P w32 s (λ missing. short (omega (arith, missing)))) (λ width a.
    result-next P _ Q (number_at w32 width.1) _ (result-number P w32 a.after (λ missing. short (omega (arith, missing)))) (λ height b.
    result-next P _ Q (refuse_if (ltb 65535 width.0 || ltb 65535 height.0) (Overflow GridDimension)) _ (result-refused P _ (Overflow GridDimension) (λ large. sides (b.after.within, rw a.value (rw b.value (too-long width.0 height.0 large))))) (λ fits is.
    result-next P _ Q (signed_at w32 height.1) _ (result-signed P w32 b.after (λ missing. short (omega (arith, missing)))) (λ x c.
    result-next P _ Q (signed_at w32 x.1) _ (result-signed P w32 c (λ missing. short (omega (arith, missing)))) (λ y d. d)))))

halftone_header_causes : (strict : Bool) (bytes : List ℕ) → IfErr (halftone_header_at strict bytes) (BreaksHalftoneHeader bytes)
unfolding halftone_header_at
halftone_header_causes strict bytes =
    let P : DecodeError → Type 0 = BreaksHalftoneHeader bytes in
    cause-last P _ (region_info_at bytes) _ (result-region_info P bytes (λ short. omega (arith, short)) (λ other. inl other) (λ colour. colour)) (λ info a.
    cause-last P _ (halftone_flags_at info.1) _ (result-flags P bytes 17 info.1 a (λ short. omega (arith, short)) (λ other. inr other)) (λ flags b.
    cause-last P _ (halftone_grid_at flags.1) _ (result-grid P bytes flags.1 b (λ short. omega (arith, short)) (λ large. large)) (λ grid c.
    cause-last P _ (number_at w16 grid.1) _ (result-number P w16 c (λ short. omega (arith, short))) (λ x d.
    cause-last P _ (number_at w16 x.1) _ (result-number P w16 d.after (λ short. omega (arith, short))) (λ y e. tt)))))

pub halftone_header_cause : {X : Type 0} (strict : Bool) (bytes : List ℕ) (r : Result X DecodeError) → IfErr r (λ e. halftone_header_at strict bytes ≡ Err e) → HasCause r (BreaksHalftoneHeader bytes)
halftone_header_cause strict bytes r = call-cause (BreaksHalftoneHeader bytes) (halftone_header_at strict bytes) r (halftone_header_causes strict bytes)
