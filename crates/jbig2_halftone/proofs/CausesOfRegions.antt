-- Which rule the input breaks where the data of patterns, gray-scale images or halftone regions is refused.
use Rattle.std.proofs.Common.{◌≡◌, ◌⊎◌, inl, inr, ⊎_elim, ℕ, zero, suc, ◌+◌, ◌-◌, ◌*◌, ◌<◌, ◌≤◌, ◌/◌, ◌%◌, ltb, Bool, true, not, ◌&&◌, ◌||◌, List, map, drop, length, Result, Ok, Err, refl, sym, ◌∙◌, ap, subst, arith}
use Rattle.std.specs.Prelude.{IfErr}
use Rattle.std.specs.List.{range_with_len}
use Rattle.std.proofs.lemmas.Bool.{and_parts, ltb-true, ltb-false, not-true, or_cases}
use Rattle.std.proofs.lemmas.Nat.{mod_below, row-Below}
use Rattle.jbig2_base.specs.Results.{refuse_if}
use Rattle.jbig2_base.specs.Grid.{Grid}
use Rattle.jbig2_base.specs.declared.error.DecodeError.{DecodeError}
use Rattle.jbig2_base.specs.declared.error.DecodeError.TheVariants.{OutOfMemory, Overflow, Region}
use Rattle.jbig2_base.specs.declared.error.OverflowError.TheVariants.{BitmapDimension}
use Rattle.jbig2_base.specs.declared.error.RegionError.TheVariants.{GrayScaleOutOfRange, InvalidMmrData}
use Rattle.jbig2_base.proofs.Causes.{cause-next}
use Rattle.jbig2_mmr.specs.T6.{DecodedRows, mmr_rows, rows_of}
use Rattle.jbig2_region.specs.Generic.{generic_result}
use Rattle.jbig2_halftone.specs.Causes.{BreaksGrayScale, BreaksHalftone, BreaksPatterns}
use Rattle.jbig2_halftone.specs.GrayScale.{GrayScale, gray_scale_image, gray_value, gray_values, image_is_too_large, mmr_plane, mmr_planes, planes_of, mmr_left}
use Rattle.jbig2_halftone.specs.Halftone.{cells_drawn, gray_params, halftone_result, pattern_for, with_cell}
use Rattle.jbig2_halftone.specs.HalftoneHeader.{HalftoneHeader}
use Rattle.jbig2_halftone.specs.Patterns.{Patterns, collective_header, collective_width, patterns_decoded}
use Rattle.jbig2_halftone.specs.inner.FunctionResults.{planes_by_coder, planes_by_mmr}
use Rattle.jbig2_region.proofs.ResultCauses.{IfResult, cause-if, cause-last, cause-of, result-of, result-if, result-next, result-refused}
use Rattle.jbig2_base.specs.Causes.{HasCauseOrNoMemory}
use Rattle.jbig2_base.proofs.CauseSteps.{call-cause-or-memory}
use Rattle.jbig2_mmr.specs.Causes.{BreaksMmr}
use Rattle.jbig2_mmr.proofs.Causes.{all-fault}
use Rattle.jbig2_halftone.specs.PatternHeader.{PatternHeader}

-- ---- MMR data
-- of h rows of T.6 data one is missing or at fault
abbrev LacksRows : Bool → ℕ → ℕ → List ℕ → Type 0
LacksRows strict w h bytes = BreaksMmr strict w h bytes (Region InvalidMmrData)

abbrev APlaneLacksRows : GrayScale → List ℕ → Type 0
APlaneLacksRows p bytes = (k : ℕ) × (k < p.bits_per_pixel) × LacksRows p.strict p.width p.height (mmr_left p bytes k)

-- how many bytes the rows used: the last counts whole, if only some of its bits are used
used : ℕ → ℕ → List ℕ → ℕ
used w h bytes = length bytes - length (rows_of w h bytes).left / 8

result-mmr : (P : DecodeError → Type 0) (strict : Bool) (w h : ℕ) (bytes : List ℕ) → (LacksRows strict w h bytes → P (Region InvalidMmrData))
    → IfResult (mmr_rows strict w h bytes) P (λ (d : DecodedRows). used w h bytes ≡ d.used)
unfolding mmr_rows used
result-mmr P strict w h bytes why =
    result-if P _ (strict && not (rows_of w h bytes).whole) _ _
    (λ is.
    let parts = and_parts strict (not (rows_of w h bytes).whole) is in
    let fault = all-fault w h bytes (not-true (rows_of w h bytes).whole parts.1) in
    why (parts.0, fault.0, fault.1))
    (λ is. refl)

-- ---- patterns
pattern_causes : (h : PatternHeader) → IfErr (patterns_decoded h) (BreaksPatterns h)
unfolding patterns_decoded
pattern_causes h =
    let P : DecodeError → Type 0 = BreaksPatterns h in
    cause-last P _ (refuse_if (ltb 65535 (collective_width h)) (Overflow BitmapDimension)) _ (result-refused P (ltb 65535 (collective_width h)) (Overflow BitmapDimension) (λ wide. ltb-true 65535 _ wide)) (λ fits is.
    cause-last P (λ g. Unit {0}) (generic_result (collective_header h)) _
    (result-if P (λ g. Unit {0}) h.mmr _ _ (λ mmr. result-next P _ (λ g. Unit {0}) (mmr_rows h.strict _ _ h.bytes) _ (result-mmr P h.strict _ _ h.bytes (λ lacks. (mmr, lacks))) (λ rows r. tt)) (λ coded. tt)) (λ g r. tt))

pub pattern_cause : {X : Type 0} (h : PatternHeader) (r : Result X DecodeError) → IfErr r (λ e. (e ≡ OutOfMemory) ⊎ (patterns_decoded h ≡ Err e)) → HasCauseOrNoMemory r (BreaksPatterns h)
pattern_cause h r = call-cause-or-memory (BreaksPatterns h) (patterns_decoded h) r (pattern_causes h)

-- ---- planes
-- planes from plane k on
cause-planes : (P : DecodeError → Type 0) (p : GrayScale) (bytes : List ℕ) (k : ℕ) (rest : List ℕ) (count : ℕ) → mmr_left p bytes k ≡ rest
    → ((j : ℕ) → j < k + count → LacksRows p.strict p.width p.height (mmr_left p bytes j) → P (Region InvalidMmrData)) → IfErr (mmr_planes p rest count) P
unfolding mmr_planes mmr_plane mmr_left used
cause-planes P p bytes k rest zero at why = tt
cause-planes P p bytes k rest (suc count) at why =
    let Q : Grid × List ℕ → Type 0 = λ x. mmr_left p bytes (suc k) ≡ x.1 in
    let lacks : LacksRows p.strict p.width p.height rest → LacksRows p.strict p.width p.height (mmr_left p bytes k) = λ is. subst (λ (l : List ℕ). LacksRows p.strict p.width p.height l) (sym at) is in
    cause-last P Q (mmr_plane p rest) _
    (result-next P _ Q (mmr_rows p.strict p.width p.height rest) _ (result-mmr P p.strict p.width p.height rest (λ is. why k (omega arith) (lacks is)))
    (λ rows taken. ap (λ (l : List ℕ). drop (used p.width p.height l) l) at ∙ ap (λ (n : ℕ). drop n rest) taken)) (λ plane next.
    cause-next P (mmr_planes p plane.1 count) _ (cause-planes P p bytes (suc k) plane.1 count next (λ j below. why j (omega (arith, below)))) (λ others is. tt))

too-large : (p : GrayScale) → image_is_too_large p ≡ true → (0 < p.bits_per_pixel) × ((65535 < p.width) ⊎ (65535 < p.height))
too-large p is =
    let parts = and_parts (ltb 0 p.bits_per_pixel) (ltb 65535 p.width || ltb 65535 p.height) is in
    (ltb-true 0 p.bits_per_pixel parts.0, ⊎_elim (λ wide. inl (ltb-true 65535 p.width wide)) (λ high. inr (ltb-true 65535 p.height high)) (or_cases (ltb 65535 p.width) (ltb 65535 p.height) parts.1))

cause-coded : (P : DecodeError → Type 0) (p : GrayScale) (bytes : List ℕ) → (p.use_mmr ≡ true → APlaneLacksRows p bytes → P (Region InvalidMmrData))
    → IfErr (planes_of p bytes) P
unfolding mmr_left
cause-coded P p bytes why =
    cause-if P p.use_mmr (planes_by_mmr p bytes) (planes_by_coder p bytes)
    (λ mmr. cause-planes P p bytes 0 bytes p.bits_per_pixel refl (λ j below lacks. why mmr (j, omega (arith, below), lacks))) (λ coded. tt)

-- the image's values, which planes give, or why there is none
result-image : (P : DecodeError → Type 0) (p : GrayScale) (bytes : List ℕ) → ((0 < p.bits_per_pixel) × ((65535 < p.width) ⊎ (65535 < p.height)) → P (Overflow BitmapDimension))
    → (p.use_mmr ≡ true → APlaneLacksRows p bytes → P (Region InvalidMmrData))
    → IfResult (gray_scale_image p bytes) P (λ values. (planes : List Grid) × (planes_of p bytes ≡ Ok planes) × (gray_values p.width p.height planes ≡ values))
unfolding gray_scale_image
result-image P p bytes large lacks =
    let Q : List ℕ → Type 0 = λ values. (planes : List Grid) × (planes_of p bytes ≡ Ok planes) × (gray_values p.width p.height planes ≡ values) in
    let R : List Grid → Type 0 = λ planes. planes_of p bytes ≡ Ok planes in
    result-next P _ Q (refuse_if (image_is_too_large p) (Overflow BitmapDimension)) _ (result-refused P (image_is_too_large p) (Overflow BitmapDimension) (λ is. large (too-large p is))) (λ fits is.
    result-next P R Q (planes_of p bytes) _ (result-of P R (planes_of p bytes) (cause-coded P p bytes lacks) (λ planes r. r)) (λ planes r. (planes, r, refl)))

pub gray_scale_cause : {X : Type 0} (p : GrayScale) (bytes : List ℕ) (r : Result X DecodeError) → IfErr r (λ e. (e ≡ OutOfMemory) ⊎ (gray_scale_image p bytes ≡ Err e)) → HasCauseOrNoMemory r (BreaksGrayScale p bytes)
gray_scale_cause p bytes r =
    let P : DecodeError → Type 0 = BreaksGrayScale p bytes in
    call-cause-or-memory P (gray_scale_image p bytes) r (cause-of P _ (gray_scale_image p bytes) (result-image P p bytes (λ large. large) (λ mmr lacks. (mmr, lacks))))

-- ---- cells
no-pattern : (P : DecodeError → Type 0) (strict : Bool) (grids : List Grid) (value : ℕ) → (strict ≡ true → length grids ≤ value → P (Region GrayScaleOutOfRange))
    → IfErr (pattern_for strict grids value) P
no-pattern P strict grids value why =
    cause-if P (ltb value (length grids)) _ _ (λ is. tt) (λ none. cause-if P strict _ _ (λ refused. why refused (ltb-false value (length grids) none)) (λ lenient. tt))

-- cells with these values, whose numbers begin at a
cause-cells : (P : DecodeError → Type 0) (h : HalftoneHeader) (d : Patterns) (f : ℕ → ℕ) (k a n : ℕ) (region : Grid)
    → ((i : ℕ) → i < a + n → h.strict ≡ true → length d.grids ≤ f i → P (Region GrayScaleOutOfRange)) → IfErr (cells_drawn h d k (map f (range_with_len a n)) region) P
unfolding cells_drawn
cause-cells P h d f k a zero region why = tt
cause-cells P h d f k a (suc n) region why =
    cause-next P (pattern_for h.strict d.grids (f a)) _ (no-pattern P h.strict d.grids (f a) (why a (omega arith))) (λ pattern is.
    cause-cells P h d f (k + 1) (a + 1) n (with_cell h k pattern region) (λ i below. why i (omega (arith, below))))

cause-image : (P : DecodeError → Type 0) (h : HalftoneHeader) (d : Patterns) (w rows : ℕ) (planes : List Grid) (region : Grid)
    → ((x y : ℕ) → x < w → y < rows → h.strict ≡ true → length d.grids ≤ gray_value planes x y → P (Region GrayScaleOutOfRange)) → IfErr (cells_drawn h d 0 (gray_values w rows planes) region) P
unfolding gray_values
cause-image P h d w rows planes region why =
    cause-cells P h d (λ n. gray_value planes (n % w) (n / w)) 0 0 (w * rows) region (λ i below.
    let within : i < w * rows = omega (arith, below) in
    let wide : 0 < w = grind arith in
    why (i % w) (i / w) (mod_below i w wide) (row-Below i w w rows within (omega arith)).1)

-- the values of planes that were read
cause-values : (h : HalftoneHeader) (d : Patterns) (region : Grid) (values : List ℕ) (planes : List Grid) → planes_of (gray_params h d) h.bytes ≡ Ok planes
    → gray_values h.grid_position_and_size.width h.grid_position_and_size.height planes ≡ values → IfErr (cells_drawn h d 0 values region) (BreaksHalftone h d)
cause-values h d region values planes read are =
    subst (λ (vs : List ℕ). IfErr (cells_drawn h d 0 vs region) (BreaksHalftone h d)) are
    (cause-image (BreaksHalftone h d) h d h.grid_position_and_size.width h.grid_position_and_size.height planes region
    (λ x y column row strict none. (strict, (planes, x, y, read, column, row, none))))

cause-result : (h : HalftoneHeader) (d : Patterns) → IfErr (halftone_result h d) (BreaksHalftone h d)
unfolding halftone_result
cause-result h d =
    let P : DecodeError → Type 0 = BreaksHalftone h d in
    cause-last P _ (gray_scale_image (gray_params h d) h.bytes) _ (result-image P (gray_params h d) h.bytes (λ large. large) (λ mmr lacks. (mmr, lacks))) (λ values read.
    cause-values h d _ values read.0 read.1 read.2)

pub halftone_cause : {X : Type 0} (h : HalftoneHeader) (d : Patterns) (r : Result X DecodeError) → IfErr r (λ e. (e ≡ OutOfMemory) ⊎ (halftone_result h d ≡ Err e)) → HasCauseOrNoMemory r (BreaksHalftone h d)
halftone_cause h d r = call-cause-or-memory (BreaksHalftone h d) (halftone_result h d) r (cause-result h d)
