-- Which rule the bytes of a region's header break where it is refused, and a reference.
use Rattle.std.proofs.Common.{◌≡◌, ℕ, ◌+◌, ◌-◌, ◌*◌, ◌/◌, ◌%◌, ◌^◌, ◌<◌, ◌≤◌, eqb, ltb, Bool, true, false, ◌||◌, cond, List, take, drop, length, Result, Ok, Err, refl, sym, ◌∙◌, ap, arith, ⊎_elim, inl, inr, length-drop, ltb-true, leb-true}
use Rattle.std.specs.Prelude.{IfErr}
use Rattle.std.specs.Int.{Width, w8, w32, byte_len, from_be_bytes}
use Rattle.std.proofs.lemmas.Bool.{cond-true, or_cases}
use Rattle.std.proofs.lemmas.List.{drop-drop}
use Rattle.jbig2_base.specs.Results.{refuse_if}
use Rattle.jbig2_base.specs.Causes.{number_in, HasCause}
use Rattle.jbig2_base.specs.Fields.{number_at}
use Rattle.jbig2_base.specs.declared.error.DecodeError.{DecodeError}
use Rattle.jbig2_base.specs.declared.error.DecodeError.TheVariants as errors
use Rattle.jbig2_base.specs.declared.error.OverflowError.TheVariants.{BitmapDimension, ReferenceOffset}
use Rattle.jbig2_base.specs.declared.error.RegionError.TheVariants.{InvalidDimension}
use Rattle.jbig2_base.proofs.CauseSteps.{call-cause}
use Rattle.jbig2_base.proofs.Causes.{cause-next, cause-number, cause-refused, number-there, same-ok, went}
use Rattle.jbig2_region.specs.Causes.{BreaksGenericHeader, BreaksOffset, BreaksRefinementHeader, pixels_in}
use Rattle.jbig2_region.specs.GenericHeader.{generic_header_at, rows_at}
use Rattle.jbig2_region.specs.Refinement.{offset}
use Rattle.jbig2_region.specs.RefinementHeader.{refinement_header_at}
use Rattle.jbig2_region.specs.RefinementTemplates.{refinement_pixel_count, refinement_pixels_at, refinement_template_of}
use Rattle.jbig2_region.specs.RegionInfo.{region_info_at, PlacedRegion, is_far}
use Rattle.jbig2_region.specs.Templates.{adaptive_pixel_count, adaptive_pixels_at, template_of}
use Rattle.jbig2_region.specs.declared.region_info.RegionSegmentInfo.{RegionSegmentInfo}
use Rattle.jbig2_region.specs.declared.template.RefinementTemplate.TheVariants as refinements
use Rattle.jbig2_region.proofs.Causes.{At, at-next, info-cause, info-there, rows-cause, value-next}
use Rattle.jbig2_region.proofs.PixelCauses.{cause-pixels, cause-refinement_pixels, pixels-there}

-- a number after a place
number-after : (w : Width) (k j : ℕ) (bytes rest : List ℕ) → At k bytes rest → number_in w j rest ≡ number_in w (k + j) bytes
number-after w k j bytes rest at =
    ap (λ (l : List ℕ). from_be_bytes w (take (byte_len w) l)) (ap (λ (l : List ℕ). drop j l) (sym at.same) ∙ drop-drop j k bytes)

-- the number of rows: of the last four bytes, or as stated
last-number : (k : ℕ) (bytes rest : List ℕ) → At k bytes rest → 4 ≤ length rest → number_in w32 (length rest - 4) rest ≡ number_in w32 (length bytes - 4) bytes
last-number k bytes rest at enough =
    let place : k + (length rest - 4) ≡ length bytes - 4 = omega (arith, at.size) in
    number-after w32 k (length rest - 4) bytes rest at ∙ ap (λ (i : ℕ). number_in w32 i bytes) place

rows-value : (unknown_length : Bool) (height k : ℕ) (bytes rest : List ℕ) (rows : ℕ × List ℕ) → At k bytes rest → number_in w32 4 bytes ≡ height → rows_at unknown_length height rest ≡ Ok rows → number_in w32 (cond unknown_length (length bytes - 4) 4) bytes ≡ rows.0
unfolding rows_at
rows-value false height k bytes rest rows at stated is = stated ∙ ap (λ (r : ℕ × List ℕ). r.0) (same-ok (height, rest) rows is)
rows-value true height k bytes rest rows at stated is =
    let last = drop (length rest - 4) rest in
    let size : length last ≡ length rest - (length rest - 4) = length-drop (length rest - 4) rest in
    let number = went (number_at w32 last) _ rows is in
    let there = number-there w32 last number.0 number.1 in
    let fits = went (refuse_if (ltb height number.0.0) (errors.Region InvalidDimension)) _ rows number.2 in
    sym (last-number k bytes rest at (omega (arith, size, there.0)))
    ∙ ap (λ (x : ℕ × List ℕ). x.0) there.1
    ∙ ap (λ (r : ℕ × List ℕ). r.0) (same-ok _ rows fits.2)

four : (b : Bool) (n m : ℕ) → b ≡ true → n < m + 4 → n < m + cond b 4 0
four b n m is below = let all : ◌≡◌ {A = ℕ} (cond b 4 0) 4 = cond-true b 4 0 is in omega (arith, all)

abbrev pixels_by : ℕ → ℕ
pixels_by flags = adaptive_pixel_count (eqb (flags % 2) 1) (eqb (flags / 16 % 2) 1) (template_of (flags / 2 % 4))

generic_header_causes : (unknown strict : Bool) (bytes : List ℕ) → IfErr (generic_header_at unknown strict bytes) (BreaksGenericHeader unknown bytes)
unfolding generic_header_at
generic_header_causes unknown strict bytes =
    let P : DecodeError → Type 0 = BreaksGenericHeader unknown bytes in
    cause-next P (region_info_at bytes) _ (info-cause P bytes (λ short. omega arith) (λ why. why) (λ why. why)) (λ info info_is.
    let sides = info-there bytes info info_is in
    cause-next P (number_at w8 info.1) _ (cause-number P w8 info.1 (λ short. omega (arith, sides.0.size))) (λ flags flags_is.
    let at = at-next w8 17 bytes info.1 flags sides.0 flags_is in
    let same : pixels_in bytes ≡ pixels_by flags.0 = ap (λ (n : ℕ). pixels_by n) (value-next w8 17 bytes info.1 flags sides.0 flags_is) in
    let mmr = eqb (flags.0 % 2) 1 in
    let extended = eqb (flags.0 / 16 % 2) 1 in
    let count = adaptive_pixel_count mmr extended (template_of (flags.0 / 2 % 4)) in
    cause-next P (adaptive_pixels_at count flags.1) _
    (cause-pixels P count 18 bytes flags.1 at (λ short. omega (arith, same)) (λ i below whole late. (i, omega (arith, same, below), whole, late))) (λ pixels pixels_is.
    let there = pixels-there count 18 bytes flags.1 pixels at pixels_is in
    cause-next P (rows_at unknown info.0.height pixels.1) _
    (rows-cause P unknown info.0.height pixels.1
    (λ is short. four unknown (length bytes) (18 + 2 * pixels_in bytes) is (omega (arith, same, there.size)))
    (λ is whole more. (
      is,
      omega (arith, same, there.size, whole),
      (let last = last-number (18 + 2 * pixels_by flags.0) bytes pixels.1 there whole in omega (arith, last, sides.2, more)),
    ))) (λ rows rows_is.
    let value = rows-value unknown info.0.height (18 + 2 * pixels_by flags.0) bytes pixels.1 rows there sides.2 rows_is in
    cause-next P (refuse_if (ltb 65535 info.0.width || ltb 65535 rows.0) (errors.Overflow BitmapDimension)) _
    (cause-refused P (ltb 65535 info.0.width || ltb 65535 rows.0) (errors.Overflow BitmapDimension)
    (λ wide. (
      omega (arith, same, there.size),
      ⊎_elim
          (λ (columns : ltb 65535 info.0.width ≡ true). inl (let above = ltb-true 65535 info.0.width columns in omega (arith, above, sides.1)))
          (λ (lines : ltb 65535 rows.0 ≡ true). inr (let above = ltb-true 65535 rows.0 lines in omega (arith, above, value)))
          (or_cases (ltb 65535 info.0.width) (ltb 65535 rows.0) wide),
    )))
    (λ fits fits_is. tt)))))

pub generic_header_cause : {X : Type 0} (unknown strict : Bool) (bytes : List ℕ) (r : Result X DecodeError) → IfErr r (λ e. generic_header_at unknown strict bytes ≡ Err e) → HasCause r (BreaksGenericHeader unknown bytes)
generic_header_cause unknown strict bytes r = call-cause (BreaksGenericHeader unknown bytes) (generic_header_at unknown strict bytes) r (generic_header_causes unknown strict bytes)

-- ---- refinements
pixels-of : (b : Bool) → 2 * refinement_pixel_count (cond b refinements.Template0 refinements.Template1) ≡ cond b 4 0
pixels-of true = refl
pixels-of false = refl

pub refinement_header_causes : (bytes : List ℕ) → IfErr (refinement_header_at bytes) (BreaksRefinementHeader bytes)
unfolding refinement_header_at
refinement_header_causes bytes =
    let P : DecodeError → Type 0 = BreaksRefinementHeader bytes in
    cause-next P (region_info_at bytes) _ (info-cause P bytes (λ short. omega arith) (λ why. why) (λ why. why)) (λ info info_is.
    let sides = info-there bytes info info_is in
    cause-next P (number_at w8 info.1) _ (cause-number P w8 info.1 (λ short. omega (arith, sides.0.size))) (λ flags flags_is.
    let at = at-next w8 17 bytes info.1 flags sides.0 flags_is in
    let template = refinement_template_of (flags.0 % 2) in
    let same : 2 * refinement_pixel_count template ≡ cond (eqb (number_in w8 17 bytes % 2) 0) 4 0 =
    pixels-of (eqb (flags.0 % 2) 0) ∙ ap (λ (n : ℕ). cond (eqb (n % 2) 0) 4 0) (sym (value-next w8 17 bytes info.1 flags sides.0 flags_is)) in
    cause-next P (refinement_pixels_at template flags.1) _ (cause-refinement_pixels P template 18 bytes flags.1 at (λ short. omega (arith, same))) (λ pixels pixels_is.
    cause-next P (refuse_if (ltb 65535 info.0.width || ltb 65535 info.0.height) (errors.Overflow BitmapDimension)) _
    (cause-refused P (ltb 65535 info.0.width || ltb 65535 info.0.height) (errors.Overflow BitmapDimension)
    (λ wide. (
      omega (arith, at.size),
      ⊎_elim
          (λ (columns : ltb 65535 info.0.width ≡ true). inl (let above = ltb-true 65535 info.0.width columns in omega (arith, above, sides.1)))
          (λ (lines : ltb 65535 info.0.height ≡ true). inr (let above = ltb-true 65535 info.0.height lines in omega (arith, above, sides.2)))
          (or_cases (ltb 65535 info.0.width) (ltb 65535 info.0.height) wide),
    )))
    (λ fits fits_is. tt))))

pub refinement_header_cause : {X : Type 0} (bytes : List ℕ) (r : Result X DecodeError) → IfErr r (λ e. refinement_header_at bytes ≡ Err e) → HasCause r (BreaksRefinementHeader bytes)
refinement_header_cause bytes r = call-cause (BreaksRefinementHeader bytes) (refinement_header_at bytes) r (refinement_header_causes bytes)

pub offset_causes : (from : PlacedRegion) (info : RegionSegmentInfo) → IfErr (offset from info) (BreaksOffset from info)
unfolding offset
offset_causes from info =
    let P : DecodeError → Type 0 = BreaksOffset from info in
    let far : (n : ℕ) → is_far n ≡ true → 2 ^ 31 ≤ n = λ n is. leb-true 2147483648 n is in
    let narrow = ltb from.grid.width info.width in
    let low = ltb from.grid.height info.height in
    let a = is_far from.x_location in
    let b = is_far info.x_location in
    let c = is_far from.y_location in
    let d = is_far info.y_location in
    cause-next P (refuse_if (narrow || low) (errors.Region InvalidDimension)) _
    (cause-refused P (narrow || low) (errors.Region InvalidDimension)
    (λ smaller. ⊎_elim
    (λ (columns : narrow ≡ true). inl (ltb-true from.grid.width info.width columns))
    (λ (lines : low ≡ true). inr (ltb-true from.grid.height info.height lines))
    (or_cases narrow low smaller))) (λ covered covered_is.
    cause-next P (refuse_if (a || b || c || d) (errors.Overflow ReferenceOffset)) _
    (cause-refused P (a || b || c || d) (errors.Overflow ReferenceOffset)
    (λ is. ⊎_elim
    (λ (abc : (a || b || c) ≡ true). ⊎_elim
    (λ (ab : (a || b) ≡ true). ⊎_elim
    (λ (one : a ≡ true). inl (inl (far from.x_location one)))
    (λ (two : b ≡ true). inl (inr (far info.x_location two)))
    (or_cases a b ab))
    (λ (three : c ≡ true). inr (inl (far from.y_location three)))
    (or_cases (a || b) c abc))
    (λ (last : d ≡ true). inr (inr (far info.y_location last)))
    (or_cases (a || b || c) d is))) (λ near near_is. tt))

pub offset_cause : {X : Type 0} (from : PlacedRegion) (info : RegionSegmentInfo) (r : Result X DecodeError) → IfErr r (λ e. offset from info ≡ Err e) → HasCause r (BreaksOffset from info)
offset_cause from info r = call-cause (BreaksOffset from info) (offset from info) r (offset_causes from info)
