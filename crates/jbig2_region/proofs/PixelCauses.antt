-- Which rule the bytes of adaptive pixels break where they are refused.
use Rattle.std.proofs.Common.{◌≡◌, ℕ, zero, suc, ◌+◌, ◌*◌, ◌<◌, ◌≤◌, false, not, ◌&&◌, ◌||◌, List, [], ◌∷◌, length, Result, Ok, Err, ℤ, pos, negsuc, refl, sym, ◌∙◌, ap, subst, arith, inl, inr}
use Rattle.std.specs.Prelude.{IfErr, int_le, int_lt}
use Rattle.std.specs.Int.{Width, w8, byte_len, cast_signed}
use Rattle.std.proofs.lemmas.Bool.{false≢true, not-true}
use Rattle.std.proofs.lemmas.Int.{ints}
use Rattle.jbig2_base.specs.Results.{◌>>=◌, refuse_if}
use Rattle.jbig2_base.specs.Causes.{number_in, HasCause}
use Rattle.jbig2_base.specs.Fields.{end_of_bytes, number_at, signed_at}
use Rattle.jbig2_base.specs.declared.error.DecodeError.{DecodeError}
use Rattle.jbig2_base.specs.declared.error.DecodeError.TheVariants as errors
use Rattle.jbig2_base.specs.declared.error.TemplateError.TheVariants.{InvalidAtPixel}
use Rattle.jbig2_base.proofs.CauseSteps.{call-cause}
use Rattle.jbig2_base.proofs.Causes.{cause-next, cause-number, cause-refused, same-ok, went}
use Rattle.jbig2_region.specs.Causes.{BreaksPixels, BreaksRefinementPixels, IsLate}
use Rattle.jbig2_region.specs.RefinementTemplates.{refinement_pixel_count, refinement_pixels_at}
use Rattle.jbig2_region.specs.Templates.{adaptive_pixel_at, adaptive_pixels_at, free_pixel_at, is_earlier}
use Rattle.jbig2_region.specs.declared.template.AdaptiveTemplatePixel.{AdaptiveTemplatePixel}
use Rattle.jbig2_region.specs.declared.template.RefinementTemplate.{RefinementTemplate}
use Rattle.jbig2_region.specs.declared.template.RefinementTemplate.TheVariants as refinements
use Rattle.jbig2_region.proofs.Causes.{At, at-next, at-start, value-next}

-- ---- one pixel
at-place : (j k : ℕ) (bytes rest : List ℕ) → j ≡ k → At j bytes rest → At k bytes rest
at-place j k bytes rest same at = let A : ℕ → Type 0 = λ i. At i bytes rest in subst A same at

cause-signed : (P : DecodeError → Type 0) (w : Width) (rest : List ℕ) → (length rest < byte_len w → P end_of_bytes) → IfErr (signed_at w rest) P
cause-signed P w rest why = cause-next P (number_at w rest) (λ n. Ok (cast_signed w n.0, n.1)) (cause-number P w rest why) (λ n is. tt)

signed-there : (w : Width) (k : ℕ) (bytes rest : List ℕ) (x : ℤ × List ℕ) → At k bytes rest → signed_at w rest ≡ Ok x → At (k + byte_len w) bytes x.1 × (cast_signed w (number_in w k bytes) ≡ x.0)
signed-there w k bytes rest x at is =
    let n = went (number_at w rest) (λ n. Ok (cast_signed w n.0, n.1)) x is in
    let whole : ◌≡◌ {A = ℤ × List ℕ} (cast_signed w n.0.0, n.0.1) x = same-ok (cast_signed w n.0.0, n.0.1) x n.2 in
    let A : List ℕ → Type 0 = λ l. At (k + byte_len w) bytes l in (
      subst A (ap (λ (y : ℤ × List ℕ). y.1) whole) (at-next w k bytes rest n.0 at n.1),
      ap (λ (i : ℕ). cast_signed w i) (value-next w k bytes rest n.0 at n.1) ∙ ap (λ (y : ℤ × List ℕ). y.0) whole,
    )

cause-free : (P : DecodeError → Type 0) (k : ℕ) (bytes rest : List ℕ) → At k bytes rest → (length bytes < k + 2 → P end_of_bytes) → IfErr (free_pixel_at rest) P
cause-free P k bytes rest at why =
    cause-next P (signed_at w8 rest) _ (cause-signed P w8 rest (λ short. why (omega (arith, at.size)))) (λ x x_is.
    let next = signed-there w8 k bytes rest x at x_is in
    cause-next P (signed_at w8 x.1) _ (cause-signed P w8 x.1 (λ short. why (omega (arith, next.0.size)))) (λ y y_is. tt))

-- where it lies, and the bytes after it
record Pixel (k : ℕ) (bytes : List ℕ) (pixel : AdaptiveTemplatePixel × List ℕ) : Type 0 where
  at : At (k + 2) bytes pixel.1
  columns : cast_signed w8 (number_in w8 k bytes) ≡ pixel.0.x
  rows : cast_signed w8 (number_in w8 (k + 1) bytes) ≡ pixel.0.y

free-there : (k : ℕ) (bytes rest : List ℕ) (pixel : AdaptiveTemplatePixel × List ℕ) → At k bytes rest → free_pixel_at rest ≡ Ok pixel → Pixel k bytes pixel
free-there k bytes rest pixel at is =
    let x = went (signed_at w8 rest) (λ x. signed_at w8 x.1 >>= λ y. Ok (record { x = x.0; y = y.0 }, y.1)) pixel is in
    let y = went (signed_at w8 x.0.1) (λ y. Ok (record { x = x.0.0; y = y.0 }, y.1)) pixel x.2 in
    let a = signed-there w8 k bytes rest x.0 at x.1 in
    let b = signed-there w8 (k + 1) bytes x.0.1 y.0 a.0 y.1 in
    let made : AdaptiveTemplatePixel × List ℕ = (record { x = x.0.0; y = y.0.0 }, y.0.1) in
    let whole : made ≡ pixel = same-ok made pixel y.2 in
    let A : List ℕ → Type 0 = λ l. At (k + 2) bytes l in
    record {
      at = subst A (ap (λ (p : AdaptiveTemplatePixel × List ℕ). p.1) whole) (at-place (k + 1 + 1) (k + 2) bytes y.0.1 (omega arith) b.0);
      columns = a.1 ∙ ap (λ (p : AdaptiveTemplatePixel × List ℕ). p.0.x) whole;
      rows = b.1 ∙ ap (λ (p : AdaptiveTemplatePixel × List ℕ). p.0.y) whole;
    }

late : (x y : ℤ) → (int_lt y (pos 0) || (int_le y (pos 0) && int_lt x (pos 0))) ≡ false → IsLate x y
late (pos x) (pos zero) is = inr (refl, omega (arith, ints))
late (negsuc x) (pos zero) is = absurd (false≢true (sym is))
late x (pos (suc y)) is = inl (omega (arith, ints))
late x (negsuc y) is = absurd (false≢true (sym is))

-- the pixel at this byte and the next one
abbrev pub IsLateIn : ℕ → List ℕ → Type 0
IsLateIn place bytes = IsLate (cast_signed w8 (number_in w8 place bytes)) (cast_signed w8 (number_in w8 (place + 1) bytes))

cause-pixel : (P : DecodeError → Type 0) (k : ℕ) (bytes rest : List ℕ) → At k bytes rest → (length bytes < k + 2 → P end_of_bytes) → (k + 2 ≤ length bytes → IsLateIn k bytes → P (errors.Template InvalidAtPixel)) → IfErr (adaptive_pixel_at rest) P
unfolding adaptive_pixel_at
cause-pixel P k bytes rest at at_end at_late =
    cause-next P (free_pixel_at rest) _ (cause-free P k bytes rest at at_end) (λ pixel pixel_is.
    let there = free-there k bytes rest pixel at pixel_is in
    cause-next P (refuse_if (not (is_earlier pixel.0)) (errors.Template InvalidAtPixel)) _
    (cause-refused P (not (is_earlier pixel.0)) (errors.Template InvalidAtPixel)
    (λ refused.
    let is = late pixel.0.x pixel.0.y (not-true (is_earlier pixel.0) refused) in
    let X : ℤ → Type 0 = λ x. IsLate x pixel.0.y in
    let Y : ℤ → Type 0 = λ y. IsLate (cast_signed w8 (number_in w8 k bytes)) y in
    at_late (omega (arith, there.at.size)) (subst Y (sym there.rows) (subst X (sym there.columns) is))))
    (λ earlier earlier_is. tt))

pixel-there : (k : ℕ) (bytes rest : List ℕ) (pixel : AdaptiveTemplatePixel × List ℕ) → At k bytes rest → adaptive_pixel_at rest ≡ Ok pixel → At (k + 2) bytes pixel.1
unfolding adaptive_pixel_at
pixel-there k bytes rest pixel at is =
    let free = went (free_pixel_at rest) (λ p. refuse_if (not (is_earlier p.0)) (errors.Template InvalidAtPixel) >>= λ earlier. Ok p) pixel is in
    let earlier = went (refuse_if (not (is_earlier free.0.0)) (errors.Template InvalidAtPixel)) (λ earlier. Ok free.0) pixel free.2 in
    let A : List ℕ → Type 0 = λ l. At (k + 2) bytes l in
    subst A (ap (λ (p : AdaptiveTemplatePixel × List ℕ). p.1) (same-ok free.0 pixel earlier.2)) (free-there k bytes rest free.0 at free.1).at

-- ---- this many pixels
pub cause-pixels : (P : DecodeError → Type 0) (count k : ℕ) (bytes rest : List ℕ) → At k bytes rest → (length bytes < k + 2 * count → P end_of_bytes) → ((i : ℕ) → i < count → k + 2 * i + 2 ≤ length bytes → IsLateIn (k + 2 * i) bytes → P (errors.Template InvalidAtPixel)) → IfErr (adaptive_pixels_at count rest) P
cause-pixels P zero k bytes rest at at_end at_late = tt
cause-pixels P (suc count) k bytes rest at at_end at_late =
    let L : ℕ → Type 0 = λ i. IsLateIn i bytes in
    cause-next P (adaptive_pixel_at rest) _
    (cause-pixel P k bytes rest at (λ short. at_end (omega arith)) (λ whole is. at_late 0 (omega arith) (omega arith) (let here : k ≡ k + 2 * 0 = omega arith in subst L here is))) (λ first first_is.
    cause-next P (adaptive_pixels_at count first.1) _
    (cause-pixels P count (k + 2) bytes first.1 (pixel-there k bytes rest first at first_is) (λ short. at_end (omega arith))
    (λ i below whole is. at_late (suc i) (omega arith) (omega arith) (let there : k + 2 + 2 * i ≡ k + 2 * suc i = omega arith in subst L there is))) (λ others others_is. tt))

pub pixels-there : (count k : ℕ) (bytes rest : List ℕ) (x : List AdaptiveTemplatePixel × List ℕ) → At k bytes rest → adaptive_pixels_at count rest ≡ Ok x → At (k + 2 * count) bytes x.1
pixels-there zero k bytes rest x at is =
    let whole : ◌≡◌ {A = List AdaptiveTemplatePixel × List ℕ} ([], rest) x = same-ok ([], rest) x is in
    let A : List ℕ → Type 0 = λ l. At k bytes l in
    at-place k (k + 2 * 0) bytes x.1 (omega arith) (subst A (ap (λ (p : List AdaptiveTemplatePixel × List ℕ). p.1) whole) at)
pixels-there (suc count) k bytes rest x at is =
    let first = went (adaptive_pixel_at rest) (λ p. adaptive_pixels_at count p.1 >>= λ others. Ok (p.0 ∷ others.0, others.1)) x is in
    let others = went (adaptive_pixels_at count first.0.1) (λ others. Ok (first.0.0 ∷ others.0, others.1)) x first.2 in
    let made : List AdaptiveTemplatePixel × List ℕ = (first.0.0 ∷ others.0.0, others.0.1) in
    let A : List ℕ → Type 0 = λ l. At (k + 2 * suc count) bytes l in
    subst A (ap (λ (p : List AdaptiveTemplatePixel × List ℕ). p.1) (same-ok made x others.2))
    (at-place (k + 2 + 2 * count) (k + 2 * suc count) bytes others.0.1 (omega arith) (pixels-there count (k + 2) bytes first.0.1 others.0 (pixel-there k bytes rest first.0 at first.1) others.1))

pub template_pixels_cause : {X : Type 0} (count : ℕ) (bytes : List ℕ) (r : Result X DecodeError) → IfErr r (λ e. adaptive_pixels_at count bytes ≡ Err e) → HasCause r (BreaksPixels count 0 bytes)
template_pixels_cause count bytes r =
    let P : DecodeError → Type 0 = BreaksPixels count 0 bytes in
    call-cause P (adaptive_pixels_at count bytes) r (cause-pixels P count 0 bytes bytes (at-start bytes) (λ short. short) (λ i below whole is. (i, below, whole, is)))

-- ---- those of a refinement
pub cause-refinement_pixels : (P : DecodeError → Type 0) (template : RefinementTemplate) (k : ℕ) (bytes rest : List ℕ) → At k bytes rest → (length bytes < k + 2 * refinement_pixel_count template → P end_of_bytes) → IfErr (refinement_pixels_at template rest) P
unfolding refinement_pixels_at
cause-refinement_pixels P refinements.Template0 k bytes rest at at_end =
    cause-next P (free_pixel_at rest) _ (cause-free P k bytes rest at (λ short. at_end (omega arith))) (λ first first_is.
    cause-next P (free_pixel_at first.1) _ (cause-free P (k + 2) bytes first.1 (free-there k bytes rest first at first_is).at (λ short. at_end (omega arith))) (λ second second_is. tt))
cause-refinement_pixels P refinements.Template1 k bytes rest at at_end = tt

pub refinement_pixels_cause : {X : Type 0} (template : RefinementTemplate) (bytes : List ℕ) (r : Result X DecodeError) → IfErr r (λ e. refinement_pixels_at template bytes ≡ Err e) → HasCause r (BreaksRefinementPixels template bytes)
refinement_pixels_cause template bytes r =
    let P : DecodeError → Type 0 = BreaksRefinementPixels template bytes in
    call-cause P (refinement_pixels_at template bytes) r (cause-refinement_pixels P template 0 bytes bytes (at-start bytes) (λ short. omega arith))
