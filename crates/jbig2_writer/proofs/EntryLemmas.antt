-- The decisions row by row are those of the definition, which goes pixel by pixel.
use Rattle.std.proofs.Common.{◌≡◌, ℕ, zero, suc, ◌+◌, ◌-◌, ◌*◌, ◌/◌, ◌%◌, ◌<◌, eqb, Bool, true, false, cond, List, [], ◌∷◌, ◌++◌, Option, Some, None, refl, sym, ◌∙◌, ap, arith, append-nil, append_assoc, eq-eqb, ne_eqb}
use Rattle.std.proofs.lemmas.Bool.{cond-true, cond-false}
use Rattle.std.proofs.lemmas.Nat.{div-mul-add, mod-mul-add}
use Rattle.jbig2_base.specs.Grid.{Grid, differ, pixel_at}
use Rattle.jbig2_region.specs.Generic.{coding_of, context_at}
use Rattle.jbig2_region.specs.Raster.{Coding, so_far}
use Rattle.jbig2_region.specs.Templates.{row_context}
use Rattle.jbig2_inverses.specs.CoderStates.{Entry}
use Rattle.jbig2_inverses.specs.RegionWriter.{entries_before, known_or, ltp_before, ltp_entries, pixel_entries, pixels_before, row_entries}
use Rattle.jbig2_writer.specs.declared.settings.ArithmeticCoding.{ArithmeticCoding}
use Rattle.jbig2_writer.specs.inner.Rows.{decisions_of_pixels, places, predicted_before, decisions_of_row, decisions_of_rows, typical_row}
use Rattle.jbig2_writer.proofs.ContextLemmas.{context-same, places-earlier}

known-of : (t c : Bool) (e : Entry) → known_or (cond t (Some c) (cond false (Some false) None)) e ≡ cond t [] (e ∷ [])
known-of true c e = refl
known-of false c e = refl

pixel-joined : (t : Bool) (before ltp pixels : List Entry) (e : Entry) → (before ++ (ltp ++ cond t [] pixels)) ++ cond t [] (e ∷ []) ≡ before ++ (ltp ++ cond t [] (pixels ++ e ∷ []))
pixel-joined true before ltp pixels e = append-nil (before ++ (ltp ++ []))
pixel-joined false before ltp pixels e = append_assoc before (ltp ++ pixels) (e ∷ []) ∙ ap (λ (xs : List Entry). before ++ xs) (append_assoc ltp pixels (e ∷ []))

module _ (s : ArithmeticCoding) (g : Grid) where
  abbrev w : ℕ
  w = g.width

  abbrev coding : Coding
  coding = coding_of s.typical s.template (places s.template)

  abbrev typical : ℕ → Bool
  typical y = typical_row s g y

  abbrev entries : ℕ → List Entry
  entries n = entries_before coding w g.height (pixel_at g) typical 0 n

  abbrev row_of : ℕ → List Entry
  row_of n = row_entries coding w g.height (pixel_at g) typical 0 n

  abbrev pixel_of : ℕ → List Entry
  pixel_of n = pixel_entries coding w g.height (pixel_at g) typical 0 n

  abbrev ltp : ℕ → Bool
  ltp n = ltp_before coding w g.height (pixel_at g) typical 0 n

  abbrev entry : ℕ → ℕ → Entry  -- of the pixel at column x of row y
  entry x y = (context_at (places s.template) g x y, pixel_at g x y)

  abbrev opening : ℕ → List Entry  -- the decision SLTP of row y
  opening y = cond s.typical ((row_context s.template, differ (typical y) (predicted_before s g y)) ∷ []) []

  entries-next : (n : ℕ) → entries (suc n) ≡ entries n ++ (row_of n ++ pixel_of n)
  unfolding entries_before
  entries-next n = refl

  -- ---- one pixel
  pixel-is : (x y : ℕ) → x < w → pixel_of (y * w + x) ≡ cond (typical y) [] (entry x y ∷ [])
  pixel-is x y left =
      let n = y * w + x in
      let so : Grid = so_far w g.height (pixels_before coding w g.height (pixel_at g) typical 0 n) in
      let at : ℕ → ℕ → List Entry = λ a b. known_or (coding.known (typical b) so a b) (0 + coding.context so a b, pixel_at g a b) in
      let made : ℕ → Entry = λ k. (k, pixel_at g x y) in
      ap (λ (a : ℕ). at a (n / w)) (mod-mul-add y w x left)
      ∙ ap (λ (b : ℕ). at x b) (div-mul-add y w x left)
      ∙ known-of (typical y) _ (made (0 + coding.context so x y))
      ∙ ap (λ (k : ℕ). cond (typical y) [] (made k ∷ [])) (let e : 0 + coding.context so x y ≡ coding.context so x y = omega arith in e)
      ∙ ap (λ (k : ℕ). cond (typical y) [] (made k ∷ [])) (context-same coding g typical x y left (places s.template) (places-earlier s.template))

  -- ---- the beginning of a row
  ltp-is : (y : ℕ) → 0 < w → ltp (y * w) ≡ predicted_before s g y
  ltp-is zero wide = ap ltp (let e : 0 * w ≡ 0 = omega arith in e)
  ltp-is (suc y) wide =
      let row : suc y * w ≡ y * w + w = omega arith in
      let last : suc y * w ≡ suc (y * w + (w - 1)) = omega (arith, row, wide) in
      ap ltp last ∙ ap typical (div-mul-add y w (w - 1) (omega (arith, wide)))

  opening-is : (y : ℕ) → 0 < w → row_of (y * w + 0) ≡ opening y
  opening-is y wide =
      let n = y * w + 0 in
      let same : n ≡ y * w = omega arith in
      let coded : Option ℕ → List Entry = λ o. ltp_entries coding w g.height (pixel_at g) typical 0 o n in
      cond-true (eqb (n % w) 0) (coded coding.row_context) [] (eq-eqb (n % w) 0 (mod-mul-add y w 0 wide))
      ∙ by s.typical (row_context s.template) n (div-mul-add y w 0 wide) (ap ltp same ∙ ltp-is y wide)
    where
      by : (t : Bool) (k n : ℕ) → n / w ≡ y → ltp n ≡ predicted_before s g y
          → ltp_entries coding w g.height (pixel_at g) typical 0 (cond t (Some k) None) n ≡ cond t ((k, differ (typical y) (predicted_before s g y)) ∷ []) []
      by false k n at before = refl
      by true k n at before =
          ap (λ (j : ℕ). (j, differ (typical (n / w)) (ltp n)) ∷ []) (let e : 0 + k ≡ k = omega arith in e)
          ∙ ap (λ (b : ℕ). (k, differ (typical b) (ltp n)) ∷ []) at
          ∙ ap (λ (p : Bool). (k, differ (typical y) p) ∷ []) before

  inside-row : (x y : ℕ) → suc x < w → row_of (y * w + suc x) ≡ []
  inside-row x y left =
      let n = y * w + suc x in
      let coded : List Entry = ltp_entries coding w g.height (pixel_at g) typical 0 coding.row_context n in
      let at : n % w ≡ suc x = mod-mul-add y w (suc x) left in
      cond-false (eqb (n % w) 0) coded [] (ne_eqb (n % w) 0 (λ e. omega (arith, e, at)))

  -- ---- a row, and all rows
  row-so-far : (x y : ℕ) → x < w → entries (suc (y * w + x)) ≡ entries (y * w) ++ (opening y ++ cond (typical y) [] (decisions_of_pixels (places s.template) g y (suc x)))
  unfolding decisions_of_pixels
  row-so-far zero y left =
      let n = y * w + 0 in
      let same : n ≡ y * w = omega arith in
      entries-next n
      ∙ ap (λ (m : ℕ). entries m ++ (row_of n ++ pixel_of n)) same
      ∙ ap (λ (xs : List Entry). entries (y * w) ++ (xs ++ pixel_of n)) (opening-is y left)
      ∙ ap (λ (xs : List Entry). entries (y * w) ++ (opening y ++ xs)) (pixel-is 0 y left)
  row-so-far (suc x) y left =
      let n = y * w + suc x in
      let next : n ≡ suc (y * w + x) = omega arith in
      let pixels : List Entry = decisions_of_pixels (places s.template) g y (suc x) in
      entries-next n
      ∙ ap (λ (m : ℕ). entries m ++ (row_of n ++ pixel_of n)) next
      ∙ ap (λ (xs : List Entry). xs ++ (row_of n ++ pixel_of n)) (row-so-far x y (omega (arith, left)))
      ∙ ap (λ (xs : List Entry). (entries (y * w) ++ (opening y ++ cond (typical y) [] pixels)) ++ (xs ++ pixel_of n)) (inside-row x y left)
      ∙ ap (λ (xs : List Entry). (entries (y * w) ++ (opening y ++ cond (typical y) [] pixels)) ++ xs) (pixel-is (suc x) y left)
      ∙ pixel-joined (typical y) (entries (y * w)) (opening y) pixels (entry (suc x) y)

  row-is : (y : ℕ) → decisions_of_row s g y (predicted_before s g y) ≡ opening y ++ cond (typical y) [] (decisions_of_pixels (places s.template) g y w)
  unfolding decisions_of_row
  row-is y = refl

  pub rows-are : (y : ℕ) → 0 < w → decisions_of_rows s g y ≡ entries (y * w)
  unfolding decisions_of_rows entries_before
  rows-are zero wide = ap entries (let e : 0 ≡ 0 * w = omega arith in e)
  rows-are (suc y) wide =
      let row : suc y * w ≡ y * w + w = omega arith in
      let whole : suc (y * w + (w - 1)) ≡ suc y * w = omega (arith, row, wide) in
      let all : w ≡ suc (w - 1) = omega (arith, wide) in
      ap (λ (xs : List Entry). xs ++ decisions_of_row s g y (predicted_before s g y)) (rows-are y wide)
      ∙ ap (λ (xs : List Entry). entries (y * w) ++ xs) (row-is y)
      ∙ ap (λ (n : ℕ). entries (y * w) ++ (opening y ++ cond (typical y) [] (decisions_of_pixels (places s.template) g y n))) all
      ∙ sym (row-so-far (w - 1) y (omega (arith, wide)))
      ∙ ap entries whole
