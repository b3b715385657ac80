-- Each bitmap is a generic region.
use Rattle.std.proofs.Common.{◌≡◌, ℕ, zero, suc, ◌+◌, ◌-◌, ◌*◌, ◌/◌, ◌%◌, ◌^◌, ◌<◌, ltb, Bool, true, false, cond, List, length, get_or, replicate, ℤ, pos, negsuc, ◌+ℤ◌, Option, Some, None, Result, Ok, refl, sym, ◌∙◌, ap, subst, arith, ⊎_elim, le-ltb}
use Rattle.std.proofs.lemmas.Bool.{cond-true, cond-false, cases_eq, and_parts, true≢false}
use Rattle.std.proofs.lemmas.Nat.{div_below, mod_below, div-add-mod'}
use Rattle.jbig2_base.specs.Results.{◌>>=◌}
use Rattle.jbig2_base.specs.Grid.{Grid, grid_of, pixel, same_colour}
use Rattle.jbig2_base.specs.declared.error.DecodeError.{DecodeError}
use Rattle.jbig2_base.proofs.GridLemmas.{pixel_at-grid_of}
use Rattle.jbig2_coder.specs.Coder.{Context, fresh, initial_registers}
use Rattle.jbig2_coder.specs.Encoder.{encoded_bytes}
use Rattle.jbig2_mmr.specs.T6.{DecodedRows, mmr_rows}
use Rattle.jbig2_region.specs.declared.template.AdaptiveTemplatePixel.{AdaptiveTemplatePixel}
use Rattle.jbig2_region.specs.declared.template.Template.{Template}
use Rattle.jbig2_region.specs.declared.template.Template.TheVariants.{Template0, Template1, Template2, Template3}
use Rattle.jbig2_region.specs.GenericHeader.{GenericHeader}
use Rattle.jbig2_region.specs.Raster.{Coding, Region, so_far, no_pixels, decoded_region}
use Rattle.jbig2_region.specs.Templates.{FitsTemplate, context_bits, row_context, template_pixels}
use Rattle.jbig2_region.specs.Generic.{generic_coding, generic_region, generic_grid, generic_result}
use Rattle.jbig2_region.proofs.ContextLemmas.{context-lt}
use Rattle.jbig2_inverses.specs.CoderStates.{Entry, State, initial_state, GivesDecisions}
use Rattle.jbig2_inverses.specs.MmrWriter.{mmr_bytes}
use Rattle.jbig2_inverses.specs.RegionWriter.{pixels_before, entries_before, IsCodable, row_above, same_rows, is_typical, generic_entries, GenericRegionsReadBack}
use Rattle.jbig2_inverses.proofs.CoderStates.{gives-encoded, window-fresh}
use Rattle.jbig2_inverses.proofs.BitmapInverse.{bitmaps_read_back}
use Rattle.jbig2_inverses.proofs.RegionInverse.{pixel-before, regions_read_back}

-- ---- contexts
length-template : (extended : Bool) (template : Template) (a : List AdaptiveTemplatePixel) → FitsTemplate extended template → length (template_pixels extended template a) ≡ context_bits template
length-template false Template0 a fits = refl
length-template false Template1 a fits = refl
length-template false Template2 a fits = refl
length-template false Template3 a fits = refl
length-template true template a fits = sym (ap (λ (t : Template). context_bits t) fits)

row-below : (template : Template) → row_context template < 2 ^ context_bits template
row-below Template0 = omega arith
row-below Template1 = omega arith
row-below Template2 = omega arith
row-below Template3 = omega arith

IsThat : {A : Type 0} → A → Option A → Type 0
IsThat x (Some y) = x ≡ y
IsThat x None = ⊥

same-some : {A : Type 0} (x y : A) → ◌≡◌ {A = Option A} (Some x) (Some y) → x ≡ y
unfolding IsThat
same-some x y e = subst (IsThat x) e refl

none-some : {A : Type 0} (y : A) → ◌≡◌ {A = Option A} None (Some y) → ⊥
unfolding IsThat
none-some y e = subst (IsThat y) (sym e) refl

row-low : (typical : Bool) (template : Template) (k : ℕ) → cond typical (Some (row_context template)) None ≡ Some k → k < 2 ^ context_bits template
row-low true template k e = subst (λ (n : ℕ). n < 2 ^ context_bits template) (same-some (row_context template) k e) (row-below template)
row-low false template k e = absurd (none-some k e)

no-rows : (typical : Bool) (template : Template) (w : ℕ) (pixels : ℕ → ℕ → Bool) → cond typical (Some (row_context template)) None ≡ None → (y : ℕ) → is_typical typical w pixels y ≡ false
no-rows true template w pixels e y = absurd (none-some (row_context template) (sym e))
no-rows false template w pixels e y = refl

-- ---- typical rows
colours-same : (a b : Bool) → same_colour a b ≡ true → a ≡ b
colours-same true true h = refl
colours-same true false h = absurd (true≢false (sym h))
colours-same false true h = absurd (true≢false (sym h))
colours-same false false h = refl

rows-same : (n i : ℕ) (one other : ℕ → Bool) → same_rows n one other ≡ true → i < n → one i ≡ other i
rows-same zero i one other h inside = absurd (omega (arith, inside))
rows-same (suc n) i one other h inside =
    let parts = and_parts (same_colour (one n) (other n)) (same_rows n one other) h in
    ⊎_elim
    (λ (e : i ≡ n). ap one e ∙ colours-same (one n) (other n) parts.0 ∙ ap other (sym e))
    (λ (o : i ≡ n → ⊥). rows-same n i one other parts.1 (omega (arith, inside, o)))
    (cases_eq i n)

-- the pixel above pixel n, among those before it
above-is : (coding : Coding) (w h : ℕ) (pixels : ℕ → ℕ → Bool) (typical : ℕ → Bool) (y x n : ℕ) → x < w → y < h → y * w + x ≡ n
    → pixel (so_far w h (pixels_before coding w h pixels typical 0 n)) (pos x) (pos y +ℤ negsuc 0) ≡ row_above pixels y x
unfolding so_far
above-is coding w h pixels typical zero x n left inside at = refl
above-is coding w h pixels typical (suc y) x n left inside at =
    let px = pixels_before coding w h pixels typical 0 n in
    let g = so_far w h px in
    let up : pos (suc y) +ℤ negsuc 0 ≡ pos y =
    cond-false (ltb (suc y) 1) (negsuc (1 - suc (suc y))) (pos (suc y - 1)) (le-ltb (suc y) 1 (omega arith)) ∙ ap pos (let e : suc y - 1 ≡ y = omega arith in e) in
    let below : y < h = omega (arith, inside) in
    let row : suc y * w ≡ y * w + w = suc-times y w in
    let earlier : y * w + x < n = omega (arith, row, at, left) in
    ap (λ (z : ℤ). pixel g (pos x) z) up
    ∙ pixel_at-grid_of w h (λ i j. get_or px (j * w + i) false) x y left below
    ∙ pixel-before coding w h pixels typical 0 n x y left earlier
  where
    suc-times : (q w : ℕ) → suc q * w ≡ q * w + w
    suc-times q w = omega arith

-- what is known of a pixel is the pixel
known-is : (typical : Bool) (above c here : Bool) → cond typical (Some above) (cond false (Some false) None) ≡ Some c → (typical ≡ true → above ≡ here) → c ≡ here
known-is true above c here e same = sym (same-some above c e) ∙ same refl
known-is false above c here e same = absurd (none-some c e)

module _ (h : GenericHeader) (pixels : ℕ → ℕ → Bool) where
  abbrev w : ℕ
  w = h.region_info.width

  abbrev rows : ℕ
  rows = h.region_info.height

  abbrev typical : ℕ → Bool
  typical y = is_typical h.tpgdon w pixels y

  codable : FitsTemplate h.extended h.template → IsCodable (generic_coding h) w rows pixels typical 0 (2 ^ context_bits h.template)
  codable fits =
      let template = template_pixels h.extended h.template h.adaptive_template_pixels in record {
        pixel_contexts = λ g x y. subst (λ (n : ℕ). (generic_coding h).context g x y < 2 ^ n) (length-template h.extended h.template h.adaptive_template_pixels fits) (context-lt template g x y);
        row_contexts = λ k e. row-low h.tpgdon h.template k e;
        no_rows = λ e y. no-rows h.tpgdon h.template w pixels e y;
        known = λ n inside c e.
            let x = n % w in
            let y = n / w in
            let g = so_far w rows (pixels_before (generic_coding h) w rows pixels typical 0 n) in
            known-is (typical y) (pixel g (pos x) (pos y +ℤ negsuc 0)) c (pixels x y) e (λ t.
            let wide = wide-of n inside in
            let left : x < w = mod_below n w wide in
            let turned : n < rows * w = omega (arith, inside) in
            let parts = and_parts h.tpgdon (same_rows w (λ i. pixels i y) (row_above pixels y)) t in
            above-is (generic_coding h) w rows pixels typical y x n left (div_below n w rows wide turned) (div-add-mod' n w)
            ∙ sym (rows-same w x (λ i. pixels i y) (row_above pixels y) parts.1 left));
      }
    where
      wide-of : (n : ℕ) → n < w * rows → 0 < w
      wide-of n inside = ⊎_elim (λ (z : w ≡ 0). absurd (let e : w * rows ≡ 0 = ap (λ (v : ℕ). v * rows) z ∙ (let f : 0 * rows ≡ 0 = omega arith in f) in omega (arith, e, inside))) (λ (o : w ≡ 0 → ⊥). omega (arith, o)) (cases_eq w 0)

  abbrev entries : List Entry
  entries = entries_before (generic_coding h) w rows pixels typical 0 (w * rows)

  entries-are : generic_entries h pixels ≡ entries
  unfolding generic_entries
  entries-are = refl

  region-is : generic_region h ≡ decoded_region (generic_coding h) w rows h.bytes (no_pixels (initial_registers h.bytes) (replicate (2 ^ context_bits h.template) fresh))
  unfolding generic_region
  region-is = refl

  grid-by : generic_grid h ≡ so_far w rows (generic_region h).pixels
  unfolding generic_grid
  grid-by = refl

  coded : FitsTemplate h.extended h.template → h.mmr ≡ false → h.bytes ≡ encoded_bytes (generic_entries h pixels) → generic_result h ≡ Ok (grid_of w rows pixels)
  coded fits plain e =
      let s : State = initial_state h.bytes in
      let count = 2 ^ context_bits h.template in
      let source : encoded_bytes entries ≡ h.bytes = sym (e ∙ ap encoded_bytes entries-are) in
      let gives : GivesDecisions h.bytes s entries = subst (λ (b : List ℕ). GivesDecisions b (initial_state b) entries) source (gives-encoded entries) in
      let read = regions_read_back (generic_coding h) w rows pixels typical 0 count (codable fits) h.bytes s gives in
      let start = ap (λ (cs : List Context). decoded_region (generic_coding h) w rows h.bytes (no_pixels s.registers cs)) (sym (window-fresh 0 count)) in
      let grid : generic_grid h ≡ grid_of w rows pixels = grid-by ∙ ap (λ (r : Region). so_far w rows r.pixels) (region-is ∙ start ∙ read.0) ∙ read.1 in
      let by_mmr : Result Grid DecodeError = mmr_rows h.strict w rows h.bytes >>= λ r. Ok r.grid in
      cond-false h.mmr by_mmr (Ok (generic_grid h)) plain ∙ ap (λ (g : Grid). Ok g) grid

  by-mmr : (ends : Bool) → h.mmr ≡ true → 0 < w → 0 < rows → h.bytes ≡ mmr_bytes ends w rows pixels → generic_result h ≡ Ok (grid_of w rows pixels)
  by-mmr ends is wide high e =
      let done : Result DecodedRows DecodeError → Result Grid DecodeError = λ r. r >>= λ d. Ok d.grid in
      cond-true h.mmr (done (mmr_rows h.strict w rows h.bytes)) (Ok (generic_grid h)) is
      ∙ ap (λ (b : List ℕ). done (mmr_rows h.strict w rows b)) e
      ∙ ap done (bitmaps_read_back h.strict ends w rows pixels wide high)

pub generic_regions_read_back : GenericRegionsReadBack
generic_regions_read_back = record { coded = λ h pixels fits plain e. coded h pixels fits plain e; mmr = λ h pixels ends is wide high e. by-mmr h pixels ends is wide high e }
