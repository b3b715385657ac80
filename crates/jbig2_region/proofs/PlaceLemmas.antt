-- A region by its raster places is the same by its rows.
use Rattle.std.proofs.Common.{subst, ◌≡◌, ℕ, zero, suc, ◌+◌, ◌*◌, ◌%◌, ◌<◌, Bool, true, false, cond, eqb, List, length, refl, sym, ap, ◌∙◌, arith, None}
use Rattle.std.proofs.lemmas.Bool.{eq-eqb, ne_eqb}
use Rattle.std.proofs.lemmas.Nat.{mod-mul-add}
use Rattle.jbig2_base.specs.Grid.{Grid, blank}
use Rattle.jbig2_coder.specs.Coder.{Coder, Context}
use Rattle.jbig2_region.specs.Raster.{Coding, Region, after_pixel, at_next, at_pixel, decoded_region, first_pixels, no_pixels, after_ltp}
use Rattle.jbig2_region.specs.inner.RegionStates.{HasDecoded, region_state}
use Rattle.jbig2_region.specs.inner.Rows.{after_pixels, after_rows, rows_region}
use Rattle.jbig2_region.proofs.RasterLemmas.{region-start, after_ltp-pixels, with_next-length, with_next-predicted}

-- ---- one place
at_next-pixels : (coding : Coding) (w : ℕ) (input : List ℕ) (r : Region) → (at_next coding w input r).pixels ≡ r.pixels
unfolding at_next
at_next-pixels coding w input r = either (eqb (length r.pixels % w) 0)
  where
    either : (b : Bool) → (cond b (after_ltp coding.row_context input r) r).pixels ≡ r.pixels
    either true = after_ltp-pixels coding.row_context input r
    either false = refl

pub first_pixels-length : (coding : Coding) (w h : ℕ) (input : List ℕ) (start : Region) (n : ℕ) → length start.pixels ≡ 0 → length (first_pixels coding w h input start n).pixels ≡ n
unfolding first_pixels after_pixel
first_pixels-length coding w h input start zero none = none
first_pixels-length coding w h input start (suc n) none =
    with_next-length input _ _ _ ∙ ap (λ (k : ℕ). k + 1) (ap length (at_next-pixels coding w input (first_pixels coding w h input start n)) ∙ first_pixels-length coding w h input start n none) ∙ omega arith

pub at_pixel-length : (coding : Coding) (w h : ℕ) (input : List ℕ) (start : Region) (n : ℕ) → length start.pixels ≡ 0 → length (at_pixel coding w h input start n).pixels ≡ n
at_pixel-length coding w h input start n none = ap length (at_next-pixels coding w input (first_pixels coding w h input start n)) ∙ first_pixels-length coding w h input start n none

-- without typical prediction no row is predicted
at_next-plain : (coding : Coding) (w : ℕ) (input : List ℕ) (r : Region) → coding.row_context ≡ None → (at_next coding w input r).predicted ≡ r.predicted
unfolding at_next after_ltp
at_next-plain coding w input r never = rw never (either (eqb (length r.pixels % w) 0))
  where
    either : (b : Bool) → (cond b r r).predicted ≡ r.predicted
    either true = refl
    either false = refl

pub at_pixel-plain : (coding : Coding) (w h : ℕ) (input : List ℕ) (start : Region) (n : ℕ) → coding.row_context ≡ None → start.predicted ≡ false → (at_pixel coding w h input start n).predicted ≡ false
unfolding first_pixels after_pixel
at_pixel-plain coding w h input start zero never plain = at_next-plain coding w input start never ∙ plain
at_pixel-plain coding w h input start (suc n) never plain =
    at_next-plain coding w input (first_pixels coding w h input start (suc n)) never ∙ with_next-predicted input _ _ _ ∙ at_pixel-plain coding w h input start n never plain

-- a row begins here, or doesn't
begins-here : (coding : Coding) (w : ℕ) (input : List ℕ) (r : Region) → length r.pixels % w ≡ 0 → at_next coding w input r ≡ after_ltp coding.row_context input r
unfolding at_next
begins-here coding w input r is = rw (eq-eqb (length r.pixels % w) 0 is)

goes-on : (coding : Coding) (w : ℕ) (input : List ℕ) (r : Region) → (length r.pixels % w ≡ 0 → ⊥) → at_next coding w input r ≡ r
unfolding at_next
goes-on coding w input r other = rw (ne_eqb (length r.pixels % w) 0 other)

first-one : (coding : Coding) (w h : ℕ) (input : List ℕ) (start : Region) (n : ℕ) → first_pixels coding w h input start (suc n) ≡ after_pixel coding w h input (at_next coding w input (first_pixels coding w h input start n))
unfolding first_pixels
first-one coding w h input start n = refl

-- ---- the places of a row
-- pixel x of row y finds what x pixels of the row have left
pub place-in-row : (coding : Coding) (w h : ℕ) (input : List ℕ) (start : Region) (y x : ℕ) → length start.pixels ≡ 0 → x < w → first_pixels coding w h input start (y * w) ≡ after_rows coding w h input y start
    → at_next coding w input (first_pixels coding w h input start (y * w + x)) ≡ after_pixels coding w h input x (after_ltp coding.row_context input (after_rows coding w h input y start))
unfolding after_pixels
place-in-row coding w h input start y zero none inside above =
    let same : y * w + 0 ≡ y * w = omega arith in
    let made : Region = first_pixels coding w h input start (y * w) in
    let column : length made.pixels % w ≡ 0 = ap (λ (n : ℕ). n % w) (first_pixels-length coding w h input start (y * w) none ∙ sym same) ∙ mod-mul-add y w 0 inside in
    ap (λ (n : ℕ). at_next coding w input (first_pixels coding w h input start n)) same ∙ begins-here coding w input made column ∙ ap (λ (r : Region). after_ltp coding.row_context input r) above
place-in-row coding w h input start y (suc x) none inside above =
    let next : y * w + suc x ≡ suc (y * w + x) = omega arith in
    let made : Region = first_pixels coding w h input start (y * w + suc x) in
    let column : length made.pixels % w ≡ suc x = ap (λ (n : ℕ). n % w) (first_pixels-length coding w h input start (y * w + suc x) none) ∙ mod-mul-add y w (suc x) inside in
    let before = place-in-row coding w h input start y x none (omega arith) above in
    goes-on coding w input made (λ zero_column. absurd (omega (arith, column, zero_column)))
    ∙ ap (λ (n : ℕ). first_pixels coding w h input start n) next ∙ first-one coding w h input start (y * w + x)
    ∙ ap (λ (r : Region). after_pixel coding w h input r) before

-- ---- whole rows
pub first-rows : (coding : Coding) (w h : ℕ) (input : List ℕ) (start : Region) (y v : ℕ) → length start.pixels ≡ 0 → w ≡ suc v → first_pixels coding w h input start (y * w) ≡ after_rows coding w h input y start
unfolding after_rows after_pixels first_pixels
first-rows coding w h input start zero v none some =
    let same : 0 * w ≡ 0 = omega arith in
    ap (λ (n : ℕ). first_pixels coding w h input start n) same
first-rows coding w h input start (suc y) v none some =
    let last : suc y * w ≡ suc (y * w + v) = omega arith in
    let above = first-rows coding w h input start y v none some in
    let opening : Region = after_ltp coding.row_context input (after_rows coding w h input y start) in
    ap (λ (n : ℕ). first_pixels coding w h input start n) last
    ∙ ap (λ (r : Region). after_pixel coding w h input r) (place-in-row coding w h input start y v none (omega arith) above)
    ∙ ap (λ (n : ℕ). after_pixels coding w h input n opening) (sym some)

-- pixel x of row y, whose rows above are done
pub place-in-rows : (coding : Coding) (w h : ℕ) (input : List ℕ) (start : Region) (y x : ℕ) → length start.pixels ≡ 0 → x < w
    → at_next coding w input (first_pixels coding w h input start (y * w + x)) ≡ after_pixels coding w h input x (after_ltp coding.row_context input (after_rows coding w h input y start))
place-in-rows coding zero h input start y x none inside = absurd (omega (arith, inside))
place-in-rows coding (suc v) h input start y x none inside = place-in-row coding (suc v) h input start y x none inside (first-rows coding (suc v) h input start y v none refl)

-- ---- whole regions
some-rows : (coding : Coding) (w h : ℕ) (input : List ℕ) (start : Region) → eqb w 0 ≡ false → rows_region coding w h input start ≡ after_rows coding w h input h start
unfolding rows_region
some-rows coding w h input start some = rw some

pub decoded-by-rows : (coding : Coding) (w h : ℕ) (input : List ℕ) (start : Region) → length start.pixels ≡ 0 → decoded_region coding w h input start ≡ rows_region coding w h input start
unfolding decoded_region rows_region first_pixels
decoded-by-rows coding zero h input start none =
    let same : 0 * h ≡ 0 = omega arith in
    ap (λ (n : ℕ). first_pixels coding 0 h input start n) same
decoded-by-rows coding (suc v) h input start none =
    let turned : suc v * h ≡ h * suc v = omega arith in
    let some : eqb (suc v) 0 ≡ false = ne_eqb (suc v) 0 (λ e. absurd (omega (arith, e))) in
    ap (λ (n : ℕ). first_pixels coding (suc v) h input start n) turned ∙ first-rows coding (suc v) h input start h v none refl ∙ sym (some-rows coding (suc v) h input start some)

decoded-empty : (coding : Coding) (w h : ℕ) (input : List ℕ) (start : Region) → length start.pixels ≡ 0 → w ≡ 0 → decoded_region coding w h input start ≡ start
unfolding rows_region
decoded-empty coding w h input start none empty = decoded-by-rows coding w h input start none ∙ rw empty

decoded-rows : (coding : Coding) (w h : ℕ) (input : List ℕ) (start : Region) → length start.pixels ≡ 0 → eqb w 0 ≡ false → decoded_region coding w h input start ≡ after_rows coding w h input h start
decoded-rows coding w h input start none some = decoded-by-rows coding w h input start none ∙ some-rows coding w h input start some

pub region-empty : (coding : Coding) (w h : ℕ) (grid : Grid) (coder : Coder) (states : List Context) → w ≡ 0 → grid ≡ blank w h false → HasDecoded w h coder.bytes (decoded_region coding w h coder.bytes (no_pixels coder.registers states)) (region_state grid coder states)
region-empty coding w h grid coder states empty white =
    subst (λ (n : Region). HasDecoded w h coder.bytes n (region_state grid coder states)) (sym (decoded-empty coding w h coder.bytes (no_pixels coder.registers states) refl empty)) (region-start w h grid coder states white)

pub region-whole : (coding : Coding) (w h n : ℕ) (input : List ℕ) (start : Region) (grid : Grid) (coder : Coder) (states : List Context) → length start.pixels ≡ 0 → (w ≡ 0 → ⊥) → n ≡ h → HasDecoded w h input (after_rows coding w h input n start) (region_state grid coder states) → HasDecoded w h input (decoded_region coding w h input start) (region_state grid coder states)
region-whole coding w h n input start grid coder states none some all has_decoded =
    subst (λ (r : Region). HasDecoded w h input r (region_state grid coder states)) (ap (λ (k : ℕ). after_rows coding w h input k start) all ∙ sym (decoded-rows coding w h input start none (ne_eqb w 0 some))) has_decoded
