-- Counts over raster places are those by rows.
use Rattle.std.proofs.Common.{◌≡◌, ℕ, zero, suc, ◌+◌, ◌*◌, ◌<◌, Bool, true, false, not, ◌&&◌, cond, List, length, Option, None, refl, sym, ap, ◌∙◌, arith}
use Rattle.jbig2_region.specs.Steps.{how_many, pixel_decisions, takes_decision}
use Rattle.jbig2_region.specs.Generic.{context_at, known_colour}
use Rattle.jbig2_region.specs.Raster.{Coding, Region, after_pixel, at_pixel, after_ltp}
use Rattle.jbig2_region.specs.Steps.{coded_pixels, coded_runs, is_run_byte}
use Rattle.jbig2_region.specs.inner.Neighbours.{row_coding}
use Rattle.jbig2_region.specs.inner.RowCounts.{coded_rows, decided_pixels, decided_rows, rows_runs, run_bytes}
use Rattle.jbig2_region.specs.inner.Rows.{after_pixels, after_rows}
use Rattle.jbig2_region.specs.declared.template.AdaptiveTemplatePixel.{AdaptiveTemplatePixel}
use Rattle.jbig2_region.proofs.PlaceLemmas.{place-in-rows}
use Rattle.jbig2_region.proofs.RasterLemmas.{after_pixels-predicted}
use Rattle.jbig2_base.specs.Bits.{bit_number}

-- ---- a coding with its rows' context, or without
abbrev pub coding_with : List AdaptiveTemplatePixel → Option ℕ → Coding
coding_with template row_context = record { context = context_at template; known = known_colour None; row_context = row_context }

-- the decision that begins rows has no part in their pixels
pub after_pixels-coding : (template : List AdaptiveTemplatePixel) (row_context : Option ℕ) (w h : ℕ) (input : List ℕ) (n : ℕ) (r : Region) → after_pixels (coding_with template row_context) w h input n r ≡ after_pixels (row_coding template) w h input n r
unfolding after_pixels after_pixel
after_pixels-coding template row_context w h input zero r = refl
after_pixels-coding template row_context w h input (suc n) r = ap (λ (q : Region). after_pixel (row_coding template) w h input q) (after_pixels-coding template row_context w h input n r)

-- ---- counting
pub how_many-same : (f g : ℕ → Bool) (n : ℕ) → ((k : ℕ) → k < n → f k ≡ g k) → how_many f n ≡ how_many g n
unfolding how_many
how_many-same f g zero same = refl
how_many-same f g (suc n) same =
    rw (how_many-same f g n (λ k less. same k (omega arith)), same n (omega arith)) refl

how_many-add : (f : ℕ → Bool) (n m : ℕ) → how_many f (n + m) ≡ how_many f n + how_many (λ k. f (n + k)) m
unfolding how_many
how_many-add f n zero =
    let same : n + 0 ≡ n = omega arith in
    ap (λ (k : ℕ). how_many f k) same ∙ omega arith
how_many-add f n (suc m) =
    let next : n + suc m ≡ suc (n + m) = omega arith in
    ap (λ (k : ℕ). how_many f k) next ∙ rw (how_many-add f n m) (omega arith)

pub how_many-all : (f : ℕ → Bool) (b : Bool) (n : ℕ) → ((k : ℕ) → k < n → f k ≡ b) → how_many f n ≡ n * bit_number b
unfolding how_many
how_many-all f b zero same = omega arith
how_many-all f b (suc n) same =
    rw (how_many-all f b n (λ k less. same k (omega arith)), same n (omega arith)) (omega arith)

no-places : (has : ℕ → Bool) (w : ℕ) → how_many has (0 * w) ≡ 0
unfolding how_many
no-places has w =
    let same : 0 * w ≡ 0 = omega arith in
    ap (λ (n : ℕ). how_many has n) same

-- a row more
more-places : (has in_row : ℕ → Bool) (w y rows row : ℕ) → how_many has (y * w) ≡ rows → ((x : ℕ) → x < w → has (y * w + x) ≡ in_row x) → how_many in_row w ≡ row → how_many has (suc y * w) ≡ rows + row
more-places has in_row w y rows row above same one =
    let next : suc y * w ≡ y * w + w = omega arith in
    let here = how_many-same (λ x. has (y * w + x)) in_row w same ∙ one in
    ap (λ (n : ℕ). how_many has n) next ∙ how_many-add has (y * w) w ∙ rw (above, here) refl

turned : (has : ℕ → Bool) (w h : ℕ) → how_many has (w * h) ≡ how_many has (h * w)
turned has w h =
    let same : w * h ≡ h * w = omega arith in
    ap (λ (n : ℕ). how_many has n) same

-- ---- decisions
decided-row : (coding : Coding) (w h : ℕ) (input : List ℕ) (opening : Region) (n : ℕ) → how_many (λ x. takes_decision coding w h (after_pixels coding w h input x opening)) n ≡ decided_pixels coding w h input n opening
unfolding how_many decided_pixels
decided-row coding w h input opening zero = refl
decided-row coding w h input opening (suc n) = rw (decided-row coding w h input opening n) refl

pub decided-places : (coding : Coding) (w h : ℕ) (input : List ℕ) (start : Region) (y : ℕ) → length start.pixels ≡ 0 → how_many (λ n. takes_decision coding w h (at_pixel coding w h input start n)) (y * w) ≡ decided_rows coding w h input y start
unfolding decided_rows
decided-places coding w h input start zero none = no-places (λ n. takes_decision coding w h (at_pixel coding w h input start n)) w
decided-places coding w h input start (suc y) none =
    let opening : Region = after_ltp coding.row_context input (after_rows coding w h input y start) in
    more-places (λ n. takes_decision coding w h (at_pixel coding w h input start n)) (λ x. takes_decision coding w h (after_pixels coding w h input x opening)) w y _ _
    (decided-places coding w h input start y none)
    (λ x inside. ap (λ (r : Region). takes_decision coding w h r) (place-in-rows coding w h input start y x none inside))
    (decided-row coding w h input opening w)

pub decisions-by-rows : (coding : Coding) (w h : ℕ) (input : List ℕ) (start : Region) → length start.pixels ≡ 0 → pixel_decisions coding w h input start ≡ decided_rows coding w h input h start
unfolding pixel_decisions
decisions-by-rows coding w h input start none =
    turned (λ n. takes_decision coding w h (at_pixel coding w h input start n)) w h ∙ decided-places coding w h input start h none

-- ---- coded rows
coded-row : (coding : Coding) (w h : ℕ) (input : List ℕ) (opening : Region) → how_many (λ x. not (after_pixels coding w h input x opening).predicted) w ≡ w * cond opening.predicted 0 1
coded-row coding w h input opening =
    how_many-all (λ x. not (after_pixels coding w h input x opening).predicted) (not opening.predicted) w (λ x _. ap not (after_pixels-predicted coding w h input x opening))
    ∙ ap (λ (k : ℕ). w * k) (one opening.predicted)
  where
    one : (p : Bool) → bit_number (not p) ≡ cond p 0 1
    one true = refl
    one false = refl

coded-places : (coding : Coding) (w h : ℕ) (input : List ℕ) (start : Region) (y : ℕ) → length start.pixels ≡ 0 → how_many (λ n. not (at_pixel coding w h input start n).predicted) (y * w) ≡ w * coded_rows coding w h input y start
unfolding coded_rows
coded-places coding w h input start zero none = no-places (λ n. not (at_pixel coding w h input start n).predicted) w ∙ omega arith
coded-places coding w h input start (suc y) none =
    let opening : Region = after_ltp coding.row_context input (after_rows coding w h input y start) in
    more-places (λ n. not (at_pixel coding w h input start n).predicted) (λ x. not (after_pixels coding w h input x opening).predicted) w y _ _
    (coded-places coding w h input start y none)
    (λ x inside. ap (λ (r : Region). not r.predicted) (place-in-rows coding w h input start y x none inside))
    (coded-row coding w h input opening)
    ∙ sum w (coded_rows coding w h input y start) (cond opening.predicted 0 1)
  where
    sum : (w rows row : ℕ) → w * rows + w * row ≡ w * (rows + row)
    sum w rows row = omega arith

pub coded-by-rows : (coding : Coding) (w h : ℕ) (input : List ℕ) (start : Region) → length start.pixels ≡ 0 → coded_pixels coding w h input start ≡ w * coded_rows coding w h input h start
unfolding coded_pixels
coded-by-rows coding w h input start none =
    turned (λ n. not (at_pixel coding w h input start n).predicted) w h ∙ coded-places coding w h input start h none

-- ---- run bytes
-- whether the next pixel begins one in a row that is not predicted
abbrev is_coded_run : List AdaptiveTemplatePixel → ℕ → ℕ → List ℕ → Region → Bool
is_coded_run template w h bytes r = not r.predicted && is_run_byte template w h bytes r

run-of-row : (template : List AdaptiveTemplatePixel) (w h : ℕ) (input : List ℕ) (r : Region) (p : Bool) → r.predicted ≡ p → is_coded_run template w h input r ≡ (not p && is_run_byte template w h input r)
run-of-row template w h input r p is = rw is refl

runs-in-row : (template : List AdaptiveTemplatePixel) (row_context : Option ℕ) (w h : ℕ) (input : List ℕ) (opening : Region) (p : Bool) (n : ℕ) → opening.predicted ≡ p → how_many (λ x. is_coded_run template w h input (after_pixels (coding_with template row_context) w h input x opening)) n ≡ cond p 0 (run_bytes template w h input n opening)
unfolding how_many run_bytes
runs-in-row template row_context w h input opening true n is =
    let coding : Coding = coding_with template row_context in
    how_many-all (λ x. is_coded_run template w h input (after_pixels coding w h input x opening)) false n
    (λ x _. run-of-row template w h input (after_pixels coding w h input x opening) true (after_pixels-predicted coding w h input x opening ∙ is))
    ∙ omega arith
runs-in-row template row_context w h input opening false zero is = refl
runs-in-row template row_context w h input opening false (suc n) is =
    let coding : Coding = coding_with template row_context in
    let last : is_coded_run template w h input (after_pixels coding w h input n opening) ≡ is_run_byte template w h input (after_pixels (row_coding template) w h input n opening) =
    run-of-row template w h input (after_pixels coding w h input n opening) false (after_pixels-predicted coding w h input n opening ∙ is)
    ∙ ap (λ (r : Region). is_run_byte template w h input r) (after_pixels-coding template row_context w h input n opening) in
    rw (runs-in-row template row_context w h input opening false n is, last) refl

runs-places : (template : List AdaptiveTemplatePixel) (row_context : Option ℕ) (w h : ℕ) (input : List ℕ) (start : Region) (y : ℕ) → length start.pixels ≡ 0 → how_many (λ n. is_coded_run template w h input (at_pixel (coding_with template row_context) w h input start n)) (y * w) ≡ rows_runs template true (coding_with template row_context) w h input y start
unfolding rows_runs
runs-places template row_context w h input start zero none = no-places (λ n. is_coded_run template w h input (at_pixel (coding_with template row_context) w h input start n)) w
runs-places template row_context w h input start (suc y) none =
    let coding : Coding = coding_with template row_context in
    let opening : Region = after_ltp row_context input (after_rows coding w h input y start) in
    more-places (λ n. is_coded_run template w h input (at_pixel coding w h input start n)) (λ x. is_coded_run template w h input (after_pixels coding w h input x opening)) w y _ _
    (runs-places template row_context w h input start y none)
    (λ x inside. ap (λ (r : Region). is_coded_run template w h input r) (place-in-rows coding w h input start y x none inside))
    (runs-in-row template row_context w h input opening opening.predicted w refl)

-- a template without run bytes
no-runs : (template : List AdaptiveTemplatePixel) (coding : Coding) (w h : ℕ) (input : List ℕ) (start : Region) (y : ℕ) → rows_runs template false coding w h input y start ≡ 0
unfolding rows_runs
no-runs template coding w h input start zero = refl
no-runs template coding w h input start (suc y) =
    rw (no-runs template coding w h input start y) (either (after_ltp coding.row_context input (after_rows coding w h input y start)).predicted)
  where
    either : (p : Bool) → 0 + cond p 0 0 ≡ 0
    either true = refl
    either false = refl

pub runs-by-rows : (template : List AdaptiveTemplatePixel) (nominal : Bool) (row_context : Option ℕ) (w h : ℕ) (input : List ℕ) (start : Region) → length start.pixels ≡ 0 → coded_runs template nominal (coding_with template row_context) w h input start ≡ rows_runs template nominal (coding_with template row_context) w h input h start
unfolding coded_runs
runs-by-rows template true row_context w h input start none =
    turned (λ n. is_coded_run template w h input (at_pixel (coding_with template row_context) w h input start n)) w h ∙ runs-places template row_context w h input start h none
runs-by-rows template false row_context w h input start none = sym (no-runs template (coding_with template row_context) w h input start h)
