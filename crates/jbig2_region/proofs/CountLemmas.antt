-- Counting decisions and run bytes.
use Rattle.std.proofs.Common.{subst, ◌≡◌, ℕ, zero, suc, ◌+◌, ◌*◌, ◌/◌, ◌%◌, ◌<◌, ◌≤◌, Bool, true, false, not, ◌||◌, eqb, ltb, List, length, Option, Some, None, refl, ap, ◌∙◌, ⊎_elim, arith}
use Rattle.std.proofs.Math.Bool.{or-false}
use Rattle.std.proofs.lemmas.Bool.{cases_eq, cases_lt, eq-eqb, ne_eqb, lt-ltb, le-ltb, and_left, and_right}
use Rattle.std.proofs.lemmas.Nat.{mod-mul-add}
use Rattle.jbig2_base.specs.Grid.{Grid}
use Rattle.jbig2_base.specs.Bits.{bit_number}
use Rattle.jbig2_coder.specs.Coder.{Coder, Context}
use Rattle.jbig2_region.specs.inner.Neighbours.{DecodesPixels, nominal_pixels, optional_pixels, row_coding}
use Rattle.jbig2_region.specs.Raster.{Region}
use Rattle.jbig2_region.specs.inner.Rows.{after_pixels}
use Rattle.jbig2_region.specs.Steps.{is_run_of, is_run_byte}
use Rattle.jbig2_region.specs.inner.RowCounts.{run_bytes, CountsRow, CountsRuns}
use Rattle.jbig2_region.specs.declared.template.layouts.Adaptives.{Adaptives}
use Rattle.jbig2_region.specs.declared.template.neighbours.Neighbours.{Neighbours}
use Rattle.jbig2_region.specs.declared.template.AdaptiveTemplatePixel.{AdaptiveTemplatePixel}
use Rattle.jbig2_region.proofs.RasterLemmas.{after_pixels-length, after_pixels-predicted, after_pixels-add}
use Rattle.jbig2_region.proofs.StoreLemmas.{width-so_far}
use Rattle.jbig2_region.specs.inner.RegionStates.{region_state}
use Rattle.jbig2_region.specs.inner.Layouts.{is_nominal_layout}

-- no run byte begins here
not-run : (template : List AdaptiveTemplatePixel) (w h : ℕ) (input : List ℕ) (r : Region) (x y : ℕ) → length r.pixels ≡ y * w + x → x < w → (x % 8 ≡ 0 → x + 8 < w → ⊥) → is_run_byte template w h input r ≡ false
unfolding is_run_byte
not-run template w h input r x y len left never =
    let column : length r.pixels % w ≡ x = ap (λ (n : ℕ). n % w) len ∙ mod-mul-add y w x left in
    rw column (and_left _ _ (
    ⊎_elim
    (λ (even : x % 8 ≡ 0).
    ⊎_elim
    (λ (less : x + 8 < w). absurd (never even less))
    (λ (last : w ≤ x + 8). and_right (eqb (x % 8) 0) (ltb (x + 8) w) (le-ltb (x + 8) w last))
    (cases_lt (x + 8) w))
    (λ (other : x % 8 ≡ 0 → ⊥). and_left (eqb (x % 8) 0) (ltb (x + 8) w) (ne_eqb (x % 8) 0 other))
    (cases_eq (x % 8) 0)
    ))

-- the only colour that a run byte can have
run-byte-is : (template : List AdaptiveTemplatePixel) (w h : ℕ) (input : List ℕ) (r : Region) (x y : ℕ) (b : Bool) → length r.pixels ≡ y * w + x → x % 8 ≡ 0 → x + 8 < w → is_run_of template w h input r (not b) ≡ false → is_run_byte template w h input r ≡ is_run_of template w h input r b
unfolding is_run_byte
run-byte-is template w h input r x y b len even less other =
    let column : length r.pixels % w ≡ x = ap (λ (n : ℕ). n % w) len ∙ mod-mul-add y w x (omega arith) in
    rw (column, eq-eqb (x % 8) 0 even, lt-ltb (x + 8) w less) (either b other)
  where
    either : (b : Bool) → is_run_of template w h input r (not b) ≡ false → (is_run_of template w h input r false || is_run_of template w h input r true) ≡ is_run_of template w h input r b
    either true none = rw none refl
    either false none = rw none (or-false (is_run_of template w h input r false))

some-runs : (template : List AdaptiveTemplatePixel) (w h : ℕ) (input : List ℕ) (n : ℕ) (r : Region) (x y : ℕ) → n ≤ 7 → length r.pixels ≡ y * w + x → x % 8 ≡ 0 → x + 8 < w → run_bytes template w h input (suc n) r ≡ bit_number (is_run_byte template w h input r)
unfolding run_bytes after_pixels
some-runs template w h input zero r x y few len even less = omega arith
some-runs template w h input (suc n) r x y few len even less =
    let made : Region = after_pixels (row_coding template) w h input (suc n) r in
    let size : length made.pixels ≡ y * w + (x + suc n) = after_pixels-length (row_coding template) w h input (suc n) r ∙ omega arith in
    let none : is_run_byte template w h input made ≡ false = not-run template w h input made (x + suc n) y size (omega arith) (λ start _. omega arith) in
    rw none (omega (arith, some-runs template w h input n r x y (omega arith) len even less))

-- a byte that isn't its row's last
pub byte-runs : (template : List AdaptiveTemplatePixel) (w h : ℕ) (input : List ℕ) (r : Region) (x y : ℕ) (b t : Bool) → length r.pixels ≡ y * w + x → x % 8 ≡ 0 → x + 8 < w → is_run_of template w h input r (not b) ≡ false → is_run_of template w h input r b ≡ t → run_bytes template w h input 8 r ≡ bit_number t
byte-runs template w h input r x y b t len even less other is =
    some-runs template w h input 7 r x y (omega arith) len even less ∙ ap bit_number (run-byte-is template w h input r x y b len even less other ∙ is)

-- a row's last byte
pub last-runs : (template : List AdaptiveTemplatePixel) (w h : ℕ) (input : List ℕ) (n : ℕ) (r : Region) (x y : ℕ) → length r.pixels ≡ y * w + x → x + n ≤ w → w ≤ x + 8 → run_bytes template w h input n r ≡ 0
unfolding run_bytes
last-runs template w h input zero r x y len left last = refl
last-runs template w h input (suc n) r x y len left last =
    let made : Region = after_pixels (row_coding template) w h input n r in
    let size : length made.pixels ≡ y * w + (x + n) = after_pixels-length (row_coding template) w h input n r ∙ omega arith in
    let none : is_run_byte template w h input made ≡ false = not-run template w h input made (x + n) y size (omega arith) (λ _ more. omega arith) in
    rw none (omega (arith, last-runs template w h input n r x y len (omega arith) last))

pub runs-add : (template : List AdaptiveTemplatePixel) (w h : ℕ) (input : List ℕ) (n m : ℕ) (r : Region) → run_bytes template w h input (n + m) r ≡ run_bytes template w h input n r + run_bytes template w h input m (after_pixels (row_coding template) w h input n r)
unfolding run_bytes
runs-add template w h input n zero r =
    let same : n + 0 ≡ n = omega arith in
    ap (λ (k : ℕ). run_bytes template w h input k r) same ∙ omega arith
runs-add template w h input n (suc m) r =
    let next : n + suc m ≡ suc (n + m) = omega arith in
    ap (λ (k : ℕ). run_bytes template w h input k r) next
    ∙ rw (runs-add template w h input n m r, after_pixels-add (row_coding template) w h input n m r) (omega arith)

-- ---- clauses
pub counts-none : (template : List AdaptiveTemplatePixel) (x y : ℕ) (g : Grid) (d : Coder) (s : List Context) (count : ℕ) → CountsRuns template x y 0 (region_state g d s) count count
unfolding run_bytes
counts-none template x y g d s count = λ w h input r len predicted has_decoded. omega arith

pub counts-then : (template : List AdaptiveTemplatePixel) (x x' y n m k : ℕ) (g0 g1 : Grid) (d0 d1 : Coder) (s0 s1 : List Context) (a b c : ℕ) → CountsRuns template x y n (region_state g0 d0 s0) a b → DecodesPixels template false x y n (region_state g0 d0 s0) (region_state g1 d1 s1) → CountsRuns template x' y m (region_state g1 d1 s1) b c → x' ≡ x + n → k ≡ n + m → CountsRuns template x y k (region_state g0 d0 s0) a c
counts-then template x x' y n m k g0 g1 d0 d1 s0 s1 a b c one decodes two place sum = λ w h input r len predicted has_decoded.
    let made : Region = after_pixels (row_coding template) w h input n r in
    let size : length made.pixels ≡ y * w + x' = after_pixels-length (row_coding template) w h input n r ∙ omega arith in
    let first = one w h input r len predicted has_decoded in
    let second = two w h input made size (after_pixels-predicted (row_coding template) w h input n r ∙ predicted) (decodes w h input r len predicted has_decoded) in
    let all : run_bytes template w h input k r ≡ run_bytes template w h input n r + run_bytes template w h input m made = ap (λ (i : ℕ). run_bytes template w h input i r) sum ∙ runs-add template w h input n m r in
    rw all (omega arith)

pub counts-last : (template : List AdaptiveTemplatePixel) (x y n : ℕ) (g : Grid) (d : Coder) (s : List Context) (before after : ℕ) → after ≡ before + n → x + n ≤ g.width → g.width ≤ x + 8 → CountsRuns template x y n (region_state g d s) before after
counts-last template x y n g d s before after is left last = λ w h input r len predicted has_decoded.
    let wide : g.width ≡ w = ap (λ (q : Grid). q.width) has_decoded.pixels ∙ width-so_far w h r.pixels in
    rw (last-runs template w h input n r x y len (omega arith) (omega arith)) (omega arith)

pub counts-byte : (count after runs : ℕ) (t : Bool) → runs ≡ bit_number t → after + 8 * bit_number t ≡ count + 8 → after + 8 * runs ≡ count + 8
counts-byte count after runs t is total = rw is total

-- loads of windows, which serve four bytes each
pub loads-on : (start before shown after done bytes : ℕ) → before ≤ start + 2 * ((done + 3) / 4) → shown ≤ before + 2 → (1 ≤ done % 4 → shown ≡ before) → after ≡ shown → 1 ≤ bytes → after ≤ start + 2 * ((done + bytes + 3) / 4)
loads-on start before shown after done bytes so_far more kept same some =
    ⊎_elim
    (λ (first : done % 4 < 1). omega arith)
    (λ (later : 1 ≤ done % 4). omega (arith, kept later))
    (cases_lt (done % 4) 1)

-- ---- a whole row
pub row-nominal : (n : Neighbours) (adaptive : Option Adaptives) (p : Bool) (y : ℕ) (g : Grid) (d : Coder) (s : List Context) (before after : ℕ) → adaptive ≡ None → p ≡ false → CountsRuns (nominal_pixels n) 0 y g.width (region_state g d s) before after → CountsRow (optional_pixels n adaptive) (is_nominal_layout adaptive) p y (region_state g d s) before after
row-nominal n adaptive p y g d s before after none coded counts = λ w h input r len is has_decoded.
    let wide : g.width ≡ w = ap (λ (q : Grid). q.width) has_decoded.pixels ∙ width-so_far w h r.pixels in
    let place : length r.pixels ≡ y * w + 0 = omega arith in
    rw (coded, none) (subst (λ (k : ℕ). after + 8 * run_bytes (nominal_pixels n) w h input k r ≡ before + k) wide (counts w h input r place (is ∙ coded) has_decoded))

pub row-mixed : (n : Neighbours) (adaptive : Option Adaptives) (a : Adaptives) (p : Bool) (y : ℕ) (g : Grid) (d : Coder) (s : List Context) (before after : ℕ) → adaptive ≡ Some a → p ≡ false → after ≡ before + g.width → CountsRow (optional_pixels n adaptive) (is_nominal_layout adaptive) p y (region_state g d s) before after
row-mixed n adaptive a p y g d s before after some coded counts = λ w h input r len is has_decoded.
    let wide : g.width ≡ w = ap (λ (q : Grid). q.width) has_decoded.pixels ∙ width-so_far w h r.pixels in
    rw (coded, some) (omega arith)
