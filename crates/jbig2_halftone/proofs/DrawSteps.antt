-- What drawing patterns takes.
use Rattle.std.proofs.Common.{inl, inr, ◌≡◌, ℕ, zero, suc, ◌+◌, ◌-◌, ◌*◌, ◌%◌, ◌<◌, ◌≤◌, ℤ, add-one, refl, sym, ap, subst, ◌∙◌, arith, Bool, Result, Ok, Err}
use Rattle.std.proofs.lemmas.Nat.{div-mul-add, mod-mul-add}
use Rattle.jbig2_base.specs.Counts.{overlap, most_words, WritesWithin, Counts}
use Rattle.std.specs.Prelude.{OnErr, OnOk}
use Rattle.jbig2_base.specs.Grid.{Grid, blank}
use Rattle.jbig2_halftone.specs.Halftone.{column_of, gray_params, row_of}
use Rattle.jbig2_halftone.specs.HalftoneHeader.{HalftoneHeader}
use Rattle.jbig2_halftone.specs.Patterns.{HasSize, Patterns}
use Rattle.jbig2_halftone.specs.Steps.{CountsImage, CountsHalftone, StopsHalftone, after_mask, cell_words, words_of_cells}
use Rattle.jbig2_halftone.specs.inner.FunctionResults.{StopsCells}
use Rattle.std.proofs.Math.Nat.{mul-le-mul_left}

pub draws-none : (old : Counts) → WritesWithin 0 old old
draws-none old = record { words = omega arith; loads = omega arith; decisions = refl; run_tests = refl; groups = refl; pixels = refl; cleared = refl }

pub draws-nothing : (n : ℕ) (old : Counts) → WritesWithin n old old
draws-nothing n old = record { words = omega arith; loads = omega arith; decisions = refl; run_tests = refl; groups = refl; pixels = refl; cleared = refl }

-- more words may be written than were
draws-within : (most more : ℕ) (old new : Counts) → most ≤ more → WritesWithin most old new → WritesWithin more old new
draws-within most more old new less draws = record {
  words = omega (arith, draws.words);
  loads = omega (arith, draws.loads);
  decisions = draws.decisions;
  run_tests = draws.run_tests;
  groups = draws.groups;
  pixels = draws.pixels;
  cleared = draws.cleared;
}

-- one part after another
draws-then : (first second : ℕ) (old mid new : Counts) → WritesWithin first old mid → WritesWithin second mid new → WritesWithin (first + second) old new
draws-then first second old mid new before after = record {
  words = omega (arith, before.words, after.words);
  loads = omega (arith, before.loads, after.loads);
  decisions = after.decisions ∙ before.decisions;
  run_tests = after.run_tests ∙ before.run_tests;
  groups = after.groups ∙ before.groups;
  pixels = after.pixels ∙ before.pixels;
  cleared = after.cleared ∙ before.cleared;
}

-- ---- cells
pub cells-start : (h : HalftoneHeader) (d : Patterns) (k : ℕ) (old : Counts) → WritesWithin (words_of_cells h d k 0) old old
unfolding words_of_cells
cells-start h d k old = draws-none old

words-more : (h : HalftoneHeader) (d : Patterns) (k n : ℕ) → words_of_cells h d k (n + 1) ≡ words_of_cells h d k n + cell_words h d (k + n)
unfolding words_of_cells
words-more h d k n = rw add-one refl

-- fewer cells write fewer words
words-fewer : (h : HalftoneHeader) (d : Patterns) (k n m : ℕ) → words_of_cells h d k n ≤ words_of_cells h d k (n + m)
unfolding words_of_cells
words-fewer h d k n zero =
    let none : n + 0 ≡ n = omega arith in
    rw none (omega arith)
words-fewer h d k n (suc m) =
    let more : n + suc m ≡ suc (n + m) = omega arith in
    rw more (omega (arith, words-fewer h d k n m))

pub cells-within : (h : HalftoneHeader) (d : Patterns) (k n m : ℕ) (old new : Counts) → n ≤ m → WritesWithin (words_of_cells h d k n) old new → WritesWithin (words_of_cells h d k m) old new
cells-within h d k n m old new few draws =
    let sum : n + (m - n) ≡ m = omega arith in
    let less : words_of_cells h d k n ≤ words_of_cells h d k m = subst (λ (i : ℕ). words_of_cells h d k n ≤ words_of_cells h d k i) sum (words-fewer h d k n (m - n)) in
    draws-within (words_of_cells h d k n) (words_of_cells h d k m) old new less draws

-- the words of the cell in row m and column n
words-at : (h : HalftoneHeader) (d : Patterns) (m n : ℕ) → n < h.grid_position_and_size.width
    → cell_words h d (m * h.grid_position_and_size.width + n) ≡ overlap h.region_info.height d.height (row_of h m n) * most_words (overlap h.region_info.width d.width (column_of h m n))
unfolding cell_words
words-at h d m n inside =
    ap (λ (i : ℕ). overlap h.region_info.height d.height (row_of h i ((m * h.grid_position_and_size.width + n) % h.grid_position_and_size.width)) * most_words (overlap h.region_info.width d.width (column_of h i ((m * h.grid_position_and_size.width + n) % h.grid_position_and_size.width)))) (div-mul-add m h.grid_position_and_size.width n inside)
    ∙ ap (λ (j : ℕ). overlap h.region_info.height d.height (row_of h m j) * most_words (overlap h.region_info.width d.width (column_of h m j))) (mod-mul-add m h.grid_position_and_size.width n inside)

-- a cell more
pub cells-more : (h : HalftoneHeader) (d : Patterns) (m n : ℕ) (page pattern : Grid) (x y : ℤ) (old mid new : Counts) → n < h.grid_position_and_size.width → x ≡ column_of h m n → y ≡ row_of h m n
    → HasSize h.region_info.width h.region_info.height page → HasSize d.width d.height pattern → WritesWithin (words_of_cells h d (m * h.grid_position_and_size.width) n) old mid
    → WritesWithin (overlap page.height pattern.height y * most_words (overlap page.width pattern.width x)) mid new → WritesWithin (words_of_cells h d (m * h.grid_position_and_size.width) (n + 1)) old new
cells-more h d m n page pattern x y old mid new inside column row region sized before one =
    let same : overlap page.height pattern.height y * most_words (overlap page.width pattern.width x) ≡ cell_words h d (m * h.grid_position_and_size.width + n) =
    ap (λ (i : ℕ). overlap i pattern.height y * most_words (overlap page.width pattern.width x)) region.rows
    ∙ ap (λ (i : ℕ). overlap h.region_info.height i y * most_words (overlap page.width pattern.width x)) sized.rows
    ∙ ap (λ (i : ℕ). overlap h.region_info.height d.height y * most_words (overlap i pattern.width x)) region.columns
    ∙ ap (λ (i : ℕ). overlap h.region_info.height d.height y * most_words (overlap h.region_info.width i x)) sized.columns
    ∙ ap (λ (i : ℤ). overlap h.region_info.height d.height i * most_words (overlap h.region_info.width d.width x)) row
    ∙ ap (λ (i : ℤ). overlap h.region_info.height d.height (row_of h m n) * most_words (overlap h.region_info.width d.width i)) column
    ∙ sym (words-at h d m n inside) in
    let here = subst (λ (i : ℕ). WritesWithin i mid new) same one in
    subst (λ (i : ℕ). WritesWithin i old new) (sym (words-more h d (m * h.grid_position_and_size.width) n)) (draws-then (words_of_cells h d (m * h.grid_position_and_size.width) n) (cell_words h d (m * h.grid_position_and_size.width + n)) old mid new before here)

-- ---- rows of cells
words-append : (h : HalftoneHeader) (d : Patterns) (k n : ℕ) → words_of_cells h d 0 (k + n) ≡ words_of_cells h d 0 k + words_of_cells h d k n
unfolding words_of_cells
words-append h d k zero =
    let none : k + 0 ≡ k = omega arith in
    rw none (omega arith)
words-append h d k (suc n) =
    let more : k + suc n ≡ suc (k + n) = omega arith in
    let first : 0 + (k + n) ≡ k + n = omega arith in
    rw (more, first, words-append h d k n) (omega arith)

pub rows-start : (h : HalftoneHeader) (d : Patterns) (w : ℕ) (old : Counts) → WritesWithin (words_of_cells h d 0 (0 * w)) old old
unfolding words_of_cells
rows-start h d w old =
    let none : 0 * w ≡ 0 = omega arith in
    rw none (draws-none old)

-- a row more
pub rows-more : (h : HalftoneHeader) (d : Patterns) (m w : ℕ) (old mid new : Counts) → WritesWithin (words_of_cells h d 0 (m * w)) old mid → WritesWithin (words_of_cells h d (m * w) w) mid new → WritesWithin (words_of_cells h d 0 ((m + 1) * w)) old new
rows-more h d m w old mid new before one =
    let sum : m * w + w ≡ (m + 1) * w = omega arith in
    let words : words_of_cells h d 0 ((m + 1) * w) ≡ words_of_cells h d 0 (m * w) + words_of_cells h d (m * w) w = sym (ap (λ (k : ℕ). words_of_cells h d 0 k) sum) ∙ words-append h d (m * w) w in
    rw words (draws-then (words_of_cells h d 0 (m * w)) (words_of_cells h d (m * w) w) old mid new before one)

-- ---- the skip mask
pub mask-start : (w : ℕ) (old : Counts) → old ≡ record old { words = old.words + 0 * w }
mask-start w old =
    let none : old.words + 0 * w ≡ old.words = omega arith in
    rw none refl

pub mask-more : (cells n : ℕ) (old mid new : Counts) → mid ≡ record old { words = old.words + (cells + n) } → new ≡ record mid { words = mid.words + 1 } → new ≡ record old { words = old.words + (cells + (n + 1)) }
mask-more cells n old mid new before one =
    let more : old.words + (cells + n) + 1 ≡ old.words + (cells + (n + 1)) = omega arith in
    one ∙ ap (λ (c : Counts). let made : Counts = record c { words = c.words + 1 } in made) before ∙ rw more refl

pub no-mask : (old : Counts) → old ≡ record old { words = old.words + 0; cleared = old.cleared + 0 }
no-mask old =
    let none : old.words + 0 ≡ old.words = omega arith in
    let kept : old.cleared + 0 ≡ old.cleared = omega arith in
    rw (none, kept) refl

-- ---- whole regions
pub on-ok : {X E : Type 0} (result : Result X E) (P Q : Type 0) → (P → Q) → OnOk result P → OnOk result Q
on-ok (Ok x) P Q f p = f p
on-ok (Err e) P Q f p = _

pub on-err : {X E : Type 0} (result : Result X E) (P Q : Type 0) → (P → Q) → OnErr result P → OnErr result Q
on-err (Ok x) P Q f p = _
on-err (Err e) P Q f p = f p

pub on-all : {X E : Type 0} (result : Result X E) (P : Type 0) → P → OnOk result P
on-all (Ok x) P p = p
on-all (Err e) P p = _

pub on-any : {X E : Type 0} (result : Result X E) (P : Type 0) → P → OnErr result P
on-any (Ok x) P p = _
on-any (Err e) P p = p

pub region-size : (w h : ℕ) (black : Bool) (region : Grid) → region ≡ blank w h black → HasSize w h region
region-size w h black region e = record { columns = ap (λ (g : Grid). g.width) e; rows = ap (λ (g : Grid). g.height) e }

pub region-steps : (h : HalftoneHeader) (d : Patterns) (old image new : Counts) → CountsImage (gray_params h d) h.bytes (after_mask h d old) image → WritesWithin (words_of_cells h d 0 (h.grid_position_and_size.height * h.grid_position_and_size.width)) image new → CountsHalftone h d old new
region-steps h d old image new reads draws = (image, (reads, draws))

-- a region with a value that no pattern has
pub region-stops : (h : HalftoneHeader) (d : Patterns) (old image new : Counts) → CountsImage (gray_params h d) h.bytes (after_mask h d old) image → WritesWithin (words_of_cells h d 0 (h.grid_position_and_size.height * h.grid_position_and_size.width)) image new → StopsHalftone h d old new
region-stops h d old image new reads draws =
    let all : ℕ = (gray_params h d).bits_per_pixel in
    inr (all, (omega arith, (all, (omega arith, (image, (reads, draws))))))

-- a region whose cells can't be read
pub cells-stop : (h : HalftoneHeader) (d : Patterns) (old new : Counts) → StopsCells h d old new → StopsHalftone h d old new
cells-stop h d old new (inl none) = inl none
cells-stop h d old new (inr (count, (few, (taken, (less, reads))))) = inr (count, (few, (taken, (less, (new, (reads, draws-nothing _ new))))))

-- fewer rows of cells
pub rows-within : (h : HalftoneHeader) (d : Patterns) (m n w : ℕ) (old new : Counts) → m ≤ n → WritesWithin (words_of_cells h d 0 (m * w)) old new → WritesWithin (words_of_cells h d 0 (n * w)) old new
rows-within h d m n w old new few draws = cells-within h d 0 (m * w) (n * w) old new (omega (arith, mul-le-mul_left {m = m} {n = n} w few)) draws
