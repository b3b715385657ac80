-- Spans of one colour, word by word.
use Rattle.std.proofs.Common.{◌≡◌, ℕ, ◌+◌, ◌-◌, ◌<◌, ◌≤◌, Bool, true, false, ◌&&◌, cond, eqb, ltb, leb, refl, sym, ap, ◌∙◌, ⊎_elim, arith}
use Rattle.std.proofs.lemmas.Bool.{cases_lt, cond-true, cond-false, and_from, and_left, and_right, le-leb, lt-leb, lt-ltb, le-ltb, eq-eqb, ne_eqb}
use Rattle.jbig2_base.specs.Counts.{Counts, KeepsLanes}
use Rattle.jbig2_base.specs.Grid.{Grid, grid_of, pixel_at}
use Rattle.jbig2_base.specs.Bits.{bit}
use Rattle.jbig2_base.specs.Writes.{with_pixels}
use Rattle.jbig2_base.proofs.GridLemmas.{pixel_at-grid_of, pixel_at-right, pixel_at-below, table-at}
use Rattle.jbig2_mmr.specs.inner.T6Reading.{IsSpan}

in_word : (x y count i j : ℕ) → j ≡ y → x ≤ i → i < x + count → (eqb j y && leb x i && ltb i (x + count)) ≡ true
in_word x y count i j row after before = and_from _ _ (and_from _ _ (eq-eqb j y row) (le-leb x i after)) (lt-ltb i (x + count) before)

-- what is not in the word stays
pub kept : (g : Grid) (x y count bits i j : ℕ) → (eqb j y && leb x i && ltb i (x + count)) ≡ false → pixel_at (with_pixels g x y count bits) i j ≡ pixel_at g i j
kept g x y count bits i j out =
    let f = λ (a b : ℕ). cond (eqb b y && leb x a && ltb a (x + count)) (bit bits (x + count - 1 - a)) (pixel_at g a b) in
    ⊎_elim
    (λ (right : i < g.width).
    ⊎_elim (λ (lower : j < g.height). pixel_at-grid_of g.width g.height f i j right lower ∙ cond-false (eqb j y && leb x i && ltb i (x + count)) (bit bits (x + count - 1 - i)) (pixel_at g i j) out)
    (λ (below : g.height ≤ j). pixel_at-below (grid_of g.width g.height f) i j below ∙ sym (pixel_at-below g i j below))
    (cases_lt j g.height))
    (λ (past : g.width ≤ i). pixel_at-right (grid_of g.width g.height f) i j past ∙ sym (pixel_at-right g i j past))
    (cases_lt i g.width)

pub written : (g : Grid) (x y count bits i j : ℕ) → j ≡ y → x ≤ i → i < x + count → x + count ≤ g.width → y < g.height → pixel_at (with_pixels g x y count bits) i j ≡ bit bits (x + count - 1 - i)
written g x y count bits i j row after before inside lower =
    let f = λ (a b : ℕ). cond (eqb b y && leb x a && ltb a (x + count)) (bit bits (x + count - 1 - a)) (pixel_at g a b) in
    pixel_at-grid_of g.width g.height f i j (omega arith) (omega arith) ∙ cond-true (eqb j y && leb x i && ltb i (x + count)) (bit bits (x + count - 1 - i)) (pixel_at g i j) (in_word x y count i j row after before)

pub span-more : (old g new : Grid) (y from x count bits : ℕ) (black : Bool) → IsSpan old g y from x black → from ≤ x → x + count ≤ old.width → y < old.height → ((k : ℕ) → k < count → bit bits k ≡ black) → new ≡ with_pixels g x y count bits → IsSpan old new y from (x + count) black
span-more old g new y from x count bits black so_far order inside row colour e =
    let at = λ (i j : ℕ). ap (λ (m : Grid). pixel_at m i j) e in
    let f = λ (a b : ℕ). cond (eqb b y && leb x a && ltb a (x + count)) (bit bits (x + count - 1 - a)) (pixel_at g a b) in
    record {
      width = ap (λ (m : Grid). m.width) e ∙ so_far.width;
      height = ap (λ (m : Grid). m.height) e ∙ so_far.height;
      table = table-at new g.width g.height f e;
      inside = λ i a b. at i y ∙ ⊎_elim (λ (old_one : i < x). kept g x y count bits i y (and_left _ _ (and_right _ _ (lt-leb x i old_one))) ∙ so_far.inside i a old_one)
          (λ (fresh : x ≤ i). written g x y count bits i y refl fresh b (omega (arith, so_far.width)) (omega (arith, so_far.height)) ∙ colour (x + count - 1 - i) (omega arith)) (cases_lt i x);
      left = λ i a. at i y ∙ kept g x y count bits i y (and_left _ _ (and_right _ _ (lt-leb x i (omega arith)))) ∙ so_far.left i a;
      right = λ i a. at i y ∙ kept g x y count bits i y (and_right _ _ (le-ltb i (x + count) a)) ∙ so_far.right i (omega arith);
      other = λ i j o. at i j ∙ kept g x y count bits i j (and_left _ _ (and_left _ _ (ne_eqb j y o))) ∙ so_far.other i j o;
    }

-- ---- counts
-- what loads or writes words keeps lanes and single pixels
pub lanes-load : (old new : Counts) → new ≡ record old { loads = old.loads + 1 } → KeepsLanes old new
lanes-load old new e = record { groups = ap (λ (s : Counts). s.groups) e; pixels = ap (λ (s : Counts). s.pixels) e; cleared = ap (λ (s : Counts). s.cleared) e }

pub lanes-word : (old new : Counts) → new ≡ record old { words = old.words + 1 } → KeepsLanes old new
lanes-word old new e = record { groups = ap (λ (s : Counts). s.groups) e; pixels = ap (λ (s : Counts). s.pixels) e; cleared = ap (λ (s : Counts). s.cleared) e }
