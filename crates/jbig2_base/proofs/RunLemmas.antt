-- Runs of a row that are combined with pixels of another row, and the word that is written for one.
use Rattle.std.proofs.Common.{◌≡◌, ℕ, ◌+◌, ◌-◌, ◌*◌, ◌/◌, ◌%◌, ◌^◌, ◌<◌, ◌≤◌, Bool, false, ◌&&◌, cond, eqb, ltb, leb, List, get_or, set, refl, sym, ap, subst, ◌∙◌, ⊎_elim, arith}
use Rattle.std.proofs.lemmas.Bool.{cases_eq, cases_lt, cond-true, cond-false}
use Rattle.jbig2_base.specs.declared.bitmap.operator.CombinationOperator.{CombinationOperator}
use Rattle.jbig2_base.specs.Grid.{Grid, grid_of, pixel_at}
use Rattle.jbig2_base.specs.Combination.{combined_pixel}
use Rattle.jbig2_base.specs.inner.Blocks.{block_pixel, with_block, with_run}
use Rattle.jbig2_base.specs.inner.Packed.{IsPacked, packed_pixel, packed_grid}
use Rattle.jbig2_base.specs.Bits.{bit}
use Rattle.jbig2_base.proofs.BitLemmas.{bit-shr, bit-shl_high, mask-inside, mask-below, mask-above}
use Rattle.jbig2_base.proofs.BlockLemmas.{block-in, block-out, page-more}
use Rattle.jbig2_base.proofs.GridLemmas.{grid_of-ext, pixel_at-grid_of}
use Rattle.jbig2_base.proofs.PackedLemmas.{word-pixel, written-grid, written-packed}
use Rattle.jbig2_base.proofs.WriteLemmas.{in_field, before_field, after_field, other_row}

-- inside of a run, or not
pub run-in : (operator : CombinationOperator) (page : Grid) (x y count : ℕ) (row : ℕ → Bool) (i j : ℕ) → j ≡ y → x ≤ i → i < x + count → i < page.width → j < page.height → pixel_at (with_run operator page x y count row) i j ≡ combined_pixel operator (pixel_at page i j) (row i)
run-in operator page x y count row i j here low high right below =
    pixel_at-grid_of page.width page.height (λ i j. cond (eqb j y && leb x i && ltb i (x + count)) (combined_pixel operator (pixel_at page i j) (row i)) (pixel_at page i j)) i j right below
    ∙ cond-true (eqb j y && leb x i && ltb i (x + count)) (combined_pixel operator (pixel_at page i j) (row i)) (pixel_at page i j) (in_field x y count i j here low high)

pub run-out : (operator : CombinationOperator) (page : Grid) (x y count : ℕ) (row : ℕ → Bool) (i j : ℕ) → (j ≡ y → x ≤ i → i < x + count → ⊥) → i < page.width → j < page.height → pixel_at (with_run operator page x y count row) i j ≡ pixel_at page i j
run-out operator page x y count row i j out right below =
    pixel_at-grid_of page.width page.height (λ i j. cond (eqb j y && leb x i && ltb i (x + count)) (combined_pixel operator (pixel_at page i j) (row i)) (pixel_at page i j)) i j right below
    ∙ cond-false (eqb j y && leb x i && ltb i (x + count)) (combined_pixel operator (pixel_at page i j) (row i)) (pixel_at page i j) (out_of x y count i j out)
  where
    out_of : (x y count i j : ℕ) → (j ≡ y → x ≤ i → i < x + count → ⊥) → (eqb j y && leb x i && ltb i (x + count)) ≡ false
    out_of x y count i j out =
        ⊎_elim
        (λ (here : j ≡ y).
        ⊎_elim
        (λ (before : i < x). before_field x y count i j before)
        (λ (low : x ≤ i).
        ⊎_elim (λ (high : i < x + count). absurd (out here low high)) (λ (beyond : x + count ≤ i). after_field x y count i j beyond) (cases_lt i (x + count)))
        (cases_lt i x))
        (λ (other : j ≡ y → ⊥). other_row x y count i j other)
        (cases_eq j y)

-- a grid that has these pixels
run-is : (operator : CombinationOperator) (page : Grid) (x y count : ℕ) (row : ℕ → Bool) (f : ℕ → ℕ → Bool) → ((i j : ℕ) → i < page.width → j < page.height → j ≡ y → x ≤ i → i < x + count → f i j ≡ combined_pixel operator (pixel_at page i j) (row i)) → ((i j : ℕ) → i < page.width → j < page.height → (j ≡ y → x ≤ i → i < x + count → ⊥) → f i j ≡ pixel_at page i j) → grid_of page.width page.height f ≡ with_run operator page x y count row
run-is operator page x y count row f inside outside =
    grid_of-ext page.width page.height f (λ i j. cond (eqb j y && leb x i && ltb i (x + count)) (combined_pixel operator (pixel_at page i j) (row i)) (pixel_at page i j))
    (λ i j right below.
    ⊎_elim
    (λ (here : j ≡ y).
    ⊎_elim
    (λ (before : i < x).
    outside i j right below (λ a b c. absurd (omega arith)) ∙ sym (cond-false (eqb j y && leb x i && ltb i (x + count)) (combined_pixel operator (pixel_at page i j) (row i)) (pixel_at page i j) (before_field x y count i j before)))
    (λ (low : x ≤ i).
    ⊎_elim
    (λ (high : i < x + count).
    inside i j right below here low high ∙ sym (cond-true (eqb j y && leb x i && ltb i (x + count)) (combined_pixel operator (pixel_at page i j) (row i)) (pixel_at page i j) (in_field x y count i j here low high)))
    (λ (beyond : x + count ≤ i).
    outside i j right below (λ a b c. absurd (omega arith)) ∙ sym (cond-false (eqb j y && leb x i && ltb i (x + count)) (combined_pixel operator (pixel_at page i j) (row i)) (pixel_at page i j) (after_field x y count i j beyond)))
    (cases_lt i (x + count)))
    (cases_lt i x))
    (λ (other : j ≡ y → ⊥).
    outside i j right below (λ a b c. other a) ∙ sym (cond-false (eqb j y && leb x i && ltb i (x + count)) (combined_pixel operator (pixel_at page i j) (row i)) (pixel_at page i j) (other_row x y count i j other)))
    (cases_eq j y))

-- the same pixels of the same columns
pub run-same : (operator : CombinationOperator) (page after : Grid) (x start y count total : ℕ) (row other : ℕ → Bool) → after ≡ with_run operator page start y count other → start ≡ x → count ≡ total → ((i : ℕ) → x ≤ i → i < x + total → other i ≡ row i) → after ≡ with_run operator page x y total row
run-same operator page after x start y count total row other made begin whole same =
    made
    ∙ ap (λ (n : ℕ). with_run operator page n y count other) begin
    ∙ ap (λ (n : ℕ). with_run operator page x y n other) whole
    ∙ run-is operator page x y total row (λ i j. cond (eqb j y && leb x i && ltb i (x + total)) (combined_pixel operator (pixel_at page i j) (other i)) (pixel_at page i j))
    (λ i j right below here low high.
    cond-true (eqb j y && leb x i && ltb i (x + total)) (combined_pixel operator (pixel_at page i j) (other i)) (pixel_at page i j) (in_field x y total i j here low high)
    ∙ ap (λ (b : Bool). combined_pixel operator (pixel_at page i j) b) (same i low high))
    (λ i j right below out.
    sym (pixel_at-grid_of page.width page.height (λ i j. cond (eqb j y && leb x i && ltb i (x + total)) (combined_pixel operator (pixel_at page i j) (other i)) (pixel_at page i j)) i j right below)
    ∙ run-out operator page x y total other i j out right below)

-- some columns more
pub run-more : (operator : CombinationOperator) (page before after : Grid) (x start y done count total : ℕ) (row other : ℕ → Bool) → before ≡ with_run operator page x y done row → after ≡ with_run operator before start y count other → start ≡ x + done → total ≡ done + count → ((i : ℕ) → start ≤ i → i < start + count → other i ≡ row i) → after ≡ with_run operator page x y total row
run-more operator page before after x start y done count total row other known made begin whole same =
    let so_far : Grid = with_run operator page x y done row in
    made
    ∙ ap (λ (g : Grid). with_run operator g start y count other) known
    ∙ run-is operator page x y total row (λ i j. cond (eqb j y && leb start i && ltb i (start + count)) (combined_pixel operator (pixel_at so_far i j) (other i)) (pixel_at so_far i j))
    (λ i j right below here low high.
    sym (pixel_at-grid_of page.width page.height (λ i j. cond (eqb j y && leb start i && ltb i (start + count)) (combined_pixel operator (pixel_at so_far i j) (other i)) (pixel_at so_far i j)) i j right below)
    ∙ ⊎_elim
    (λ (old : i < start).
    run-out operator so_far start y count other i j (λ a b c. absurd (omega arith)) right below
    ∙ run-in operator page x y done row i j here low (omega arith) right below)
    (λ (fresh : start ≤ i).
    run-in operator so_far start y count other i j here fresh (omega arith) right below
    ∙ ap (λ (b : Bool). combined_pixel operator b (other i)) (run-out operator page x y done row i j (λ a b c. absurd (omega arith)) right below)
    ∙ ap (λ (b : Bool). combined_pixel operator (pixel_at page i j) b) (same i fresh (omega arith)))
    (cases_lt i start))
    (λ i j right below out.
    sym (pixel_at-grid_of page.width page.height (λ i j. cond (eqb j y && leb start i && ltb i (start + count)) (combined_pixel operator (pixel_at so_far i j) (other i)) (pixel_at so_far i j)) i j right below)
    ∙ run-out operator so_far start y count other i j (λ a b c. out a (omega arith) (omega arith)) right below
    ∙ run-out operator page x y done row i j (λ a b c. out a b (omega arith)) right below)

-- a row of a block
run-block : (operator : CombinationOperator) (page source : Grid) (left columns y from from_y : ℕ) → with_run operator page left y columns (λ i. pixel_at source (from + (i - left)) from_y) ≡ with_block operator page source left (left + columns) y (y + 1) from from_y
run-block operator page source left columns y from from_y =
    sym (run-is operator page left y columns (λ i. pixel_at source (from + (i - left)) from_y) (block_pixel operator page source left (left + columns) y (y + 1) from from_y)
    (λ i j right below here low high.
    let row : from_y + (j - y) ≡ from_y = omega arith in
    block-in operator page source left (left + columns) y (y + 1) from from_y i j low high (omega arith) (omega arith)
    ∙ ap (λ (n : ℕ). combined_pixel operator (pixel_at page i j) (pixel_at source (from + (i - left)) n)) row)
    (λ i j right below out.
    block-out operator page source left (left + columns) y (y + 1) from from_y i j (λ a b c d. out (omega arith) a b)))

-- a row more of a block
pub rows-more : (operator : CombinationOperator) (page source before after : Grid) (left columns top rows y from from_row from_y : ℕ) → top + rows < page.height → y ≡ top + rows → from_y ≡ from_row + rows → before ≡ with_block operator page source left (left + columns) top (top + rows) from from_row → after ≡ with_run operator before left y columns (λ i. pixel_at source (from + (i - left)) from_y) → after ≡ with_block operator page source left (left + columns) top (top + (rows + 1)) from from_row
rows-more operator page source before after left columns top rows y from from_row from_y below row source_row known made =
    page-more operator page source before after left (left + columns) top rows from from_row below known
    (made
    ∙ run-block operator before source left columns y from from_y
    ∙ ap (λ (n : ℕ). with_block operator before source left (left + columns) n (n + 1) from from_y) row
    ∙ ap (λ (n : ℕ). with_block operator before source left (left + columns) (top + rows) (top + rows + 1) from n) source_row)

-- ---- a word
-- the pixels of a word that is written for a run
run_pixel : (operator : CombinationOperator) (stride : ℕ) (words : List ℕ) (word offset y count bits v i : ℕ) → offset + count ≤ 64 → ((b : ℕ) → b < 64 → bit v b ≡ cond (bit ((2 ^ 64 - 1) / 2 ^ (64 - count) * 2 ^ (64 - offset - count) % 2 ^ 64) b) (combined_pixel operator (bit (get_or words (y * stride + word) 0) b) (bit bits b)) (bit (get_or words (y * stride + word) 0) b)) → i / 64 ≡ word → bit v (63 - i % 64) ≡ cond (eqb y y && leb (64 * word + offset) i && ltb i (64 * word + offset + count)) (combined_pixel operator (packed_pixel stride words i y) (bit bits (63 - i % 64))) (packed_pixel stride words i y)
unfolding packed_pixel
run_pixel operator stride words word offset y count bits v i one each same =
    let x : ℕ = 64 * word + offset in
    let b : ℕ = 63 - i % 64 in
    let now = each b (omega arith) in
    let mask : ℕ = (2 ^ 64 - 1) / 2 ^ (64 - count) * 2 ^ (64 - offset - count) % 2 ^ 64 in
    let page : ℕ = get_or words (y * stride + word) 0 in
    let joined : Bool = combined_pixel operator (bit page b) (bit bits b) in
    let test : Bool = eqb y y && leb x i && ltb i (x + count) in
    let old : bit page b ≡ packed_pixel stride words i y = ap (λ (q : ℕ). bit (get_or words (y * stride + q) 0) b) (sym same) in
    now
    ∙ ap (λ (t : Bool). cond (bit mask b) (combined_pixel operator t (bit bits b)) t) old
    ∙ ⊎_elim
    (λ (before : i < x).
    cond-false (bit mask b) (combined_pixel operator (packed_pixel stride words i y) (bit bits b)) (packed_pixel stride words i y) (mask-above offset count b one (omega arith) (omega arith))
    ∙ sym (cond-false test (combined_pixel operator (packed_pixel stride words i y) (bit bits b)) (packed_pixel stride words i y) (before_field x y count i y before)))
    (λ (low : x ≤ i).
    ⊎_elim
    (λ (high : i < x + count).
    cond-true (bit mask b) (combined_pixel operator (packed_pixel stride words i y) (bit bits b)) (packed_pixel stride words i y) (mask-inside offset count b one (omega arith) (omega arith))
    ∙ sym (cond-true test (combined_pixel operator (packed_pixel stride words i y) (bit bits b)) (packed_pixel stride words i y) (in_field x y count i y refl low high)))
    (λ (beyond : x + count ≤ i).
    cond-false (bit mask b) (combined_pixel operator (packed_pixel stride words i y) (bit bits b)) (packed_pixel stride words i y) (mask-below offset count b one (omega arith))
    ∙ sym (cond-false test (combined_pixel operator (packed_pixel stride words i y) (bit bits b)) (packed_pixel stride words i y) (after_field x y count i y beyond)))
    (cases_lt i (x + count)))
    (cases_lt i x)

pub run-grid : (operator : CombinationOperator) (w h stride : ℕ) (words : List ℕ) (word offset y count bits v : ℕ) → IsPacked w h stride words → 1 ≤ count → offset + count ≤ 64 → 64 * word + offset + count ≤ w → y < h → ((b : ℕ) → b < 64 → bit v b ≡ cond (bit ((2 ^ 64 - 1) / 2 ^ (64 - count) * 2 ^ (64 - offset - count) % 2 ^ 64) b) (combined_pixel operator (bit (get_or words (y * stride + word) 0) b) (bit bits b)) (bit (get_or words (y * stride + word) 0) b)) → packed_grid w h stride (set words (y * stride + word) v) ≡ with_run operator (packed_grid w h stride words) (64 * word + offset) y count (λ i. bit bits (63 - i % 64))
run-grid operator w h stride words word offset y count bits v packed some one columns above each =
    let x : ℕ = 64 * word + offset in
    let column : x / 64 ≡ word = omega arith in
    let page : Grid = grid_of w h (packed_pixel stride words) in
    ap (λ (q : ℕ). grid_of w h (packed_pixel stride (set words (y * stride + q) v))) (sym column)
    ∙ written-grid w h stride words x y v (λ i j. cond (eqb j y && leb x i && ltb i (x + count)) (combined_pixel operator (pixel_at page i j) (bit bits (63 - i % 64))) (pixel_at page i j)) packed (omega arith) above
    (λ i same right.
    run_pixel operator stride words word offset y count bits v i one each (same ∙ column)
    ∙ ap (λ (t : Bool). cond (eqb y y && leb x i && ltb i (x + count)) (combined_pixel operator t (bit bits (63 - i % 64))) t) (sym (pixel_at-grid_of w h (packed_pixel stride words) i y right above)))
    (λ i j right below apart.
    sym (run-out operator page x y count (λ i. bit bits (63 - i % 64)) i j (λ a b c. apart a (omega arith)) right below)
    ∙ pixel_at-grid_of w h (λ i j. cond (eqb j y && leb x i && ltb i (x + count)) (combined_pixel operator (pixel_at page i j) (bit bits (63 - i % 64))) (pixel_at page i j)) i j right below)

pub run-packed : (operator : CombinationOperator) (w h stride : ℕ) (words : List ℕ) (word offset y count bits v : ℕ) → IsPacked w h stride words → 1 ≤ count → offset + count ≤ 64 → 64 * word + offset + count ≤ w → y < h → ((b : ℕ) → b < 64 → bit v b ≡ cond (bit ((2 ^ 64 - 1) / 2 ^ (64 - count) * 2 ^ (64 - offset - count) % 2 ^ 64) b) (combined_pixel operator (bit (get_or words (y * stride + word) 0) b) (bit bits b)) (bit (get_or words (y * stride + word) 0) b)) → IsPacked w h stride (set words (y * stride + word) v)
run-packed operator w h stride words word offset y count bits v packed some one columns above each =
    let x : ℕ = 64 * word + offset in
    let column : x / 64 ≡ word = omega arith in
    let wide = packed.strided in
    subst (λ (q : ℕ). IsPacked w h stride (set words (y * stride + q) v)) column
    (written-packed w h stride words x y v packed (omega arith) above
    (λ i same past.
    run_pixel operator stride words word offset y count bits v i one each (same ∙ column)
    ∙ cond-false (eqb y y && leb x i && ltb i (x + count)) (combined_pixel operator (packed_pixel stride words i y) (bit bits (63 - i % 64))) (packed_pixel stride words i y) (after_field x y count i y (omega arith))
    ∙ packed.padded i y past (omega arith) above))

-- ---- the source
-- the pixels of a row that lie in one word, from its highest bit on
source_bit : (w h stride : ℕ) (words : List ℕ) (from y k : ℕ) → IsPacked w h stride words → from < w → y < h → from % 64 + k < 64 → bit (get_or words (y * stride + from / 64) 0 * 2 ^ (from % 64) % 2 ^ 64) (63 - k) ≡ pixel_at (packed_grid w h stride words) (from + k) y
source_bit w h stride words from y k packed left above near =
    let wide = packed.strided in
    let back : 63 - k - from % 64 ≡ 63 - (from % 64 + k) = omega arith in
    let place : 64 * (from / 64) + (from % 64 + k) ≡ from + k = omega arith in
    bit-shl_high (get_or words (y * stride + from / 64) 0) (from % 64) 64 (63 - k) (omega arith) (omega arith)
    ∙ ap (λ (b : ℕ). bit (get_or words (y * stride + from / 64) 0) b) back
    ∙ word-pixel w h stride words (from / 64) y (from % 64 + k) packed (omega arith) above near
    ∙ ap (λ (n : ℕ). pixel_at (grid_of w h (packed_pixel stride words)) n y) place

-- those that lie in the page's first word, and in its second
pub near-source : (w h stride : ℕ) (words : List ℕ) (from y left i : ℕ) → IsPacked w h stride words → from < w → y < h → left ≤ i → from % 64 + (i - left) < 64 → left % 64 + (i - left) < 64 → bit (get_or words (y * stride + from / 64) 0 * 2 ^ (from % 64) % 2 ^ 64 / 2 ^ (left % 64)) (63 - i % 64) ≡ pixel_at (packed_grid w h stride words) (from + (i - left)) y
near-source w h stride words from y left i packed inside above low near here =
    let bits : ℕ = get_or words (y * stride + from / 64) 0 * 2 ^ (from % 64) % 2 ^ 64 in
    let place : left % 64 + (63 - i % 64) ≡ 63 - (i - left) = omega arith in
    bit-shr bits (left % 64) (63 - i % 64)
    ∙ ap (λ (b : ℕ). bit bits b) place
    ∙ source_bit w h stride words from y (i - left) packed inside above near

pub far-source : (w h stride : ℕ) (words : List ℕ) (from y left near i : ℕ) → IsPacked w h stride words → from < w → y < h → near ≡ 64 - left % 64 → left + near ≤ i → from % 64 + (i - left) < 64 → bit (get_or words (y * stride + from / 64) 0 * 2 ^ (from % 64) % 2 ^ 64 * 2 ^ near % 2 ^ 64) (63 - i % 64) ≡ pixel_at (packed_grid w h stride words) (from + (i - left)) y
far-source w h stride words from y left near i packed inside above first low within =
    let bits : ℕ = get_or words (y * stride + from / 64) 0 * 2 ^ (from % 64) % 2 ^ 64 in
    let place : 63 - i % 64 - near ≡ 63 - (i - left) = omega arith in
    bit-shl_high bits near 64 (63 - i % 64) (omega arith) (omega arith)
    ∙ ap (λ (b : ℕ). bit bits b) place
    ∙ source_bit w h stride words from y (i - left) packed inside above within

-- those that lie at the same places of a word
pub aligned-source : (w h stride : ℕ) (words : List ℕ) (from y left word i place : ℕ) → IsPacked w h stride words → y < h → left % 64 ≡ from % 64 → left ≤ i → i / 64 ≡ word → from + (i - left) < w → place ≡ y * stride + from / 64 + (word - left / 64) → bit (get_or words place 0) (63 - i % 64) ≡ pixel_at (packed_grid w h stride words) (from + (i - left)) y
aligned-source w h stride words from y left word i place packed above aligned low here inside at =
    let wide = packed.strided in
    let q : ℕ = from / 64 + (word - left / 64) in
    let where_at : place ≡ y * stride + q = omega arith in
    let column : 64 * q + i % 64 ≡ from + (i - left) = omega arith in
    ap (λ (n : ℕ). bit (get_or words n 0) (63 - i % 64)) where_at
    ∙ word-pixel w h stride words q y (i % 64) packed (omega arith) above (omega arith)
    ∙ ap (λ (n : ℕ). pixel_at (grid_of w h (packed_pixel stride words)) n y) column
