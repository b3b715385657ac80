-- Blocks of a page that are combined piece by piece.
use Rattle.std.proofs.Common.{◌≡◌, ℕ, ◌+◌, ◌-◌, ◌*◌, ◌/◌, ◌%◌, min, max, ◌<◌, ◌≤◌, Bool, false, ◌&&◌, cond, eqb, ltb, leb, refl, sym, ap, ◌∙◌, ◌⊎◌, inl, inr, ⊎_elim, arith}
use Rattle.std.proofs.lemmas.Bool.{cases_eq, cases_lt, cond-true, cond-false, and_from, and_left, and_right, le-leb, lt-leb, lt-ltb, le-ltb}
use Rattle.jbig2_base.specs.declared.bitmap.operator.CombinationOperator.{CombinationOperator}
use Rattle.jbig2_base.specs.Grid.{Grid, grid_of, IsTable, pixel_at}
use Rattle.jbig2_base.specs.Combination.{combined_pixel}
use Rattle.jbig2_base.specs.Bits.{bit}
use Rattle.jbig2_base.specs.Writes.{with_pixels}
use Rattle.jbig2_base.specs.inner.Blocks.{block_pixel, with_block}
use Rattle.jbig2_base.proofs.GridLemmas.{grid_of-ext, pixel_at-grid_of}
use Rattle.jbig2_base.proofs.WriteLemmas.{in_field, before_field, after_field, other_row}

-- inside of a block, or not
block_cases : (left right top bottom i j : ℕ) → ((left ≤ i) × (i < right) × (top ≤ j) × (j < bottom)) ⊎ (left ≤ i → i < right → top ≤ j → j < bottom → ⊥)
block_cases left right top bottom i j =
    ⊎_elim (λ (a : i < left). inr (λ p q r s. omega arith))
    (λ (a : left ≤ i).
    ⊎_elim
    (λ (b : i < right).
    ⊎_elim (λ (c : j < top). inr (λ p q r s. omega arith))
    (λ (c : top ≤ j). ⊎_elim (λ (d : j < bottom). inl (a, b, c, d)) (λ (d : bottom ≤ j). inr (λ p q r s. omega arith)) (cases_lt j bottom))
    (cases_lt j top))
    (λ (b : right ≤ i). inr (λ p q r s. omega arith))
    (cases_lt i right))
    (cases_lt i left)

pub block-in : (operator : CombinationOperator) (page source : Grid) (left right top bottom from from_row i j : ℕ) → left ≤ i → i < right → top ≤ j → j < bottom → block_pixel operator page source left right top bottom from from_row i j ≡ combined_pixel operator (pixel_at page i j) (pixel_at source (from + (i - left)) (from_row + (j - top)))
unfolding block_pixel
block-in operator page source left right top bottom from from_row i j a b c d =
    cond-true (leb left i && ltb i right && leb top j && ltb j bottom) (combined_pixel operator (pixel_at page i j) (pixel_at source (from + (i - left)) (from_row + (j - top)))) (pixel_at page i j)
    (and_from _ _ (and_from _ _ (and_from _ _ (le-leb left i a) (lt-ltb i right b)) (le-leb top j c)) (lt-ltb j bottom d))

out_test : (left right top bottom i j : ℕ) → (left ≤ i → i < right → top ≤ j → j < bottom → ⊥) → (leb left i && ltb i right && leb top j && ltb j bottom) ≡ false
out_test left right top bottom i j out =
    ⊎_elim (λ (a : i < left). and_left _ _ (and_left _ _ (and_left _ _ (lt-leb left i a))))
    (λ (a : left ≤ i).
    ⊎_elim
    (λ (b : i < right).
    ⊎_elim (λ (c : j < top). and_left _ _ (and_right _ _ (lt-leb top j c)))
    (λ (c : top ≤ j). and_right _ _ (le-ltb j bottom (⊎_elim (λ (d : j < bottom). absurd (out a b c d)) (λ (d : bottom ≤ j). d) (cases_lt j bottom))))
    (cases_lt j top))
    (λ (b : right ≤ i). and_left _ _ (and_left _ _ (and_right _ _ (le-ltb i right b))))
    (cases_lt i right))
    (cases_lt i left)

pub block-out : (operator : CombinationOperator) (page source : Grid) (left right top bottom from from_row i j : ℕ) → (left ≤ i → i < right → top ≤ j → j < bottom → ⊥) → block_pixel operator page source left right top bottom from from_row i j ≡ pixel_at page i j
unfolding block_pixel
block-out operator page source left right top bottom from from_row i j out =
    cond-false (leb left i && ltb i right && leb top j && ltb j bottom) (combined_pixel operator (pixel_at page i j) (pixel_at source (from + (i - left)) (from_row + (j - top)))) (pixel_at page i j) (out_test left right top bottom i j out)

-- an empty block
pub block-none : (operator : CombinationOperator) (page source : Grid) (left right top bottom from from_row : ℕ) → IsTable page → (right ≤ left) ⊎ (bottom ≤ top) → page ≡ with_block operator page source left right top bottom from from_row
block-none operator page source left right top bottom from from_row known none =
    known
    ∙ grid_of-ext page.width page.height (pixel_at page) (block_pixel operator page source left right top bottom from from_row)
    (λ i j inside below. sym (block-out operator page source left right top bottom from from_row i j (λ a b c d. ⊎_elim (λ (e : right ≤ left). omega arith) (λ (e : bottom ≤ top). omega arith) none)))

-- ---- some more columns of a block of one row
-- that row
grown_row : (operator : CombinationOperator) (page source : Grid) (left start count row from from_row page_bits source_bits bits : ℕ) → left ≤ start → ((k : ℕ) → k < count → bit page_bits (count - 1 - k) ≡ pixel_at (with_block operator page source left start row (row + 1) from from_row) (start + k) row) → ((k : ℕ) → k < count → bit source_bits (count - 1 - k) ≡ pixel_at source (from + (start - left) + k) from_row) → ((k : ℕ) → k < count → bit bits k ≡ combined_pixel operator (bit page_bits k) (bit source_bits k)) → row < page.height → (i : ℕ) → i < page.width → cond (eqb row row && leb start i && ltb i (start + count)) (bit bits (start + count - 1 - i)) (pixel_at (with_block operator page source left start row (row + 1) from from_row) i row) ≡ block_pixel operator page source left (start + count) row (row + 1) from from_row i row
grown_row operator page source left start count row from from_row page_bits source_bits bits opening page_read source_read made below i right =
    let f = block_pixel operator page source left start row (row + 1) from from_row in
    let g = block_pixel operator page source left (start + count) row (row + 1) from from_row in
    let before : Bool = pixel_at (grid_of page.width page.height f) i row in
    let same : before ≡ f i row = pixel_at-grid_of page.width page.height f i row right below in
    let fresh : Bool = bit bits (start + count - 1 - i) in
    ⊎_elim
    (λ (old : i < start).
    cond-false (eqb row row && leb start i && ltb i (start + count)) fresh before (before_field start row count i row old)
    ∙ same
    ∙ ⊎_elim
    (λ (out : i < left).
    block-out operator page source left start row (row + 1) from from_row i row (λ a b c d. omega arith)
    ∙ sym (block-out operator page source left (start + count) row (row + 1) from from_row i row (λ a b c d. omega arith)))
    (λ (inside : left ≤ i).
    block-in operator page source left start row (row + 1) from from_row i row inside old (omega arith) (omega arith)
    ∙ sym (block-in operator page source left (start + count) row (row + 1) from from_row i row inside (omega arith) (omega arith) (omega arith)))
    (cases_lt i left))
    (λ (reached : start ≤ i).
    ⊎_elim
    (λ (new : i < start + count).
    let place : count - 1 - (i - start) ≡ start + count - 1 - i = omega arith in
    let column : start + (i - start) ≡ i = omega arith in
    let source_column : from + (start - left) + (i - start) ≡ from + (i - left) = omega arith in
    let source_row : from_row ≡ from_row + (row - row) = omega arith in
    let page_bit : bit page_bits (start + count - 1 - i) ≡ pixel_at page i row =
    ap (λ (k : ℕ). bit page_bits k) (sym place)
    ∙ page_read (i - start) (omega arith)
    ∙ ap (λ (n : ℕ). pixel_at (grid_of page.width page.height f) n row) column
    ∙ same
    ∙ block-out operator page source left start row (row + 1) from from_row i row (λ a b c d. omega arith) in
    let source_bit : bit source_bits (start + count - 1 - i) ≡ pixel_at source (from + (i - left)) (from_row + (row - row)) =
    ap (λ (k : ℕ). bit source_bits k) (sym place)
    ∙ source_read (i - start) (omega arith)
    ∙ ap (λ (n : ℕ). pixel_at source n from_row) source_column
    ∙ ap (λ (n : ℕ). pixel_at source (from + (i - left)) n) source_row in
    cond-true (eqb row row && leb start i && ltb i (start + count)) fresh before (in_field start row count i row refl reached new)
    ∙ made (start + count - 1 - i) (omega arith)
    ∙ ap (λ (b : Bool). combined_pixel operator b (bit source_bits (start + count - 1 - i))) page_bit
    ∙ ap (λ (b : Bool). combined_pixel operator (pixel_at page i row) b) source_bit
    ∙ sym (block-in operator page source left (start + count) row (row + 1) from from_row i row (omega arith) new (omega arith) (omega arith)))
    (λ (out : start + count ≤ i).
    cond-false (eqb row row && leb start i && ltb i (start + count)) fresh before (after_field start row count i row out)
    ∙ same
    ∙ block-out operator page source left start row (row + 1) from from_row i row (λ a b c d. omega arith)
    ∙ sym (block-out operator page source left (start + count) row (row + 1) from from_row i row (λ a b c d. omega arith)))
    (cases_lt i (start + count)))
    (cases_lt i start)

pub block-columns : (operator : CombinationOperator) (page source : Grid) (left start count row from from_row page_bits source_bits bits : ℕ) → left ≤ start → ((k : ℕ) → k < count → bit page_bits (count - 1 - k) ≡ pixel_at (with_block operator page source left start row (row + 1) from from_row) (start + k) row) → ((k : ℕ) → k < count → bit source_bits (count - 1 - k) ≡ pixel_at source (from + (start - left) + k) from_row) → ((k : ℕ) → k < count → bit bits k ≡ combined_pixel operator (bit page_bits k) (bit source_bits k)) → row < page.height → with_pixels (with_block operator page source left start row (row + 1) from from_row) start row count bits ≡ with_block operator page source left (start + count) row (row + 1) from from_row
block-columns operator page source left start count row from from_row page_bits source_bits bits opening page_read source_read made below =
    let w : ℕ = page.width in
    let h : ℕ = page.height in
    let f = block_pixel operator page source left start row (row + 1) from from_row in
    let g = block_pixel operator page source left (start + count) row (row + 1) from from_row in
    grid_of-ext w h (λ i j. cond (eqb j row && leb start i && ltb i (start + count)) (bit bits (start + count - 1 - i)) (pixel_at (grid_of w h f) i j)) g
    (λ i j right lower.
    ⊎_elim
    (λ (here : j ≡ row).
    ap (λ (n : ℕ). cond (eqb n row && leb start i && ltb i (start + count)) (bit bits (start + count - 1 - i)) (pixel_at (grid_of w h f) i n)) here
    ∙ grown_row operator page source left start count row from from_row page_bits source_bits bits opening page_read source_read made below i right
    ∙ ap (λ (n : ℕ). g i n) (sym here))
    (λ (other : j ≡ row → ⊥).
    cond-false (eqb j row && leb start i && ltb i (start + count)) (bit bits (start + count - 1 - i)) (pixel_at (grid_of w h f) i j) (other_row start row count i j other)
    ∙ pixel_at-grid_of w h f i j right lower
    ∙ block-out operator page source left start row (row + 1) from from_row i j (λ a b c d. other (omega arith))
    ∙ sym (block-out operator page source left (start + count) row (row + 1) from from_row i j (λ a b c d. other (omega arith))))
    (cases_eq j row))

-- one word more of a row from left up to right, word by word
pub row-step : (operator : CombinationOperator) (page source before after : Grid) (left right index start count row from from_row page_bits source_bits bits : ℕ) → left < right → left / 64 ≤ index → index < (right - 1) / 64 + 1 → start ≡ max left (index * 64) → count ≡ min (right - start) (64 - start % 64) → row < page.height → before ≡ with_block operator page source left (max left (min right (64 * index))) row (row + 1) from from_row → ((k : ℕ) → k < count → bit page_bits (count - 1 - k) ≡ pixel_at before (start + k) row) → ((k : ℕ) → k < count → bit source_bits (count - 1 - k) ≡ pixel_at source (from + (start - left) + k) from_row) → ((k : ℕ) → k < count → bit bits k ≡ combined_pixel operator (bit page_bits k) (bit source_bits k)) → after ≡ with_pixels before start row count bits → after ≡ with_block operator page source left (max left (min right (64 * (index + 1)))) row (row + 1) from from_row
row-step operator page source before after left right index start count row from from_row page_bits source_bits bits some first last start_is count_is below known page_read source_read made written =
    let begin : max left (min right (64 * index)) ≡ start = omega arith in
    let end : start + count ≡ max left (min right (64 * (index + 1))) = omega arith in
    let so_far = known ∙ ap (λ (e : ℕ). with_block operator page source left e row (row + 1) from from_row) begin in
    written
    ∙ ap (λ (g : Grid). with_pixels g start row count bits) so_far
    ∙ block-columns operator page source left start count row from from_row page_bits source_bits bits (omega arith) (λ k inside. page_read k inside ∙ ap (λ (g : Grid). pixel_at g (start + k) row) so_far) source_read made below
    ∙ ap (λ (e : ℕ). with_block operator page source left e row (row + 1) from from_row) end

-- ---- one row more
pub block-rows : (operator : CombinationOperator) (page source : Grid) (left right top bottom from from_row : ℕ) → top ≤ bottom → bottom < page.height → with_block operator (with_block operator page source left right top bottom from from_row) source left right bottom (bottom + 1) from (from_row + (bottom - top)) ≡ with_block operator page source left right top (bottom + 1) from from_row
block-rows operator page source left right top bottom from from_row opening below =
    let w : ℕ = page.width in
    let h : ℕ = page.height in
    let f = block_pixel operator page source left right top bottom from from_row in
    let before : Grid = grid_of w h f in
    grid_of-ext w h (block_pixel operator before source left right bottom (bottom + 1) from (from_row + (bottom - top))) (block_pixel operator page source left right top (bottom + 1) from from_row)
    (λ i j inside lower.
    let same : pixel_at before i j ≡ f i j = pixel_at-grid_of w h f i j inside lower in
    ⊎_elim
    (λ (new : (left ≤ i) × (i < right) × (bottom ≤ j) × (j < bottom + 1)).
    let source_row : from_row + (bottom - top) + (j - bottom) ≡ from_row + (j - top) = omega arith in
    block-in operator before source left right bottom (bottom + 1) from (from_row + (bottom - top)) i j new.0 new.1 new.2 new.3
    ∙ ap (λ (n : ℕ). combined_pixel operator (pixel_at before i j) (pixel_at source (from + (i - left)) n)) source_row
    ∙ ap (λ (b : Bool). combined_pixel operator b (pixel_at source (from + (i - left)) (from_row + (j - top)))) (same ∙ block-out operator page source left right top bottom from from_row i j (λ a b c d. omega arith))
    ∙ sym (block-in operator page source left right top (bottom + 1) from from_row i j new.0 new.1 (omega arith) new.3))
    (λ (old : left ≤ i → i < right → bottom ≤ j → j < bottom + 1 → ⊥).
    block-out operator before source left right bottom (bottom + 1) from (from_row + (bottom - top)) i j old
    ∙ same
    ∙ ⊎_elim
    (λ (drawn : (left ≤ i) × (i < right) × (top ≤ j) × (j < bottom)).
    block-in operator page source left right top bottom from from_row i j drawn.0 drawn.1 drawn.2 drawn.3
    ∙ sym (block-in operator page source left right top (bottom + 1) from from_row i j drawn.0 drawn.1 drawn.2 (omega arith)))
    (λ (out : left ≤ i → i < right → top ≤ j → j < bottom → ⊥).
    block-out operator page source left right top bottom from from_row i j out
    ∙ sym (block-out operator page source left right top (bottom + 1) from from_row i j (λ a b c d. ⊎_elim (λ (e : j < bottom). out a b c e) (λ (e : bottom ≤ j). old a b e d) (cases_lt j bottom))))
    (block_cases left right top bottom i j))
    (block_cases left right bottom (bottom + 1) i j))

pub page-more : (operator : CombinationOperator) (page source before after : Grid) (left right top rows from from_row : ℕ) → top + rows < page.height → before ≡ with_block operator page source left right top (top + rows) from from_row → after ≡ with_block operator before source left right (top + rows) (top + rows + 1) from (from_row + rows) → after ≡ with_block operator page source left right top (top + (rows + 1)) from from_row
page-more operator page source before after left right top rows from from_row below known drawn =
    let row : from_row + rows ≡ from_row + (top + rows - top) = omega arith in
    let next : top + rows + 1 ≡ top + (rows + 1) = omega arith in
    drawn
    ∙ ap (λ (g : Grid). with_block operator g source left right (top + rows) (top + rows + 1) from (from_row + rows)) known
    ∙ ap (λ (n : ℕ). with_block operator (with_block operator page source left right top (top + rows) from from_row) source left right (top + rows) (top + rows + 1) from n) row
    ∙ block-rows operator page source left right top (top + rows) from from_row (omega arith) below
    ∙ ap (λ (n : ℕ). with_block operator page source left right top n from from_row) next
