-- What is there of regions whose data is cut off: whole rows are some of a region's rows, and what is counted for a
-- refinement's part is paid for.
use Rattle.std.proofs.Common.{◌≡◌, ℕ, zero, suc, ◌+◌, ◌*◌, ◌≤◌, ◌==◌, ◌&&◌, ◌||◌, Bool, true, false, ℤ, pos, negsuc, ◌-ℤ◌, List, Result, Ok, Err, refl, ap, sym, ◌∙◌, arith}
use Rattle.std.specs.Prelude.{if◌then◌else◌, length, nat_lt}
use Rattle.jbig2_base.specs.Results.{◌>>=◌, refuse_if}
use Rattle.jbig2_base.specs.declared.error.DecodeError.{DecodeError}
use Rattle.jbig2_base.specs.declared.error.OverflowError.TheVariants.{ReferenceOffset}
use Rattle.jbig2_base.specs.declared.error.RegionError.TheVariants.{InvalidDimension}
use Rattle.jbig2_base.specs.declared.error.DecodeError.TheVariants as errors
use Rattle.std.proofs.Math.Nat.{mul-le-mul_left, mul-le-mul_right}
use Rattle.std.proofs.lemmas.Bool.{le-ltb, ltb-false}
use Rattle.jbig2_base.specs.Counts.{Counts, WritesWithin, most_words, overlap}
use Rattle.jbig2_base.specs.Grid.{Grid, blank}
use Rattle.jbig2_base.proofs.Prices.{most_words-few, written-counted}
use Rattle.jbig2_coder.specs.Coder.{Coder, Context, Registers, initial_registers, is_within}
use Rattle.jbig2_steps.specs.Work.{paid_words, price_of_bitmap, sum_of_counts, words_of_row}
use Rattle.jbig2_steps.proofs.WorkLemmas.{room-paid}
use Rattle.jbig2_region.specs.Raster.{Coding, Source, no_pixels, source}
use Rattle.jbig2_coder.specs.Coder.{fresh_contexts}
use Rattle.jbig2_region.specs.Refinement.{Reference, offset, reference_of, refined_decoded, refined_grid, refinement_coding}
use Rattle.jbig2_region.specs.RefinementHeader.{IsRefinement, RefinementHeader}
use Rattle.jbig2_region.specs.RefinementTemplates.{refinement_bits}
use Rattle.jbig2_region.specs.RegionInfo.{PlacedRegion, at_location, is_far}
use Rattle.jbig2_base.proofs.Causes.{same-ok}
use Rattle.jbig2_base.specs.Combination.{combined_grid}
use Rattle.jbig2_base.specs.declared.bitmap.operator.CombinationOperator.TheVariants.{Replace}
use Rattle.jbig2_region.specs.WholeRows.{after_row, refined_part, whole_refined_rows, whole_rows, with_whole_refined_rows}

-- ---- fewer rows
pub whole-most : (coding : Coding) (s : Source) (n : ℕ) → whole_rows coding s n ≤ n
unfolding whole_rows
whole-most coding s zero = omega arith
whole-most coding s (suc n) = either (whole_rows coding s n == n && is_within s.bytes (after_row coding s (suc n)).registers) (whole-most coding s n)
  where
    either : (b : Bool) → whole_rows coding s n ≤ n → (if b then suc n else whole_rows coding s n) ≤ suc n
    either true few = omega arith
    either false few = omega (arith, few)

refined-fewer : (h : RefinementHeader) (from : PlacedRegion) → whole_refined_rows h from ≤ h.region_info.height
refined-fewer h from = either (h.region_info.width == 0)
  where
    coding : Coding
    coding = refinement_coding h.template h.tpgron h.adaptive_template_pixels (reference_of h from)

    rows : ℕ
    rows = whole_rows coding (source h.region_info.width h.region_info.height h.bytes (no_pixels (initial_registers h.bytes) (fresh_contexts (refinement_bits h.template)))) h.region_info.height

    either : (b : Bool) → (if b then h.region_info.height else rows) ≤ h.region_info.height
    either true = omega arith
    either false = whole-most coding _ h.region_info.height

pub refined-parsed : (h : RefinementHeader) (from : PlacedRegion) (rows : ℕ) → rows ≡ whole_refined_rows h from → IsRefinement h → IsRefinement (record h { region_info = record h.region_info { height = rows } })
refined-parsed h from rows is parsed = record { columns = parsed.columns; rows = omega (arith, is, refined-fewer h from, parsed.rows) }

-- a reference that covers the region covers its whole rows
lower-false : (n rows h : ℕ) → rows ≤ h → nat_lt n h ≡ false → nat_lt n rows ≡ false
lower-false n rows h fewer is = le-ltb n rows (omega (arith, fewer, ltb-false n h is))

offset-lower : (h : RefinementHeader) (from : PlacedRegion) (d : ℤ × ℤ) → offset from h.region_info ≡ Ok d → offset from (with_whole_refined_rows h from).region_info ≡ Ok d
unfolding offset
offset-lower h from d is =
    by (nat_lt from.grid.width h.region_info.width) (nat_lt from.grid.height h.region_info.height) (nat_lt from.grid.height (whole_refined_rows h from))
    (lower-false from.grid.height (whole_refined_rows h from) h.region_info.height (refined-fewer h from)) is
  where
    next : Unit {0} → Result (ℤ × ℤ) DecodeError
    next _ =
        refuse_if (is_far from.x_location || is_far h.region_info.x_location || is_far from.y_location || is_far h.region_info.y_location) (errors.Overflow ReferenceOffset)
        >>= λ near. Ok (pos from.x_location -ℤ pos h.region_info.x_location, pos from.y_location -ℤ pos h.region_info.y_location)

    by : (wide high low : Bool) → (high ≡ false → low ≡ false) → (refuse_if (wide || high) (errors.Region InvalidDimension) >>= next) ≡ Ok d → (refuse_if (wide || low) (errors.Region InvalidDimension) >>= next) ≡ Ok d
    by true high low lower is = is
    by false true low lower is = absurd (let never : ◌≡◌ {A = Result (ℤ × ℤ) DecodeError} (Err (errors.Region InvalidDimension)) (Ok d) = is in cc)
    by false false low lower is = rw (lower refl) is

rows-decoded : (h : RefinementHeader) (from : PlacedRegion) (d : ℤ × ℤ) → offset from h.region_info ≡ Ok d → refined_decoded (with_whole_refined_rows h from) from ≡ Ok (at_location (with_whole_refined_rows h from).region_info (refined_grid (with_whole_refined_rows h from) from))
rows-decoded h from d is = rw (offset-lower h from d is) refl

abbrev with_rows : RefinementHeader → ℕ → RefinementHeader
with_rows h rows = record h { region_info = record h.region_info { height = rows } }

rows-given : (h : RefinementHeader) (from : PlacedRegion) (d : ℤ × ℤ) (rows : ℕ) → rows ≡ whole_refined_rows h from → offset from h.region_info ≡ Ok d → refined_decoded (with_rows h rows) from ≡ Ok (at_location (with_whole_refined_rows h from).region_info (refined_grid (with_whole_refined_rows h from) from))
rows-given h from d rows same is = ap (λ (n : ℕ). refined_decoded (with_rows h n) from) same ∙ rows-decoded h from d is

-- so the rows are never refused
pub rows-refused : (h : RefinementHeader) (from : PlacedRegion) (d : ℤ × ℤ) (rows : ℕ) (e : DecodeError) → rows ≡ whole_refined_rows h from → offset from h.region_info ≡ Ok d → refined_decoded (with_rows h rows) from ≡ Err e → ⊥
rows-refused h from d rows e same is refused =
    let never : ◌≡◌ {A = Result PlacedRegion DecodeError} (Ok (at_location (with_whole_refined_rows h from).region_info (refined_grid (with_whole_refined_rows h from) from))) (Err e) = sym (rows-given h from d rows same is) ∙ refused in
    absurd (cc)

-- and drawn over the reference they are the part
pub part-drawn : (h : RefinementHeader) (from : PlacedRegion) (d : ℤ × ℤ) (dx dy : ℤ) (rows : ℕ) (white below : Grid) (refined : PlacedRegion) (all : Grid) → dx ≡ d.0 → dy ≡ d.1 → rows ≡ whole_refined_rows h from → offset from h.region_info ≡ Ok d → white ≡ blank h.region_info.width h.region_info.height false → below ≡ combined_grid Replace white from.grid dx dy
    → refined_decoded (with_rows h rows) from ≡ Ok refined → all ≡ combined_grid Replace below refined.grid (pos 0) (pos 0) → refined_part h from ≡ Ok (at_location h.region_info all)
unfolding refined_part
part-drawn h from d dx dy rows white below refined all is_dx is_dy same is is_white is_below is_refined is_all =
    let placed : at_location (with_whole_refined_rows h from).region_info (refined_grid (with_whole_refined_rows h from) from) ≡ refined = same-ok _ _ (sym (rows-given h from d rows same is) ∙ is_refined) in
    let grid : refined_grid (with_whole_refined_rows h from) from ≡ refined.grid = ap (λ (r : PlacedRegion). r.grid) placed in
    rw is
    (ap (λ (g : Grid). placed_at (combined_grid Replace (combined_grid Replace (blank h.region_info.width h.region_info.height false) from.grid d.0 d.1) g (pos 0) (pos 0))) grid
    ∙ ap (λ (g : Grid). placed_at (combined_grid Replace (combined_grid Replace g from.grid d.0 d.1) refined.grid (pos 0) (pos 0))) (sym is_white)
    ∙ ap (λ (x : ℤ). placed_at (combined_grid Replace (combined_grid Replace white from.grid x d.1) refined.grid (pos 0) (pos 0))) (sym is_dx)
    ∙ ap (λ (y : ℤ). placed_at (combined_grid Replace (combined_grid Replace white from.grid dx y) refined.grid (pos 0) (pos 0))) (sym is_dy)
    ∙ ap (λ (g : Grid). placed_at (combined_grid Replace g refined.grid (pos 0) (pos 0))) (sym is_below)
    ∙ ap placed_at (sym is_all))
  where
    placed_at : Grid → Result PlacedRegion DecodeError
    placed_at g = Ok (at_location h.region_info g)

-- ---- the rows of a refinement, counted from fresh contexts
pub rows-refined : (h : RefinementHeader) (from : PlacedRegion) (r : Reference) (before : Grid) (first : Coder) (fresh : List Context) (rows : ℕ) → r ≡ reference_of h from → before ≡ blank h.region_info.width h.region_info.height false → first.bytes ≡ h.bytes → first.registers ≡ initial_registers h.bytes → fresh ≡ fresh_contexts (refinement_bits h.template) → (h.region_info.width == 0) ≡ false
    → rows ≡ whole_rows (refinement_coding h.template h.tpgron h.adaptive_template_pixels r) (source before.width before.height first.bytes (no_pixels first.registers fresh)) before.height
    → whole_refined_rows h from ≡ rows
rows-refined h from r before first fresh rows place white bytes registers contexts some counted =
    rw some
    (sym (
    counted
    ∙ ap (λ (q : Reference). whole_rows (coding q) (source before.width before.height first.bytes (no_pixels first.registers fresh)) before.height) place
    ∙ ap (λ (g : Grid). whole_rows (coding (reference_of h from)) (source g.width g.height first.bytes (no_pixels first.registers fresh)) g.height) white
    ∙ ap (λ (b : List ℕ). whole_rows (coding (reference_of h from)) (source h.region_info.width h.region_info.height b (no_pixels first.registers fresh)) h.region_info.height) bytes
    ∙ ap (λ (x : Registers). whole_rows (coding (reference_of h from)) (source h.region_info.width h.region_info.height h.bytes (no_pixels x fresh)) h.region_info.height) registers
    ∙ ap (λ (x : List Context). whole_rows (coding (reference_of h from)) (source h.region_info.width h.region_info.height h.bytes (no_pixels (initial_registers h.bytes) x)) h.region_info.height) contexts))
  where
    coding : Reference → Coding
    coding q = refinement_coding h.template h.tpgron h.adaptive_template_pixels q

-- ---- a source that is combined with a bitmap, in words of the bitmap
overlap-room : (page source : ℕ) (x : ℤ) → overlap page source x ≤ page
overlap-room page source (pos x) = omega arith
overlap-room page source (negsuc x) = omega arith

thrice : (n height words : ℕ) → n ≤ height * (3 * words) → 3 * n ≤ 2047 * (words * height)
thrice n height words few = omega arith

pub covered-paid : (page source : Grid) (x y : ℤ) (old new : Counts) → WritesWithin (overlap page.height source.height y * most_words (overlap page.width source.width x)) old new → sum_of_counts new + paid_words page.width page.height ≤ sum_of_counts old + 32 * price_of_bitmap page.width page.height
covered-paid page source x y old new written =
    let rows = overlap page.height source.height y in
    let words = most_words (overlap page.width source.width x) in
    let few : words ≤ 3 * words_of_row page.width = most_words-few (overlap page.width source.width x) page.width (overlap-room page.width source.width x) in
    let high : rows * words ≤ page.height * words = mul-le-mul_right words (overlap-room page.height source.height y) in
    let wide : page.height * words ≤ page.height * (3 * words_of_row page.width) = mul-le-mul_left page.height few in
    let all : rows * words ≤ page.height * (3 * words_of_row page.width) = omega (arith, high, wide) in
    let paid : 3 * (rows * words) + paid_words page.width page.height ≤ 32 * price_of_bitmap page.width page.height = room-paid page.width page.height (3 * (rows * words)) (thrice (rows * words) page.height (words_of_row page.width) all) in
    let more : sum_of_counts new ≤ sum_of_counts old + 3 * (rows * words) = written-counted (rows * words) old new written in
    omega (arith, more, paid)

price-lower : (w rows h : ℕ) → rows ≤ h → price_of_bitmap w rows ≤ price_of_bitmap w h
unfolding price_of_bitmap
price-lower w rows h fewer =
    let more : 64 * words_of_row w * rows ≤ 64 * words_of_row w * h = mul-le-mul_left (64 * words_of_row w) fewer in
    omega (arith, more)

-- a refinement with fewer rows is within the price of the whole one
pub fewer-paid : (h : RefinementHeader) (from : PlacedRegion) (rows : ℕ) → rows ≡ whole_refined_rows h from → price_of_bitmap h.region_info.width rows ≤ price_of_bitmap h.region_info.width h.region_info.height
fewer-paid h from rows is = price-lower h.region_info.width rows h.region_info.height (omega (arith, is, refined-fewer h from))
