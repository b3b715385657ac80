-- Whole rows of coded data, one after the other, and the steps of counting them.
use Rattle.std.specs.Prelude.{if◌then◌else◌, ◌&&◌, ◌==◌}
use Rattle.std.proofs.Common.{subst, ◌≡◌, ℕ, zero, suc, ◌+◌, ◌-◌, ◌*◌, ◌≤◌, Bool, true, false, eqb, add-one, List, length, Option, refl, sym, ap, ◌∙◌, arith}
use Rattle.std.proofs.Math.Nat.{mul-le-mul_left}
use Rattle.std.proofs.lemmas.Bool.{eq-eqb, ne_eqb, and_right}
use Rattle.jbig2_base.specs.Counts.{Counts}
use Rattle.jbig2_base.specs.Grid.{Grid, blank}
use Rattle.jbig2_coder.specs.Coder.{Coder, Context, Registers, is_within}
use Rattle.jbig2_region.specs.Raster.{Coding, Region, Source, at_pixel, first_pixels, no_pixels, row_decisions, source}
use Rattle.jbig2_region.specs.Steps.{takes_decision, CountsWholeRows}
use Rattle.jbig2_region.specs.WholeRows.{after_row, whole_rows}
use Rattle.jbig2_region.specs.inner.RegionStates.{BeginsRow, HasDecoded, counted_region, region_state}
use Rattle.jbig2_region.specs.inner.RowCounts.{decided_rows}
use Rattle.jbig2_region.specs.inner.Rows.{after_rows}
use Rattle.jbig2_region.proofs.DecisionLemmas.{Decided}
use Rattle.jbig2_region.proofs.PlaceCounts.{decided-places}
use Rattle.jbig2_region.proofs.PlaceLemmas.{first-rows}
use Rattle.jbig2_region.proofs.Prices.{how_many-most, row-decides}
use Rattle.jbig2_region.proofs.RegionLemmas.{tests-next}
use Rattle.jbig2_region.proofs.StretchLemmas.{RowsDecoded, rows-next, rows-none}
use Rattle.jbig2_region.specs.inner.DecodedPixels.{DecodesPixels, rest_of}

-- ---- the definition's rows
pub whole-none : (coding : Coding) (s : Source) → whole_rows coding s 0 ≡ 0
unfolding whole_rows
whole-none coding s = refl

whole-step : (coding : Coding) (s : Source) (y : ℕ) → whole_rows coding s (suc y) ≡ (if whole_rows coding s y == y && is_within s.bytes (after_row coding s (suc y)).registers then suc y else whole_rows coding s y)
unfolding whole_rows
whole-step coding s y = refl

goes-on : (above y : ℕ) (within : Bool) → above ≡ y → within ≡ true → (if above == y && within then suc y else above) ≡ suc y
goes-on above y within same is = rw (same, is, eq-eqb y y refl) refl

pub whole-next : (coding : Coding) (s : Source) (y : ℕ) → whole_rows coding s y ≡ y → is_within s.bytes (after_row coding s (suc y)).registers ≡ true → whole_rows coding s (y + 1) ≡ y + 1
whole-next coding s y above within =
    rw add-one (whole-step coding s y ∙ goes-on (whole_rows coding s y) y _ above within)

ends-here : (above y : ℕ) (within : Bool) → above ≡ y → within ≡ false → (if above == y && within then suc y else above) ≡ y
ends-here above y within same is = rw (is, and_right (eqb above y) false refl) same

ended : (above y k : ℕ) (within : Bool) → above ≡ y → (if above == suc (y + k) && within then suc (suc (y + k)) else above) ≡ y
ended above y k within same = rw (same, ne_eqb y (suc (y + k)) (λ e. omega (arith, e))) refl

-- a row that isn't whole ends them
pub whole-stops : (coding : Coding) (s : Source) (y k : ℕ) → whole_rows coding s y ≡ y → is_within s.bytes (after_row coding s (suc y)).registers ≡ false → whole_rows coding s (suc (y + k)) ≡ y
whole-stops coding s y zero above beyond =
    let same : suc (y + 0) ≡ suc y = omega arith in
    ap (λ (n : ℕ). whole_rows coding s n) same ∙ whole-step coding s y ∙ ends-here (whole_rows coding s y) y _ above beyond
whole-stops coding s y (suc k) above beyond =
    let same : suc (y + suc k) ≡ suc (suc (y + k)) = omega arith in
    ap (λ (n : ℕ). whole_rows coding s n) same ∙ whole-step coding s (suc (y + k)) ∙ ended (whole_rows coding s (suc (y + k))) y k _ (whole-stops coding s y k above beyond)

pub whole-here : (coding : Coding) (s : Source) (y h : ℕ) → whole_rows coding s y ≡ y → is_within s.bytes (after_row coding s (suc y)).registers ≡ false → suc y ≤ h → y ≡ whole_rows coding s h
whole-here coding s y h above beyond less =
    let same : h ≡ suc (y + (h - suc y)) = omega (arith, less) in
    sym (ap (λ (n : ℕ). whole_rows coding s n) same ∙ whole-stops coding s y (h - suc y) above beyond)

-- ---- the coder after a row
pub within-row : (coding : Coding) (w h : ℕ) (input : List ℕ) (start : Region) (y : ℕ) (g : Grid) (d : Coder) (s : List Context) (b : Bool) → length start.pixels ≡ 0 → 1 ≤ w → HasDecoded w h input (after_rows coding w h input (y + 1) start) (region_state g d s) → b ≡ is_within d.bytes d.registers → is_within input (first_pixels coding w h input start (suc y * w)).registers ≡ b
within-row coding w h input start y g d s b none some has_decoded is =
    let v : w ≡ suc (w - 1) = omega (arith, some) in
    let next : suc y ≡ y + 1 = omega arith in
    ap (λ (r : Region). is_within input r.registers) (first-rows coding w h input start (suc y) (w - 1) none v)
    ∙ ap (λ (n : ℕ). is_within input (after_rows coding w h input n start).registers) next
    ∙ ap (λ (r : Registers). is_within input r) (sym has_decoded.registers)
    ∙ ap (λ (bytes : List ℕ). is_within bytes d.registers) (sym has_decoded.bytes)
    ∙ sym is

-- ---- steps
decided-most : (coding : Coding) (w h : ℕ) (input : List ℕ) (y : ℕ) (start : Region) (before after : ℕ) → length start.pixels ≡ 0 → Decided coding w h input y start before after → after ≤ before + y * (w + 1)
decided-most coding w h input y start before after none counted =
    let most : decided_rows coding w h input y start ≤ y * w = omega (arith, decided-places coding w h input start y none, how_many-most (λ n. takes_decision coding w h (at_pixel coding w h input start n)) (y * w)) in
    let opening : y * row_decisions coding.row_context ≤ y * 1 = mul-le-mul_left y (row-decides coding.row_context) in
    omega (arith, counted.total, most, opening)

at-most : (n h each : ℕ) → n ≤ h → n * each ≤ h * each
at-most n h each few =
    let more : each * n ≤ each * h = mul-le-mul_left each few in
    omega (arith, more)

-- what the code holds after y rows, with this many loads a pixel
pub record HasRows (coding : Coding) (each : ℕ) (g0 : Grid) (d0 : Coder) (s0 : List Context) (c0 : Counts) (y : ℕ) (p : Bool) (g : Grid) (d : Coder) (s : List Context) (c : Counts) : Type 0 where
  pub rows : RowsDecoded coding g0 d0 s0 c0 y p g d s c
  pub words : c.words ≤ c0.words + y * g0.width
  pub loads : c.loads ≤ c0.loads + y * (g0.width * each)

pub has-none : (coding : Coding) (each : ℕ) (g : Grid) (d : Coder) (s : List Context) (c : Counts) → g ≡ blank g.width g.height false → HasRows coding each g d s c 0 false g d s c
has-none coding each g d s c white = record {
  rows = rows-none coding g d s c white;
  words = omega arith;
  loads = omega arith;
}

-- a row more: it starts at d1, s1 and c1
pub rows-more : {coding : Coding} {g0 : Grid} {d0 : Coder} {s0 : List Context} {c0 : Counts} {y : ℕ} {p : Bool} (each : ℕ) (k : Option ℕ) (q : Bool) {g : Grid} {d : Coder} {s : List Context} {c : Counts} (d1 : Coder) (s1 : List Context) (c1 : Counts) (g' : Grid) (d' : Coder) (s' : List Context) (c' : Counts)
    → HasRows coding each g0 d0 s0 c0 y p g d s c
    → k ≡ coding.row_context
    → ((w h : ℕ) (grid : Grid) (r : Region) → r.predicted ≡ p → HasDecoded w h d.bytes r (region_state grid d s) → BeginsRow w h k r q d (region_state grid d1 s1))
    → d1.bytes ≡ d.bytes → c1 ≡ record c { decisions = c.decisions + row_decisions k }
    → DecodesPixels coding q 0 y g.width (counted_region g d1 s1 c1) (counted_region g' d' s' c')
    → c'.words ≡ c1.words + g.width → c'.loads ≤ c1.loads + g.width * each
    → HasRows coding each g0 d0 s0 c0 (y + 1) q g' d' s' c'
rows-more {coding = coding} {g0 = g0} {d0 = d0} {s0 = s0} {c0 = c0} {y = y} {p = p} each k q {g = g} {d = d} {s = s} {c = c} d1 s1 c1 g' d' s' c' has context begin same opening row written loaded =
    let begins : (w h : ℕ) (grid : Grid) (r : Region) → r.predicted ≡ p → HasDecoded w h d.bytes r (region_state grid d s) → BeginsRow w h coding.row_context r q d (region_state grid d1 s1) =
    subst (λ (o : Option ℕ). (w h : ℕ) (grid : Grid) (r : Region) → r.predicted ≡ p → HasDecoded w h d.bytes r (region_state grid d s) → BeginsRow w h o r q d (region_state grid d1 s1)) context begin in
    let more : c1.decisions ≡ c.decisions + row_decisions coding.row_context =
    ap (λ (n : Counts). n.decisions) opening ∙ ap (λ (o : Option ℕ). c.decisions + row_decisions o) context in
    let same_words : c1.words ≡ c.words = ap (λ (n : Counts). n.words) opening in
    let same_loads : c1.loads ≡ c.loads = ap (λ (n : Counts). n.loads) opening in
    let read : c'.loads ≤ c.loads + g0.width * each =
    subst (λ (n : ℕ). c'.loads ≤ n + g0.width * each) same_loads (subst (λ (n : ℕ). c'.loads ≤ c1.loads + n * each) has.rows.width loaded) in
    record {
      rows = rows-next q d1 s1 c1 g' d' s' c' has.rows begins same more (ap (λ (n : Counts). rest_of n) opening) row;
      words = tests-next c0.words c.words c'.words g0.width y has.words (omega (arith, written, same_words, has.rows.width));
      loads = tests-next c0.loads c.loads c'.loads (g0.width * each) y has.loads read;
    }

pub rows-counted : (coding : Coding) (each : ℕ) (g0 : Grid) (d0 : Coder) (s0 : List Context) (c0 : Counts) (y : ℕ) (p : Bool) (g : Grid) (d : Coder) (s : List Context) (c : Counts) → y ≤ g0.height → HasRows coding each g0 d0 s0 c0 y p g d s c
    → CountsWholeRows (g0.width * each) (source g0.width g0.height d0.bytes (no_pixels d0.registers s0)) c0 c
rows-counted coding each g0 d0 s0 c0 y p g d s c few has =
    let decided = decided-most coding g0.width g0.height d0.bytes y (no_pixels d0.registers s0) c0.decisions c.decisions refl has.rows.decisions in
    let rest = has.rows.rest in
    record {
      decisions = omega (arith, decided, at-most y g0.height (g0.width + 1) few);
      run_tests = ap (λ (t : ℕ × ℕ × ℕ × ℕ). t.0) rest;
      words = omega (arith, has.words, at-most y g0.height g0.width few);
      loads = omega (arith, has.loads, at-most y g0.height (g0.width * each) few);
      lanes = record { groups = ap (λ (t : ℕ × ℕ × ℕ × ℕ). t.1) rest; pixels = ap (λ (t : ℕ × ℕ × ℕ × ℕ). t.2) rest; cleared = ap (λ (t : ℕ × ℕ × ℕ × ℕ). t.3) rest };
    }
