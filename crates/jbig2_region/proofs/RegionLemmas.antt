-- Regions row by row, with their counts.
use Rattle.std.proofs.Common.{subst, ◌≡◌, ℕ, ◌+◌, ◌*◌, ◌≤◌, Bool, true, false, cond, add-one, List, length, Option, refl, sym, ◌∙◌, arith}
use Rattle.jbig2_base.specs.Counts.{Counts, KeepsLanes}
use Rattle.jbig2_steps.proofs.LaneCounts.{lanes-none}
use Rattle.jbig2_base.specs.Grid.{Grid}
use Rattle.jbig2_coder.specs.Coder.{Coder, Context}
use Rattle.jbig2_region.specs.inner.RegionStates.{HasDecoded, BeginsRow, region_state}
use Rattle.jbig2_region.specs.inner.Neighbours.{DecodesPixels}
use Rattle.jbig2_region.specs.Raster.{Coding, Region, after_ltp, row_decisions, source}
use Rattle.jbig2_region.specs.inner.Rows.{after_rows}
use Rattle.jbig2_region.specs.Steps.{CountsRegion, row_loads, row_tests, row_words}
use Rattle.jbig2_region.specs.inner.RowCounts.{CountsRow, coded_rows, rows_runs, run_bytes}
use Rattle.jbig2_region.specs.declared.template.AdaptiveTemplatePixel.{AdaptiveTemplatePixel}
use Rattle.jbig2_region.proofs.PlaceCounts.{after_pixels-coding, coded-by-rows, coding_with, runs-by-rows}
use Rattle.jbig2_region.proofs.RasterLemmas.{after_rows-length, region-step, no-rows}

-- ---- a row more
pub record AtRowStart (w h : ℕ) (input : List ℕ) (opening : Region) (y : ℕ) (q : Bool) (g : Grid) (c : Coder) (s : List Context) : Type 0 where
  pub size : length opening.pixels ≡ y * w
  pub predicted : opening.predicted ≡ q
  pub has_decoded : HasDecoded w h input opening (region_state g c s)

pub begin-region : (coding : Coding) (y : ℕ) (p q : Bool) (g1 : Grid) (c1 : Coder) (s1 : List Context) (c2 : Coder) (s2 : List Context) (start : Region) (w h : ℕ) (input : List ℕ)
    → c1.bytes ≡ input → length start.pixels ≡ 0 → ((w h : ℕ) (g : Grid) (r : Region) → r.predicted ≡ p → HasDecoded w h c1.bytes r (region_state g c1 s1) → BeginsRow w h coding.row_context r q c1 (region_state g c2 s2))
    → HasDecoded w h input (after_rows coding w h input y start) (region_state g1 c1 s1) → (after_rows coding w h input y start).predicted ≡ p
    → AtRowStart w h input (after_ltp coding.row_context input (after_rows coding w h input y start)) y q g1 c2 s2
begin-region coding y p q g1 c1 s1 c2 s2 start w h input same none begin has_decoded predicted =
    let made : Region = after_rows coding w h input y start in
    let row : BeginsRow w h coding.row_context made q c1 (region_state g1 c2 s2) = begin w h g1 made predicted (subst (λ (v : List ℕ). HasDecoded w h v made (region_state g1 c1 s1)) (sym same) has_decoded) in
    record {
      size = after_rows-length coding w h input y start none;
      predicted = subst (λ (v : List ℕ). (after_ltp coding.row_context v made).predicted ≡ q) same row.predicted;
      has_decoded = subst (λ (v : List ℕ). HasDecoded w h v (after_ltp coding.row_context v made) (region_state g1 c2 s2)) same row.has_decoded;
    }

-- what the code holds after y rows
pub record Counted (template : List AdaptiveTemplatePixel) (nominal : Bool) (coding : Coding) (w h : ℕ) (input : List ℕ) (y : ℕ) (start : Region) (before after : ℕ) : Type 0 where
  pub total : after + 8 * rows_runs template nominal coding w h input y start ≡ before + (y * row_decisions coding.row_context + w * coded_rows coding w h input y start)

pub counted-none : (template : List AdaptiveTemplatePixel) (nominal : Bool) (coding : Coding) (w h : ℕ) (input : List ℕ) (start : Region) (count : ℕ) → Counted template nominal coding w h input 0 start count count
unfolding rows_runs coded_rows
counted-none template nominal coding w h input start count = record { total = omega arith }

-- one coded row more, or none
pub coded-next : (coding : Coding) (w h : ℕ) (input : List ℕ) (y : ℕ) (start : Region) (q : Bool) → (after_ltp coding.row_context input (after_rows coding w h input y start)).predicted ≡ q → coded_rows coding w h input (y + 1) start ≡ coded_rows coding w h input y start + cond q 0 1
unfolding coded_rows
coded-next coding w h input y start q is = rw (add-one, is) refl

runs-next : (template : List AdaptiveTemplatePixel) (nominal : Bool) (coding : Coding) (w h : ℕ) (input : List ℕ) (y : ℕ) (start : Region) (q : Bool) → (after_ltp coding.row_context input (after_rows coding w h input y start)).predicted ≡ q
    → rows_runs template nominal coding w h input (y + 1) start ≡ rows_runs template nominal coding w h input y start + cond q 0 (cond nominal (run_bytes template w h input w (after_ltp coding.row_context input (after_rows coding w h input y start))) 0)
unfolding rows_runs
runs-next template nominal coding w h input y start q is = rw (add-one, is) refl

more-total : (q : Bool) (d0 d1 d2 d3 rd runs coded w row y : ℕ) → d1 + 8 * runs ≡ d0 + (y * rd + w * coded) → d2 ≡ d1 + rd → d3 + 8 * cond q 0 row ≡ d2 + cond q 0 w → d3 + 8 * (runs + cond q 0 row) ≡ d0 + ((y + 1) * rd + w * (coded + cond q 0 1))
more-total true d0 d1 d2 d3 rd runs coded w row y one two three = omega arith
more-total false d0 d1 d2 d3 rd runs coded w row y one two three = omega arith

pub counted-next : (template : List AdaptiveTemplatePixel) (nominal : Bool) (coding : Coding) (y : ℕ) (p q : Bool) (g1 : Grid) (c1 : Coder) (s1 : List Context) (c2 : Coder) (s2 : List Context) (start : Region) (w h : ℕ) (input : List ℕ) (d0 d1 d2 d3 : ℕ)
    → c1.bytes ≡ input → length start.pixels ≡ 0 → ((w h : ℕ) (g : Grid) (r : Region) → r.predicted ≡ p → HasDecoded w h c1.bytes r (region_state g c1 s1) → BeginsRow w h coding.row_context r q c1 (region_state g c2 s2))
    → HasDecoded w h input (after_rows coding w h input y start) (region_state g1 c1 s1) → (after_rows coding w h input y start).predicted ≡ p
    → Counted template nominal coding w h input y start d0 d1 → d2 ≡ d1 + row_decisions coding.row_context → CountsRow template nominal q y (region_state g1 c2 s2) d2 d3
    → Counted template nominal coding w h input (y + 1) start d0 d3
counted-next template nominal coding y p q g1 c1 s1 c2 s2 start w h input d0 d1 d2 d3 same none begin has_decoded predicted counted more row =
    let opening : Region = after_ltp coding.row_context input (after_rows coding w h input y start) in
    let at = begin-region coding y p q g1 c1 s1 c2 s2 start w h input same none begin has_decoded predicted in
    record {
      total =
          rw (coded-next coding w h input y start q at.predicted, runs-next template nominal coding w h input y start q at.predicted)
          (more-total q d0 d1 d2 d3 (row_decisions coding.row_context) (rows_runs template nominal coding w h input y start) (coded_rows coding w h input y start) w (cond nominal (run_bytes template w h input w opening) 0) y counted.total more (row w h input opening at.size at.predicted at.has_decoded));
    }

pub predicted-next : (coding : Coding) (y : ℕ) (p q : Bool) (g1 : Grid) (c1 : Coder) (s1 : List Context) (c2 : Coder) (s2 : List Context) (start : Region) (w h : ℕ) (input : List ℕ)
    → c1.bytes ≡ input → length start.pixels ≡ 0 → ((w h : ℕ) (g : Grid) (r : Region) → r.predicted ≡ p → HasDecoded w h c1.bytes r (region_state g c1 s1) → BeginsRow w h coding.row_context r q c1 (region_state g c2 s2))
    → HasDecoded w h input (after_rows coding w h input y start) (region_state g1 c1 s1) → (after_rows coding w h input y start).predicted ≡ p
    → coded_rows coding w h input (y + 1) start ≡ coded_rows coding w h input y start + cond q 0 1
predicted-next coding y p q g1 c1 s1 c2 s2 start w h input same none begin has_decoded predicted =
    coded-next coding w h input y start q (begin-region coding y p q g1 c1 s1 c2 s2 start w h input same none begin has_decoded predicted).predicted

-- loads of a row more
pub loads-next : (q : Bool) (l0 l1 l2 row w coded a y : ℕ) → l1 ≤ l0 + (y * row + w * coded * a) → l2 ≤ l1 + (row + w * cond q 0 a) → l2 ≤ l0 + ((y + 1) * row + w * (coded + cond q 0 1) * a)
loads-next true l0 l1 l2 row w coded a y one two = omega arith
loads-next false l0 l1 l2 row w coded a y one two = omega arith

pub layout-step : (template : List AdaptiveTemplatePixel) (row_context : Option ℕ) (y : ℕ) (p q : Bool) (g1 : Grid) (c1 : Coder) (s1 : List Context) (c2 : Coder) (s2 : List Context) (g3 : Grid) (c3 : Coder) (s3 : List Context) (start : Region) (w h : ℕ) (input : List ℕ)
    → c1.bytes ≡ input → c2.bytes ≡ c1.bytes → length start.pixels ≡ 0
    → ((w h : ℕ) (g : Grid) (r : Region) → r.predicted ≡ p → HasDecoded w h c1.bytes r (region_state g c1 s1) → BeginsRow w h row_context r q c1 (region_state g c2 s2))
    → DecodesPixels template q 0 y w (region_state g1 c2 s2) (region_state g3 c3 s3)
    → HasDecoded w h input (after_rows (coding_with template row_context) w h input y start) (region_state g1 c1 s1) → (after_rows (coding_with template row_context) w h input y start).predicted ≡ p
    → HasDecoded w h input (after_rows (coding_with template row_context) w h input (y + 1) start) (region_state g3 c3 s3) × ((after_rows (coding_with template row_context) w h input (y + 1) start).predicted ≡ q)
layout-step template row_context y p q g1 c1 s1 c2 s2 g3 c3 s3 start w h input same after none begin decodes has_decoded predicted =
    region-step (coding_with template row_context) y p q g1 c1 s1 c2 s2 g3 c3 s3 start w h input w h refl refl same after none begin
    (λ r len is held. subst (λ (n : Region). HasDecoded w h c2.bytes n (region_state g3 c3 s3)) (sym (after_pixels-coding template row_context w h c2.bytes w r)) (decodes w h c2.bytes r (len ∙ plus (y * w)) is held))
    has_decoded predicted
  where
    plus : (n : ℕ) → n ≡ n + 0
    plus n = omega arith

pub tests-next : (t0 t1 t2 row y : ℕ) → t1 ≤ t0 + y * row → t2 ≤ t1 + row → t2 ≤ t0 + (y + 1) * row
tests-next t0 t1 t2 row y one two = omega arith

-- ---- whole regions
pub empty-counts : (template : List AdaptiveTemplatePixel) (nominal : Bool) (adaptive : ℕ) (coding : Coding) (w h : ℕ) (input : List ℕ) (start : Region) (steps : Counts) → w ≡ 0 → CountsRegion template nominal adaptive coding (source w h input start) steps steps
empty-counts template nominal adaptive coding w h input start steps none = record {
  empty = λ _. refl;
  decisions = λ some. absurd (omega arith);
  run_tests = omega arith;
  words = omega arith;
  loads = omega arith;
  lanes = lanes-none steps;
}

pub region-counts : (template : List AdaptiveTemplatePixel) (row_context : Option ℕ) (nominal : Bool) (adaptive : ℕ) (w h y : ℕ) (input : List ℕ) (start : Region) (before after : Counts) → length start.pixels ≡ 0 → (w ≡ 0 → ⊥) → y ≡ h → (y ≡ 0 → after ≡ before)
    → Counted template nominal (coding_with template row_context) w h input y start before.decisions after.decisions → after.run_tests ≤ before.run_tests + y * row_tests nominal w → after.words ≤ before.words + y * row_words nominal w → after.loads ≤ before.loads + (y * row_loads nominal w + w * coded_rows (coding_with template row_context) w h input y start * adaptive) → KeepsLanes before after
    → CountsRegion template nominal adaptive (coding_with template row_context) (source w h input start) before after
region-counts template row_context nominal adaptive w h y input start before after empty some all none counted tests words loads lanes =
    let coding : Coding = coding_with template row_context in
    let runs = runs-by-rows template nominal row_context w h input start empty in
    let coded = coded-by-rows coding w h input start empty in
    record {
      empty = λ product. none (no-rows w h y some all product);
      decisions = λ _.
          rw (runs, coded)
          (subst (λ (n : ℕ). after.decisions + 8 * rows_runs template nominal coding w h input n start ≡ before.decisions + (n * row_decisions coding.row_context + w * coded_rows coding w h input n start)) all counted.total);
      words = subst (λ (n : ℕ). after.words ≤ before.words + n * row_words nominal w) all words;
      run_tests = subst (λ (n : ℕ). after.run_tests ≤ before.run_tests + n * row_tests nominal w) all tests;
      loads =
          rw coded
          (subst (λ (n : ℕ). after.loads ≤ before.loads + (n * row_loads nominal w + w * coded_rows coding w h input n start * adaptive)) all loads);
      lanes = lanes;
    }
