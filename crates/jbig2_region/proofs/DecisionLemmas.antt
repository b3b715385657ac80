-- Regions row by row, with their decisions.
use Rattle.std.proofs.Common.{subst, ap, ◌≡◌, ℕ, ◌+◌, ◌*◌, ◌≤◌, Bool, add-one, List, length, refl, ◌∙◌, arith}
use Rattle.jbig2_base.specs.Counts.{Counts}
use Rattle.jbig2_base.specs.Grid.{Grid}
use Rattle.jbig2_steps.proofs.LaneCounts.{lanes-none}
use Rattle.jbig2_coder.specs.Coder.{Coder, Context}
use Rattle.jbig2_region.specs.Steps.{CountsDecided}
use Rattle.jbig2_region.specs.inner.RowCounts.{decided_pixels, decided_rows}
use Rattle.jbig2_region.specs.inner.DecodedPixels.{DecodesPart, CountsPart, rest_of}
use Rattle.jbig2_region.specs.inner.RegionStates.{HasDecoded, BeginsRow, region_state}
use Rattle.jbig2_region.specs.Raster.{Coding, Region, after_ltp, row_decisions, source}
use Rattle.jbig2_region.specs.inner.Rows.{after_rows}
use Rattle.jbig2_region.proofs.PlaceCounts.{decisions-by-rows}
use Rattle.jbig2_region.proofs.RasterLemmas.{region-step, no-rows}
use Rattle.jbig2_region.proofs.RegionLemmas.{begin-region}

plus : (n : ℕ) → n ≡ n + 0
plus n = omega arith

-- ---- a row more
pub codes-row : (coding : Coding) (y : ℕ) (p q : Bool) (g1 : Grid) (c1 : Coder) (s1 : List Context) (c2 : Coder) (s2 : List Context) (g3 : Grid) (c3 : Coder) (s3 : List Context) (start : Region) (w h : ℕ) (input : List ℕ)
    → c1.bytes ≡ input → c2.bytes ≡ c1.bytes → length start.pixels ≡ 0
    → ((w h : ℕ) (g : Grid) (r : Region) → r.predicted ≡ p → HasDecoded w h c1.bytes r (region_state g c1 s1) → BeginsRow w h coding.row_context r q c1 (region_state g c2 s2))
    → DecodesPart coding q 0 y w (region_state g1 c2 s2) (region_state g3 c3 s3)
    → HasDecoded w h input (after_rows coding w h input y start) (region_state g1 c1 s1) → (after_rows coding w h input y start).predicted ≡ p
    → HasDecoded w h input (after_rows coding w h input (y + 1) start) (region_state g3 c3 s3) × ((after_rows coding w h input (y + 1) start).predicted ≡ q)
codes-row coding y p q g1 c1 s1 c2 s2 g3 c3 s3 start w h input same after none begin codes has_decoded predicted =
    region-step coding y p q g1 c1 s1 c2 s2 g3 c3 s3 start w h input w h refl refl same after none begin
    (λ r len is held. codes w h c2.bytes r (len ∙ plus (y * w)) is held)
    has_decoded predicted

-- what the code holds after y rows
pub record Decided (coding : Coding) (w h : ℕ) (input : List ℕ) (y : ℕ) (start : Region) (before after : ℕ) : Type 0 where
  pub total : after ≡ before + (y * row_decisions coding.row_context + decided_rows coding w h input y start)

pub decided-none : (coding : Coding) (w h : ℕ) (input : List ℕ) (start : Region) (count : ℕ) → Decided coding w h input 0 start count count
unfolding decided_rows
decided-none coding w h input start count = record { total = omega arith }

decided-row : (coding : Coding) (w h : ℕ) (input : List ℕ) (y : ℕ) (start : Region) → decided_rows coding w h input (y + 1) start ≡ decided_rows coding w h input y start + decided_pixels coding w h input w (after_ltp coding.row_context input (after_rows coding w h input y start))
unfolding decided_rows
decided-row coding w h input y start = rw add-one refl

pub decided-next : (coding : Coding) (y : ℕ) (p q : Bool) (g1 : Grid) (c1 : Coder) (s1 : List Context) (c2 : Coder) (s2 : List Context) (start : Region) (w h : ℕ) (input : List ℕ) (d0 d1 d2 d3 : ℕ)
    → c1.bytes ≡ input → length start.pixels ≡ 0 → ((w h : ℕ) (g : Grid) (r : Region) → r.predicted ≡ p → HasDecoded w h c1.bytes r (region_state g c1 s1) → BeginsRow w h coding.row_context r q c1 (region_state g c2 s2))
    → HasDecoded w h input (after_rows coding w h input y start) (region_state g1 c1 s1) → (after_rows coding w h input y start).predicted ≡ p
    → Decided coding w h input y start d0 d1 → d2 ≡ d1 + row_decisions coding.row_context → CountsPart coding q 0 y w (region_state g1 c2 s2) d2 d3
    → Decided coding w h input (y + 1) start d0 d3
decided-next coding y p q g1 c1 s1 c2 s2 start w h input d0 d1 d2 d3 same none begin has_decoded predicted before more row =
    let at = begin-region coding y p q g1 c1 s1 c2 s2 start w h input same none begin has_decoded predicted in
    let opening : Region = after_ltp coding.row_context input (after_rows coding w h input y start) in
    record {
      total = rw (decided-row coding w h input y start) (sum d0 d1 d2 d3 (row_decisions coding.row_context) (decided_rows coding w h input y start) (decided_pixels coding w h input w opening) y before.total more (row w h input opening (at.size ∙ plus (y * w)) at.predicted at.has_decoded));
    }
  where
    sum : (d0 d1 d2 d3 rd rows row y : ℕ) → d1 ≡ d0 + (y * rd + rows) → d2 ≡ d1 + rd → d3 ≡ d2 + row → d3 ≡ d0 + ((y + 1) * rd + (rows + row))
    sum d0 d1 d2 d3 rd rows row y one two three = omega arith

-- ---- whole regions
pub decided-empty : (coding : Coding) (loads w h : ℕ) (input : List ℕ) (start : Region) (steps : Counts) → w ≡ 0 → CountsDecided coding loads (source w h input start) steps steps
decided-empty coding loads w h input start steps none = record {
  empty = λ _. refl;
  decisions = λ some. absurd (omega arith);
  run_tests = refl;
  words = omega arith;
  loads = omega arith;
  lanes = lanes-none steps;
}

pub decided-region : (coding : Coding) (loads w h y : ℕ) (input : List ℕ) (start : Region) (before after : Counts) → length start.pixels ≡ 0 → (w ≡ 0 → ⊥) → y ≡ h → (y ≡ 0 → after ≡ before)
    → Decided coding w h input y start before.decisions after.decisions → rest_of after ≡ rest_of before → after.words ≤ before.words + y * w → after.loads ≤ before.loads + y * loads
    → CountsDecided coding loads (source w h input start) before after
decided-region coding loads w h y input start before after empty some all none counted untouched words loaded = record {
  empty = λ product. none (no-rows w h y some all product);
  decisions = λ _.
      rw (decisions-by-rows coding w h input start empty)
      (subst (λ (n : ℕ). after.decisions ≡ before.decisions + (n * row_decisions coding.row_context + decided_rows coding w h input n start)) all counted.total);
  run_tests = ap (λ (t : ℕ × ℕ × ℕ × ℕ). t.0) untouched;
  words = subst (λ (n : ℕ). after.words ≤ before.words + n * w) all words;
  loads = subst (λ (n : ℕ). after.loads ≤ before.loads + n * loads) all loaded;
  lanes = record { groups = ap (λ (t : ℕ × ℕ × ℕ × ℕ). t.1) untouched; pixels = ap (λ (t : ℕ × ℕ × ℕ × ℕ). t.2) untouched; cleared = ap (λ (t : ℕ × ℕ × ℕ × ℕ). t.3) untouched };
}
