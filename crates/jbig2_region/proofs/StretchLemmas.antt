-- Stretches of a row one after the other, and rows one below the other.
use Rattle.std.proofs.Common.{◌≡◌, ℕ, ◌+◌, Bool, false, List, refl, ap, sym, subst, ◌∙◌}
use Rattle.jbig2_base.specs.Counts.{Counts}
use Rattle.jbig2_base.specs.Grid.{Grid, blank}
use Rattle.jbig2_coder.specs.Coder.{Coder, Context}
use Rattle.jbig2_region.specs.Raster.{Coding, Region, no_pixels, row_decisions}
use Rattle.jbig2_region.specs.inner.DecodedPixels.{DecodesPart, CountsPart, rest_of, DecodesPixels}
use Rattle.jbig2_region.specs.inner.RegionStates.{HasDecoded, BeginsRow, counted_region, region_state}
use Rattle.jbig2_region.specs.inner.Rows.{after_rows}
use Rattle.jbig2_region.proofs.DecodedPixelLemmas.{codes-none, codes-then, counts-none, counts-then}
use Rattle.jbig2_region.proofs.DecisionLemmas.{Decided, codes-row, decided-none, decided-next}
use Rattle.jbig2_region.proofs.RasterLemmas.{after_rows-none, region-start}

pub pixels-none : (coding : Coding) (p : Bool) (x y n : ℕ) (g : Grid) (d : Coder) (s : List Context) (c : Counts) → 0 ≡ n → DecodesPixels coding p x y n (counted_region g d s c) (counted_region g d s c)
pixels-none coding p x y n g d s c none = record {
  has_decoded = subst (λ (k : ℕ). DecodesPart coding p x y k (region_state g d s) (region_state g d s)) none (codes-none coding p x y g d s);
  width = refl;
  height = refl;
  bytes = refl;
  decisions = subst (λ (k : ℕ). CountsPart coding p x y k (region_state g d s) c.decisions c.decisions) none (counts-none coding p x y g d s c.decisions);
  rest = refl;
}

pub pixels-then : {coding : Coding} {p : Bool} {x x' y n m : ℕ} (k : ℕ) {g0 g1 g2 : Grid} {d0 d1 d2 : Coder} {s0 s1 s2 : List Context} {c0 c1 c2 : Counts}
    → DecodesPixels coding p x y n (counted_region g0 d0 s0 c0) (counted_region g1 d1 s1 c1) → DecodesPixels coding p x' y m (counted_region g1 d1 s1 c1) (counted_region g2 d2 s2 c2) → x' ≡ x + n → k ≡ n + m
    → DecodesPixels coding p x y k (counted_region g0 d0 s0 c0) (counted_region g2 d2 s2 c2)
pixels-then {coding = coding} {p = p} {x = x} {x' = x'} {y = y} {n = n} {m = m} k {g0 = g0} {g1 = g1} {g2 = g2} {d0 = d0} {d1 = d1} {d2 = d2} {s0 = s0} {s1 = s1} {s2 = s2} {c0 = c0} {c1 = c1} {c2 = c2} one two place sum = record {
  has_decoded = codes-then coding p x x' y n m k g0 g1 g2 d0 d1 d2 s0 s1 s2 one.has_decoded two.has_decoded place sum;
  width = two.width ∙ one.width;
  height = two.height ∙ one.height;
  bytes = two.bytes ∙ one.bytes;
  decisions = counts-then coding p x x' y n m k g0 g1 d0 d1 s0 s1 c0.decisions c1.decisions c2.decisions one.has_decoded one.decisions two.decisions place sum;
  rest = two.rest ∙ one.rest;
}

-- other steps before, which are no decisions, no tests and no lanes
pub pixels-since : {coding : Coding} {p : Bool} {x y n : ℕ} {g g' : Grid} {d d' : Coder} {s s' : List Context} (b c c' : Counts)
    → DecodesPixels coding p x y n (counted_region g d s c) (counted_region g' d' s' c') → c.decisions ≡ b.decisions → rest_of c ≡ rest_of b
    → DecodesPixels coding p x y n (counted_region g d s b) (counted_region g' d' s' c')
pixels-since {coding = coding} {p = p} {x = x} {y = y} {n = n} {g = g} {d = d} {s = s} b c c' decoded decided untouched = record {
  has_decoded = decoded.has_decoded;
  width = decoded.width;
  height = decoded.height;
  bytes = decoded.bytes;
  decisions = subst (λ (k : ℕ). CountsPart coding p x y n (region_state g d s) k c'.decisions) decided decoded.decisions;
  rest = decoded.rest ∙ untouched;
}

-- ---- rows
-- what the code holds after y rows of a region
pub record RowsDecoded (coding : Coding) (g0 : Grid) (d0 : Coder) (s0 : List Context) (c0 : Counts) (y : ℕ) (p : Bool) (g : Grid) (d : Coder) (s : List Context) (c : Counts) : Type 0 where
  pub width : g.width ≡ g0.width
  pub height : g.height ≡ g0.height
  pub bytes : d.bytes ≡ d0.bytes
  pub has_decoded : HasDecoded g0.width g0.height d0.bytes (after_rows coding g0.width g0.height d0.bytes y (no_pixels d0.registers s0)) (region_state g d s)
  pub predicted : (after_rows coding g0.width g0.height d0.bytes y (no_pixels d0.registers s0)).predicted ≡ p
  pub decisions : Decided coding g0.width g0.height d0.bytes y (no_pixels d0.registers s0) c0.decisions c.decisions
  pub rest : rest_of c ≡ rest_of c0

pub rows-none : (coding : Coding) (g : Grid) (d : Coder) (s : List Context) (c : Counts) → g ≡ blank g.width g.height false → RowsDecoded coding g d s c 0 false g d s c
rows-none coding g d s c white =
    let start : Region = no_pixels d.registers s in
    let none : after_rows coding g.width g.height d.bytes 0 start ≡ start = after_rows-none coding g.width g.height d.bytes start in
    record {
      width = refl;
      height = refl;
      bytes = refl;
      has_decoded = subst (λ (r : Region). HasDecoded g.width g.height d.bytes r (region_state g d s)) (sym none) (region-start g.width g.height g d s white);
      predicted = ap (λ (r : Region). r.predicted) none;
      decisions = decided-none coding g.width g.height d.bytes start c.decisions;
      rest = refl;
    }

-- a row starts at d1, s1 and c1, and is decoded
pub rows-next : {coding : Coding} {g0 : Grid} {d0 : Coder} {s0 : List Context} {c0 : Counts} {y : ℕ} {p : Bool} (q : Bool) {g : Grid} {d : Coder} {s : List Context} {c : Counts} (d1 : Coder) (s1 : List Context) (c1 : Counts) (g' : Grid) (d' : Coder) (s' : List Context) (c' : Counts)
    → RowsDecoded coding g0 d0 s0 c0 y p g d s c
    → ((w h : ℕ) (grid : Grid) (r : Region) → r.predicted ≡ p → HasDecoded w h d.bytes r (region_state grid d s) → BeginsRow w h coding.row_context r q d (region_state grid d1 s1))
    → d1.bytes ≡ d.bytes → c1.decisions ≡ c.decisions + row_decisions coding.row_context → rest_of c1 ≡ rest_of c
    → DecodesPixels coding q 0 y g.width (counted_region g d1 s1 c1) (counted_region g' d' s' c')
    → RowsDecoded coding g0 d0 s0 c0 (y + 1) q g' d' s' c'
rows-next {coding = coding} {g0 = g0} {d0 = d0} {s0 = s0} {c0 = c0} {y = y} {p = p} q {g = g} {d = d} {s = s} {c = c} d1 s1 c1 g' d' s' c' rows begin same more untouched row =
    let start : Region = no_pixels d0.registers s0 in
    let codes = subst (λ (n : ℕ). DecodesPart coding q 0 y n (region_state g d1 s1) (region_state g' d' s')) rows.width row.has_decoded in
    let counted = subst (λ (n : ℕ). CountsPart coding q 0 y n (region_state g d1 s1) c1.decisions c'.decisions) rows.width row.decisions in
    let next = codes-row coding y p q g d s d1 s1 g' d' s' start g0.width g0.height d0.bytes rows.bytes same refl begin codes rows.has_decoded rows.predicted in
    record {
      width = row.width ∙ rows.width;
      height = row.height ∙ rows.height;
      bytes = row.bytes ∙ same ∙ rows.bytes;
      has_decoded = next.0;
      predicted = next.1;
      decisions = decided-next coding y p q g d s d1 s1 start g0.width g0.height d0.bytes c0.decisions c.decisions c1.decisions c'.decisions rows.bytes refl begin rows.has_decoded rows.predicted rows.decisions more counted;
      rest = row.rest ∙ untouched ∙ rows.rest;
    }

-- other steps after a row, which are no decisions, no tests and no lanes
pub rows-until : {coding : Coding} {g0 : Grid} {d0 : Coder} {s0 : List Context} {c0 : Counts} {y : ℕ} {p : Bool} {g : Grid} {d : Coder} {s : List Context} (c c' : Counts)
    → RowsDecoded coding g0 d0 s0 c0 y p g d s c → c.decisions ≡ c'.decisions → rest_of c' ≡ rest_of c → RowsDecoded coding g0 d0 s0 c0 y p g d s c'
rows-until {coding = coding} {g0 = g0} {d0 = d0} {s0 = s0} {c0 = c0} {y = y} c c' rows decided untouched = record {
  width = rows.width;
  height = rows.height;
  bytes = rows.bytes;
  has_decoded = rows.has_decoded;
  predicted = rows.predicted;
  decisions = subst (λ (k : ℕ). Decided coding g0.width g0.height d0.bytes y (no_pixels d0.registers s0) c0.decisions k) decided rows.decisions;
  rest = untouched ∙ rows.rest;
}
