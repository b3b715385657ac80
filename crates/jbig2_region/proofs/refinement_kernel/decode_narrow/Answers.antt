use Rattle.std.proofs.Common.{◌*◌, arith, refl, ◌≡◌, ◌≤◌, ◌+◌, ◌∙◌, ℕ, Option, sym, ap, subst}
use Rattle.std.proofs.Math.Nat.{mul-le-mul}
use Rattle.jbig2_base.specs.Counts.{Counts}
use Rattle.jbig2_base.specs.Grid.{Grid, pixel_at}
use Rattle.jbig2_region.specs.inner.RegionStates.{HasDecoded, BeginsRow, counted_region, region_state}
use Rattle.jbig2_region.specs.inner.RefinementWindows.{windowed_coding}
use Rattle.jbig2_region.specs.Raster.{Region, no_pixels, row_decisions}
use Rattle.jbig2_region.specs.Steps.{window_loads}
use Rattle.jbig2_region.proofs.DecisionLemmas.{Decided, decided-region}
use Rattle.jbig2_region.proofs.PlaceLemmas.{region-whole}
use Rattle.jbig2_region.proofs.RegionLemmas.{tests-next}
use Rattle.jbig2_region.proofs.StoreLemmas.{left-none}
use Rattle.jbig2_region.proofs.StretchLemmas.{rows-next, rows-none, rows-until}
use Rattle.jbig2_region.specs.inner.DecodedPixels.{DecodesPixels, rest_of}
use Rattle.jbig2_region.proofs.refinement_kernel.decode_narrow.Goals as goal

pub loop-y-init : goal.loop-y-init
loop-y-init g c = record {
  rows = rows-none (windowed_coding c.args.coding.now) c.args.bitmap.now c.args.decoder.now c.args.contexts.now c.windows_at-windows.new.steps c.requires.ready.white;
  words = omega arith;
  loads = omega arith;
  sees = c.windows_at-windows.ensures.value;
}

pub decode_block-pixels-requires-clause-left : goal.decode_block-pixels-requires-clause-left
decode_block-pixels-requires-clause-left g c = left-none c.loop-y.bitmap c.loop-y.y

pub loop-y-preserved : goal.loop-y-preserved
loop-y-preserved g c =
    let coding = windowed_coding c.args.coding.now in
    let w : ℕ = c.args.bitmap.now.width in
    let whole : c.width-width.result ≡ w = c.width-width.ensures.value in
    let begin =
    subst (λ (k : Option ℕ). (w h : ℕ) (grid : Grid) (r : Region) → r.predicted ≡ c.loop-y.predicted → HasDecoded w h c.loop-y.decoder.bytes r (region_state grid c.loop-y.decoder c.loop-y.contexts) → BeginsRow w h k r c.begin_row-predicted.result c.loop-y.decoder (region_state grid c.begin_row-predicted.new.decoder c.begin_row-predicted.new.contexts)) c.typical_context-row_context.ensures.value c.begin_row-predicted.ensures.row in
    let decoded = subst (λ (n : ℕ). DecodesPixels coding c.begin_row-predicted.result 0 c.loop-y.y n (counted_region c.loop-y.bitmap c.begin_row-predicted.new.decoder c.begin_row-predicted.new.contexts c.begin_row-predicted.new.steps) (counted_region c.decode_block-pixels.new.bitmap c.decode_block-pixels.new.decoder c.decode_block-pixels.new.contexts c.decode_block-pixels.new.steps)) (whole ∙ sym c.loop-y.invariant.rows.width) c.decode_block-pixels.ensures.decoded in
    let lowered = c.on_next_row-windows.ensures.steps in
    let decided : c.decode_block-pixels.new.steps.decisions ≡ c.on_next_row-windows.new.steps.decisions = sym (ap (λ (t : Counts). t.decisions) lowered) in
    let untouched : rest_of c.on_next_row-windows.new.steps ≡ rest_of c.decode_block-pixels.new.steps = ap (λ (t : Counts). rest_of t) lowered in
    let words : c.on_next_row-windows.new.steps.words ≡ c.decode_block-pixels.new.steps.words = ap (λ (t : Counts). t.words) lowered in
    let loads : c.on_next_row-windows.new.steps.loads ≡ c.decode_block-pixels.new.steps.loads + 1 = ap (λ (t : Counts). t.loads) lowered in
    let opening = c.begin_row-predicted.ensures.steps in
    let more : c.begin_row-predicted.new.steps.decisions ≡ c.loop-y.steps.decisions + row_decisions coding.row_context =
    ap (λ (s : Counts). s.decisions) opening ∙ ap (λ (k : Option ℕ). c.loop-y.steps.decisions + row_decisions k) c.typical_context-row_context.ensures.value in
    let same_words : c.begin_row-predicted.new.steps.words ≡ c.loop-y.steps.words = ap (λ (s : Counts). s.words) opening in
    let same_loads : c.begin_row-predicted.new.steps.loads ≡ c.loop-y.steps.loads = ap (λ (s : Counts). s.loads) opening in
    let written : c.on_next_row-windows.new.steps.words ≤ c.loop-y.steps.words + w = omega (arith, words, same_words, c.decode_block-pixels.ensures.words, c.requires.some) in
    let wide : c.decode_block-pixels.new.bitmap.width ≡ w = decoded.width ∙ c.loop-y.invariant.rows.width in
    record {
      rows =
          rows-until c.decode_block-pixels.new.steps c.on_next_row-windows.new.steps
          (rows-next c.begin_row-predicted.result c.begin_row-predicted.new.decoder c.begin_row-predicted.new.contexts c.begin_row-predicted.new.steps c.decode_block-pixels.new.bitmap c.decode_block-pixels.new.decoder c.decode_block-pixels.new.contexts c.decode_block-pixels.new.steps c.loop-y.invariant.rows begin c.begin_row-predicted.ensures.bytes more (ap (λ (s : Counts). rest_of s) opening) decoded)
          decided untouched;
      words = tests-next c.windows_at-windows.new.steps.words c.loop-y.steps.words c.on_next_row-windows.new.steps.words w c.loop-y.y c.loop-y.invariant.words written;
      loads = omega (arith, loads, same_loads, c.decode_block-pixels.ensures.loads, c.loop-y.invariant.loads);
      sees =
          c.on_next_row-windows.ensures.value c.loop-y.bitmap c.decode_block-pixels.new.bitmap c.loop-y.y refl c.loop-y.invariant.sees (wide ∙ sym whole) (λ k few.
          let place : 0 + k ≡ k = omega arith in
          c.decode_block-pixels.ensures.value k few ∙ ap (λ (n : ℕ). pixel_at c.decode_block-pixels.new.bitmap n c.loop-y.y) place);
    }

pub returns-clause-region : goal.returns-clause-region
returns-clause-region g c =
    region-whole (windowed_coding c.args.coding.now) c.args.bitmap.now.width c.args.bitmap.now.height c.loop-y.y c.args.decoder.now.bytes (no_pixels c.args.decoder.now.registers c.args.contexts.now) c.loop-y.bitmap c.loop-y.decoder c.loop-y.contexts
    refl (λ none. absurd (omega (arith, c.requires.some))) (omega arith) c.loop-y.invariant.rows.has_decoded

pub returns-clause-steps : goal.returns-clause-steps
returns-clause-steps g c =
    let w : ℕ = c.args.bitmap.now.width in
    let h : ℕ = c.args.bitmap.now.height in
    let start : Region = no_pixels c.args.decoder.now.registers c.args.contexts.now in
    let coding = windowed_coding c.args.coding.now in
    let loaded = c.windows_at-windows.ensures.steps in
    let decided : c.windows_at-windows.new.steps.decisions ≡ c.args.steps.now.decisions = ap (λ (t : Counts). t.decisions) loaded in
    let untouched : rest_of c.windows_at-windows.new.steps ≡ rest_of c.args.steps.now = ap (λ (t : Counts). rest_of t) loaded in
    let same : c.windows_at-windows.new.steps.words ≡ c.args.steps.now.words = ap (λ (t : Counts). t.words) loaded in
    let more : c.windows_at-windows.new.steps.loads ≡ c.args.steps.now.loads + 4 = ap (λ (t : Counts). t.loads) loaded in
    let all : c.loop-y.y ≡ h = omega arith in
    let ten : 10 ≤ window_loads w = omega arith in
    let still : c.loop-y.y ≤ c.loop-y.y = omega arith in
    let enough : c.loop-y.y * 10 ≤ c.loop-y.y * window_loads w = mul-le-mul still ten in
    decided-region coding (window_loads w) w h c.loop-y.y c.args.decoder.now.bytes start c.args.steps.now c.loop-y.steps
    refl (λ none. absurd (omega (arith, c.requires.some))) all (λ none. absurd (omega (arith, c.requires.rows)))
    (subst (λ (n : ℕ). Decided coding w h c.args.decoder.now.bytes c.loop-y.y start n c.loop-y.steps.decisions) decided c.loop-y.invariant.rows.decisions)
    (c.loop-y.invariant.rows.rest ∙ untouched) (subst (λ (n : ℕ). c.loop-y.steps.words ≤ n + c.loop-y.y * w) same c.loop-y.invariant.words) (omega (arith, enough, more, c.loop-y.invariant.loads, c.requires.rows))
