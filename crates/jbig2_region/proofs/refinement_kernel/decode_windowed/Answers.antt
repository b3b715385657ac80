use Rattle.std.proofs.Common.{arith, refl, ◌≡◌, ◌≤◌, ◌+◌, ◌∙◌, ℕ, Option, sym, ap, subst}
use Rattle.jbig2_base.specs.Counts.{Counts}
use Rattle.jbig2_base.specs.Grid.{Grid}
use Rattle.jbig2_region.specs.inner.RegionStates.{HasDecoded, BeginsRow, region_state}
use Rattle.jbig2_region.specs.inner.RefinementWindows.{windowed_coding}
use Rattle.jbig2_region.specs.Raster.{Region, no_pixels, row_decisions}
use Rattle.jbig2_region.specs.Steps.{window_loads}
use Rattle.jbig2_region.proofs.DecisionLemmas.{decided-empty, decided-region}
use Rattle.jbig2_region.proofs.PlaceLemmas.{region-empty, region-whole}
use Rattle.jbig2_region.proofs.RegionLemmas.{tests-next}
use Rattle.jbig2_region.proofs.StretchLemmas.{rows-none, rows-next}
use Rattle.jbig2_region.specs.inner.DecodedPixels.{rest_of}
use Rattle.jbig2_region.proofs.refinement_kernel.decode_windowed.Goals as goal

pub returns-then-width-eq0-clause-region : goal.returns-then-width-eq0-clause-region
returns-then-width-eq0-clause-region g c = region-empty (windowed_coding c.args.coding.now) c.args.bitmap.now.width c.args.bitmap.now.height c.args.bitmap.now c.args.decoder.now c.args.contexts.now (sym c.width.ensures.value ∙ c.if-width-eq0.true) c.requires.white

pub returns-then-width-eq0-clause-steps : goal.returns-then-width-eq0-clause-steps
returns-then-width-eq0-clause-steps g c = decided-empty (windowed_coding c.args.coding.now) (window_loads c.args.bitmap.now.width) c.args.bitmap.now.width c.args.bitmap.now.height c.args.decoder.now.bytes (no_pixels c.args.decoder.now.registers c.args.contexts.now) c.args.steps.now (sym c.width.ensures.value ∙ c.if-width-eq0.true)

pub loop-y-init : goal.loop-y-init
loop-y-init g c = record {
  rows = rows-none (windowed_coding c.args.coding.now) c.args.bitmap.now c.args.decoder.now c.args.contexts.now c.args.steps.now c.requires.white;
  none = λ _. refl;
  words = omega arith;
  loads = omega arith;
}

pub loop-y-preserved : goal.loop-y-preserved
loop-y-preserved g c =
    let coding = windowed_coding c.args.coding.now in
    let w : ℕ = c.args.bitmap.now.width in
    let begin =
    subst (λ (k : Option ℕ). (w h : ℕ) (grid : Grid) (r : Region) → r.predicted ≡ c.loop-y.predicted → HasDecoded w h c.loop-y.decoder.bytes r (region_state grid c.loop-y.decoder c.loop-y.contexts) → BeginsRow w h k r c.begin_row-predicted.result c.loop-y.decoder (region_state grid c.begin_row-predicted.new.decoder c.begin_row-predicted.new.contexts)) c.typical_context-row_context.ensures.value c.begin_row-predicted.ensures.row in
    let opening = c.begin_row-predicted.ensures.steps in
    let more : c.begin_row-predicted.new.steps.decisions ≡ c.loop-y.steps.decisions + row_decisions coding.row_context =
    ap (λ (s : Counts). s.decisions) opening ∙ ap (λ (k : Option ℕ). c.loop-y.steps.decisions + row_decisions k) c.typical_context-row_context.ensures.value in
    let same_words : c.begin_row-predicted.new.steps.words ≡ c.loop-y.steps.words = ap (λ (s : Counts). s.words) opening in
    let same_loads : c.begin_row-predicted.new.steps.loads ≡ c.loop-y.steps.loads = ap (λ (s : Counts). s.loads) opening in
    let written : c.decode_row.new.steps.words ≤ c.loop-y.steps.words + w =
    subst (λ (n : ℕ). c.decode_row.new.steps.words ≤ n + w) same_words (subst (λ (n : ℕ). c.decode_row.new.steps.words ≤ c.begin_row-predicted.new.steps.words + n) c.loop-y.invariant.rows.width c.decode_row.ensures.words) in
    let loaded : c.decode_row.new.steps.loads ≤ c.loop-y.steps.loads + window_loads w =
    subst (λ (n : ℕ). c.decode_row.new.steps.loads ≤ n + window_loads w) same_loads (subst (λ (n : ℕ). c.decode_row.new.steps.loads ≤ c.begin_row-predicted.new.steps.loads + window_loads n) c.loop-y.invariant.rows.width c.decode_row.ensures.loads) in
    record {
      rows = rows-next c.begin_row-predicted.result c.begin_row-predicted.new.decoder c.begin_row-predicted.new.contexts c.begin_row-predicted.new.steps c.decode_row.new.bitmap c.decode_row.new.decoder c.decode_row.new.contexts c.decode_row.new.steps c.loop-y.invariant.rows begin c.begin_row-predicted.ensures.bytes more (ap (λ (s : Counts). rest_of s) opening) c.decode_row.ensures.decoded;
      none = λ never. absurd (omega arith);
      words = tests-next c.args.steps.now.words c.loop-y.steps.words c.decode_row.new.steps.words w c.loop-y.y c.loop-y.invariant.words written;
      loads = tests-next c.args.steps.now.loads c.loop-y.steps.loads c.decode_row.new.steps.loads (window_loads w) c.loop-y.y c.loop-y.invariant.loads loaded;
    }

pub returns-clause-region : goal.returns-clause-region
returns-clause-region g c =
    region-whole (windowed_coding c.args.coding.now) c.args.bitmap.now.width c.args.bitmap.now.height c.loop-y.y c.args.decoder.now.bytes (no_pixels c.args.decoder.now.registers c.args.contexts.now) c.loop-y.bitmap c.loop-y.decoder c.loop-y.contexts
    refl (λ none. c.if-width-eq0.false (c.width.ensures.value ∙ none)) (omega arith) c.loop-y.invariant.rows.has_decoded

pub returns-clause-steps : goal.returns-clause-steps
returns-clause-steps g c =
    decided-region (windowed_coding c.args.coding.now) (window_loads c.args.bitmap.now.width) c.args.bitmap.now.width c.args.bitmap.now.height c.loop-y.y c.args.decoder.now.bytes (no_pixels c.args.decoder.now.registers c.args.contexts.now) c.args.steps.now c.loop-y.steps
    refl (λ none. c.if-width-eq0.false (c.width.ensures.value ∙ none)) (omega arith) c.loop-y.invariant.none c.loop-y.invariant.rows.decisions c.loop-y.invariant.rows.rest c.loop-y.invariant.words c.loop-y.invariant.loads
