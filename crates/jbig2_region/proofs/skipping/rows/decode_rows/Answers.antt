use Rattle.std.proofs.Common.{◌≡◌, ◌≤◌, ℕ, ◌+◌, false, None, refl, sym, ap, subst, arith, ◌∙◌}
use Rattle.jbig2_steps.proofs.LaneCounts.{lanes-none, lanes-then}
use Rattle.jbig2_base.specs.Grid.{Grid}
use Rattle.jbig2_region.specs.Raster.{Coding, Region, no_pixels}
use Rattle.jbig2_region.specs.{inner.RegionViews.{skip_of}, Steps.{skipping_loads, skipping_words}, Generic.{skipping_coding}}
use Rattle.jbig2_region.specs.inner.RegionStates.{BeginsRow, HasDecoded, region_state}
use Rattle.jbig2_region.specs.inner.Neighbours.{nominal_pixels}
use Rattle.jbig2_region.proofs.PlaceLemmas.{region-empty, region-whole}
use Rattle.jbig2_region.proofs.RasterLemmas.{opening-plainly}
use Rattle.jbig2_region.proofs.RegionLemmas.{tests-next}
use Rattle.jbig2_region.proofs.SkippingLemmas.{skipping-empty, skipping-region}
use Rattle.jbig2_region.proofs.StretchLemmas.{rows-next, rows-none}
use Rattle.jbig2_region.proofs.skipping.rows.decode_rows.Goals as goal

pub returns-then-width-eq0 : goal.returns-then-width-eq0
returns-then-width-eq0 g c =
    let none : c.args.bitmap.now.width ≡ 0 = sym c.width.ensures.value ∙ c.if-width-eq0.true in
    record {
      region = region-empty (skipping_coding (nominal_pixels c.args.neighbours) (skip_of c.args.skip)) c.args.bitmap.now.width c.args.bitmap.now.height c.args.bitmap.now c.args.decoder.now c.args.contexts.now none c.requires.ready.white;
      steps = skipping-empty (skip_of c.args.skip) c.args.bitmap.now.width c.args.bitmap.now.height c.args.steps.now none;
    }

pub loop-y-init : goal.loop-y-init
loop-y-init g c = record {
  rows = rows-none (skipping_coding (nominal_pixels c.args.neighbours) (skip_of c.args.skip)) c.args.bitmap.now c.args.decoder.now c.args.contexts.now c.args.steps.now c.requires.ready.white;
  words = omega arith;
  loads = omega arith;
  lanes = lanes-none c.args.steps.now;
}

pub loop-y-preserved : goal.loop-y-preserved
loop-y-preserved g c =
    let coding : Coding = skipping_coding (nominal_pixels c.args.neighbours) (skip_of c.args.skip) in
    let w : ℕ = c.args.bitmap.now.width in
    let begin : (w h : ℕ) (grid : Grid) (r : Region) → r.predicted ≡ false → HasDecoded w h c.loop-y.decoder.bytes r (region_state grid c.loop-y.decoder c.loop-y.contexts) → BeginsRow w h coding.row_context r false c.loop-y.decoder (region_state grid c.loop-y.decoder c.loop-y.contexts) =
    λ w h grid r plain has_decoded. opening-plainly w h None r false grid c.loop-y.decoder c.loop-y.contexts refl plain has_decoded in
    let more : c.loop-y.steps.decisions ≡ c.loop-y.steps.decisions + 0 = omega arith in
    let written : c.decode_row.new.steps.words ≤ c.loop-y.steps.words + skipping_words w = subst (λ (n : ℕ). c.decode_row.new.steps.words ≤ c.loop-y.steps.words + skipping_words n) c.loop-y.invariant.rows.width c.decode_row.ensures.words in
    let loaded : c.decode_row.new.steps.loads ≤ c.loop-y.steps.loads + skipping_loads w = subst (λ (n : ℕ). c.decode_row.new.steps.loads ≤ c.loop-y.steps.loads + skipping_loads n) c.loop-y.invariant.rows.width c.decode_row.ensures.loads in
    record {
      rows = rows-next false c.loop-y.decoder c.loop-y.contexts c.loop-y.steps c.decode_row.new.bitmap c.decode_row.new.decoder c.decode_row.new.contexts c.decode_row.new.steps c.loop-y.invariant.rows begin refl more refl c.decode_row.ensures.decoded;
      words = tests-next c.args.steps.now.words c.loop-y.steps.words c.decode_row.new.steps.words (skipping_words w) c.loop-y.y c.loop-y.invariant.words written;
      loads = tests-next c.args.steps.now.loads c.loop-y.steps.loads c.decode_row.new.steps.loads (skipping_loads w) c.loop-y.y c.loop-y.invariant.loads loaded;
      lanes = lanes-then c.args.steps.now c.loop-y.steps c.decode_row.new.steps c.loop-y.invariant.lanes c.decode_row.ensures.lanes;
    }

pub returns-clause-region : goal.returns-clause-region
returns-clause-region g c =
    region-whole (skipping_coding (nominal_pixels c.args.neighbours) (skip_of c.args.skip)) c.args.bitmap.now.width c.args.bitmap.now.height c.loop-y.y c.args.decoder.now.bytes (no_pixels c.args.decoder.now.registers c.args.contexts.now) c.loop-y.bitmap c.loop-y.decoder c.loop-y.contexts
    refl (λ none. c.if-width-eq0.false (c.width.ensures.value ∙ none)) (omega arith) c.loop-y.invariant.rows.has_decoded

pub returns-clause-steps : goal.returns-clause-steps
returns-clause-steps g c =
    skipping-region (nominal_pixels c.args.neighbours) (skip_of c.args.skip) c.args.bitmap.now.width c.args.bitmap.now.height c.loop-y.y c.args.decoder.now.bytes (no_pixels c.args.decoder.now.registers c.args.contexts.now) c.args.steps.now c.loop-y.steps
    (omega arith) refl refl c.loop-y.invariant.rows.decisions (ap (λ (t : ℕ × ℕ × ℕ × ℕ). t.0) c.loop-y.invariant.rows.rest) c.loop-y.invariant.words c.loop-y.invariant.loads c.loop-y.invariant.lanes
