use Rattle.std.proofs.Common.{arith, refl, true, false, ◌≡◌, ◌+◌, ◌-◌, ◌∙◌, ℕ, None, sym, ap, subst}
use Rattle.jbig2_steps.proofs.LaneCounts.{lanes-none, lanes-then}
use Rattle.jbig2_base.specs.Counts.{Counts}
use Rattle.jbig2_base.specs.Grid.{Grid, pixel_at}
use Rattle.jbig2_base.specs.Bits.{bit}
use Rattle.jbig2_base.specs.Writes.{with_pixels}
use Rattle.jbig2_region.specs.inner.RegionStates.{BeginsRow, HasDecoded, region_state}
use Rattle.jbig2_region.specs.inner.PushedPixels.{IsAtRow}
use Rattle.jbig2_region.specs.inner.Neighbours.{DecodesPixels, SameAbove, nominal_pixels, row_coding}
use Rattle.jbig2_region.specs.inner.RowCounts.{CountsRow, CountsRuns}
use Rattle.jbig2_region.specs.Raster.{Region, no_pixels}
use Rattle.jbig2_region.specs.inner.Rows.{after_rows}
use Rattle.jbig2_region.specs.Steps.{row_tests, row_words}
use Rattle.jbig2_region.proofs.CountLemmas.{row-nominal}
use Rattle.jbig2_region.proofs.PushLemmas.{begins-plain, shows-first}
use Rattle.jbig2_region.proofs.PlaceLemmas.{region-whole}
use Rattle.jbig2_region.proofs.RasterLemmas.{after_rows-none, region-start}
use Rattle.jbig2_region.proofs.RegionLemmas.{counted-none, counted-next, tests-next, layout-step, region-counts}
use Rattle.jbig2_region.proofs.StoreLemmas.{stored-above, stored-inside}
use Rattle.jbig2_region.proofs.generic_kernel.narrow.decode_rows.Goals as goal

pub loop-y-init : goal.loop-y-init
loop-y-init g c =
    let start : Region = no_pixels c.args.decoder.now.registers c.args.contexts.now in
    let w : ℕ = c.args.bitmap.now.width in
    let h : ℕ = c.args.bitmap.now.height in
    let input = c.args.decoder.now.bytes in
    let none : after_rows (row_coding (nominal_pixels c.args.neighbours)) w h input 0 start ≡ start = after_rows-none _ _ _ _ start in
    record {
      width = refl;
      height = refl;
      bytes = refl;
      has_decoded = subst (λ (n : Region). HasDecoded w h input n (region_state c.args.bitmap.now c.args.decoder.now c.args.contexts.now)) (sym none) (region-start w h c.args.bitmap.now c.args.decoder.now c.args.contexts.now c.requires.white);
      predicted = ap (λ (n : Region). n.predicted) none;
      none = λ _. refl;
      decisions = counted-none (nominal_pixels c.args.neighbours) true (row_coding (nominal_pixels c.args.neighbours)) w h input start c.args.steps.now.decisions;
      run_tests = omega arith;
      words = omega arith;
      loads = refl;
      lanes = lanes-none c.args.steps.now;
      shows = shows-first c.args.bitmap.now _ refl refl;
    }

pub loop-y-preserved : goal.loop-y-preserved
loop-y-preserved g c =
    let start : Region = no_pixels c.args.decoder.now.registers c.args.contexts.now in
    let template = nominal_pixels c.args.neighbours in
    let coding = row_coding template in
    let y : ℕ = c.loop-y.y in
    let w : ℕ = c.args.bitmap.now.width in
    let h : ℕ = c.args.bitmap.now.height in
    let input = c.args.decoder.now.bytes in
    let pixels : ℕ = c.push_row-pixels.result in
    let whole : c.width-width.result ≡ w = c.width-width.ensures.value in
    let wide : c.loop-y.bitmap.width ≡ c.width-width.result = c.loop-y.invariant.width ∙ sym whole in
    let row : IsAtRow c.loop-y.bitmap y c.width-width.result c.loop-y.windows = record { wide = wide; row = omega (arith, c.loop-y.invariant.height); shows = c.loop-y.invariant.shows } in
    let stored : with_pixels c.loop-y.bitmap 0 y c.width-width.result pixels ≡ c.store_pixels.new.self = sym c.store_pixels.ensures.value in
    let decodes : DecodesPixels template false 0 y w (region_state c.loop-y.bitmap c.loop-y.decoder c.loop-y.contexts) (region_state c.store_pixels.new.self c.push_row-pixels.new.decoder c.push_row-pixels.new.contexts) =
    subst (λ (q : Grid). DecodesPixels template false 0 y w (region_state c.loop-y.bitmap c.loop-y.decoder c.loop-y.contexts) (region_state q c.push_row-pixels.new.decoder c.push_row-pixels.new.contexts)) stored
    (subst (λ (n : ℕ). DecodesPixels template false 0 y n (region_state c.loop-y.bitmap c.loop-y.decoder c.loop-y.contexts) (region_state (with_pixels c.loop-y.bitmap 0 y c.width-width.result pixels) c.push_row-pixels.new.decoder c.push_row-pixels.new.contexts)) whole
    (c.push_row-pixels.ensures.pixels c.loop-y.bitmap y row)) in
    let begin : (w h : ℕ) (grid : Grid) (r : Region) → r.predicted ≡ false → HasDecoded w h c.loop-y.decoder.bytes r (region_state grid c.loop-y.decoder c.loop-y.contexts) → BeginsRow w h None r false c.loop-y.decoder (region_state grid c.loop-y.decoder c.loop-y.contexts) = λ w h grid r is has_decoded. begins-plain w h grid r c.loop-y.decoder c.loop-y.contexts is has_decoded in
    let next =
    layout-step template None y false false c.loop-y.bitmap c.loop-y.decoder c.loop-y.contexts c.loop-y.decoder c.loop-y.contexts c.store_pixels.new.self c.push_row-pixels.new.decoder c.push_row-pixels.new.contexts start w h input
    c.loop-y.invariant.bytes refl refl begin decodes c.loop-y.invariant.has_decoded c.loop-y.invariant.predicted in
    let counts : CountsRuns template 0 y c.loop-y.bitmap.width (region_state c.loop-y.bitmap c.loop-y.decoder c.loop-y.contexts) c.loop-y.steps.decisions c.push_row-pixels.new.steps.decisions =
    subst (λ (n : ℕ). CountsRuns template 0 y n (region_state c.loop-y.bitmap c.loop-y.decoder c.loop-y.contexts) c.loop-y.steps.decisions c.push_row-pixels.new.steps.decisions) (sym wide) (c.push_row-pixels.ensures.decisions c.loop-y.bitmap y row) in
    let decided : c.push_row-pixels.new.steps.decisions ≡ c.store_pixels.new.steps.decisions = sym (ap (λ (t : Counts). t.decisions) c.store_pixels.ensures.steps) in
    let counted : CountsRow template true false y (region_state c.loop-y.bitmap c.loop-y.decoder c.loop-y.contexts) c.loop-y.steps.decisions c.store_pixels.new.steps.decisions =
    subst (λ (n : ℕ). CountsRow template true false y (region_state c.loop-y.bitmap c.loop-y.decoder c.loop-y.contexts) c.loop-y.steps.decisions n) decided
    (row-nominal c.args.neighbours None false y c.loop-y.bitmap c.loop-y.decoder c.loop-y.contexts c.loop-y.steps.decisions c.push_row-pixels.new.steps.decisions refl refl counts) in
    let tested : c.store_pixels.new.steps.run_tests ≡ c.push_row-pixels.new.steps.run_tests = ap (λ (t : Counts). t.run_tests) c.store_pixels.ensures.steps in
    let written : c.store_pixels.new.steps.words ≡ c.push_row-pixels.new.steps.words + 1 = ap (λ (t : Counts). t.words) c.store_pixels.ensures.steps in
    let loaded : c.store_pixels.new.steps.loads ≡ c.push_row-pixels.new.steps.loads = ap (λ (t : Counts). t.loads) c.store_pixels.ensures.steps in
    let after : c.store_pixels.new.self.width ≡ c.loop-y.bitmap.width = ap (λ (q : Grid). q.width) c.store_pixels.ensures.value in
    record {
      width = after ∙ c.loop-y.invariant.width;
      height = ap (λ (q : Grid). q.height) c.store_pixels.ensures.value ∙ c.loop-y.invariant.height;
      bytes = c.push_row-pixels.ensures.bytes ∙ c.loop-y.invariant.bytes;
      has_decoded = next.0;
      predicted = next.1;
      none = λ never. absurd (omega arith);
      decisions =
          counted-next template true coding y false false c.loop-y.bitmap c.loop-y.decoder c.loop-y.contexts c.loop-y.decoder c.loop-y.contexts start w h input
          c.args.steps.now.decisions c.loop-y.steps.decisions c.loop-y.steps.decisions c.store_pixels.new.steps.decisions
          c.loop-y.invariant.bytes refl begin c.loop-y.invariant.has_decoded c.loop-y.invariant.predicted c.loop-y.invariant.decisions (omega arith) counted;
      run_tests = tests-next c.args.steps.now.run_tests c.loop-y.steps.run_tests c.store_pixels.new.steps.run_tests (row_tests true w) y c.loop-y.invariant.run_tests (omega (arith, tested, whole, c.push_row-pixels.ensures.run_tests));
      words = tests-next c.args.steps.now.words c.loop-y.steps.words c.store_pixels.new.steps.words (row_words true w) y c.loop-y.invariant.words (omega (arith, written, c.push_row-pixels.ensures.words));
      loads = loaded ∙ c.push_row-pixels.ensures.loads ∙ c.loop-y.invariant.loads;
      lanes =
          lanes-then c.args.steps.now c.loop-y.steps c.store_pixels.new.steps c.loop-y.invariant.lanes
          (lanes-then c.loop-y.steps c.push_row-pixels.new.steps c.store_pixels.new.steps c.push_row-pixels.ensures.lanes (record { groups = ap (λ (t : Counts). t.groups) c.store_pixels.ensures.steps; pixels = ap (λ (t : Counts). t.pixels) c.store_pixels.ensures.steps; cleared = ap (λ (t : Counts). t.cleared) c.store_pixels.ensures.steps }));
      shows =
          c.windows_below-windows.ensures c.loop-y.bitmap c.store_pixels.new.self y (after ∙ wide) (subst (λ (q : Grid). SameAbove c.loop-y.bitmap q y) stored (stored-above c.loop-y.bitmap 0 y c.width-width.result pixels))
          (λ k few.
          let place : 0 + c.width-width.result - 1 - k ≡ c.width-width.result - 1 - k = omega arith in
          sym (ap (λ (q : Grid). pixel_at q k y) (sym stored) ∙ stored-inside c.loop-y.bitmap 0 y c.width-width.result pixels k (omega arith) (omega arith) (omega (arith, wide)) row.row ∙ ap (λ (n : ℕ). bit pixels n) place))
          c.loop-y.invariant.shows;
    }

pub returns-clause-region : goal.returns-clause-region
returns-clause-region g c =
    region-whole (row_coding (nominal_pixels c.args.neighbours)) c.args.bitmap.now.width c.args.bitmap.now.height c.loop-y.y c.args.decoder.now.bytes (no_pixels c.args.decoder.now.registers c.args.contexts.now) c.loop-y.bitmap c.loop-y.decoder c.loop-y.contexts
    refl (λ none. absurd (omega (arith, c.requires.some))) (omega arith) c.loop-y.invariant.has_decoded

pub returns-clause-steps : goal.returns-clause-steps
returns-clause-steps g c =
    region-counts (nominal_pixels c.args.neighbours) None true 0 c.args.bitmap.now.width c.args.bitmap.now.height c.loop-y.y c.args.decoder.now.bytes (no_pixels c.args.decoder.now.registers c.args.contexts.now) c.args.steps.now c.loop-y.steps
    refl (λ none. absurd (omega (arith, c.requires.some))) (omega arith) c.loop-y.invariant.none c.loop-y.invariant.decisions c.loop-y.invariant.run_tests c.loop-y.invariant.words (omega (arith, c.loop-y.invariant.loads)) c.loop-y.invariant.lanes
