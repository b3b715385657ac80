use Rattle.std.proofs.Common.{arith, refl, ◌≡◌, ◌≤◌, ◌+◌, ◌*◌, ◌∙◌, ℕ, sym, ap, subst, cond}
use Rattle.jbig2_steps.proofs.LaneCounts.{lanes-none, lanes-then}
use Rattle.jbig2_base.specs.Counts.{Counts}
use Rattle.jbig2_region.specs.inner.RegionStates.{HasDecoded, region_state}
use Rattle.jbig2_region.specs.inner.Neighbours.{DecodesPixels}
use Rattle.jbig2_region.specs.Raster.{Region, no_pixels}
use Rattle.jbig2_region.specs.inner.Rows.{after_rows}
use Rattle.jbig2_region.specs.Steps.{row_loads, row_tests, row_words}
use Rattle.jbig2_region.specs.inner.RowCounts.{coded_rows}
use Rattle.jbig2_region.proofs.PlaceLemmas.{region-empty, region-whole}
use Rattle.jbig2_region.proofs.RasterLemmas.{after_rows-none, region-start}
use Rattle.jbig2_region.proofs.RegionLemmas.{counted-none, counted-next, predicted-next, loads-next, tests-next, layout-step, empty-counts, region-counts}
use Rattle.jbig2_region.specs.inner.Layouts.{is_nominal_layout, layout_coding, layout_loads, layout_pixels}
use Rattle.jbig2_region.proofs.generic_kernel.decode_layout.Goals as goal

pub returns-then-width-eq0-clause-region : goal.returns-then-width-eq0-clause-region
returns-then-width-eq0-clause-region g c = region-empty (layout_coding c.args.layout.now c.args.row_context) c.args.bitmap.now.width c.args.bitmap.now.height c.args.bitmap.now c.args.decoder.now c.args.contexts.now (sym c.width.ensures.value ∙ c.if-width-eq0.true) c.requires.white

pub returns-then-width-eq0-clause-steps : goal.returns-then-width-eq0-clause-steps
returns-then-width-eq0-clause-steps g c = empty-counts (layout_pixels c.args.layout.now) (is_nominal_layout c.args.layout.now.adaptive) (layout_loads c.args.layout.now.adaptive) (layout_coding c.args.layout.now c.args.row_context) c.args.bitmap.now.width c.args.bitmap.now.height c.args.decoder.now.bytes (no_pixels c.args.decoder.now.registers c.args.contexts.now) c.args.steps.now (sym c.width.ensures.value ∙ c.if-width-eq0.true)

pub loop-y-init : goal.loop-y-init
loop-y-init g c =
    let start : Region = no_pixels c.args.decoder.now.registers c.args.contexts.now in
    let none : after_rows (layout_coding c.args.layout.now c.args.row_context) c.args.bitmap.now.width c.args.bitmap.now.height c.args.decoder.now.bytes 0 start ≡ start = after_rows-none _ _ _ _ start in
    record {
      width = refl;
      height = refl;
      bytes = refl;
      has_decoded = subst (λ (n : Region). HasDecoded c.args.bitmap.now.width c.args.bitmap.now.height c.args.decoder.now.bytes n (region_state c.args.bitmap.now c.args.decoder.now c.args.contexts.now)) (sym none) (region-start c.args.bitmap.now.width c.args.bitmap.now.height c.args.bitmap.now c.args.decoder.now c.args.contexts.now c.requires.white);
      predicted = ap (λ (n : Region). n.predicted) none;
      none = λ _. refl;
      decisions = counted-none (layout_pixels c.args.layout.now) (is_nominal_layout c.args.layout.now.adaptive) (layout_coding c.args.layout.now c.args.row_context) c.args.bitmap.now.width c.args.bitmap.now.height c.args.decoder.now.bytes start c.args.steps.now.decisions;
      run_tests = omega arith;
      words = omega arith;
      loads = omega arith;
      lanes = lanes-none c.args.steps.now;
    }

pub loop-y-preserved : goal.loop-y-preserved
loop-y-preserved g c =
    let start : Region = no_pixels c.args.decoder.now.registers c.args.contexts.now in
    let coding = layout_coding c.args.layout.now c.args.row_context in
    let template = layout_pixels c.args.layout.now in
    let nominal = is_nominal_layout c.args.layout.now.adaptive in
    let w : ℕ = c.args.bitmap.now.width in
    let h : ℕ = c.args.bitmap.now.height in
    let input = c.args.decoder.now.bytes in
    let decodes = subst (λ (n : ℕ). DecodesPixels template c.begin_row-predicted.result 0 c.loop-y.y n (region_state c.loop-y.bitmap c.begin_row-predicted.new.decoder c.begin_row-predicted.new.contexts) (region_state c.decode_row.new.bitmap c.decode_row.new.decoder c.decode_row.new.contexts)) c.loop-y.invariant.width c.decode_row.ensures.pixels in
    let next =
    layout-step template c.args.row_context c.loop-y.y c.loop-y.predicted c.begin_row-predicted.result c.loop-y.bitmap c.loop-y.decoder c.loop-y.contexts c.begin_row-predicted.new.decoder c.begin_row-predicted.new.contexts c.decode_row.new.bitmap c.decode_row.new.decoder c.decode_row.new.contexts start w h input
    c.loop-y.invariant.bytes c.begin_row-predicted.ensures.bytes refl c.begin_row-predicted.ensures.row decodes c.loop-y.invariant.has_decoded c.loop-y.invariant.predicted in
    let opening = c.begin_row-predicted.ensures.steps in
    let coded =
    predicted-next coding c.loop-y.y c.loop-y.predicted c.begin_row-predicted.result c.loop-y.bitmap c.loop-y.decoder c.loop-y.contexts c.begin_row-predicted.new.decoder c.begin_row-predicted.new.contexts start w h input c.loop-y.invariant.bytes refl c.begin_row-predicted.ensures.row c.loop-y.invariant.has_decoded c.loop-y.invariant.predicted in
    let tests : c.decode_row.new.steps.run_tests ≤ c.begin_row-predicted.new.steps.run_tests + row_tests nominal w = subst (λ (n : ℕ). c.decode_row.new.steps.run_tests ≤ c.begin_row-predicted.new.steps.run_tests + row_tests nominal n) c.loop-y.invariant.width c.decode_row.ensures.run_tests in
    let same_tests : c.begin_row-predicted.new.steps.run_tests ≡ c.loop-y.steps.run_tests = ap (λ (s : Counts). s.run_tests) opening in
    let written : c.decode_row.new.steps.words ≤ c.begin_row-predicted.new.steps.words + row_words nominal w = subst (λ (n : ℕ). c.decode_row.new.steps.words ≤ c.begin_row-predicted.new.steps.words + row_words nominal n) c.loop-y.invariant.width c.decode_row.ensures.words in
    let same_words : c.begin_row-predicted.new.steps.words ≡ c.loop-y.steps.words = ap (λ (s : Counts). s.words) opening in
    let same_loads : c.begin_row-predicted.new.steps.loads ≡ c.loop-y.steps.loads = ap (λ (s : Counts). s.loads) opening in
    record {
      width = c.decode_row.ensures.width ∙ c.loop-y.invariant.width;
      height = c.decode_row.ensures.height ∙ c.loop-y.invariant.height;
      bytes = c.decode_row.ensures.bytes ∙ c.begin_row-predicted.ensures.bytes ∙ c.loop-y.invariant.bytes;
      has_decoded = next.0;
      predicted = next.1;
      none = λ never. absurd (omega arith);
      decisions =
          counted-next template nominal coding c.loop-y.y c.loop-y.predicted c.begin_row-predicted.result c.loop-y.bitmap c.loop-y.decoder c.loop-y.contexts c.begin_row-predicted.new.decoder c.begin_row-predicted.new.contexts start w h input
          c.args.steps.now.decisions c.loop-y.steps.decisions c.begin_row-predicted.new.steps.decisions c.decode_row.new.steps.decisions
          c.loop-y.invariant.bytes refl c.begin_row-predicted.ensures.row c.loop-y.invariant.has_decoded c.loop-y.invariant.predicted c.loop-y.invariant.decisions (ap (λ (s : Counts). s.decisions) opening) c.decode_row.ensures.decisions;
      run_tests = tests-next c.args.steps.now.run_tests c.loop-y.steps.run_tests c.decode_row.new.steps.run_tests (row_tests nominal w) c.loop-y.y c.loop-y.invariant.run_tests (subst (λ (n : ℕ). c.decode_row.new.steps.run_tests ≤ n + row_tests nominal w) same_tests tests);
      lanes =
          lanes-then c.args.steps.now c.loop-y.steps c.decode_row.new.steps c.loop-y.invariant.lanes
          (lanes-then c.loop-y.steps c.begin_row-predicted.new.steps c.decode_row.new.steps (record { groups = ap (λ (s : Counts). s.groups) opening; pixels = ap (λ (s : Counts). s.pixels) opening; cleared = ap (λ (s : Counts). s.cleared) opening }) c.decode_row.ensures.lanes);
      words = tests-next c.args.steps.now.words c.loop-y.steps.words c.decode_row.new.steps.words (row_words nominal w) c.loop-y.y c.loop-y.invariant.words (subst (λ (n : ℕ). c.decode_row.new.steps.words ≤ n + row_words nominal w) same_words written);
      loads =
          rw coded
          (loads-next c.begin_row-predicted.result c.args.steps.now.loads c.loop-y.steps.loads c.decode_row.new.steps.loads (row_loads nominal w) w (coded_rows coding w h input c.loop-y.y start) (layout_loads c.args.layout.now.adaptive) c.loop-y.y c.loop-y.invariant.loads
          (subst (λ (n : ℕ). c.decode_row.new.steps.loads ≤ c.loop-y.steps.loads + (row_loads nominal n + n * cond c.begin_row-predicted.result 0 (layout_loads c.args.layout.now.adaptive))) c.loop-y.invariant.width
          (subst (λ (n : ℕ). c.decode_row.new.steps.loads ≤ n + (row_loads nominal c.loop-y.bitmap.width + c.loop-y.bitmap.width * cond c.begin_row-predicted.result 0 (layout_loads c.args.layout.now.adaptive))) same_loads c.decode_row.ensures.loads)));
    }

pub returns-clause-region : goal.returns-clause-region
returns-clause-region g c =
    region-whole (layout_coding c.args.layout.now c.args.row_context) c.args.bitmap.now.width c.args.bitmap.now.height c.loop-y.y c.args.decoder.now.bytes (no_pixels c.args.decoder.now.registers c.args.contexts.now) c.loop-y.bitmap c.loop-y.decoder c.loop-y.contexts
    refl (λ none. c.if-width-eq0.false (c.width.ensures.value ∙ none)) (omega arith) c.loop-y.invariant.has_decoded

pub returns-clause-steps : goal.returns-clause-steps
returns-clause-steps g c =
    region-counts (layout_pixels c.args.layout.now) c.args.row_context (is_nominal_layout c.args.layout.now.adaptive) (layout_loads c.args.layout.now.adaptive) c.args.bitmap.now.width c.args.bitmap.now.height c.loop-y.y c.args.decoder.now.bytes (no_pixels c.args.decoder.now.registers c.args.contexts.now) c.args.steps.now c.loop-y.steps
    refl (λ none. c.if-width-eq0.false (c.width.ensures.value ∙ none)) (omega arith) c.loop-y.invariant.none c.loop-y.invariant.decisions c.loop-y.invariant.run_tests c.loop-y.invariant.words c.loop-y.invariant.loads c.loop-y.invariant.lanes
