use Rattle.std.proofs.Common.{arith, refl, min, true, subst, sym, ap, ◌≡◌, ◌+◌, ◌*◌, ℕ, ◌∙◌}
use Rattle.jbig2_steps.proofs.LaneCounts.{lanes-none}
use Rattle.jbig2_base.specs.Counts.{Counts}
use Rattle.jbig2_base.specs.Grid.{Grid}
use Rattle.jbig2_region.specs.inner.Neighbours.{DecodesPixels}
use Rattle.jbig2_region.proofs.StoreLemmas.{decodes-none, decodes-then, decodes-copied}
use Rattle.jbig2_region.proofs.generic_kernel.copy_row.Goals as goal
use Rattle.jbig2_region.specs.inner.RegionStates.{region_state}

pub loop-index-init : goal.loop-index-init
loop-index-init g c =
    let none : 0 ≡ min 0 c.args.bitmap.now.width = omega arith in
    record {
      width = refl;
      height = refl;
      has_decoded = λ template coder states. subst (λ (n : ℕ). DecodesPixels template true 0 c.args.y n (region_state c.args.bitmap.now coder states) (region_state c.args.bitmap.now coder states)) none (decodes-none template true 0 c.args.y c.args.bitmap.now coder states);
      loads = omega arith;
      words = omega arith;
      decisions = refl;
      run_tests = refl;
      lanes = lanes-none c.args.steps.now;
    }

pub loop-index-preserved : goal.loop-index-preserved
loop-index-preserved g c =
    let here : min (c.loop-index.index * 64) c.args.bitmap.now.width ≡ c.loop-index.index * 64 = omega (arith, c.width-width.ensures.value, c.div_ceil-index-end.ensures) in
    let next : min ((c.loop-index.index + 1) * 64) c.args.bitmap.now.width ≡ min (c.loop-index.index * 64) c.args.bitmap.now.width + c.min-count.result = omega (arith, c.width-width.ensures.value, c.div_ceil-index-end.ensures, c.min-count.ensures) in
    let stored = c.store_pixels.ensures.value in
    let steps = c.store_pixels.ensures.steps ∙ ap (λ (s : Counts). let made : Counts = record s { words = s.words + 1 } in made) c.pixels_above-bits.ensures.steps in
    record {
      width = ap (λ (q : Grid). q.width) stored ∙ c.loop-index.invariant.width;
      height = ap (λ (q : Grid). q.height) stored ∙ c.loop-index.invariant.height;
      has_decoded = λ template coder states.
          decodes-then template true 0 (c.loop-index.index * 64) c.args.y (min (c.loop-index.index * 64) c.args.bitmap.now.width) c.min-count.result (min ((c.loop-index.index + 1) * 64) c.args.bitmap.now.width)
          c.args.bitmap.now c.loop-index.bitmap c.store_pixels.new.self coder coder coder states states states
          (c.loop-index.invariant.has_decoded template coder states)
          (subst (λ (q : Grid). DecodesPixels template true (c.loop-index.index * 64) c.args.y c.min-count.result (region_state c.loop-index.bitmap coder states) (region_state q coder states)) (sym stored)
          (decodes-copied template (c.loop-index.index * 64) c.args.y c.min-count.result c.pixels_above-bits.result c.loop-index.bitmap coder states c.pixels_above-bits.ensures.bits (omega (arith, c.loop-index.invariant.width)) (omega (arith, c.loop-index.invariant.height))))
          (omega arith) next;
      loads = ap (λ (s : Counts). s.loads) steps ∙ omega (arith, c.loop-index.invariant.loads);
      words = ap (λ (s : Counts). s.words) steps ∙ omega (arith, c.loop-index.invariant.words);
      decisions = ap (λ (s : Counts). s.decisions) steps ∙ c.loop-index.invariant.decisions;
      run_tests = ap (λ (s : Counts). s.run_tests) steps ∙ c.loop-index.invariant.run_tests;
      lanes = record { groups = ap (λ (s : Counts). s.groups) steps ∙ c.loop-index.invariant.lanes.groups; pixels = ap (λ (s : Counts). s.pixels) steps ∙ c.loop-index.invariant.lanes.pixels; cleared = ap (λ (s : Counts). s.cleared) steps ∙ c.loop-index.invariant.lanes.cleared };
    }

pub returns-clause-pixels : goal.returns-clause-pixels
returns-clause-pixels g c = λ template coder states.
    let all : min (c.loop-index.index * 64) c.args.bitmap.now.width ≡ c.args.bitmap.now.width = omega (arith, c.width-width.ensures.value, c.div_ceil-index-end.ensures) in
    subst (λ (n : ℕ). DecodesPixels template true 0 c.args.y n (region_state c.args.bitmap.now coder states) (region_state c.loop-index.bitmap coder states)) all (c.loop-index.invariant.has_decoded template coder states)
