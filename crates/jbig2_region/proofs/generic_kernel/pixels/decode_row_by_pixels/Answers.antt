use Rattle.std.proofs.Common.{arith, refl, false, min, subst, ◌≡◌, ◌+◌, ◌*◌, ℕ, ◌∙◌}
use Rattle.jbig2_steps.proofs.LaneCounts.{lanes-none, lanes-then}
use Rattle.jbig2_region.specs.inner.Neighbours.{DecodesPixels, mixed_pixels, adaptive_count}
use Rattle.jbig2_region.proofs.StepLemmas.{block-loads, none-loads}
use Rattle.jbig2_region.proofs.StoreLemmas.{decodes-none, decodes-then, left-none}
use Rattle.jbig2_region.proofs.generic_kernel.pixels.decode_row_by_pixels.Goals as goal
use Rattle.jbig2_region.specs.inner.RegionStates.{region_state}
use Rattle.jbig2_region.specs.inner.Windows.{IsLeft}

pub loop-index-init : goal.loop-index-init
loop-index-init g c =
    let none : 0 ≡ min 0 c.args.bitmap.now.width = omega arith in
    record {
      width = refl;
      height = refl;
      bytes = refl;
      few = omega arith;
      left = subst (λ (n : ℕ). IsLeft c.args.bitmap.now n c.args.y 0) none (left-none c.args.bitmap.now c.args.y);
      has_decoded =
          subst (λ (n : ℕ). DecodesPixels (mixed_pixels c.args.neighbours c.args.adaptive.now) false 0 c.args.y n (region_state c.args.bitmap.now c.args.decoder.now c.args.contexts.now) (region_state c.args.bitmap.now c.args.decoder.now c.args.contexts.now)) none
          (decodes-none (mixed_pixels c.args.neighbours c.args.adaptive.now) false 0 c.args.y c.args.bitmap.now c.args.decoder.now c.args.contexts.now);
      decisions = omega arith;
      words = omega arith;
      run_tests = refl;
      lanes = lanes-none c.args.steps.now;
      loads = none-loads c.args.steps.now.loads _ (adaptive_count c.args.adaptive.now) none;
    }

pub loop-index-preserved : goal.loop-index-preserved
loop-index-preserved g c =
    let here : min (c.loop-index.index * 32) c.args.bitmap.now.width ≡ c.loop-index.index * 32 = omega (arith, c.width-width.ensures.value, c.div_ceil-index-end.ensures) in
    let next : min ((c.loop-index.index + 1) * 32) c.args.bitmap.now.width ≡ min (c.loop-index.index * 32) c.args.bitmap.now.width + c.min-count.result = omega (arith, c.width-width.ensures.value, c.div_ceil-index-end.ensures, c.min-count.ensures) in
    let place : c.loop-index.index * 32 + c.min-count.result ≡ min ((c.loop-index.index + 1) * 32) c.args.bitmap.now.width = omega arith in
    record {
      width = c.decode_pixels-left.ensures.width ∙ c.loop-index.invariant.width;
      height = c.decode_pixels-left.ensures.height ∙ c.loop-index.invariant.height;
      bytes = c.decode_pixels-left.ensures.bytes ∙ c.loop-index.invariant.bytes;
      few = c.decode_pixels-left.ensures.small;
      left = subst (λ (n : ℕ). IsLeft c.decode_pixels-left.new.bitmap n c.args.y c.decode_pixels-left.result) place c.decode_pixels-left.ensures.left;
      has_decoded =
          decodes-then (mixed_pixels c.args.neighbours c.args.adaptive.now) false 0 (c.loop-index.index * 32) c.args.y (min (c.loop-index.index * 32) c.args.bitmap.now.width) c.min-count.result (min ((c.loop-index.index + 1) * 32) c.args.bitmap.now.width)
          c.args.bitmap.now c.loop-index.bitmap c.decode_pixels-left.new.bitmap c.args.decoder.now c.loop-index.decoder c.decode_pixels-left.new.decoder c.args.contexts.now c.loop-index.contexts c.decode_pixels-left.new.contexts
          c.loop-index.invariant.has_decoded c.decode_pixels-left.ensures.pixels (omega arith) next;
      decisions = omega (arith, c.decode_pixels-left.ensures.decisions, c.loop-index.invariant.decisions);
      words = omega (arith, c.decode_pixels-left.ensures.words, c.loop-index.invariant.words);
      run_tests = c.decode_pixels-left.ensures.run_tests ∙ c.loop-index.invariant.run_tests;
      lanes = lanes-then c.args.steps.now c.loop-index.steps c.decode_pixels-left.new.steps c.loop-index.invariant.lanes c.decode_pixels-left.ensures.lanes;
      loads = block-loads c.args.steps.now.loads c.loop-index.steps.loads c.decode_pixels-left.new.steps.loads c.loop-index.index c.min-count.result (adaptive_count c.args.adaptive.now) (min (c.loop-index.index * 32) c.args.bitmap.now.width) _ c.loop-index.invariant.loads c.decode_pixels-left.ensures.loads next;
    }
