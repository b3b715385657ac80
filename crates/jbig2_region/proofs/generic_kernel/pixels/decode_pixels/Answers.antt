use Rattle.std.proofs.Common.{arith, refl, length, ◌≡◌, ◌<◌, ◌+◌, ◌*◌, ◌%◌, ◌∙◌, ℕ, ap, sym, subst}
use Rattle.jbig2_steps.proofs.LaneCounts.{lanes-none}
use Rattle.jbig2_base.specs.Counts.{Counts}
use Rattle.jbig2_base.specs.Grid.{Grid}
use Rattle.jbig2_base.specs.Writes.{with_pixels}
use Rattle.jbig2_region.specs.inner.Neighbours.{mixed_pixels, SameAbove}
use Rattle.jbig2_region.proofs.StoreLemmas.{decodes-none, decodes-pixel, left-pixel, stored-above, same-above-then, inside-states}
use Rattle.jbig2_region.proofs.WindowLemmas.{shows-same}
use Rattle.jbig2_region.specs.inner.Windows.{IsLeft}
use Rattle.jbig2_region.proofs.generic_kernel.pixels.decode_pixels.Goals as goal

pub loop-offset-init : goal.loop-offset-init
loop-offset-init g c =
    let place : c.args.place.x ≡ c.args.place.x + 0 = omega arith in
    record {
      width = refl;
      height = refl;
      bytes = refl;
      few = c.requires.small;
      above = λ i j less. refl;
      left = subst (λ (n : ℕ). IsLeft c.args.bitmap.now n c.args.place.y c.args.place.left) place c.requires.left;
      has_decoded = decodes-none (mixed_pixels c.args.neighbours c.args.adaptive.now) _ c.args.place.x c.args.place.y c.args.bitmap.now c.args.decoder.now c.args.contexts.now;
      decisions = omega arith;
      words = omega arith;
      run_tests = refl;
      lanes = lanes-none c.windows_at-windows.new.steps;
      loads = omega arith;
    }

pub mixed_context-context-requires-clause-shows : goal.mixed_context-context-requires-clause-shows
mixed_context-context-requires-clause-shows g c = shows-same c.args.bitmap.now c.loop-offset.bitmap c.args.place.x c.args.place.y 64 c.windows_at-windows.result c.loop-offset.invariant.above c.windows_at-windows.ensures.value

pub loop-offset-preserved : goal.loop-offset-preserved
loop-offset-preserved g c =
    let inside : c.mixed_context-context.result < length c.loop-offset.contexts = inside-states c.mixed_context-context.result (length c.args.contexts.now) _ _ c.mixed_context-context.ensures.bound c.requires.contexts c.loop-offset.auto.contexts in
    let stored : c.store_pixels.new.self ≡ with_pixels c.loop-offset.bitmap (c.args.place.x + c.loop-offset.offset) c.args.place.y 1 c.decode-symbol.result = c.store_pixels.ensures.value ∙ ap (λ (n : ℕ). with_pixels c.loop-offset.bitmap (c.args.place.x + c.loop-offset.offset) c.args.place.y 1 n) c.from.ensures in
    let steps = c.store_pixels.ensures.steps ∙ ap (λ (s : Counts). let made : Counts = record s { words = s.words + 1 } in made) (c.decode-symbol.ensures.steps ∙ ap (λ (s : Counts). let made : Counts = record s { decisions = s.decisions + 1 } in made) c.mixed_context-context.ensures.steps) in
    record {
      width = ap (λ (q : Grid). q.width) stored ∙ c.loop-offset.invariant.width;
      height = ap (λ (q : Grid). q.height) stored ∙ c.loop-offset.invariant.height;
      bytes = ap (λ d. d.bytes) c.decode-symbol.ensures.coder ∙ c.loop-offset.invariant.bytes;
      few = omega arith;
      above =
          same-above-then c.args.bitmap.now c.loop-offset.bitmap c.store_pixels.new.self c.args.place.y c.loop-offset.invariant.above
          (subst (λ (q : Grid). SameAbove c.loop-offset.bitmap q c.args.place.y) (sym stored) (stored-above c.loop-offset.bitmap (c.args.place.x + c.loop-offset.offset) c.args.place.y 1 c.decode-symbol.result));
      left =
          subst (λ (q : Grid). IsLeft q (c.args.place.x + (c.loop-offset.offset + 1)) c.args.place.y ((c.loop-offset.left * 2 + c.decode-symbol.result) % 16)) (sym stored)
          (left-pixel c.loop-offset.bitmap c.args.place.x c.args.place.y c.loop-offset.offset c.loop-offset.left c.decode-symbol.result _ c.decode-symbol.ensures.value (omega arith) (omega arith) c.loop-offset.invariant.left);
      has_decoded =
          decodes-pixel (mixed_pixels c.args.neighbours c.args.adaptive.now) c.args.place.x c.args.place.y c.loop-offset.offset c.args.bitmap.now c.loop-offset.bitmap c.store_pixels.new.self c.args.decoder.now c.loop-offset.decoder c.decode-symbol.new.self c.args.contexts.now c.loop-offset.contexts c.mixed_context-context.result c.decode-symbol.result c.index-contexts-context.result c.decode-symbol.new.context
          c.loop-offset.invariant.has_decoded (omega arith) (omega arith) c.mixed_context-context.ensures.value inside stored c.decode-symbol.ensures.value c.decode-symbol.ensures.coder c.decode-symbol.ensures.context;
      decisions = ap (λ (s : Counts). s.decisions) steps ∙ omega (arith, c.loop-offset.invariant.decisions);
      words = ap (λ (s : Counts). s.words) steps ∙ omega (arith, c.loop-offset.invariant.words);
      run_tests = ap (λ (s : Counts). s.run_tests) steps ∙ c.loop-offset.invariant.run_tests;
      lanes = record { groups = ap (λ (s : Counts). s.groups) steps ∙ c.loop-offset.invariant.lanes.groups; pixels = ap (λ (s : Counts). s.pixels) steps ∙ c.loop-offset.invariant.lanes.pixels; cleared = ap (λ (s : Counts). s.cleared) steps ∙ c.loop-offset.invariant.lanes.cleared };
      loads = ap (λ (s : Counts). s.loads) steps ∙ omega (arith, c.loop-offset.invariant.loads);
    }
