use Rattle.std.proofs.Common.{arith, ◌≡◌, ◌+◌, ◌-◌, ℕ, drop, length, refl, ap, ◌∙◌}
use Rattle.jbig2_region.specs.Generic.{context_at}
use Rattle.jbig2_region.specs.Templates.{right}
use Rattle.jbig2_region.proofs.ContextLemmas.{context-step, context-none, context-lt, context-small}
use Rattle.jbig2_region.proofs.StepLemmas.{no-loads, more-loads}
use Rattle.jbig2_region.proofs.pixel_context.context_at.Goals as goal

pub loop-left-init : goal.loop-left-init
loop-left-init g c = record { within = omega arith; steps = no-loads _ _ (omega arith); value = context-none c.args.pixels.now c.args.bitmap.now c.args.x c.args.y }

pub overflow_mul-context : goal.overflow_mul-context
overflow_mul-context g c = omega (arith, context-small c.args.pixels.now c.args.bitmap.now c.args.x c.args.y c.loop-left.left c.requires.few)

pub overflow_add-context : goal.overflow_add-context
overflow_add-context g c = omega (arith, context-small c.args.pixels.now c.args.bitmap.now c.args.x c.args.y c.loop-left.left c.requires.few)

pub loop-left-preserved : goal.loop-left-preserved
loop-left-preserved g c =
    let next : c.loop-left.left ≡ c.loop-left.left - 1 + 1 = omega arith in
    record {
      within = omega arith;
      steps = more-loads c.args.steps.now c.loop-left.steps c.pixel_near.new.steps (length c.args.pixels.now - c.loop-left.left) 1 _ c.loop-left.invariant.steps c.pixel_near.ensures.steps (omega arith);
      value =
          context-step c.args.pixels.now c.args.bitmap.now c.args.x c.args.y (c.loop-left.left - 1) (right 0 0) c.loop-left.context c.from.result (omega arith)
          (c.loop-left.invariant.value ∙ ap (λ (k : ℕ). context_at (drop k c.args.pixels.now) c.args.bitmap.now c.args.x c.args.y) next)
          (c.from.ensures ∙ c.pixel_near.ensures.value);
    }

pub returns-clause-small : goal.returns-clause-small
returns-clause-small g c =
    let all : c.loop-left.left ≡ 0 = omega arith in
    let value : c.loop-left.context ≡ context_at c.args.pixels.now c.args.bitmap.now c.args.x c.args.y = c.loop-left.invariant.value ∙ ap (λ (k : ℕ). context_at (drop k c.args.pixels.now) c.args.bitmap.now c.args.x c.args.y) all in
    rw value (context-lt c.args.pixels.now c.args.bitmap.now c.args.x c.args.y)

pub returns-clause-steps : goal.returns-clause-steps
returns-clause-steps g c = more-loads c.args.steps.now c.loop-left.steps c.loop-left.steps (length c.args.pixels.now - c.loop-left.left) 0 _ c.loop-left.invariant.steps (no-loads _ _ refl) (omega arith)
