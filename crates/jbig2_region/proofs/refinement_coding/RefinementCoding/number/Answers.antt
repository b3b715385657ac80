use Rattle.std.proofs.Common.{arith, ◌≡◌, ℕ, ◌+◌, ◌-◌, length, drop, map, get_or, ◌++◌, refl, ap, ◌∙◌}
use Rattle.jbig2_base.specs.Bits.{number_of}
use Rattle.jbig2_region.specs.Refinement.{reference_pixel}
use Rattle.jbig2_region.specs.inner.ReferenceViews.{reference_view}
use Rattle.jbig2_region.specs.Templates.{right}
use Rattle.jbig2_region.proofs.RefinementLemmas.{number-step, number-none, bound-start, bound-step, bound-whole, digit-below}
use Rattle.jbig2_region.proofs.StepLemmas.{no-loads, more-loads}
use Rattle.jbig2_region.proofs.refinement_coding.RefinementCoding.number.Goals as goal

pub overflow_mul-number : goal.overflow_mul-number
overflow_mul-number g c = omega (arith, bound-whole c.loop-left.number c.loop-left.left c.loop-left.invariant.bound)

pub overflow_add-number : goal.overflow_add-number
overflow_add-number g c = omega (arith, bound-whole c.loop-left.number c.loop-left.left c.loop-left.invariant.bound)

pub loop-left-init : goal.loop-left-init
loop-left-init g c = record {
  within = omega arith;
  steps = no-loads _ _ (omega arith);
  bound = bound-start c.args.high (length c.args.pixels.now) c.requires.high c.requires.few;
  value = λ bits e. number-none (reference_view c.args.self.now.reference.now) c.args.x c.args.y c.args.pixels.now bits c.args.high e;
}

pub loop-left-preserved : goal.loop-left-preserved
loop-left-preserved g c =
    let next : c.loop-left.left ≡ c.loop-left.left - 1 + 1 = omega arith in
    record {
      within = omega arith;
      steps = more-loads c.args.steps.now c.loop-left.steps c.reference_pixel.new.steps (length c.args.pixels.now - c.loop-left.left) 1 _ c.loop-left.invariant.steps c.reference_pixel.ensures.steps (omega arith);
      bound = bound-step c.loop-left.number c.from.result c.loop-left.left c.loop-left.invariant.bound (rw (c.from.ensures, c.reference_pixel.ensures.value) (digit-below (reference_pixel (reference_view c.args.self.now.reference.now) c.args.x c.args.y (get_or c.args.pixels.now (c.loop-left.left - 1) (right 0 0))))) (omega arith) (omega arith);
      value = λ bits e.
          number-step (reference_view c.args.self.now.reference.now) c.args.x c.args.y c.args.pixels.now bits (c.loop-left.left - 1) (right 0 0) c.loop-left.number c.from.result (omega arith)
          (c.loop-left.invariant.value bits e ∙ ap (λ (k : ℕ). number_of (map (reference_pixel (reference_view c.args.self.now.reference.now) c.args.x c.args.y) (drop k c.args.pixels.now) ++ bits)) next)
          (c.from.ensures ∙ c.reference_pixel.ensures.value);
    }

pub returns-clause-value : goal.returns-clause-value
returns-clause-value g c = λ bits e.
    let all : c.loop-left.left ≡ 0 = omega arith in
    c.loop-left.invariant.value bits e ∙ ap (λ (k : ℕ). number_of (map (reference_pixel (reference_view c.args.self.now.reference.now) c.args.x c.args.y) (drop k c.args.pixels.now) ++ bits)) all

pub returns-clause-steps : goal.returns-clause-steps
returns-clause-steps g c = more-loads c.args.steps.now c.loop-left.steps c.loop-left.steps (length c.args.pixels.now - c.loop-left.left) 0 _ c.loop-left.invariant.steps (no-loads _ _ refl) (omega arith)
