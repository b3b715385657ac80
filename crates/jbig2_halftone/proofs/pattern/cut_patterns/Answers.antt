use Rattle.std.proofs.Common.{◌∙◌, ◌+◌, ◌*◌, ◌/◌, ℕ, ap, refl, arith}
use Rattle.jbig2_base.specs.Counts.{words_made}
use Rattle.jbig2_halftone.specs.inner.FunctionResults.{patterns_cut}
use Rattle.jbig2_halftone.proofs.DrawSteps.{on-any}
use Rattle.jbig2_halftone.proofs.PatternLemmas.{cut-made, cut-more, cut-some, none-cut, patterns_of-none, patterns_of-pushed}
use Rattle.jbig2_halftone.proofs.pattern.cut_patterns.Goals as goal

pub loop-k-init : goal.loop-k-init
loop-k-init g c = record {
  cut = c.new-patterns.ensures.items ∙ patterns_of-none c.args.collective.now c.args.width c.args.height;
  steps = none-cut 0 0 ((c.args.width + 63) / 64 * c.args.height) (words_made c.args.width c.args.height) c.args.steps.now refl refl;
}

pub loop-k-preserved : goal.loop-k-preserved
loop-k-preserved g c =
    let words : ℕ = (c.args.width + 63) / 64 * c.args.height in
    let cleared : ℕ = words_made c.args.width c.args.height in
    record {
      cut = patterns_of-pushed c.args.collective.now c.args.width c.args.height c.loop-k.k c.loop-k.patterns.items c.push.new.self.items c.in_ok-cut_pattern.field-0 c.loop-k.invariant.cut c.in_ok-cut_pattern.ensures.value c.in_ok-push.ensures.items;
      steps = cut-more c.loop-k.k c.loop-k.k (c.loop-k.k + 1) (c.loop-k.k + 1) words cleared c.args.steps.now c.loop-k.steps c.cut_pattern.new.steps c.loop-k.invariant.steps c.in_ok-cut_pattern.ensures.steps refl refl;
    }

pub returns-clause-steps : goal.returns-clause-steps
returns-clause-steps g c = c.loop-k.invariant.steps ∙ ap (λ (k : ℕ). patterns_cut k k (words_made c.args.width c.args.height) ((c.args.width + 63) / 64 * c.args.height) c.args.steps.now) (omega arith)

pub returns-in_err-push-clause-stopped : goal.returns-in_err-push-clause-stopped
returns-in_err-push-clause-stopped g c =
    let words : ℕ = (c.args.width + 63) / 64 * c.args.height in
    let cleared : ℕ = words_made c.args.width c.args.height in
    on-any c.from_residual-in_err-push.result _
    (cut-some c.args.count cleared words (c.loop-k.k + 1) (c.loop-k.k + 1) c.args.steps.now c.cut_pattern.new.steps (omega arith) (omega arith)
    (cut-more c.loop-k.k c.loop-k.k (c.loop-k.k + 1) (c.loop-k.k + 1) words cleared c.args.steps.now c.loop-k.steps c.cut_pattern.new.steps c.loop-k.invariant.steps c.in_ok-cut_pattern.ensures.steps refl refl))

pub returns-in_err-cut_pattern-clause-stopped : goal.returns-in_err-cut_pattern-clause-stopped
returns-in_err-cut_pattern-clause-stopped g c =
    let words : ℕ = (c.args.width + 63) / 64 * c.args.height in
    let cleared : ℕ = words_made c.args.width c.args.height in
    on-any c.from_residual-in_err-cut_pattern.result _
    (cut-some c.args.count cleared words (c.loop-k.k + 1) c.loop-k.k c.args.steps.now c.cut_pattern.new.steps (omega arith) (omega arith)
    (cut-made c.loop-k.k c.loop-k.k (c.loop-k.k + 1) words cleared c.args.steps.now c.loop-k.steps c.cut_pattern.new.steps c.loop-k.invariant.steps c.in_err-cut_pattern.ensures.stopped refl))

pub returns-in_err-clone-clause-stopped : goal.returns-in_err-clone-clause-stopped
returns-in_err-clone-clause-stopped g c =
    on-any c.from_residual.result _ (cut-some c.args.count (words_made c.args.width c.args.height) ((c.args.width + 63) / 64 * c.args.height) 0 0 c.args.steps.now c.args.steps.now (omega arith) (omega arith) (none-cut 0 0 ((c.args.width + 63) / 64 * c.args.height) (words_made c.args.width c.args.height) c.args.steps.now refl refl))
