use Rattle.std.proofs.Common.{◌==◌, ◌∙◌, sym, arith}
use Rattle.std.proofs.lemmas.Bool.{cond-false, cond-true, eq-eqb, ne_eqb}
use Rattle.jbig2_page.specs.Names.{first_kept}
use Rattle.jbig2_page.proofs.LeftLemmas.{left-first}
use Rattle.jbig2_page.proofs.kept.first_under.Goals as goal

pub loop-candidate-preserved : goal.loop-candidate-preserved
loop-candidate-preserved g c =
    let candidate = c.candidate-item.result in
    sym
    (left-first (λ left. first_kept c.args.number left) c.args.kept.now c.loop-candidate.candidate-index candidate (omega arith) c.candidate-item.is
    ∙ cond-false (candidate.segment_number == c.args.number) _ _ (ne_eqb _ _ c.if-candidate-number.false))
    ∙ c.loop-candidate.invariant

pub returns-then-candidate-number : goal.returns-then-candidate-number
returns-then-candidate-number g c =
    let candidate = c.candidate-item.result in
    sym
    (sym c.loop-candidate.invariant
    ∙ left-first (λ left. first_kept c.args.number left) c.args.kept.now c.loop-candidate.candidate-index candidate (omega arith) c.candidate-item.is
    ∙ cond-true (candidate.segment_number == c.args.number) _ _ (eq-eqb _ _ c.if-candidate-number.true))
