-- Which rule the number of a combination operator breaks.
use Rattle.std.proofs.Common.{◌≡◌, ℕ, eqb, Result, Err, arith}
use Rattle.std.specs.Prelude.{IfErr}
use Rattle.std.proofs.lemmas.Bool.{cond_both, eqb-false}
use Rattle.jbig2_base.specs.Causes.{HasCause, BreaksOperator}
use Rattle.jbig2_base.specs.Combination.{operator_of}
use Rattle.jbig2_base.specs.declared.bitmap.operator.CombinationOperator.{CombinationOperator}
use Rattle.jbig2_base.specs.declared.error.DecodeError.{DecodeError}
use Rattle.jbig2_base.proofs.CauseSteps.{call-cause}

operator_causes : (n : ℕ) → IfErr (operator_of n) (BreaksOperator n)
operator_causes n =
    let P : Result CombinationOperator DecodeError → Type 0 = λ r. IfErr r (BreaksOperator n) in
    cond_both (eqb n 0) _ _ P (λ is. tt) (λ n0.
    cond_both (eqb n 1) _ _ P (λ is. tt) (λ n1.
    cond_both (eqb n 2) _ _ P (λ is. tt) (λ n2.
    cond_both (eqb n 3) _ _ P (λ is. tt) (λ n3.
    cond_both (eqb n 4) _ _ P (λ is. tt) (λ n4.
    omega (arith, eqb-false n 0 n0, eqb-false n 1 n1, eqb-false n 2 n2, eqb-false n 3 n3, eqb-false n 4 n4))))))

pub operator_cause : {X : Type 0} (n : ℕ) (r : Result X DecodeError) → IfErr r (λ e. operator_of n ≡ Err e) → HasCause r (BreaksOperator n)
operator_cause n r = call-cause (BreaksOperator n) (operator_of n) r (operator_causes n)
