-- What is read after others.
use Rattle.std.proofs.Common.{◌≡◌, List, [], ◌∷◌, ◌++◌, Result, Ok, Err, refl, sym, ap, ◌∙◌, append_assoc}
use Rattle.jbig2_base.specs.Results.{◌>>=◌}
use Rattle.jbig2_base.specs.declared.error.DecodeError.{DecodeError}
use Rattle.jbig2_symbol.specs.inner.FunctionResults.{concat}

pub concat-cons : {X S : Type 0} (before : List X) (x : X) (result : Result (List X × S) DecodeError) → concat before (result >>= λ others. Ok (x ∷ others.0, others.1)) ≡ concat (before ++ x ∷ []) result
concat-cons {X = X} before x (Ok others) = ap (λ (all : List X). Ok (all, others.1)) (sym (append_assoc before (x ∷ []) others.0))
concat-cons before x (Err e) = refl

concat-none : {X S : Type 0} (result : Result (List X × S) DecodeError) → concat [] result ≡ result
concat-none (Ok others) = refl
concat-none (Err e) = refl

pub concat-start : {X S : Type 0} (before : List X) (result : Result (List X × S) DecodeError) → before ≡ [] → concat before result ≡ result
concat-start {X = X} before result none = ap (λ (all : List X). concat all result) none ∙ concat-none result
