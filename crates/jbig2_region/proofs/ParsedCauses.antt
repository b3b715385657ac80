-- Why a call that parses refuses: its definition's error is the call's.
use Rattle.std.proofs.Common.{◌≡◌, List, ℕ, Result, Err}
use Rattle.std.specs.Prelude.{IfErr}
use Rattle.jbig2_base.specs.Bits.{Place}
use Rattle.jbig2_base.specs.Fields.{Parses}
use Rattle.jbig2_base.specs.declared.error.DecodeError.{DecodeError}
use Rattle.jbig2_base.proofs.CauseSteps.{err-answers}

pub err-parses : {X Y : Type 0} {old new : Place} {r : Result X DecodeError} {view : X → Y} {meant : Result (Y × List ℕ) DecodeError}
    → Parses old new r view meant → IfErr r (λ e. meant ≡ Err e)
err-parses {X} {Y} {old} {new} {r} {view} {meant} parses = err-answers (λ x. (view x, new.bytes)) r meant parses.value
