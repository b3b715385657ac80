-- Which rule the sides of a bitmap break.
use Rattle.std.proofs.Common.{◌≡◌, ℕ, ◌*◌, ◌<◌, false, ltb, Result, Ok, Err, inl, inr, ⊎_elim}
use Rattle.std.specs.Prelude.{◌⊎◌, ◌||◌, IfErr}
use Rattle.std.proofs.lemmas.Bool.{or_cases, ltb-true}
use Rattle.jbig2_base.specs.Results.{◌>>=◌, Gives, refuse_if}
use Rattle.jbig2_base.specs.Causes.{HasCauseOrNoMemory, BreaksSides, BreaksArea}
use Rattle.jbig2_base.specs.Grid.{blank_or_overflow, wide_or_overflow}
use Rattle.jbig2_base.specs.declared.error.DecodeError.{DecodeError}
use Rattle.jbig2_base.specs.declared.error.DecodeError.TheVariants.{OutOfMemory, Overflow}
use Rattle.jbig2_base.specs.declared.error.OverflowError.TheVariants.{BitmapDimension}
use Rattle.jbig2_base.proofs.Causes.{cause-next, cause-refused}
use Rattle.jbig2_base.proofs.CauseSteps.{call-cause-or-memory}

sides-cause : {A : Type 0} (w h : ℕ) (x : Unit {0} → Result A DecodeError) → IfErr (x tt) (BreaksSides w h) → IfErr (refuse_if (ltb 65535 w || ltb 65535 h) (Overflow BitmapDimension) >>= x) (BreaksSides w h)
sides-cause w h x rest =
    let P : DecodeError → Type 0 = BreaksSides w h in
    cause-next P (refuse_if (ltb 65535 w || ltb 65535 h) (Overflow BitmapDimension)) x
    (cause-refused P (ltb 65535 w || ltb 65535 h) (Overflow BitmapDimension)
    (λ long. ⊎_elim {C = (65535 < w) ⊎ (65535 < h)} (λ l. inl (ltb-true 65535 w l)) (λ r. inr (ltb-true 65535 h r)) (or_cases (ltb 65535 w) (ltb 65535 h) long)))
    (λ y is. rest)

-- its colour is no matter
pub blank_cause : {X : Type 0} (w h : ℕ) (r : Result X DecodeError) → IfErr r (λ e. (e ≡ OutOfMemory) ⊎ (blank_or_overflow w h false ≡ Err e)) → HasCauseOrNoMemory r (BreaksSides w h)
blank_cause w h r = call-cause-or-memory (BreaksSides w h) (blank_or_overflow w h false) r (sides-cause w h _ tt)

-- where no rule is broken, memory ran out
pub memory-alone : {X Y : Type 0} (P : DecodeError → Type 0) (view : X → Y) (r : Result X DecodeError) (y : Y) → Gives view r (Ok y) → HasCauseOrNoMemory r P
unfolding HasCauseOrNoMemory
memory-alone P view (Ok x) y is = tt
memory-alone {X} {Y} P view (Err e) y is =
    ⊎_elim {C = (e ≡ OutOfMemory) ⊎ P e} (λ memory. inl memory) (λ same. absurd (let never : ◌≡◌ {A = Result Y DecodeError} (Ok y) (Err e) = same in cc)) is

pub wide_cause : {X : Type 0} (w h : ℕ) (r : Result X DecodeError) → IfErr r (λ e. (e ≡ OutOfMemory) ⊎ (wide_or_overflow w h ≡ Err e)) → HasCauseOrNoMemory r (BreaksArea w h)
wide_cause w h r =
    call-cause-or-memory (BreaksArea w h) (wide_or_overflow w h) r
    (cause-next (BreaksArea w h) (refuse_if (ltb (65535 * 65535) (w * h)) (Overflow BitmapDimension)) _
    (cause-refused (BreaksArea w h) (ltb (65535 * 65535) (w * h)) (Overflow BitmapDimension) (λ large. ltb-true (65535 * 65535) (w * h) large)) (λ y is. tt))
