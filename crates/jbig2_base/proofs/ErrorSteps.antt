-- Why a definition whose steps follow each other is refused: each step has its law. Memory may be among the causes of a
-- step; at the end it is ruled out.
use Rattle.std.proofs.Common.{◌≡◌, ◌⊎◌, inl, inr, ℕ, Bool, true, false, cond, Result, Ok, Err, refl, subst}
use Rattle.std.specs.Prelude.{IfErr}
use Rattle.jbig2_base.specs.Results.{◌>>=◌, refuse_if}
use Rattle.jbig2_base.specs.Causes.{BreaksSides, HasCause, HasCauseOrNoMemory}
use Rattle.jbig2_base.specs.Grid.{blank, blank_or_overflow, check_sides}
use Rattle.jbig2_base.specs.declared.error.DecodeError.{DecodeError}
use Rattle.jbig2_base.specs.declared.error.DecodeError.TheVariants.{OutOfMemory}
use Rattle.jbig2_base.proofs.BitmapCauses.{blank_cause}
use Rattle.jbig2_base.proofs.FromInput.{FromInput, IsFromInput}

abbrev pub OrMemory : (DecodeError → Type 0) → DecodeError → Type 0
OrMemory P e = (e ≡ OutOfMemory) ⊎ P e

-- if it is refused, this is why
abbrev pub Refused : {A : Type 0} → Result A DecodeError → (DecodeError → Type 0) → Type 0
Refused r P = IfErr r (OrMemory P)

-- ---- the laws of calls, for their definitions
pub itself : {A : Type 0} (r : Result A DecodeError) → IfErr r (λ e. r ≡ Err e)
itself (Ok x) = tt
itself (Err e) = refl

pub itself_or_memory : {A : Type 0} (r : Result A DecodeError) → IfErr r (λ e. (e ≡ OutOfMemory) ⊎ (r ≡ Err e))
itself_or_memory (Ok x) = tt
itself_or_memory (Err e) = inr refl

pub with-memory : {A : Type 0} (P : DecodeError → Type 0) (r : Result A DecodeError) → IfErr r P → Refused r P
with-memory P (Ok x) is = tt
with-memory P (Err e) is = inr is

pub refused-by : {A : Type 0} (P : DecodeError → Type 0) (r : Result A DecodeError) → HasCause r P → Refused r P
unfolding HasCause
refused-by P r is = with-memory P r is

pub refused-or : {A : Type 0} (P : DecodeError → Type 0) (r : Result A DecodeError) → HasCauseOrNoMemory r P → Refused r P
unfolding HasCauseOrNoMemory
refused-or P r is = is

-- what no memory refuses
pub without-memory : {A : Type 0} (P : DecodeError → Type 0) (r : Result A DecodeError) → Refused r P → FromInput r → IfErr r P
without-memory P (Ok x) is input = tt
without-memory P (Err e) (inl memory) input = absurd (subst IsFromInput memory input)
without-memory P (Err e) (inr why) input = why

-- ---- steps
pub or-more : (P Q : DecodeError → Type 0) (e : DecodeError) → (P e → Q e) → OrMemory P e → OrMemory Q e
or-more P Q e more (inl memory) = inl memory
or-more P Q e more (inr why) = inr (more why)

pub more : {A : Type 0} (P Q : DecodeError → Type 0) (r : Result A DecodeError) → Refused r P → ((e : DecodeError) → P e → Q e) → Refused r Q
more P Q (Ok x) is why = tt
more P Q (Err e) is why = or-more P Q e (why e) is

pub step : {A B : Type 0} (P Q : DecodeError → Type 0) (r : Result A DecodeError) (next : A → Result B DecodeError)
    → Refused r P → ((e : DecodeError) → P e → Q e) → ((x : A) → r ≡ Ok x → Refused (next x) Q) → Refused (r >>= next) Q
step P Q (Ok x) next is why rest = rest x refl
step P Q (Err e) next is why rest = or-more P Q e (why e) is

pub if-refused : {A : Type 0} (P : DecodeError → Type 0) (b : Bool) (r s : Result A DecodeError) → (b ≡ true → Refused r P) → (b ≡ false → Refused s P) → Refused (cond b r s) P
if-refused P true r s at_true at_false = at_true refl
if-refused P false r s at_true at_false = at_false refl

pub refusal : (P : DecodeError → Type 0) (b : Bool) (e : DecodeError) → (b ≡ true → P e) → Refused (refuse_if b e) P
refusal P true e why = inr (why refl)
refusal P false e why = tt

-- a side above 65535
last-dropped : {B : Type 0} (P : DecodeError → Type 0) (x : B) (r : Result (Unit {0}) DecodeError) → Refused (r >>= λ _. (let y : Result B DecodeError = Ok x in y)) P → Refused r P
last-dropped P x (Ok u) is = tt
last-dropped P x (Err e) is = is

pub sides : (w h : ℕ) → Refused (check_sides w h) (BreaksSides w h)
sides w h = last-dropped (BreaksSides w h) (blank w h false) (check_sides w h) (refused-or (BreaksSides w h) (blank_or_overflow w h false) (blank_cause w h (blank_or_overflow w h false) (itself_or_memory (blank_or_overflow w h false))))
