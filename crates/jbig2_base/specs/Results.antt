-- What a definition gives: a value or the first error, and never `OutOfMemory`. Its steps follow each other by `>>=`,
-- so the errors come in the order of the steps. Then: how the result of a call compares with that (our own rule).
use Rattle.std.specs.Prelude.{◌≡◌, Bool, true, false, Option, Some, None, Result, Ok, Err, ◌⊎◌, nat_lt, ℤ, if◌then◌else◌, pos, negsuc}
use Rattle.jbig2_base.specs.declared.error.DecodeError.{DecodeError}
use Rattle.jbig2_base.specs.declared.error.DecodeError.TheVariants.{OutOfMemory}

infixl 10 ◌>>=◌
-- the next step, unless the step before refused
abbrev pub ◌>>=◌ : {A B E : Type 0} → Result A E → (A → Result B E) → Result B E
(Ok x) >>= next = next x
(Err e) >>= next = Err e

abbrev pub refuse_if : Bool → DecodeError → Result (Unit {0}) DecodeError
refuse_if true e = Err e
refuse_if false e = Ok tt

abbrev pub some_or : {A : Type 0} → DecodeError → Option A → Result A DecodeError
some_or e None = Err e
some_or e (Some x) = Ok x

-- The result of a call, seen by `view`, is what was meant, unless memory ran out.
abbrev pub Gives : {X Y : Type 0} → (X → Y) → Result X DecodeError → Result Y DecodeError → Type 0
Gives view (Ok x) meant = meant ≡ Ok (view x)
Gives view (Err e) meant = (e ≡ OutOfMemory) ⊎ (meant ≡ Err e)

-- the same for a call that takes no memory
abbrev pub Returns : {X Y : Type 0} → (X → Y) → Result X DecodeError → Result Y DecodeError → Type 0
Returns view (Ok x) meant = meant ≡ Ok (view x)
Returns view (Err e) meant = meant ≡ Err e

-- The state that a call leaves is what was meant, unless memory ran out.
abbrev pub Leaves : {X Y : Type 0} → Result X DecodeError → Y → Y → Type 0
Leaves (Ok x) left meant = left ≡ meant
Leaves (Err e) left meant = (e ≡ OutOfMemory) ⊎ (left ≡ meant)

abbrev pub word_or : DecodeError → ℤ → Result ℤ DecodeError  -- a number that fits signed 32 bits, or the error
word_or e (pos n) = if nat_lt n 2147483648 then Ok (pos n) else Err e
word_or e (negsuc n) = if nat_lt n 2147483648 then Ok (negsuc n) else Err e
