-- The rule that the bytes break where a call refuses them (docs/FORMAT.md), one line for each error. A predicate
-- `Breaks..` takes the bytes and an error. The function that refuses states by `HasCause` that its error has that
-- cause.
use Rattle.std.specs.Prelude.{◌≡◌, ◌<◌, ◌≤◌, ◌*◌, ◌^◌, ◌⊎◌, ℕ, ℤ, pos, negsuc, List, take, drop, Result, Ok, IfErr}
use Rattle.std.specs.Int.{Width, byte_len, from_be_bytes}
use Rattle.jbig2_base.specs.Grid.{max_side}
use Rattle.jbig2_base.specs.declared.error.DecodeError.{DecodeError}
use Rattle.jbig2_base.specs.declared.error.DecodeError.TheVariants.{OutOfMemory, Region, Overflow}
use Rattle.jbig2_base.specs.declared.error.OverflowError.TheVariants.{BitmapDimension}
use Rattle.jbig2_base.specs.declared.error.RegionError.TheVariants.{InvalidCombinationOperator}

-- If this call refuses its input, the input breaks the rule that `Breaks` gives for the error.
unfoldable pub HasCause : {X : Type 0} → Result X DecodeError → (DecodeError → Type 0) → Type 0
HasCause result Breaks = IfErr result Breaks

-- the same for a call that may run out of memory, which is no fault of the input
unfoldable pub HasCauseOrNoMemory : {X : Type 0} → Result X DecodeError → (DecodeError → Type 0) → Type 0
HasCauseOrNoMemory result Breaks = IfErr result (λ e. (e ≡ OutOfMemory) ⊎ Breaks e)

-- the call succeeded, and this holds for its value
abbrev pub After : {A : Type 0} → Result A DecodeError → (A → Type 0) → Type 0
After {A} r P = (x : A) × (r ≡ Ok x) × P x

abbrev pub number_in : Width → ℕ → List ℕ → ℕ  -- the number at this byte, high byte first
number_in w place bytes = from_be_bytes w (take (byte_len w) (drop place bytes))

abbrev pub LeavesWord : ℤ → Type 0  -- a number that does not fit signed 32 bits
LeavesWord (pos n) = 2 ^ 31 ≤ n
LeavesWord (negsuc n) = 2 ^ 31 ≤ n

abbrev pub BreaksOperator : ℕ → DecodeError → Type 0  -- a combination operator (7.4.1.5)
BreaksOperator n (Region InvalidCombinationOperator) = 5 ≤ n
BreaksOperator n _ = ⊥

-- ---- bitmaps (our own rule)
abbrev pub BreaksSides : ℕ → ℕ → DecodeError → Type 0
BreaksSides width height (Overflow BitmapDimension) = (max_side < width) ⊎ (max_side < height)
BreaksSides width height _ = ⊥

abbrev pub BreaksArea : ℕ → ℕ → DecodeError → Type 0
BreaksArea width height (Overflow BitmapDimension) = max_side * max_side < width * height
BreaksArea width height _ = ⊥
