-- How the state of a call relates to what it has read so far (our own rule).
use Rattle.std.specs.Prelude.{◌≡◌, ℕ, ◌+◌, ◌*◌, ◌%◌, nat_lt, if◌then◌else◌, Bool, List, length}
use Rattle.jbig2_base.specs.Counts.{Counts}
use Rattle.jbig2_base.specs.Bits.{bit_number}
use Rattle.jbig2_coder.specs.Coder.{Coder, Context}
use Rattle.jbig2_coder.specs.Integers.{Reading, prev_of}

-- `place` is the number of the next context, `steps` the counts since `start`
pub record HasRead (name : List Bool → ℕ) (start : Counts) (r : Reading) (place : ℕ) (coder : Coder)
    (contexts : List Context) (steps : Counts) : Type 0 where
  pub named : place ≡ name r.bits
  pub registers : coder.registers ≡ r.registers
  pub learned : contexts ≡ r.contexts
  pub counted : steps ≡ record start { decisions = start.decisions + length r.bits }

-- What a call states about an integer's bits, after any number of them.
abbrev pub IfRead : (Reading → Type 0) → ℕ → Coder → List Context → Counts → Type 0
IfRead claim prev coder contexts steps =
    (start : Counts) (r : Reading) → HasRead prev_of start r prev coder contexts steps → claim r

-- The same relation holds again after the call has read more bits.
abbrev pub ReadsOn : (Reading → Reading) → ℕ → Coder → List Context → Counts → ℕ → Coder → List Context → Counts → Type 0
ReadsOn on prev coder contexts steps prev' coder' contexts' steps' =
    (start : Counts) (r : Reading) → HasRead prev_of start r prev coder contexts steps →
    HasRead prev_of start (on r) prev' coder' contexts' steps'

-- PREV after one more bit; it grows until it has eight bits after its 1
unfoldable pub prev_next : ℕ → Bool → ℕ
prev_next prev bit =
    let grown = 2 * prev + bit_number bit in
    if nat_lt prev 256 then grown else 256 + grown % 256
