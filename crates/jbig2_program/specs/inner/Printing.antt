-- What a printer, the Decoder that writes a line for each call, does with one call (our own rule), and an output with
-- its buffer. The predicates take what the output held before and after, where that is known, and the call's result.
use Rattle.std.specs.Prelude.{◌≡◌, ◌⊎◌, ℕ, ◌+◌, ◌-◌, ◌^◌, Bool, true, false, List, Option, None, Result, Ok, Err}
use Rattle.std.specs.Prelude.{if◌then◌else◌}
use Rattle.std.specs.Borrow.{GName}
use Rattle.std.specs.Io.KnownBytes.{Appends, Keeps, append_known}
use Rattle.jbig2_base.specs.declared.error.DecodeError.{DecodeError}
use Rattle.jbig2_base.specs.declared.error.DecodeError.TheVariants.{OutOfMemory, Unsupported}
use Rattle.jbig2_program.specs.declared.output.Output.{Output}

-- the bytes of the output and then those that are not yet written, where the first are known
abbrev pub data_of : {O A : Type 0} → (O → Option (List ℕ)) → Output O A → Option (List ℕ)
data_of contents output = append_known (contents output.out.now) output.held.items

-- which output it is
abbrev pub output_id : {O A : Type 0} → Output O A → GName
output_id output = output.out.ghost_name

-- all of the bytes are added, or nothing changes
abbrev pub AppendsIf : Bool → Option (List ℕ) → Option (List ℕ) → List ℕ → Type 0
AppendsIf true old new bytes = Appends old new bytes
AppendsIf false old new bytes = Keeps old new

-- one more refusal is counted if a call was not taken
abbrev pub CountsRefusal : Bool → Result (Unit {0}) DecodeError → ℕ → ℕ → Type 0
CountsRefusal true (Ok u) old new = new ≡ old
CountsRefusal false (Err e) old new = (new ≡ old + 1) × (e ≡ Unsupported)
CountsRefusal _ _ old new = ⊥

-- what is known of an output, where a proof says that its bytes are known
abbrev pub known_if : Bool → Option (List ℕ) → Option (List ℕ)
known_if is_known known = if is_known then known else None

-- Where a proof says that the output's bytes are known, and they no longer are, the printer counts as one that can't
-- refuse any more.
abbrev pub refusals_if : Bool → Option (List ℕ) → ℕ → ℕ
refusals_if true None count = 2 ^ 64 - 1
refusals_if _ known count = count

-- Decoding alone adds what was meant, as `Prints` has it, where no output fails.
abbrev pub AddsMeant : Result (List ℕ) DecodeError → Result (Unit {0}) DecodeError → Option (List ℕ) → Option (List ℕ) → Type 0
AddsMeant (Ok bytes) (Ok u) old new = Appends old new bytes
AddsMeant (Err e) (Ok u) old new = ⊥
AddsMeant meant (Err e) old new = ((e ≡ OutOfMemory) ⊎ (meant ≡ Err e)) × Keeps old new
