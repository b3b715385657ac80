-- What a reading passed over (docs/FORMAT.md, 12.2 and 12.7): how many segments, and the number and the error of the
-- first one.
use Rattle.std.specs.Prelude.{Err, None, Ok, Option, Result, Some, ℕ, ◌+◌}
use Rattle.std.specs.Option.{option_or}
use Rattle.jbig2_base.specs.declared.error.DecodeError.{DecodeError}
use Rattle.jbig2_page.specs.declared.passed_over.PassedOver.{PassedOver}

abbrev pub nothing_passed : PassedOver
nothing_passed = record { count = 0; first = None }

-- Counts one more segment that was passed over. Its number, if it is known, and its error are kept only if it is the
-- first.
abbrev pub with_passed : Option ℕ → DecodeError → PassedOver → PassedOver
with_passed number e passed = record {
  count = passed.count + 1;
  first = option_or passed.first (Some (record { segment_number = number; error = e }));
}

abbrev pub fault_of : {X : Type 0} → Result X DecodeError → Option DecodeError  -- what a result is refused for
fault_of (Ok x) = None
fault_of (Err e) = Some e

-- What strict reading refuses counts as passed over too, though it is kept or drawn (our own rule).
abbrev pub with_fault : Option DecodeError → ℕ → PassedOver → PassedOver
with_fault None number passed = passed
with_fault (Some e) number passed = with_passed (Some number) e passed
