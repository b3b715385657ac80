-- The work that a caller allows for some calls (our own rule): how many units, how many of them are left, and how many
-- steps these calls have counted.
use Rattle.std.specs.Prelude.{◌≡◌, ◌+◌, ◌-◌, ◌*◌, ◌^◌, ◌≤◌, ℕ, List, Option, option_map, unwrap_or, Result, IfOk}
use Rattle.jbig2_framing.specs.Segment.{SegmentView}
use Rattle.jbig2_base.specs.declared.error.DecodeError.{DecodeError}
use Rattle.jbig2_framing.specs.declared.file_header.FileHeader.{FileHeader}
use Rattle.jbig2_steps.specs.Work.{sum_of_counts}
use Rattle.jbig2_steps.specs.declared.work.Work.{Work}
use Rattle.jbig2_steps.specs.declared.prices.TheConstants as prices
use Rattle.jbig2_page.specs.Files.{ReadFile, of_page}
use Rattle.jbig2_page.specs.SharedWork.{shared_count}

pub record Limit : Type 0 where
  pub units : Option ℕ  -- how many were allowed, if there is a limit
  pub left : ℕ
  pub steps : ℕ

abbrev pub units_of : Option ℕ → ℕ  -- without a limit there are as many units as a counter can hold
units_of limit = unwrap_or limit (2 ^ 64 - 1)

-- what was counted is at most what the units of a limit pay for
abbrev pub IsWithin : Option ℕ → ℕ → Type 0
IsWithin limit steps = steps ≤ 32 * units_of limit

abbrev pub limit_of : Option ℕ → Limit  -- before the first call
limit_of units = record { units = units; left = units_of units; steps = 0 }

abbrev pub units_left : Limit → Option ℕ
units_left limit = option_map (λ _. limit.left) limit.units

-- A call took at least this many units besides those that pay for the steps that it counted, 32 for each unit.
abbrev pub TakesUnits : ℕ → Limit → Limit → Type 0
TakesUnits units old new = (new.units ≡ old.units) × (new.steps + 32 * (new.left + units) ≤ old.steps + 32 * old.left)

abbrev pub after_call : {L : Type 0} → Work L → Limit → Limit  -- after a call with this counter
after_call work limit = record limit { left = work.left; steps = limit.steps + sum_of_counts work.steps }

-- ---- files
-- Opening a file with these segments took at least the price of each one that is decoded, if none of them fails.
abbrev pub TakesShared : Result (FileHeader × List SegmentView) DecodeError → ReadFile → Limit → Limit → Type 0
TakesShared file book old new =
    IfOk file (λ (header, segments).
    IfOk book.globals (λ shared. TakesUnits (prices.SEGMENT * shared_count book.pages (of_page 0 segments)) old new))
