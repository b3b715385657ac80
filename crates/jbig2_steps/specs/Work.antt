-- The work that is paid for, and the steps that are counted (our own rule; no part of the format). A unit of work pays
-- for 32 counts. The budget of a counter is what it has counted plus what its remaining units still pay for. A call
-- that does not raise the budget has paid for all that it counted.
use Rattle.std.specs.Prelude.{ℕ, ◌+◌, ◌*◌, ◌/◌, ◌≤◌, max}
use Rattle.jbig2_steps.specs.Counts.{Counts}
use Rattle.jbig2_steps.specs.declared.work.Work.{Work}
use Rattle.jbig2_steps.specs.declared.prices.TheConstants as prices

abbrev pub sum_of_counts : Counts → ℕ  -- the sum of all counts
sum_of_counts c = c.loads + c.words + c.decisions + c.run_tests + c.groups + c.pixels + c.cleared

unfoldable pub budget : {L : Type 0} → Work L → ℕ
budget w = sum_of_counts w.steps + 32 * w.left

-- all that was counted is paid for, but for at most `ahead` counts
abbrev pub PaidBut : {L : Type 0} → ℕ → Work L → Work L → Type 0
PaidBut ahead old new = budget new ≤ budget old + ahead

-- the same, and these counts leave room for `more`: those of a bitmap that was made before
abbrev pub PaidBeside : {L : Type 0} → ℕ → ℕ → Work L → Work L → Type 0
PaidBeside more ahead old new = budget new + more ≤ budget old + ahead

abbrev pub Paid : {L : Type 0} → Work L → Work L → Type 0  -- all that was counted is paid for
Paid old new = budget new ≤ budget old

-- what was counted is at most what this many units pay for
abbrev pub CountsWithin : ℕ → Counts → Counts → Type 0
CountsWithin units old new = sum_of_counts new ≤ sum_of_counts old + 32 * units

-- the same, and this many counts more: those of a bitmap that is made before
abbrev pub CountsBeside : ℕ → ℕ → Counts → Counts → Type 0
CountsBeside more units old new = sum_of_counts new + more ≤ sum_of_counts old + 32 * units

-- what was counted is at most what the units that were left pay for: this is the limit of work
abbrev pub IsWithinLimit : {L : Type 0} → Work L → Work L → Type 0
IsWithinLimit old new = CountsWithin old.left old.steps new.steps

-- ---- prices
abbrev pub words_of_row : ℕ → ℕ  -- how many words of 64 columns a row has, at least one
words_of_row width = max 1 ((width + 63) / 64)

unfoldable pub paid_words : ℕ → ℕ → ℕ  -- for how many words a bitmap of this size is paid
paid_words width height = words_of_row width * height

unfoldable pub price_of_bitmap : ℕ → ℕ → ℕ
price_of_bitmap width height = prices.BITMAP_WORD * words_of_row width * height + prices.BITMAP
