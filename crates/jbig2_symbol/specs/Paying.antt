-- The work that a symbol dictionary counts but doesn't pay for itself (our own rule). For a new symbol at most five
-- numbers are read: its width, its number of instances, an id and two offsets. Their work is taken before the
-- dictionary is decoded. Everything else is paid for as it comes: height classes, runs of exports, and each bitmap
-- before it is decoded or copied.
use Rattle.std.specs.Prelude.{ℕ, ◌+◌, ◌*◌, ◌≤◌}
use Rattle.jbig2_steps.specs.Work.{budget}
use Rattle.jbig2_steps.specs.declared.work.Work.{Work}
use Rattle.jbig2_coder.specs.Integers.{number_steps}

-- From `before` symbols to `after` symbols, at most five numbers were read for each, and `more` besides. Everything
-- else is paid for.
abbrev pub PaidButSymbols : {L : Type 0} → ℕ → ℕ → ℕ → Work L → Work L → Type 0
PaidButSymbols before after more old new =
    budget new + number_steps (5 * before) ≤ budget old + number_steps (5 * after + more)

-- the same, where there are at most `most` symbols
pub record PaysSymbols {L : Type 0} (before after most more : ℕ) (old new : Work L) : Type 0 where
  pub few : after ≤ most
  pub paid : PaidButSymbols before after more old new
