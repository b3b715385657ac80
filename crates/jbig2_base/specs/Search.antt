-- The least number that passes a test (our own rule). It finds the next change of a row (T.6), the first end marker
-- (T.88, 7.2.7) and, in the crate of coders, the fewest bits of a code (6.5.8.2.3). `place_from` takes the test and the bounds of the search. It
-- gives the number, or the upper bound if no number passes.
use Rattle.std.specs.Prelude.{ℕ, zero, suc, ◌-◌, Bool, if◌then◌else◌}

unfoldable pub least : (ℕ → Bool) → ℕ → ℕ → ℕ  -- the least of the last n numbers below `to` that passes, else `to`
least test zero to = to
least test (suc n) to = if test (to - suc n) then to - suc n else least test n to

-- the least number that is at least `from` and below `to` and passes, else `to`
abbrev pub place_from : (ℕ → Bool) → ℕ → ℕ → ℕ
place_from test from to = least test (to - from) to
