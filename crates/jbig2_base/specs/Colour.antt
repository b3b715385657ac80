-- The next pixel of a colour in a row (our own rule).
use Rattle.std.specs.Prelude.{◌≡◌, ℕ, ◌<◌, ◌≤◌, Bool, not}

-- `place` is the first place of a colour from `from` on, or the end `to`
pub record IsFirst (row : ℕ → Bool) (black : Bool) (from to place : ℕ) : Type 0 where
  pub after : from ≤ place
  pub within : place ≤ to
  pub before : (x : ℕ) → from ≤ x → x < place → row x ≡ not black
  pub found : place < to → row place ≡ black
