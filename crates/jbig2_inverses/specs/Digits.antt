-- Numbers written in binary.
use Rattle.std.specs.Prelude.{ℕ, zero, suc, ◌/◌, ◌%◌, ◌^◌, List, [], ◌∷◌}

unfoldable pub digits : ℕ → ℕ → List ℕ  -- the lowest k bits of a number, high bit first
digits zero n = []
digits (suc k) n = n / 2 ^ k % 2 ∷ digits k n
