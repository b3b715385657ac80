-- Windows of a refinement side by side in one number (our own rule).
use Rattle.std.specs.Prelude.{◌≡◌, ℕ, ◌+◌, ◌-◌, ◌*◌, ◌/◌, ◌%◌, ◌^◌, ◌<◌}
use Rattle.jbig2_base.specs.Bits.{bit}
use Rattle.jbig2_region.specs.declared.refinement_kernel.windows.RefinementWindows.{RefinementWindows}

-- a lane whose first pixel is the bit of this number; it serves a window's column k and the n columns after it
abbrev pub Lane : ℕ → ℕ → ℕ → ℕ → ℕ → Type 0
Lane lanes first word k n = (b : ℕ) → b < n + 3 → bit lanes (first - b) ≡ bit word (63 - k - b)

pub record Lanes (w : RefinementWindows) (k n lanes : ℕ) : Type 0 where
  pub below : Lane lanes 14 w.below k n
  pub here : Lane lanes 29 w.here k n
  pub above : Lane lanes 44 w.above k n
  pub region : Lane lanes 59 w.region k n

-- the nine pixels of the reference in the lanes, the last of them in bit 0
abbrev pub nine_in : ℕ → ℕ
nine_in lanes = lanes / 2 ^ 12 % 8 + lanes / 2 ^ 27 % 8 * 8 + lanes / 2 ^ 42 % 8 * 64

-- the three pixels of the region
abbrev pub region_in : ℕ → ℕ
region_in lanes = lanes / 2 ^ 57 % 8
