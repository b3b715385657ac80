-- Windows on a mask of skipped pixels, and contexts without adaptive pixels (our own rule).
use Rattle.std.specs.Prelude.{◌≡◌, ℕ, ◌+◌, ◌-◌, ◌*◌, ◌%◌, ◌^◌, ◌<◌, Option}
use Rattle.jbig2_base.specs.Grid.{Grid}
use Rattle.jbig2_base.specs.Bits.{bit}
use Rattle.jbig2_region.specs.Generic.{is_skipped}
use Rattle.jbig2_region.specs.inner.Neighbours.{stretch_bits}
use Rattle.jbig2_region.specs.declared.template.neighbours.Neighbours.{Neighbours}
use Rattle.jbig2_region.specs.declared.generic_kernel.windows.Windows.{Windows}

-- which of the 32 pixels of row y from column x on are skipped, the first in bit 31
abbrev pub IsMask : Option Grid → ℕ → ℕ → ℕ → Type 0
IsMask skip x y mask = (k : ℕ) → k < 32 → bit mask (31 - k) ≡ is_skipped skip (x + k) y

-- the context of neighbours without adaptive pixels, `offset` columns right of the windows' column
abbrev pub plain_context : Neighbours → Windows → ℕ → ℕ → ℕ
plain_context n w left offset =
    left % 2 ^ n.left
    + (stretch_bits n.above w.above offset + stretch_bits n.top w.top offset * 2 ^ n.above.count) * 2 ^ n.left
