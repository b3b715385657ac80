-- The bits of a number (our own rule): bit k has the value 2 ^ k.
use Rattle.std.specs.Prelude.{ℕ, ◌+◌, ◌-◌, Bool, ◌&&◌, nat_le, nat_lt, if◌then◌else◌}
use Rattle.jbig2_base.specs.Bits.{bit}

-- bit b of a word whose `count` bits from `shift` on are replaced by the lowest bits of another number
unfoldable pub field_bit : ℕ → ℕ → ℕ → ℕ → ℕ → Bool
field_bit word shift count bits b =
    if nat_le shift b && nat_lt b (shift + count) then bit bits (b - shift) else bit word b
