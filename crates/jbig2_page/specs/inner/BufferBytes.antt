-- Bytes that are put into a caller's buffer (our own rule).
use Rattle.std.specs.Prelude.{◌≡◌, ℕ, ◌+◌, ◌-◌, ◌*◌, ◌<◌, Bool, List, map, get_or, length}
use Rattle.std.specs.List.{range_with_len}
use Rattle.jbig2_base.specs.Bits.{value_of_bits}

-- This many bytes are put at a place. The bytes before it are as they were.
pub record Fills (byte : ℕ → ℕ) (place count : ℕ) (old new : List ℕ) : Type 0 where
  pub sized : length new ≡ length old
  pub before : (k : ℕ) → k < place → get_or new k 0 ≡ get_or old k 0
  pub bytes : (i : ℕ) → i < count → get_or new (place + i) 0 ≡ byte i

-- byte i of a word by its bits, byte 0 the highest
abbrev pub word_byte : (ℕ → Bool) → ℕ → ℕ
word_byte bits i = value_of_bits (map (λ j. bits (63 - (8 * i + j))) (range_with_len 0 8))

abbrev pub top_byte : (ℕ → Bool) → ℕ
top_byte bits = word_byte bits 0
