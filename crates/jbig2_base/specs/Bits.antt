-- Bytes as a list of bits, high bit first, and a place in it (T.88, 7.1: big-endian). `_next` is what comes next, `_on`
-- is the place after it. A refused read of bits moves to the end. A read of bytes begins with the current byte, whole,
-- and leaves the place at the beginning of a byte. A refused read of bytes does not move.
use Rattle.std.specs.Prelude.{ℕ, ◌+◌, ◌*◌, ◌/◌, ◌%◌, nat_lt, ◌==◌, List, [], ◌∷◌, length, take, drop, Option, Some}
use Rattle.std.specs.Prelude.{None, if◌then◌else◌, ◌^◌, Bool, true, false}
use Rattle.std.specs.List.{flat_map}
use Rattle.std.specs.Int.{Width, byte_len, from_be_bytes}

pub record Place : Type 0 where  -- the bytes from the current one on, and how many of its bits are read
  pub bytes : List ℕ
  pub bit : ℕ

abbrev pub start_of : List ℕ → Place
start_of bytes = record { bytes = bytes; bit = 0 }

abbrev pub byte_bits : ℕ → List ℕ  -- the eight bits of a byte, high bit first
byte_bits b = b / 128 % 2 ∷ b / 64 % 2 ∷ b / 32 % 2 ∷ b / 16 % 2 ∷ b / 8 % 2 ∷ b / 4 % 2 ∷ b / 2 % 2 ∷ b / 1 % 2 ∷ []

unfoldable pub bits_left : Place → List ℕ
bits_left p = drop p.bit (flat_map byte_bits p.bytes)

abbrev pub number_after : ℕ → List ℕ → ℕ  -- the number that the bits of front and then these bits make
number_after front [] = front
number_after front (b ∷ bs) = number_after (2 * front + b) bs

abbrev pub bits_next : ℕ → List ℕ → Option ℕ  -- the next n bits as a number, or None if there are fewer
bits_next n bits = if nat_lt (length bits) n then None else Some (number_after 0 (take n bits))

unfoldable pub bits_on : ℕ → Place → Place  -- the place after them, or the end if there are fewer
bits_on n p =
    if nat_lt (length (bits_left p)) n then start_of []
    else record { bytes = drop ((p.bit + n) / 8) p.bytes; bit = (p.bit + n) % 8 }

abbrev pub byte_boundary : Place → Place  -- the place itself where a byte begins, else the beginning of the next byte
byte_boundary p = if p.bit == 0 then p else start_of (drop 1 p.bytes)

abbrev pub bytes_next : ℕ → Place → Option (List ℕ)  -- the next count bytes, or None if there are fewer
bytes_next count p = if nat_lt (length p.bytes) count then None else Some (take count p.bytes)

abbrev pub number_next : Width → Place → Option ℕ  -- the same as a number, high byte first
number_next w p =
    if nat_lt (length p.bytes) (byte_len w) then None else Some (from_be_bytes w (take (byte_len w) p.bytes))

abbrev pub bytes_on : ℕ → Place → Place  -- the place after them; the same place if there are fewer
bytes_on count p = if nat_lt (length p.bytes) count then p else start_of (drop count p.bytes)

abbrev pub nonzero : ℕ → Option ℕ
nonzero b = if b == 0 then None else Some b

unfoldable pub bit : ℕ → ℕ → Bool
bit n k = n / 2 ^ k % 2 == 1

abbrev pub bit_number : Bool → ℕ
bit_number true = 1
bit_number false = 0

unfoldable pub value_of_bits : List Bool → ℕ  -- the number that bits make, high bit first
value_of_bits [] = 0
value_of_bits (b ∷ bits) = bit_number b * 2 ^ length bits + value_of_bits bits

abbrev pub number_of : List Bool → ℕ  -- the number that bits make, low bit first
number_of [] = 0
number_of (b ∷ bits) = bit_number b + 2 * number_of bits
