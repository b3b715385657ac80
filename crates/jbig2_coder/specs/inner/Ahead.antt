-- The code register with bytes that are read ahead, as the code register of the definitions (T.88, Annex G).
use Rattle.std.specs.Prelude.{◌≡◌, ◌≢◌, ℕ, zero, suc, ◌+◌, ◌-◌, ◌*◌, ◌/◌, ◌%◌, ◌^◌, ◌<◌, ◌≤◌, max, List, length}
use Rattle.jbig2_coder.specs.Coder.{Registers, byte_at}
use Rattle.jbig2_coder.specs.declared.arithmetic_decoder.registers.BufferedRegisters.{BufferedRegisters}
use Rattle.jbig2_coder.specs.declared.arithmetic_decoder.registers.CodeBuffer.{CodeBuffer}
use Rattle.jbig2_coder.specs.declared.arithmetic_decoder.registers.CodeRegister.{CodeRegister}

-- without the whole bytes that are read ahead
abbrev pub seen_of : CodeBuffer → CodeRegister
seen_of code =
    record {
      c = code.c / 2 ^ (48 - code.bits % 8) * 2 ^ (16 - code.bits % 8);
      ct = code.bits % 8;
      place = code.place - code.bits / 8;
    }

abbrev pub seen_registers : BufferedRegisters → Registers
seen_registers registers = record { a = registers.a; code = seen_of registers.code }

-- the number that this many bytes after a place make, with each byte inverted
abbrev pub inverted_bytes : List ℕ → ℕ → ℕ → ℕ
inverted_bytes bytes place zero = 0
inverted_bytes bytes place (suc n) =
    (0xFF - byte_at bytes (place + 1)) * 2 ^ (8 * n) + inverted_bytes bytes (place + 1) n

-- The lowest bits are this many whole bytes after a place, and none of them comes after a byte FF. `ct` bits are above.
pub record ReadsAhead (bytes : List ℕ) (ct ahead place : ℕ) (code : CodeBuffer) : Type 0 where
  pub below : ct < 8
  pub bits : code.bits ≡ ct + 8 * ahead
  pub few : code.bits ≤ 48
  pub small : code.c < 2 ^ 64
  pub read : code.place ≡ place + ahead
  pub within : code.place ≤ length bytes
  pub plain : (i : ℕ) → i < ahead → byte_at bytes (place + i) ≢ 0xFF
  pub spells : code.c % 2 ^ (48 - ct) ≡ inverted_bytes bytes place ahead * 2 ^ (48 - code.bits)

pub record IsAhead (bytes : List ℕ) (code : CodeBuffer) : Type 0 where
  pub ct : ℕ
  pub ahead : ℕ
  pub place : ℕ
  pub reads : ReadsAhead bytes ct ahead place code

-- the register after this many shifts
abbrev pub shift_buffer : ℕ → CodeBuffer → CodeBuffer
shift_buffer k code = record { c = code.c * 2 ^ k % 2 ^ 64; bits = code.bits - k; place = code.place }

-- How far A may fall in quiet decisions (T.88, E.3). Below 8000 a renormalization follows. At the upper half of C or
-- below it, the lower part of the interval is chosen.
abbrev pub floor_of : ℕ → ℕ
floor_of c = max (c / 2 ^ 16 + 1) 0x8000

-- What holds for the registers between two decisions.
pub record IsAtRest (bytes : List ℕ) (registers : Registers) : Type 0 where
  pub normal : 0x8000 ≤ registers.a
  pub below : registers.a < 0x10000
  pub few : registers.code.ct ≤ 8
  pub within : registers.code.place ≤ length bytes

-- What holds for a decoder between two decisions.
pub record IsKept (bytes : List ℕ) (registers : BufferedRegisters) (floor : ℕ) : Type 0 where
  pub rest : IsAtRest bytes (seen_registers registers)
  pub low : floor ≡ floor_of (seen_of registers.code).c
  pub few : floor ≤ 0x10000
  pub ahead : IsAhead bytes registers.code
