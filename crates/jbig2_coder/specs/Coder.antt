-- The arithmetic decoder (T.88, Annex E in the software conventions of Annex G), one shift at a time. The annexes
-- differ if a byte from 80 to 8F follows a byte FF, which no encoder writes. Then Annex G decides: in a fresh context
-- the bytes FF 8F begin with the decision 0, where Annex E has 1.
use Rattle.std.specs.Prelude.{ℕ, suc, zero, ◌+◌, ◌-◌, ◌*◌, ◌/◌, ◌%◌, ◌^◌, Bool, true, false, not, ◌&&◌, ◌||◌}
use Rattle.std.specs.Prelude.{if◌then◌else◌, ◌==◌, nat_lt, nat_le, List, length, replicate, slice_index_or}
use Rattle.jbig2_coder.specs.QeTable.{qe_row}
use Rattle.jbig2_coder.specs.declared.arithmetic_decoder.registers.CodeRegister.{CodeRegister}

abbrev pub Context : Type 0  -- a row of Table E.1, and the likely symbol
Context = record { row : ℕ; likely : Bool }

abbrev pub fresh : Context
fresh = record { row = 0; likely = false }

abbrev pub fresh_contexts : ℕ → List Context
fresh_contexts bits = replicate (2 ^ bits) fresh

abbrev pub Registers : Type 0  -- A, and the code register: C, CT and the place of the last byte read
Registers = record { a : ℕ; code : CodeRegister }

abbrev pub Coder : Type 0  -- the bytes that a decoder reads, and its registers
Coder = record { bytes : List ℕ; registers : Registers }

unfoldable pub shift_left : CodeRegister → CodeRegister  -- C is shifted by one bit
shift_left r = record { c = 2 * r.c % 2 ^ 32; ct = r.ct - 1; place = r.place }

module _ (bytes : List ℕ) where  -- the bytes that are read
  unfoldable pub byte_at : ℕ → ℕ  -- the byte at a place; past the end every byte is FF
  byte_at place = slice_index_or bytes place 0xFF

  -- BYTEIN (Figure G.3), from C and the place. After FF comes a stuffed byte of seven bits, or a marker, where it
  -- stays.
  unfoldable pub byte_in : ℕ → ℕ → CodeRegister
  byte_in c place =
      let next = byte_at (place + 1) in
      let after_ff : CodeRegister =
      if nat_lt 0x8F next then record { c = c; ct = 8; place = place }
      else record { c = (c + (2 ^ 32 + 0xFE00 - next * 2 ^ 9)) % 2 ^ 32; ct = 7; place = place + 1 } in
      if byte_at place == 0xFF then after_ff
      else record { c = (c + (0xFF00 - next * 2 ^ 8)) % 2 ^ 32; ct = 8; place = place + 1 }

  unfoldable pub byte_in_if_empty : CodeRegister → CodeRegister  -- BYTEIN, but only if no bit is left
  byte_in_if_empty r = if r.ct == 0 then byte_in r.c r.place else r

  -- RENORMD (E.3.3): A and C are shifted bit by bit until A is at least 8000. Fifteen shifts are enough for any A
  -- but 0.
  unfoldable pub renormd : ℕ → ℕ → CodeRegister → Registers
  renormd zero a r = record { a = a; code = r }
  renormd (suc n) a r =
      let more = renormd n (2 * a) (shift_left (byte_in_if_empty r)) in
      if nat_lt a 0x8000 then more else record { a = a; code = r }

  unfoldable pub initial_registers : Registers  -- INITDEC (Figure G.1)
  initial_registers =
      let r = byte_in ((0xFF - byte_at 0) * 2 ^ 16) 0 in
      record { a = 0x8000; code = record { c = r.c * 2 ^ 7 % 2 ^ 32; ct = r.ct - 7; place = r.place } }

-- Whether the byte that was read last is one of these bytes (our own rule, for data that is cut off). Past the last
-- one, what is decoded is no longer what was written. So it is from a last byte FF on: the byte after an FF says how the
-- FF is read (E.3.4), and past the end every byte is FF.
abbrev pub is_within : List ℕ → Registers → Bool
is_within bytes registers =
    let place = registers.code.place in
    nat_lt (place + 1) (length bytes) || not (byte_at bytes place == 0xFF)

unfoldable pub likely_next : Context → Context  -- the context after the likely symbol
likely_next context = record { row = (qe_row context.row).nmps; likely = context.likely }

unfoldable pub unlikely_next : Context → Context  -- the context after the unlikely symbol
unlikely_next context =
    let row = qe_row context.row in
    record { row = row.nlps; likely = (if row.switch then not context.likely else context.likely) }

abbrev pub Choice : Type 0  -- the symbol, A and C before RENORMD, the context afterwards, whether RENORMD follows
Choice = record { symbol : Bool; a : ℕ; c : ℕ; context : Context; renorm : Bool }

-- DECODE (Figure G.2): the upper part of the interval is the likely symbol's, unless that is now the smaller part
unfoldable pub choice : Context → ℕ → ℕ → Choice
choice context a c =
    let qe = (qe_row context.row).qe in
    let rest = a - qe in
    let lower = (c + (2 ^ 32 - rest * 2 ^ 16)) % 2 ^ 32 in
    let likely : ℕ → ℕ → Choice = λ size low.
    record { symbol = context.likely; a = size; c = low; context = likely_next context; renorm = true } in
    let unlikely : ℕ → ℕ → Choice = λ size low.
    record { symbol = not context.likely; a = size; c = low; context = unlikely_next context; renorm = true } in
    let in_upper : Choice =
    if nat_le 0x8000 rest then record { symbol = context.likely; a = rest; c = c; context = context; renorm = false }
    else if nat_lt rest qe then unlikely rest c else likely rest c in
    let in_lower : Choice = if nat_lt rest qe then likely qe lower else unlikely qe lower in
    if nat_lt (c / 2 ^ 16) rest then in_upper else in_lower

abbrev pub Decision : Type 0  -- the symbol, and the registers and the context afterwards
Decision = record { symbol : Bool; registers : Registers; context : Context }

unfoldable pub decision : List ℕ → Registers → Context → Decision
decision bytes registers context =
    let chosen = choice context registers.a registers.code.c in
    let code : CodeRegister = record registers.code { c = chosen.c } in
    record {
      symbol = chosen.symbol;
      registers = (if chosen.renorm then renormd bytes 15 chosen.a code else record { a = chosen.a; code = code });
      context = chosen.context;
    }

unfoldable pub is_quiet : Registers → Context → Bool  -- whether the next decision is the likely symbol, without RENORMD
is_quiet registers context =
    let chosen = choice context registers.a registers.code.c in
    (if context.likely then chosen.symbol else not chosen.symbol) && not chosen.renorm

unfoldable pub all_quiet : ℕ → List ℕ → Registers → Context → Bool  -- whether this many decisions in a row are quiet
all_quiet zero bytes registers context = true
all_quiet (suc count) bytes registers context =
    let next = decision bytes registers context in
    is_quiet registers context && all_quiet count bytes next.registers next.context
