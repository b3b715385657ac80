-- The arithmetic encoder (T.88, E.2), one shift at a time. ENCODE takes a decision in its context, the registers and the
-- bytes so far, and gives the next ones. FLUSH ends the bytes. Then come whole lists of decisions, and the law that the
-- decoder of `Coder` reads them back.
use Rattle.std.specs.Prelude.{ℕ, suc, zero, ◌+◌, ◌-◌, ◌*◌, ◌/◌, ◌%◌, ◌^◌, Bool, true, false, not, if◌then◌else◌, ◌==◌}
use Rattle.std.specs.Prelude.{nat_lt, nat_le, List, [], ◌∷◌, ◌++◌, reverse, map, slice_index_or, ◌≡◌}
use Rattle.jbig2_coder.specs.QeTable.{qe_row}
use Rattle.jbig2_coder.specs.Coder.{Context, likely_next, unlikely_next, Registers, fresh, decision, initial_registers}

abbrev pub Writer : Type 0  -- C, the shifts until the next byte goes out (CT), and the bytes that went out, last first
Writer = record { register : ℕ; wait : ℕ; out : List ℕ }

abbrev pub EncoderState : Type 0  -- with the interval register A
EncoderState = record { range : ℕ; writer : Writer }

unfoldable pub initial_coding : EncoderState  -- INITENC (E.2.8)
initial_coding = record { range = 0x8000; writer = record { register = 0; wait = 12; out = [] } }

unfoldable pub eight_bits_out : ℕ → List ℕ → Writer  -- BYTEOUT (E.2.7) of a byte of eight bits
eight_bits_out c out = record { register = c % 2 ^ 19; wait = 8; out = (c / 2 ^ 19 % 256) ∷ out }

unfoldable pub seven_bits_out : ℕ → List ℕ → Writer  -- the same of a byte of seven bits, after a byte FF
seven_bits_out c out = record { register = c % 2 ^ 20; wait = 7; out = (c / 2 ^ 20) ∷ out }

-- BYTEOUT (E.2.7): a carry is added to the last byte, but not to FF; after FF a stuffed bit takes the carry
unfoldable pub byte_out : ℕ → List ℕ → Writer
byte_out c [] = eight_bits_out c []
byte_out c (last ∷ out) =
    if last == 0xFF then seven_bits_out c (last ∷ out)
    else if nat_lt c (2 ^ 27) then eight_bits_out c (last ∷ out)
    else if last + 1 == 0xFF then seven_bits_out (c % 2 ^ 27) (0xFF ∷ out)
    else eight_bits_out c ((last + 1) ∷ out)

unfoldable pub shift_once : Writer → Writer  -- C is shifted by one bit, and a byte goes out if there are enough bits
shift_once w =
    if w.wait - 1 == 0 then byte_out (2 * w.register) w.out
    else record { register = 2 * w.register; wait = w.wait - 1; out = w.out }

-- RENORME (E.2.6): A and C are shifted bit by bit until A is at least 8000. Fifteen shifts are enough for any A but 0.
unfoldable pub renorme : ℕ → ℕ → Writer → EncoderState
renorme zero a w = record { range = a; writer = w }
renorme (suc n) a w =
    let more = renorme n (2 * a) (shift_once w) in
    if nat_lt a 0x8000 then more else record { range = a; writer = w }

abbrev pub Narrowed : Type 0  -- A, C and the context after a decision, and whether RENORME follows
Narrowed = record { range : ℕ; register : ℕ; context : Context; renorm : Bool }

module _ (context : Context) where  -- the context of the decision
  -- CODEMPS (E.2.4): the likely symbol gets the upper part of the interval, unless that is now the smaller part
  unfoldable pub narrowed_likely : ℕ → ℕ → Narrowed
  narrowed_likely a c =
      let qe = (qe_row context.row).qe in
      let rest = a - qe in
      if nat_le 0x8000 rest then record { range = rest; register = c + qe; context = context; renorm = false }
      else if nat_lt rest qe then record { range = qe; register = c; context = likely_next context; renorm = true }
      else record { range = rest; register = c + qe; context = likely_next context; renorm = true }

  -- CODELPS (E.2.4): the unlikely symbol gets the other part
  unfoldable pub narrowed_unlikely : ℕ → ℕ → Narrowed
  narrowed_unlikely a c =
      let qe = (qe_row context.row).qe in
      let rest = a - qe in
      if nat_lt rest qe then record { range = rest; register = c + qe; context = unlikely_next context; renorm = true }
      else record { range = qe; register = c; context = unlikely_next context; renorm = true }

  unfoldable pub narrowed_interval : Bool → ℕ → ℕ → Narrowed  -- ENCODE (E.2.2 and E.2.3)
  narrowed_interval decision a c =
      if (if context.likely then decision else not decision) then narrowed_likely a c
      else narrowed_unlikely a c

  -- the encoder after a decision is coded, and the decision's context then
  unfoldable pub encoding : Bool → EncoderState → record { coding : EncoderState; context : Context }
  encoding decision s =
      let next = narrowed_interval decision s.range s.writer.register in
      let writer : Writer = record s.writer { register = next.register } in
      let as_is : EncoderState = record { range = next.range; writer = writer } in
      record { coding = (if next.renorm then renorme 15 next.range writer else as_is); context = next.context }

unfoldable pub set_bits : ℕ → ℕ → ℕ  -- SETBITS (E.2.9): C with as many low bits set as the interval allows
set_bits a c =
    let ones = c - c % 2 ^ 16 + 0xFFFF in
    if nat_le (c + a) ones then ones - 0x8000 else ones

-- FLUSH (E.2.9): C goes out in two bytes, and then the marker FF AC ends the data; a last byte FF begins the marker
unfoldable pub flush_coder : EncoderState → Writer
flush_coder s =
    let first = byte_out (set_bits s.range s.writer.register * 2 ^ s.writer.wait) s.writer.out in
    byte_out (first.register * 2 ^ first.wait) first.out

unfoldable pub is_full : List ℕ → Bool
is_full [] = false
is_full (last ∷ out) = last == 0xFF

unfoldable pub with_marker : List ℕ → List ℕ
with_marker out = reverse (if is_full out then 0xAC ∷ out else 0xAC ∷ 0xFF ∷ out)

unfoldable pub with_context : (ℕ → Context) → ℕ → Context → ℕ → Context  -- the contexts with one of them replaced
with_context contexts k context = λ j. if j == k then context else contexts j

unfoldable pub encode_from : EncoderState → (ℕ → Context) → List (ℕ × Bool) → EncoderState  -- the encoder after a list
encode_from s contexts [] = s
encode_from s contexts ((k, decision) ∷ entries) =
    let next = encoding (contexts k) decision s in
    encode_from next.coding (with_context contexts k next.context) entries

unfoldable pub encoded_bytes : List (ℕ × Bool) → List ℕ  -- the bytes of a list of (context, decision)
encoded_bytes entries = with_marker (flush_coder (encode_from initial_coding (λ _. fresh) entries)).out

abbrev pub CodingInContexts : Type 0  -- an encoder, and the contexts that it knows
CodingInContexts = record { coding : EncoderState; contexts : List Context }

unfoldable pub contexts_of : List Context → (ℕ → Context)  -- the contexts of a list; all others are fresh
contexts_of known = λ k. slice_index_or known k fresh

-- `s` has coded this list: whatever decisions follow, they are coded as in one list with these
unfoldable pub HasCoded : CodingInContexts → List (ℕ × Bool) → Type 0
HasCoded s list =
    (rest : List (ℕ × Bool)) → encode_from initial_coding (λ _. fresh) (list ++ rest) ≡ encode_from s.coding (contexts_of s.contexts) rest

-- `new` has coded these decisions after those of `old`
abbrev pub Codes : CodingInContexts → CodingInContexts → List (ℕ × Bool) → Type 0
Codes old new more = (list : List (ℕ × Bool)) → HasCoded old list → HasCoded new (list ++ more)

unfoldable pub decoded_from : List ℕ → Registers → (ℕ → Context) → List ℕ → List Bool  -- the decisions that are read
decoded_from bytes registers contexts [] = []
decoded_from bytes registers contexts (k ∷ asked) =
    let next = decision bytes registers (contexts k) in
    next.symbol ∷ decoded_from bytes next.registers (with_context contexts k next.context) asked

unfoldable pub read_back : List ℕ → List ℕ → List Bool
read_back bytes asked = decoded_from bytes (initial_registers bytes) (λ _. fresh) asked

abbrev pub DecodesBack : Type 0  -- what is encoded is read back, if the decoder uses the same contexts
DecodesBack = (entries : List (ℕ × Bool))
    → read_back (encoded_bytes entries) (map (λ (k, decision). k) entries) ≡ map (λ (k, decision). decision) entries
