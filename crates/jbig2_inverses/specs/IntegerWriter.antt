-- Integers and symbol ids (T.88, Annex A) as they are written: the decisions that stand for a number, each with the
-- number of its context. Then the laws that the readings of `Integers` give back what was written.
use Rattle.std.specs.Prelude.{◌≡◌, ℕ, ◌+◌, ◌-◌, ◌^◌, ◌<◌, nat_lt, ◌==◌, Bool, true, false, if◌then◌else◌}
use Rattle.std.specs.Prelude.{List, [], ◌∷◌, ◌++◌, map, Option, Some, None, ℤ, pos, negsuc, ⊤}
use Rattle.jbig2_coder.specs.Integers.{Range, range, ranges, prev_of, integer, id}
use Rattle.jbig2_base.specs.Bits.{value_of_bits}
use Rattle.jbig2_coder.specs.Encoder.{encoded_bytes}
use Rattle.jbig2_inverses.specs.Digits.{digits}
use Rattle.jbig2_inverses.specs.CoderStates.{Entry, State, GivesDecisions, asked, initial_state, state_after, window}

abbrev pub binary : ℕ → ℕ → List Bool  -- the lowest k bits of a number as decisions, high bit first
binary k n = map (λ digit. digit == 1) (digits k n)

unfoldable pub range_of : List Range → ℕ → Range  -- the first row of Table A.1 that reaches up to a size
range_of [] size = range [] 0 0
range_of (row ∷ rows) size = if nat_lt size (row.offset + 2 ^ row.bits) then row else range_of rows size

-- the prefix of the size's row, and then the size above the row's least value
abbrev pub size_decisions : ℕ → List Bool
size_decisions size = let row = range_of ranges size in row.prefix ++ binary row.bits (size - row.offset)

-- An integer (A.2): the sign S, which is 1 for minus, and the size. Out of band is minus zero.
unfoldable pub integer_decisions : Option ℤ → List Bool
integer_decisions (Some (pos n)) = false ∷ size_decisions n
integer_decisions (Some (negsuc n)) = true ∷ size_decisions (n + 1)
integer_decisions None = true ∷ size_decisions 0

-- Each decision has the context that the decisions before it name. The contexts have the numbers from base on.
unfoldable pub in_contexts : (List Bool → ℕ) → ℕ → List Bool → List Bool → List Entry
in_contexts name base before [] = []
in_contexts name base before (d ∷ others) = (base + name before, d) ∷ in_contexts name base (before ++ d ∷ []) others

abbrev pub integer_entries : ℕ → Option ℤ → List Entry  -- in the 512 contexts that PREV names (A.2)
integer_entries base value = in_contexts prev_of base [] (integer_decisions value)

-- A symbol id (A.3): its binary digits, as many as the code length. A 1 and the digits so far name the next context.
abbrev pub id_entries : ℕ → ℕ → ℕ → List Entry
id_entries base code_length number =
    in_contexts (λ bits. value_of_bits (true ∷ bits)) base [] (binary code_length number)

abbrev pub IsWord : Option ℤ → Type 0  -- out of band, or a number of signed 32 bits
IsWord (Some (pos n)) = n < 2 ^ 31
IsWord (Some (negsuc n)) = n < 2 ^ 31
IsWord None = ⊤

-- An integer is read, and the decoder is then where the integer's decisions take it.
abbrev pub ReadsInteger : List ℕ → State → ℕ → Option ℤ → Type 0
ReadsInteger bytes s base value =
    let end = state_after bytes s (asked (integer_entries base value)) in
    integer bytes s.registers (window base 512 s.contexts)
    ≡ record {
      value = value;
      reading = record {
        bits = integer_decisions value;
        registers = end.registers;
        contexts = window base 512 end.contexts;
      };
    }

-- The same for a symbol id, whose number its bits make.
abbrev pub ReadsId : List ℕ → State → ℕ → ℕ → ℕ → Type 0
ReadsId bytes s base code_length number =
    let end = state_after bytes s (asked (id_entries base code_length number)) in
    (id bytes s.registers (record { code_len = code_length; contexts = window base (2 ^ code_length) s.contexts })
    ≡ record {
      bits = binary code_length number;
      registers = end.registers;
      contexts = window base (2 ^ code_length) end.contexts;
    })
    × (value_of_bits (binary code_length number) ≡ number)

-- Wherever the next decisions are those of a number, that number is read. And it is read from the bytes of the encoder,
-- whatever decisions are before and after it, in whatever contexts: so any sequence of numbers is read.
pub record IntegersReadBack : Type 0 where
  pub decisions : (bytes : List ℕ) (s : State) (base : ℕ) (value : Option ℤ) → IsWord value
      → GivesDecisions bytes s (integer_entries base value) → ReadsInteger bytes s base value
  pub bytes : (before after : List Entry) (base : ℕ) (value : Option ℤ) → IsWord value
      → let bytes = encoded_bytes (before ++ integer_entries base value ++ after) in
      ReadsInteger bytes (state_after bytes (initial_state bytes) (asked before)) base value

-- The same for symbol ids of each code length.
pub record SymbolIdsReadBack : Type 0 where
  pub decisions : (bytes : List ℕ) (s : State) (base code_length number : ℕ) → number < 2 ^ code_length
      → GivesDecisions bytes s (id_entries base code_length number) → ReadsId bytes s base code_length number
  pub bytes : (before after : List Entry) (base code_length number : ℕ) → number < 2 ^ code_length
      → let bytes = encoded_bytes (before ++ id_entries base code_length number ++ after) in
      ReadsId bytes (state_after bytes (initial_state bytes) (asked before)) base code_length number
