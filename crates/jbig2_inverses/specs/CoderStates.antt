-- The arithmetic decoder (Annex G) in the midst of a list of decisions: its registers, and the contexts by their
-- numbers.
use Rattle.std.specs.Prelude.{◌≡◌, ℕ, zero, suc, ◌+◌, ◌*◌, ◌≤◌, Bool, List, [], ◌∷◌, length, map}
use Rattle.jbig2_coder.specs.Coder.{Context, Registers, fresh, decision, initial_registers}
use Rattle.jbig2_coder.specs.Encoder.{with_context, decoded_from, encoded_bytes}

abbrev pub Entry : Type 0  -- a decision, with the number of its context
Entry = ℕ × Bool

abbrev pub asked : List Entry → List ℕ  -- the contexts in which the decisions are asked
asked entries = map (λ (k, decision). k) entries

abbrev pub decisions : List Entry → List Bool
decisions entries = map (λ (k, decision). decision) entries

abbrev pub State : Type 0
State = record { registers : Registers; contexts : ℕ → Context }

unfoldable pub state_on : List ℕ → State → ℕ → State  -- the state after one decision in context k
state_on bytes s k =
    let next = decision bytes s.registers (s.contexts k) in
    record { registers = next.registers; contexts = with_context s.contexts k next.context }

unfoldable pub state_after : List ℕ → State → List ℕ → State  -- the state after decisions in these contexts
state_after bytes s [] = s
state_after bytes s (k ∷ contexts) = state_after bytes (state_on bytes s k) contexts

abbrev pub initial_state : List ℕ → State
initial_state bytes = record { registers = initial_registers bytes; contexts = λ _. fresh }

-- the next decisions are these, if they are asked in their contexts
abbrev pub GivesDecisions : List ℕ → State → List Entry → Type 0
GivesDecisions bytes s entries = decoded_from bytes s.registers s.contexts (asked entries) ≡ decisions entries

unfoldable pub window : ℕ → ℕ → (ℕ → Context) → List Context  -- the count contexts from number base on
window base zero contexts = []
window base (suc count) contexts = contexts base ∷ window (base + 1) count contexts

-- The encoder's data (E.2) is short. Decisions take at most six shifts on average, since one that takes more, up to
-- fifteen, comes after likely ones that take fewer; and a byte takes at least seven.
abbrev pub CodedDataIsShort : Type 0
CodedDataIsShort = (entries : List Entry) → 7 * length (encoded_bytes entries) ≤ 6 * length entries + 40
