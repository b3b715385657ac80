-- How many loads and words the single calls of a T.6 decoder count (our own rule).
use Rattle.std.specs.Prelude.{ℕ, ◌+◌, ◌-◌, ◌/◌, min, Bool, if◌then◌else◌, Option, Some, None}
use Rattle.jbig2_mmr.specs.declared.mmr.row.Turn.{Turn}

-- how many words of a row of w columns come after that of column a, up to that of column b or the last one
abbrev pub words_after : ℕ → ℕ → ℕ → ℕ
words_after w a b = min b (w - 1) / 64 - a / 64

-- how many loads find a turn from column a on: one more than the words up to its end; at a fault all words of the row
abbrev pub turn_loads : ℕ → ℕ → Option Turn → ℕ
turn_loads w a None = words_after w a w
turn_loads w a (Some t) = words_after w a t.next.a0 + 1

abbrev pub span_words : ℕ → ℕ → ℕ  -- in how many words at most the columns `from` to `to` - 1 lie
span_words from to = (to + 63) / 64 - from / 64

abbrev pub bits_taken : Bool → ℕ → ℕ → ℕ  -- how many bits a row takes that leaves `left`; all at a fault
bits_taken whole bits left = if whole then bits - left else bits
