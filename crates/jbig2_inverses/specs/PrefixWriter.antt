-- Prefix codes (T.88, B.3 and B.4) as they are written: the code of a line, and the range bits of one of its numbers.
-- Then the law that the reading of `PrefixCode` gives back what was written.
use Rattle.std.specs.Prelude.{◌≡◌, ℕ, ◌+◌, ◌^◌, ◌<◌, true, false, List, ◌∷◌, ◌++◌, length}
use Rattle.std.specs.Prelude.{Option, Some, None, Ok, ℤ}
use Rattle.jbig2_coder.specs.declared.huffman_table.line.TableLine.{TableLine}
use Rattle.jbig2_coder.specs.PrefixCode.{Member, level, shorter, table_of, value_of_line, in_word, decoded_value}
use Rattle.jbig2_inverses.specs.Digits.{digits}

pub record Chosen : Type 0 where  -- a line of a table, with the lines before and after it
  pub before : List TableLine
  pub line : TableLine
  pub after : List TableLine

abbrev pub lines_of : Chosen → List TableLine
lines_of c = c.before ++ c.line ∷ c.after

-- The code of a line (B.3): the codes of each length are numbered one by one, in the order of the lines, and begin
-- after the shorter codes.
unfoldable pub code_of_line : Chosen → List ℕ
code_of_line c =
    let l = c.line.prefix_length in
    digits l (shorter l (lines_of c) + length (level l c.before))

-- A number of a line (B.4): the line's code, and then its distance from the line's low value, in the range bits.
unfoldable pub number_bits : Chosen → ℕ → List ℕ
number_bits c distance = code_of_line c ++ digits c.line.range_length distance

-- Reading gives a number, or out of band (None), and takes the bits of this list.
abbrev pub GivesFrom : List Member → List ℕ → Option ℤ → Type 0
GivesFrom table bits value =
    (rest : List ℕ) → decoded_value table (bits ++ rest) ≡ record { result = Ok value; taken = length bits }

-- For every table that B.3 accepts, and each of its lines that has a code: the line's numbers that fit signed 32 bits
-- are read back, and so is out of band. No line's code begins the code of a later line, nor the other way round.
pub record PrefixCodesReadBack : Type 0 where
  pub numbers : (c : Chosen) (table : List Member) → table_of (lines_of c) ≡ Ok table → 0 < c.line.prefix_length
      → c.line.is_out_of_band ≡ false → (distance : ℕ) → distance < 2 ^ c.line.range_length
      → (n : ℤ) → in_word (value_of_line c.line distance) ≡ Ok n → GivesFrom table (number_bits c distance) (Some n)
  pub out_of_band : (c : Chosen) (table : List Member) → table_of (lines_of c) ≡ Ok table → 0 < c.line.prefix_length
      → c.line.is_out_of_band ≡ true → GivesFrom table (code_of_line c) None
  pub apart : (c d : Chosen) (between : List TableLine) (table : List Member) → table_of (lines_of c) ≡ Ok table
      → lines_of c ≡ lines_of d → c.before ++ c.line ∷ between ≡ d.before
      → 0 < c.line.prefix_length → 0 < d.line.prefix_length → (rest : List ℕ)
      → (code_of_line c ++ rest ≡ code_of_line d → ⊥) × (code_of_line d ++ rest ≡ code_of_line c → ⊥)
