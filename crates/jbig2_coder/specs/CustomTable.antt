-- The lines of a custom table, from its bits (T.88, B.2). Each step takes a place in the bits and reads on from it.
-- `custom_table` gives the code that the lines make, or the first error, and the place of the reader then.
use Rattle.std.specs.Prelude.{◌≡◌, ◌⊎◌, ℕ, zero, suc, ◌+◌, ◌/◌, ◌%◌, ◌^◌, nat_lt, ◌==◌, List, [], ◌∷◌, ◌++◌, length}
use Rattle.std.specs.Prelude.{All, IfOk, Result, Ok, Err, if◌then◌else◌, ℤ, pos, ◌+ℤ◌, ◌-ℤ◌, int_lt}
use Rattle.std.specs.Int.{w32, cast_signed}
use Rattle.jbig2_base.specs.Results.{◌>>=◌, some_or}
use Rattle.jbig2_base.specs.Bits.{Place, bits_left, bits_next, bits_on}
use Rattle.jbig2_base.specs.declared.error.DecodeError.{DecodeError}
use Rattle.jbig2_base.specs.declared.error.DecodeError.TheVariants.{Parse, Huffman, OutOfMemory}
use Rattle.jbig2_base.specs.declared.error.ParseError.TheVariants.{UnexpectedEof}
use Rattle.jbig2_base.specs.declared.error.HuffmanError.TheVariants.{InvalidCode}
use Rattle.jbig2_coder.specs.declared.huffman_table.line.TableLine.{TableLine}
use Rattle.jbig2_coder.specs.declared.huffman_table.custom.Header.{Header}
use Rattle.jbig2_coder.specs.PrefixCode.{IsFree, Member, table_of, in_word}
use Rattle.jbig2_coder.specs.Tables.{line, lower, upper, out_of_band, standard_codes, uniform}

abbrev pub TableStep : Type 0 → Type 0  -- a value or an error, each with the place of the reader then
TableStep A = Result (A × Place) (DecodeError × Place)

abbrev pub left_at : {A : Type 0} → Place → Result A DecodeError → TableStep A  -- a result, and the place then
left_at p (Ok x) = Ok (x, p)
left_at p (Err e) = Err (e, p)

abbrev pub result_of : {A : Type 0} → TableStep A → Result A DecodeError  -- only the result
result_of (Ok (value, place)) = Ok value
result_of (Err (error, place)) = Err error

abbrev pub field : DecodeError → ℕ → Place → TableStep ℕ  -- the next count bits as a number, or the error
field e count p = left_at (bits_on count p) (some_or e (bits_next count (bits_left p)))

abbrev pub custom_header : Place → TableStep Header  -- the flags, and the least and the greatest value
custom_header p = do
  (flags, place) ← field (Parse UnexpectedEof) 8 p
  (minimum, place) ← field (Parse UnexpectedEof) 32 place
  (maximum, place) ← field (Parse UnexpectedEof) 32 place
  let header : Header = record {
    has_out_of_band = flags % 2 == 1;
    prefix_bits = flags / 2 % 8 + 1;
    range_bits = flags / 16 % 8 + 1;
    minimum = cast_signed w32 minimum;
    maximum = cast_signed w32 maximum;
  }
  Ok (header, place)

abbrev pub next_low : ℤ → ℕ → Result ℤ DecodeError  -- the low value of the next line, refused above signed 32 bits
next_low low range = if nat_lt range 32 then in_word (low +ℤ pos (2 ^ range)) else Err (Huffman InvalidCode)

abbrev pub custom_line : Header → ℤ → Place → TableStep (TableLine × ℤ)  -- a line, and the low value of the next one
custom_line h low p = do
  (len, place) ← field (Huffman InvalidCode) h.prefix_bits p
  (range, place) ← field (Huffman InvalidCode) h.range_bits place
  (next, place) ← left_at place (next_low low range)
  Ok ((line len range low, next), place)

abbrev pub concat : List TableLine → TableStep (List TableLine) → TableStep (List TableLine)  -- these lines, then those of a step
concat before s = s >>= λ (lines, place). Ok (before ++ lines, place)

-- The lines while the low value is below the maximum. Each takes at least two bits: no more come than bits are left.
abbrev pub range_lines_in : ℕ → Header → ℤ → Place → TableStep (List TableLine)
range_lines_in zero h low p = Ok ([], p)
range_lines_in (suc n) h low p =
    if int_lt low h.maximum
    then (custom_line h low p >>= λ ((line, next), place). concat (line ∷ []) (range_lines_in n h next place))
    else Ok ([], p)

unfoldable pub range_lines : Header → Place → TableStep (List TableLine)
range_lines h p = range_lines_in (length (bits_left p) + 1) h h.minimum p

abbrev pub end_lines : Header → Place → TableStep (List TableLine)  -- the lower, the upper, and any out-of-band line
end_lines h p = do
  (below, place) ← field (Huffman InvalidCode) h.prefix_bits p
  (above, place) ← field (Huffman InvalidCode) h.prefix_bits place
  concat (lower below (h.minimum -ℤ pos 1) ∷ upper above h.maximum ∷ []) (if h.has_out_of_band
      then (field (Huffman InvalidCode) h.prefix_bits place >>= λ (len, place). Ok (out_of_band len ∷ [], place))
      else Ok ([], place))

unfoldable pub custom_lines : Place → TableStep (List TableLine)
custom_lines p = do
  (header, place) ← custom_header p
  (ranges, place) ← range_lines header place
  concat ranges (end_lines header place)

unfoldable pub custom_table : Place → TableStep (List Member)  -- a custom table, from its bits
custom_table p = do
  (lines, place) ← custom_lines p
  left_at place (table_of lines)

-- What a call returned, and the place of its reader then, is what was meant, unless memory ran out.
abbrev pub GivesAt : {X Y : Type 0} → (X → Y) → Result X DecodeError → Place → TableStep Y → Type 0
GivesAt view (Ok x) p meant = meant ≡ Ok (view x, p)
GivesAt view (Err e) p meant = (e ≡ OutOfMemory) ⊎ (meant ≡ Err (e, p))

-- No code of a table begins another (B.3), however the table is made: from listed lines, from codes of one length, from
-- a tables segment's bits (B.2), or as a standard table (B.5).
pub record TablesAreFree : Type 0 where
  pub listed : (lines : List TableLine) → IfOk (table_of lines) IsFree
  pub uniform : (count code_length : ℕ) → IfOk (table_of (uniform count code_length)) IsFree
  pub custom : (p : Place) → IfOk (custom_table p) (λ (table, place). IsFree table)
  pub standard : All IsFree standard_codes
