-- Parts of the definitions of prefix codes and of custom tables (T.88, B.2 to B.4), each with a name of its own.
use Rattle.std.specs.Prelude.{ℕ, ◌+◌, ◌≤◌, ◌<◌, nat_lt, Bool, not, ◌||◌, List, [], ◌∷◌, length, drop, Option, Some}
use Rattle.std.specs.Prelude.{None, is_some, Result, Ok, Err, if◌then◌else◌, ℤ}
use Rattle.jbig2_base.specs.Results.{◌>>=◌}
use Rattle.jbig2_base.specs.Bits.{Place, bits_next}
use Rattle.jbig2_base.specs.declared.error.DecodeError.{DecodeError}
use Rattle.jbig2_base.specs.declared.error.DecodeError.TheVariants.{Parse, Huffman}
use Rattle.jbig2_base.specs.declared.error.ParseError.TheVariants.{UnexpectedEof}
use Rattle.jbig2_base.specs.declared.error.HuffmanError.TheVariants.{InvalidCode}
use Rattle.jbig2_coder.specs.declared.huffman_table.line.TableLine.{TableLine}
use Rattle.jbig2_coder.specs.declared.huffman_table.custom.Header.{Header}
use Rattle.jbig2_coder.specs.CustomTable.{TableStep, field}
use Rattle.jbig2_coder.specs.Tables.{out_of_band}
use Rattle.jbig2_coder.specs.PrefixCode.{Member, CodeReading, shorter, level, line_of, begins_longer, front_number}
use Rattle.jbig2_coder.specs.PrefixCode.{value_by}

-- the code of a line of l bits
abbrev pub code_of_level : ℕ → List TableLine → List TableLine → ℕ
code_of_level l lines earlier = shorter l lines + length (level l earlier)

abbrev pub cut_off_code : {A : Type 0} → ℕ → CodeReading A
cut_off_code k = record { result = Err (Parse UnexpectedEof); taken = k }

abbrev pub unknown_code : {A : Type 0} → ℕ → CodeReading A
unknown_code k = record { result = Err (Huffman InvalidCode); taken = k }

-- the line that was found, or else another reading
abbrev pub found_or : Option TableLine → ℕ → CodeReading TableLine → CodeReading TableLine
found_or line k other = elim line [
  | Some found ↦ record { result = Ok found; taken = k }
  | None ↦ other
]

-- whether the first k bits are a code, or begin no code
abbrev pub is_decided : List Member → List ℕ → ℕ → Bool
is_decided ms bits k = is_some (line_of ms k (front_number k bits)) || not (begins_longer ms k (front_number k bits))

-- what the first k bits give, if fewer bits are not enough
abbrev pub read_of : List Member → List ℕ → ℕ → CodeReading TableLine
read_of ms bits k =
    if nat_lt (length bits) k then cut_off_code k else found_or (line_of ms k (front_number k bits)) k (unknown_code k)

abbrev pub some_value : Result ℤ DecodeError → Result (Option ℤ) DecodeError
some_value r = r >>= λ n. Ok (Some n)

-- the value of a line, by the range bits after its code; None is out of band
abbrev pub value_after : TableLine → List ℕ → Result (Option ℤ) DecodeError
value_after line bits = if line.is_out_of_band then Ok None else value_by line (bits_next line.range_length bits)

-- how many bits the value takes
abbrev pub range_bits : TableLine → ℕ
range_bits line = if line.is_out_of_band then 0 else line.range_length

-- the value of a code's line, after the bits of the code
abbrev pub with_value : CodeReading TableLine → List ℕ → CodeReading (Option ℤ)
with_value reading bits =
    elim reading.result [
      | Ok line ↦ record { result = value_after line (drop reading.taken bits); taken = reading.taken + range_bits line }
      | Err e ↦ record { result = Err e; taken = reading.taken }
    ]

-- a header with widths that its flags can give
abbrev pub HasWidths : Header → Type 0
HasWidths h = (0 < h.prefix_bits) × (h.prefix_bits ≤ 8) × (h.range_bits ≤ 8)

-- the out-of-band line, if the flags ask for one
abbrev pub last_line : Header → Place → TableStep (List TableLine)
last_line h p =
    if h.has_out_of_band
    then (field (Huffman InvalidCode) h.prefix_bits p >>= λ (len, place). Ok (out_of_band len ∷ [], place))
    else Ok ([], p)
