-- The prefix codes of the symbols' ids (T.88, 7.4.3.1.7). The bits give the lengths of the codes, as runs that have
-- prefix codes themselves. A place in the bits and the number of symbols give the codes, and the place after them.
use Rattle.std.specs.Prelude.{ℕ, zero, suc, ◌+◌, ◌-◌, nat_lt, ◌==◌, List, [], ◌∷◌, ◌++◌, length, replicate, slice_get}
use Rattle.std.specs.Prelude.{Result, Ok, Err, ℤ, pos, negsuc, if◌then◌else◌}
use Rattle.jbig2_base.specs.Results.{◌>>=◌, refuse_if, some_or}
use Rattle.jbig2_base.specs.Bits.{Place, byte_boundary, start_of}
use Rattle.jbig2_base.specs.Fields.{bits_at}
use Rattle.jbig2_base.specs.declared.error.DecodeError.{DecodeError}
use Rattle.jbig2_base.specs.declared.error.DecodeError.TheVariants.{Huffman}
use Rattle.jbig2_base.specs.declared.error.HuffmanError.TheVariants.{InvalidCode}
use Rattle.jbig2_coder.specs.PrefixCode.{Member, table_of, value_at}
use Rattle.jbig2_coder.specs.Tables.{line}
use Rattle.jbig2_coder.specs.declared.huffman_table.line.TableLine.{TableLine}

abbrev pub invalid_code : DecodeError
invalid_code = Huffman InvalidCode

abbrev pub lines_from : ℕ → List ℕ → List TableLine  -- the numbers from n on, with codes of these lengths
lines_from n [] = []
lines_from n (len ∷ lens) = line len 0 (pos n) ∷ lines_from (n + 1) lens

-- `count` lengths of four bits each, after those so far
unfoldable pub short_lengths : ℕ → List ℕ → Place → Result (List ℕ × Place) DecodeError
short_lengths zero so_far p = Ok (so_far, p)
short_lengths (suc count) so_far p =
    bits_at invalid_code 4 p >>= λ (len, rest). short_lengths count (so_far ++ len ∷ []) rest

-- with the last length repeated this many more times
abbrev pub with_last_repeated : List ℕ → ℕ → Result (List ℕ) DecodeError
with_last_repeated so_far count =
    some_or invalid_code (slice_get so_far (length so_far - 1)) >>= λ len. Ok (so_far ++ replicate count len)

-- The lengths that a runcode means: itself, or the last length 3 to 6 times, or 3 to 10 or 11 to 138 zeros.
abbrev pub run_at : ℤ → List ℕ → Place → Result (List ℕ × Place) DecodeError
run_at (negsuc n) so_far p = Err invalid_code
run_at (pos code) so_far p =
    if nat_lt code 32 then Ok (so_far ++ code ∷ [], p)
    else if code == 32
    then (bits_at invalid_code 2 p >>= λ (n, rest). with_last_repeated so_far (n + 3) >>= λ lens. Ok (lens, rest))
    else if code == 33 then (bits_at invalid_code 3 p >>= λ (n, rest). Ok (so_far ++ replicate (n + 3) 0, rest))
    else (bits_at invalid_code 7 p >>= λ (n, rest). Ok (so_far ++ replicate (n + 11) 0, rest))

abbrev pub next_runcode : List Member → List ℕ → Place → Result (List ℕ × Place) DecodeError
next_runcode runcodes so_far p = value_at runcodes p >>= λ (code, rest). run_at code so_far rest

-- Runs, until there are `count` lengths. Each run has at least one, so `most` = `count` runs are enough.
unfoldable pub runs_at : ℕ → ℕ → List Member → List ℕ → Place → Result (List ℕ × Place) DecodeError
runs_at zero count runcodes so_far p = Ok (so_far, p)
runs_at (suc most) count runcodes so_far p =
    if nat_lt (length so_far) count
    then (next_runcode runcodes so_far p >>= λ (lens, rest). runs_at most count runcodes lens rest)
    else Ok (so_far, p)

-- the codes of the 35 runcodes (steps 1 and 2)
unfoldable pub runcodes_at : Place → Result (List Member × Place) DecodeError
runcodes_at p = do
  (lens, rest) ← short_lengths 35 [] p
  runcodes ← table_of (lines_from 0 lens)
  Ok (runcodes, rest)

-- the lengths of the codes of `count` symbols (steps 3 and 4); more lengths than that are refused
unfoldable pub symbol_lengths_at : ℕ → List Member → Place → Result (List ℕ × Place) DecodeError
symbol_lengths_at count runcodes p = do
  (lens, rest) ← runs_at count count runcodes [] p
  fit ← refuse_if (nat_lt count (length lens)) invalid_code
  Ok (lens, rest)

-- The codes of `count` symbols, and the place of the next whole byte (step 5).
unfoldable pub symbol_codes_from : ℕ → Place → Result (List Member × Place) DecodeError
symbol_codes_from count p = do
  (runcodes, after_runcodes) ← runcodes_at p
  (lens, rest) ← symbol_lengths_at count runcodes after_runcodes
  codes ← table_of (lines_from 0 lens)
  Ok (codes, byte_boundary rest)

abbrev pub symbol_codes_at : ℕ → List ℕ → Result (List Member × List ℕ) DecodeError
symbol_codes_at count bytes = symbol_codes_from count (start_of bytes) >>= λ (codes, rest). Ok (codes, rest.bytes)
