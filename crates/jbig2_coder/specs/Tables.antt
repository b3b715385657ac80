-- The standard tables (T.88, B.5), to be compared with the standard line by line. Each of B.1 to B.15 has its lines
-- with the length of the prefix, the number of range bits and the lowest value. `prefix_code` gives their codes.
-- `standard` and `next_custom` are what a segment selects (7.4.2.1.6, 7.4.3.1.6): a table, and the custom tables that
-- are left.
use Rattle.std.specs.Prelude.{ℕ, zero, suc, true, false, List, [], ◌∷◌, ◌++◌, map, ℤ, pos, negsuc, Result, Ok, Err}
use Rattle.jbig2_coder.specs.declared.huffman_table.line.TableLine.{TableLine}
use Rattle.jbig2_coder.specs.PrefixCode.{Member, prefix_code}
use Rattle.jbig2_base.specs.declared.error.DecodeError.{DecodeError}
use Rattle.jbig2_base.specs.declared.error.DecodeError.TheVariants.{Huffman}
use Rattle.jbig2_base.specs.declared.error.HuffmanError.TheVariants.{MissingTables}

abbrev pub minus : ℕ → ℤ
minus zero = pos 0
minus (suc n) = negsuc n

abbrev pub line : ℕ → ℕ → ℤ → TableLine  -- a line, by its prefix length, its range length and its low value
line len range low =
    record { range_low = low; prefix_length = len; range_length = range; is_lower = false; is_out_of_band = false }

abbrev pub lower : ℕ → ℤ → TableLine  -- the lower range table line; its values go down from its low value
lower len low =
    record { range_low = low; prefix_length = len; range_length = 32; is_lower = true; is_out_of_band = false }

abbrev pub upper : ℕ → ℤ → TableLine  -- the upper range table line
upper len low = line len 32 low

abbrev pub out_of_band : ℕ → TableLine
out_of_band len =
    record { range_low = pos 0; prefix_length = len; range_length = 0; is_lower = false; is_out_of_band = true }

unfoldable pub lines_a : List TableLine  -- B.1
lines_a = line 1 4 (pos 0) ∷ line 2 8 (pos 16) ∷ line 3 16 (pos 272) ∷ upper 3 (pos 65808) ∷ []

unfoldable pub lines_b : List TableLine  -- B.2
lines_b = line 1 0 (pos 0) ∷ line 2 0 (pos 1) ∷ line 3 0 (pos 2) ∷ line 4 3 (pos 3) ∷ line 5 6 (pos 11) ∷
    upper 6 (pos 75) ∷ out_of_band 6 ∷ []

unfoldable pub lines_c : List TableLine  -- B.3
lines_c = line 8 8 (minus 256) ∷ line 1 0 (pos 0) ∷ line 2 0 (pos 1) ∷ line 3 0 (pos 2) ∷ line 4 3 (pos 3) ∷
    line 5 6 (pos 11) ∷ lower 8 (minus 257) ∷ upper 7 (pos 75) ∷ out_of_band 6 ∷ []

unfoldable pub lines_d : List TableLine  -- B.4
lines_d = line 1 0 (pos 1) ∷ line 2 0 (pos 2) ∷ line 3 0 (pos 3) ∷ line 4 3 (pos 4) ∷ line 5 6 (pos 12) ∷
    upper 5 (pos 76) ∷ []

unfoldable pub lines_e : List TableLine  -- B.5
lines_e = line 7 8 (minus 255) ∷ line 1 0 (pos 1) ∷ line 2 0 (pos 2) ∷ line 3 0 (pos 3) ∷ line 4 3 (pos 4) ∷
    line 5 6 (pos 12) ∷ lower 7 (minus 256) ∷ upper 6 (pos 76) ∷ []

unfoldable pub lines_f : List TableLine  -- B.6
lines_f = line 5 10 (minus 2048) ∷ line 4 9 (minus 1024) ∷ line 4 8 (minus 512) ∷ line 4 7 (minus 256) ∷
    line 5 6 (minus 128) ∷ line 5 5 (minus 64) ∷ line 4 5 (minus 32) ∷ line 2 7 (pos 0) ∷ line 3 7 (pos 128) ∷
    line 3 8 (pos 256) ∷ line 4 9 (pos 512) ∷ line 4 10 (pos 1024) ∷ lower 6 (minus 2049) ∷ upper 6 (pos 2048) ∷ []

unfoldable pub lines_g : List TableLine  -- B.7
lines_g = line 4 9 (minus 1024) ∷ line 3 8 (minus 512) ∷ line 4 7 (minus 256) ∷ line 5 6 (minus 128) ∷
    line 5 5 (minus 64) ∷ line 4 5 (minus 32) ∷ line 4 5 (pos 0) ∷ line 5 5 (pos 32) ∷ line 5 6 (pos 64) ∷
    line 4 7 (pos 128) ∷ line 3 8 (pos 256) ∷ line 3 9 (pos 512) ∷ line 3 10 (pos 1024) ∷ lower 5 (minus 1025) ∷
    upper 5 (pos 2048) ∷ []

unfoldable pub lines_h : List TableLine  -- B.8
lines_h = line 8 3 (minus 15) ∷ line 9 1 (minus 7) ∷ line 8 1 (minus 5) ∷ line 9 0 (minus 3) ∷ line 7 0 (minus 2) ∷
    line 4 0 (minus 1) ∷ line 2 1 (pos 0) ∷ line 5 0 (pos 2) ∷ line 6 0 (pos 3) ∷ line 3 4 (pos 4) ∷
    line 6 1 (pos 20) ∷ line 4 4 (pos 22) ∷ line 4 5 (pos 38) ∷ line 5 6 (pos 70) ∷ line 5 7 (pos 134) ∷
    line 6 7 (pos 262) ∷ line 7 8 (pos 390) ∷ line 6 10 (pos 646) ∷ lower 9 (minus 16) ∷ upper 9 (pos 1670) ∷
    out_of_band 2 ∷ []

unfoldable pub lines_i : List TableLine  -- B.9
lines_i = line 8 4 (minus 31) ∷ line 9 2 (minus 15) ∷ line 8 2 (minus 11) ∷ line 9 1 (minus 7) ∷
    line 7 1 (minus 5) ∷ line 4 1 (minus 3) ∷ line 3 1 (minus 1) ∷ line 3 1 (pos 1) ∷ line 5 1 (pos 3) ∷
    line 6 1 (pos 5) ∷ line 3 5 (pos 7) ∷ line 6 2 (pos 39) ∷ line 4 5 (pos 43) ∷ line 4 6 (pos 75) ∷
    line 5 7 (pos 139) ∷ line 5 8 (pos 267) ∷ line 6 8 (pos 523) ∷ line 7 9 (pos 779) ∷ line 6 11 (pos 1291) ∷
    lower 9 (minus 32) ∷ upper 9 (pos 3339) ∷ out_of_band 2 ∷ []

unfoldable pub lines_j : List TableLine  -- B.10
lines_j = line 7 4 (minus 21) ∷ line 8 0 (minus 5) ∷ line 7 0 (minus 4) ∷ line 5 0 (minus 3) ∷ line 2 2 (minus 2) ∷
    line 5 0 (pos 2) ∷ line 6 0 (pos 3) ∷ line 7 0 (pos 4) ∷ line 8 0 (pos 5) ∷ line 2 6 (pos 6) ∷
    line 5 5 (pos 70) ∷ line 6 5 (pos 102) ∷ line 6 6 (pos 134) ∷ line 6 7 (pos 198) ∷ line 6 8 (pos 326) ∷
    line 6 9 (pos 582) ∷ line 6 10 (pos 1094) ∷ line 7 11 (pos 2118) ∷ lower 8 (minus 22) ∷ upper 8 (pos 4166) ∷
    out_of_band 2 ∷ []

unfoldable pub lines_k : List TableLine  -- B.11
lines_k = line 1 0 (pos 1) ∷ line 2 1 (pos 2) ∷ line 4 0 (pos 4) ∷ line 4 1 (pos 5) ∷ line 5 1 (pos 7) ∷
    line 5 2 (pos 9) ∷ line 6 2 (pos 13) ∷ line 7 2 (pos 17) ∷ line 7 3 (pos 21) ∷ line 7 4 (pos 29) ∷
    line 7 5 (pos 45) ∷ line 7 6 (pos 77) ∷ upper 7 (pos 141) ∷ []

unfoldable pub lines_l : List TableLine  -- B.12
lines_l = line 1 0 (pos 1) ∷ line 2 0 (pos 2) ∷ line 3 1 (pos 3) ∷ line 5 0 (pos 5) ∷ line 5 1 (pos 6) ∷
    line 6 1 (pos 8) ∷ line 7 0 (pos 10) ∷ line 7 1 (pos 11) ∷ line 7 2 (pos 13) ∷ line 7 3 (pos 17) ∷
    line 7 4 (pos 25) ∷ line 8 5 (pos 41) ∷ upper 8 (pos 73) ∷ []

unfoldable pub lines_m : List TableLine  -- B.13
lines_m = line 1 0 (pos 1) ∷ line 3 0 (pos 2) ∷ line 4 0 (pos 3) ∷ line 5 0 (pos 4) ∷ line 4 1 (pos 5) ∷
    line 3 3 (pos 7) ∷ line 6 1 (pos 15) ∷ line 6 2 (pos 17) ∷ line 6 3 (pos 21) ∷ line 6 4 (pos 29) ∷
    line 6 5 (pos 45) ∷ line 7 6 (pos 77) ∷ upper 7 (pos 141) ∷ []

unfoldable pub lines_n : List TableLine  -- B.14
lines_n = line 3 0 (minus 2) ∷ line 3 0 (minus 1) ∷ line 1 0 (pos 0) ∷ line 3 0 (pos 1) ∷ line 3 0 (pos 2) ∷ []

unfoldable pub lines_o : List TableLine  -- B.15
lines_o = line 7 4 (minus 24) ∷ line 6 2 (minus 8) ∷ line 5 1 (minus 4) ∷ line 4 0 (minus 2) ∷ line 3 0 (minus 1) ∷
    line 1 0 (pos 0) ∷ line 3 0 (pos 1) ∷ line 4 0 (pos 2) ∷ line 5 1 (pos 3) ∷ line 6 2 (pos 5) ∷
    line 7 4 (pos 9) ∷ lower 7 (minus 25) ∷ upper 7 (pos 25) ∷ []

abbrev pub uniform : ℕ → ℕ → List TableLine  -- lines 0 to count - 1, with codes of this many bits and no range bits
uniform zero length = []
uniform (suc n) length = uniform n length ++ line length 0 (pos n) ∷ []

unfoldable pub standard_tables : List (List TableLine)  -- B.1 to B.15
standard_tables = lines_a ∷ lines_b ∷ lines_c ∷ lines_d ∷ lines_e ∷ lines_f ∷ lines_g ∷ lines_h ∷ lines_i ∷ lines_j ∷
    lines_k ∷ lines_l ∷ lines_m ∷ lines_n ∷ lines_o ∷ []

unfoldable pub standard_codes : List (List Member)
standard_codes = map prefix_code standard_tables

-- a standard table; the custom tables stay
abbrev pub standard : List Member → List (List Member) → Result (List Member × List (List Member)) DecodeError
standard table customs = Ok (table, customs)

-- the next custom table; refused if none is left (our own rule)
abbrev pub next_custom : List (List Member) → Result (List Member × List (List Member)) DecodeError
next_custom [] = Err (Huffman MissingTables)
next_custom (table ∷ others) = Ok (table, others)
