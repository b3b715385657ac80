-- The probability states of the adaptive coder (T.88, Table E.1). `qe_row` takes the number of a row and gives the row.
use Rattle.std.specs.Prelude.{ℕ, Bool, true, false, List, [], ◌∷◌, slice_index_or}

-- A row: the unlikely symbol's probability, the next row after either symbol, and whether the likely symbol changes.
abbrev pub QeData : Type 0
QeData = record { qe : ℕ; nmps : ℕ; nlps : ℕ; switch : Bool }

abbrev row : ℕ → ℕ → ℕ → Bool → QeData
row qe nmps nlps switch = record { qe = qe; nmps = nmps; nlps = nlps; switch = switch }

unfoldable pub rows : List QeData  -- Table E.1, row 0 first
rows =
    (row 0x5601 1 1 true) ∷
    (row 0x3401 2 6 false) ∷
    (row 0x1801 3 9 false) ∷
    (row 0x0AC1 4 12 false) ∷
    (row 0x0521 5 29 false) ∷
    (row 0x0221 38 33 false) ∷
    (row 0x5601 7 6 true) ∷
    (row 0x5401 8 14 false) ∷
    (row 0x4801 9 14 false) ∷
    (row 0x3801 10 14 false) ∷
    (row 0x3001 11 17 false) ∷
    (row 0x2401 12 18 false) ∷
    (row 0x1C01 13 20 false) ∷
    (row 0x1601 29 21 false) ∷
    (row 0x5601 15 14 true) ∷
    (row 0x5401 16 14 false) ∷
    (row 0x5101 17 15 false) ∷
    (row 0x4801 18 16 false) ∷
    (row 0x3801 19 17 false) ∷
    (row 0x3401 20 18 false) ∷
    (row 0x3001 21 19 false) ∷
    (row 0x2801 22 19 false) ∷
    (row 0x2401 23 20 false) ∷
    (row 0x2201 24 21 false) ∷
    (row 0x1C01 25 22 false) ∷
    (row 0x1801 26 23 false) ∷
    (row 0x1601 27 24 false) ∷
    (row 0x1401 28 25 false) ∷
    (row 0x1201 29 26 false) ∷
    (row 0x1101 30 27 false) ∷
    (row 0x0AC1 31 28 false) ∷
    (row 0x09C1 32 29 false) ∷
    (row 0x08A1 33 30 false) ∷
    (row 0x0521 34 31 false) ∷
    (row 0x0441 35 32 false) ∷
    (row 0x02A1 36 33 false) ∷
    (row 0x0221 37 34 false) ∷
    (row 0x0141 38 35 false) ∷
    (row 0x0111 39 36 false) ∷
    (row 0x0085 40 37 false) ∷
    (row 0x0049 41 38 false) ∷
    (row 0x0025 42 39 false) ∷
    (row 0x0015 43 40 false) ∷
    (row 0x0009 44 41 false) ∷
    (row 0x0005 45 42 false) ∷
    (row 0x0001 45 43 false) ∷
    (row 0x5601 46 46 false) ∷ []

unfoldable pub qe_row : ℕ → QeData  -- row k of the table; no context has a row past the end
qe_row k = slice_index_or rows k (row 0x5601 46 46 false)
