-- The rule of T.6 that the bits break where strict mode refuses MMR data (docs/FORMAT.md). `BreaksMmr` takes the size,
-- the bytes and an error, and says which row is missing or has a fault. `mmr::decode` states that its own error has
-- this cause.
use Rattle.std.specs.Prelude.{◌≡◌, ◌<◌, ◌≤◌, ◌⊎◌, ℕ, zero, suc, ◌+◌, Bool, true, false, not, List, [], length, All}
use Rattle.std.specs.Prelude.{Some, ℤ, pos, ◌+ℤ◌, ◌<ℤ◌}
use Rattle.jbig2_base.specs.declared.error.DecodeError.{DecodeError}
use Rattle.jbig2_base.specs.declared.error.DecodeError.TheVariants.{Region}
use Rattle.jbig2_base.specs.declared.error.RegionError.TheVariants.{InvalidMmrData}
use Rattle.jbig2_mmr.specs.T6.{Head, Step, b1_of, begins, bits_of, ends_block, next_step, pixel_of, read_code, row}
use Rattle.jbig2_mmr.specs.T6.{row_start, run, runs_of}
use Rattle.jbig2_mmr.specs.T6Codes.{modes}
use Rattle.jbig2_mmr.specs.declared.mmr.codes.Mode.TheVariants.{Horizontal, Vertical}

abbrev pub BeginNone : {A : Type 0} → List (A × List ℕ) → List ℕ → Type 0  -- no code word of the table begins the bits
BeginNone words bits = All (λ (value, word). begins word bits ≡ false) words

-- A run: no code word of its table (tables 2 and 3) begins the bits, or a make-up code does, and the rest has a fault.
abbrev pub BreaksRun : ℕ → Bool → List ℕ → Type 0
BreaksRun zero black bits = BeginNone (runs_of black) bits
BreaksRun (suc most) black bits =
    BeginNone (runs_of black) bits
    ⊎ ((part : ℕ) × (left : List ℕ) × (read_code (runs_of black) bits ≡ Some (part, left)) × (64 ≤ part)
    × BreaksRun most black left)

-- Horizontal: the first run has a fault; or the second run has one; or both together go past the end of the row.
abbrev pub BreaksRuns : ℕ → Head → List ℕ → Type 0
BreaksRuns w h bits =
    BreaksRun (length bits) h.black bits
    ⊎ ((first : ℕ) × (left : List ℕ) × (run h.black bits ≡ Some (first, left))
    × (BreaksRun (length left) (not h.black) left
    ⊎ ((second : ℕ) × (rest : List ℕ) × (run (not h.black) left ≡ Some (second, rest)) × (w < h.a0 + first + second))))

-- No mode's code word begins the bits (2.2.2, table 1); or the mode's runs have a fault; or a1 is left of a0 or past w.
abbrev pub BreaksMode : ℕ → (ℕ → Bool) → Head → List ℕ → Type 0
BreaksMode w above h bits =
    BeginNone modes bits
    ⊎ (((left : List ℕ) × (read_code modes bits ≡ Some (Horizontal, left)) × BreaksRuns w h left)
    ⊎ ((distance : ℤ) × (left : List ℕ) × (read_code modes bits ≡ Some (Vertical distance, left))
    × (let a1 = pos (b1_of w above h) +ℤ distance in (a1 <ℤ pos h.a0) ⊎ (pos w <ℤ a1))))

-- The row is not at its end, and the next mode or a later one has a fault, or there were as many modes as bits.
abbrev pub BreaksRow : ℕ → ℕ → (ℕ → Bool) → Head → List ℕ → Type 0
BreaksRow zero w above h bits = h.a0 < w
BreaksRow (suc most) w above h bits =
    (h.a0 < w)
    × (BreaksMode w above h bits
    ⊎ ((s : Step) × (next_step w above h bits ≡ Some s) × BreaksRow most w above s.head s.left))

-- Of n rows the next one is missing (the end of block comes in its place) or has a fault, or a later one does.
abbrev pub BreaksMmrRows : ℕ → ℕ → List ℕ → List ℕ → Type 0
BreaksMmrRows zero w above bits = ⊥
BreaksMmrRows (suc n) w above bits =
    (ends_block bits ≡ true)
    ⊎ (BreaksRow (length bits) w (pixel_of w above) row_start bits
    ⊎ ((changes : List ℕ) × (left : List ℕ) × (row w (pixel_of w above) bits ≡ Some (changes, left))
    × BreaksMmrRows n w changes left))

-- Only in strict mode, and only if there are columns.
abbrev pub BreaksMmr : Bool → ℕ → ℕ → List ℕ → DecodeError → Type 0
BreaksMmr strict w h bytes (Region InvalidMmrData) = (strict ≡ true) × (0 < w) × BreaksMmrRows h w [] (bits_of bytes)
BreaksMmr strict w h bytes _ = ⊥
