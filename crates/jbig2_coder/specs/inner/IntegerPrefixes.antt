-- The prefix of an integer, by its number of ones: it ends after its first 0, or with its fifth bit (T.88, Table A.1).
-- Then the contexts of symbol ids.
use Rattle.std.specs.Prelude.{ℕ, suc, zero, Bool, true, if◌then◌else◌, List, [], ◌∷◌, slice_index_or}
use Rattle.jbig2_coder.specs.Integers.{Reading, Range, next, read, prev_of, range, ranges}
use Rattle.jbig2_base.specs.Bits.{value_of_bits}

pub record Prefix : Type 0 where
  pub ones : ℕ
  pub reading : Reading

unfoldable pub prefix : ℕ → ℕ → List ℕ → Reading → Prefix
prefix zero ones bytes r = record { ones = ones; reading = r }
prefix (suc most) ones bytes r =
    let further = prefix most (suc ones) bytes (read prev_of bytes r) in
    if (next prev_of bytes r).symbol then further else record { ones = ones; reading = read prev_of bytes r }

-- the row with this many ones in its prefix
unfoldable pub range_of : ℕ → Range
range_of ones = slice_index_or ranges ones (range (true ∷ true ∷ true ∷ true ∷ true ∷ []) 32 4436)

-- the context of the next bit of a symbol id (T.88, A.3)
abbrev pub place_of : List Bool → ℕ
place_of bits = value_of_bits (true ∷ bits)
