-- How the first table of a code is kept: the code that begins each byte.
use Rattle.std.specs.Prelude.{◌≡◌, ℕ, ◌+◌, ◌-◌, ◌/◌, ◌^◌, ◌<◌, ◌≤◌, ◌⊎◌, List, ◌++◌, length, drop, slice_index_or, Ok}
use Rattle.jbig2_base.specs.Bits.{byte_bits}
use Rattle.jbig2_coder.specs.declared.huffman_table.line.TableLine.{TableLine}
use Rattle.jbig2_coder.specs.declared.huffman_table.levels.Level.{Level}
use Rattle.jbig2_coder.specs.declared.huffman_table.first_table.FirstCode.{FirstCode}
use Rattle.jbig2_coder.specs.declared.huffman_table.first_table.FirstTable.{FirstTable}
use Rattle.jbig2_coder.specs.inner.PrefixLevels.{walk, walk_of, groups_of, nodes}

module _ (lines : List TableLine) (levels : List Level) where
  -- The bits of v begin with this code, whatever bits come after.
  pub record Begins (v : ℕ) (code : FirstCode) : Type 0 where
    pub inside : code.line < length lines
    pub walks : (more : List ℕ) (x : TableLine) → walk_of lines levels 0 (byte_bits v ++ more)
        ≡ record { result = Ok (slice_index_or lines code.line x); taken = code.length }

  -- each code that is entered for a byte begins it
  abbrev pub AreRight : List FirstCode → Type 0
  AreRight codes =
      (v : ℕ) (d : FirstCode) → v < 256 → 0 < (slice_index_or codes v d).length
      → Begins v (slice_index_or codes v d)

  -- for the bytes from `from` on, the walk goes on at the inner nodes after the first eight levels
  abbrev pub WalksOn : ℕ → Type 0
  WalksOn from =
      (v : ℕ) (more : List ℕ) → v < 256 → from ≤ v → v - from < nodes (groups_of lines (drop 8 levels)) →
      walk_of lines levels 0 (byte_bits v ++ more) ≡ walk (groups_of lines (drop 8 levels)) 8 (v - from) more

  pub record AreFirst (table : FirstTable) : Type 0 where
    pub right : AreRight table.codes
    pub longer : WalksOn table.longer

-- The byte v begins with a code of the level. The level's codes have len bits and are numbered from `code` on.
pub record IsEntry (v : ℕ) (x : FirstCode) (level : Level) (len code : ℕ) : Type 0 where
  pub from : code ≤ v / 2 ^ (8 - len)
  pub below : v / 2 ^ (8 - len) < code + level.count
  pub is : x ≡ record { line = level.first + (v / 2 ^ (8 - len) - code); length = len }

-- Each byte keeps its code or gets a code of the level.
abbrev pub Enters : List FirstCode → List FirstCode → Level → ℕ → ℕ → Type 0
Enters old new level len code =
    (v : ℕ) (d : FirstCode) → v < 256 → (slice_index_or new v d ≡ slice_index_or old v d) ⊎ IsEntry v (slice_index_or new v d) level len code
