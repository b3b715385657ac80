-- What the single calls of a T.6 decoder state (our own rule).
use Rattle.std.specs.Prelude.{◌≡◌, ℕ, zero, suc, ◌+◌, ◌*◌, ◌/◌, ◌%◌, ◌<◌, ◌≤◌, Bool, true, false, List, [], ◌∷◌, ◌++◌}
use Rattle.std.specs.Prelude.{length, drop, replicate, Option, Some, None, if◌then◌else◌, ◌-◌, ℤ, pos, ◌-ℤ◌, ◌≤ℤ◌}
use Rattle.jbig2_base.specs.Grid.{Grid, pixel_at, differ, IsTable}
use Rattle.jbig2_mmr.specs.T6.{begins, ends_block, Head, black_at}
use Rattle.jbig2_mmr.specs.declared.mmr.codes.Mode.TheVariants.{Horizontal, Pass, Vertical}
use Rattle.jbig2_mmr.specs.declared.mmr.codes.Mode.{Mode}

-- the lowest n bits of a number, high bit first, and then other bits
abbrev pub spell : ℕ → ℕ → List ℕ → List ℕ
spell zero v following = following
spell (suc n) v following = spell n (v / 2) (v % 2 ∷ following)

-- data, and the bits of it that are left to read
pub record Rest : Type 0 where
  pub bytes : List ℕ
  pub left : List ℕ

-- the value of the code that begins the bits, and how many bits it takes
unfoldable pub code_at : {A : Type 0} → List (A × List ℕ) → List ℕ → Option (A × ℕ)
code_at [] bits = None
code_at ((value, word) ∷ codes) bits = if begins word bits then Some (value, length word) else code_at codes bits

-- An entry of a table of runs: 16 times the run, plus the size of its code in bits; 0 if there is no code.
abbrev pub entry_of : Option (ℕ × ℕ) → ℕ
entry_of None = 0
entry_of (Some (run, size)) = 16 * run + size

-- the bits after an end of block, if they begin with one
abbrev pub after_end : List ℕ → List ℕ
after_end bits = if ends_block bits then drop 24 bits else bits

-- the bits, and zeros after them
abbrev pub padded_bits : List ℕ → List ℕ
padded_bits bits = bits ++ replicate 24 0

-- what was read, and the bits after it
abbrev pub with_rest : {A : Type 0} → Option A → List ℕ → Option (A × List ℕ)
with_rest None left = None
with_rest (Some n) left = Some (n, left)

-- a run that was read, compared with the definition; none if it is longer than the room
abbrev pub ReadRun : Option (ℕ × List ℕ) → ℕ → Option ℕ → List ℕ → Type 0
ReadRun (Some (run, rest)) room (Some n) left = (run ≡ n) × (rest ≡ left) × (n ≤ room)
ReadRun (Some (run, rest)) room None left = room < run
ReadRun None room (Some n) left = ⊥
ReadRun None room None left = Unit {0}

-- row y
abbrev pub pixels_of_row : Grid → ℕ → ℕ → Bool
pixels_of_row g y x = pixel_at g x y

-- the row above row y: white above row 0
abbrev pub row_above : Grid → ℕ → ℕ → Bool
row_above g zero x = false
row_above g (suc y) x = pixel_at g x y

-- row y has the pixels of f, and the other rows are unchanged
pub record IsRow (old new : Grid) (y : ℕ) (f : ℕ → Bool) : Type 0 where
  pub width : new.width ≡ old.width
  pub height : new.height ≡ old.height
  pub table : IsTable new
  pub here : (x : ℕ) → x < old.width → pixel_at new x y ≡ f x
  pub other : (x j : ℕ) → (j ≡ y → ⊥) → pixel_at new x j ≡ pixel_at old x j

-- the pixels of row y from column `from` to column `to` - 1 have one colour, and all others are unchanged
pub record IsSpan (old new : Grid) (y from to : ℕ) (black : Bool) : Type 0 where
  pub width : new.width ≡ old.width
  pub height : new.height ≡ old.height
  pub table : IsTable new
  pub inside : (x : ℕ) → from ≤ x → x < to → pixel_at new x y ≡ black
  pub left : (x : ℕ) → x < from → pixel_at new x y ≡ pixel_at old x y
  pub right : (x : ℕ) → to ≤ x → pixel_at new x y ≡ pixel_at old x y
  pub other : (x j : ℕ) → (j ≡ y → ⊥) → pixel_at new x j ≡ pixel_at old x j

-- From the head on, the added changes keep the colour up to `turn`, and change it from there up to a0 of the next head.
pub record IsTurn (w : ℕ) (h : Head) (added : List ℕ) (turn : ℕ) (next : Head) : Type 0 where
  pub past_start : next.past_start ≡ true
  pub forward : h.a0 ≤ turn
  pub ordered : turn ≤ next.a0
  pub inside : next.a0 ≤ w
  pub before : (x : ℕ) → x < turn → black_at added x ≡ false
  pub between : (x : ℕ) → turn ≤ x → x < next.a0 → black_at added x ≡ true
  pub following : (x : ℕ) → next.a0 ≤ x → differ h.black (black_at added x) ≡ next.black

abbrev pub IsWithinThree : ℤ → Type 0  -- a distance of at most three pixels to the left (T.6, table 1)
IsWithinThree distance = (pos 0 -ℤ pos 3) ≤ℤ distance

abbrev pub IsNearMode : Option Mode → Type 0  -- the same for the distance of a vertical mode
IsNearMode None = Unit {0}
IsNearMode (Some Pass) = Unit {0}
IsNearMode (Some Horizontal) = Unit {0}
IsNearMode (Some (Vertical distance)) = IsWithinThree distance
