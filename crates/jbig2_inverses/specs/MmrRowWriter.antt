-- T.6, which T.88 calls MMR, as it is written: a row of pixels under the row above it. `row_bits` chooses the modes by
-- T.6's coding procedure (2.2.3). Then the law that the reading of `T6` gives back what was written.
use Rattle.std.specs.Prelude.{◌≡◌, ℕ, zero, suc, ◌+◌, ◌-◌, ◌*◌, ◌/◌, ◌%◌, ◌==◌, Bool, true, false, not, ◌&&◌}
use Rattle.std.specs.Prelude.{nat_le, nat_lt, List, [], ◌∷◌, ◌++◌, if◌then◌else◌, Some}
use Rattle.std.specs.Ordering.{int_eq}
use Rattle.jbig2_base.specs.Grid.{differ}
use Rattle.jbig2_base.specs.Search.{place_from}
use Rattle.jbig2_mmr.specs.declared.mmr.codes.Mode.{Mode}
use Rattle.jbig2_mmr.specs.declared.mmr.codes.Mode.TheVariants.{Pass, Horizontal, Vertical}
use Rattle.jbig2_mmr.specs.T6Codes.{modes, vertical_right, vertical_left}
use Rattle.jbig2_mmr.specs.T6.{Head, runs_of, b1_of, b2_of, row_start, row, pixel_of}

-- ---- codes (T.6, tables 1 to 3)
-- the word of the first value that passes
unfoldable pub word_of : {A : Type 0} → (A → Bool) → List (A × List ℕ) → List ℕ
word_of is [] = []
word_of is ((value, word) ∷ codes) = if is value then word else word_of is codes

abbrev pub same_mode : Mode → Mode → Bool
same_mode Pass Pass = true
same_mode Horizontal Horizontal = true
same_mode (Vertical one) (Vertical other) = int_eq one other
same_mode _ _ = false

abbrev pub mode_word : Mode → List ℕ
mode_word mode = word_of (same_mode mode) modes

abbrev pub run_word : Bool → ℕ → List ℕ
run_word black length = word_of (λ n. n == length) (runs_of black)

abbrev pub repeated : ℕ → List ℕ → List ℕ
repeated zero word = []
repeated (suc n) word = word ++ repeated n word

-- A run: the make-up code of 2560 as often as it fits, the make-up code of the multiple of 64 that is left, if it is
-- not 0, and the terminating code.
unfoldable pub run_bits : Bool → ℕ → List ℕ
run_bits black length =
    let left = length % 2560 in
    repeated (length / 2560) (run_word black 2560)
    ++ (if nat_lt left 64 then [] else run_word black (left / 64 * 64))
    ++ run_word black (left % 64)

-- ---- one mode (2.2.2)
pub record Code : Type 0 where  -- the bits of a mode, and the state of the row after it
  pub bits : List ℕ
  pub head : Head

module _ (w : ℕ) (above pixels : ℕ → Bool) where  -- the width, the row above, and the row
  abbrev pub next_other : Bool → ℕ → ℕ  -- the first pixel from a place on that has not this colour
  next_other black x = place_from (λ i. differ (pixels i) black) x w

  -- a1 and a2 are the next two changing elements. Pass mode, if b2 is left of a1. Else vertical mode, if a1 is at most
  -- three pixels from b1. Else horizontal mode.
  unfoldable pub code_of : Head → Code
  code_of h =
      let a1 = next_other h.black h.a0 in
      let a2 = next_other (not h.black) a1 in
      let b1 = b1_of w above h in
      let b2 = b2_of w above h in
      let mode = if nat_le b1 a1 then vertical_right (a1 - b1) else vertical_left (b1 - a1) in
      let runs = run_bits h.black (a1 - h.a0) ++ run_bits (not h.black) (a2 - a1) in
      if nat_lt b2 a1 then
      record { bits = mode_word Pass; head = record { a0 = b2; past_start = true; black = h.black } }
      else if nat_le a1 (b1 + 3) && nat_le b1 (a1 + 3) then
      record { bits = mode_word mode; head = record { a0 = a1; past_start = true; black = not h.black } }
      else
      record { bits = mode_word Horizontal ++ runs; head = record { a0 = a2; past_start = true; black = h.black } }

  unfoldable pub bits_from : ℕ → Head → List ℕ  -- the rest of the row, in at most this many modes
  bits_from zero h = []
  bits_from (suc most) h =
      let code = code_of h in
      if nat_le w h.a0 then [] else code.bits ++ bits_from most code.head

  unfoldable pub row_bits : List ℕ  -- a row; no mode but the first leaves a0 where it is
  row_bits = bits_from (w + 1) row_start

-- Each row under each row above it is read back, and the bits after it are left. Outside of the row all is white.
abbrev pub RowsReadBack : Type 0
RowsReadBack = (w : ℕ) (above pixels : ℕ → Bool) (rest : List ℕ)
    → (changes : List ℕ) × (row w above (row_bits w above pixels ++ rest) ≡ Some (changes, rest))
    × ((x : ℕ) → pixel_of w changes x ≡ (nat_lt x w && pixels x))
