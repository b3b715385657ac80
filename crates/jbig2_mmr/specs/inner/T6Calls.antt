-- What the calls of a T.6 decoder that may meet a fault state (our own rule).
use Rattle.std.specs.Prelude.{◌≡◌, ℕ, ◌+◌, ◌-◌, ◌*◌, ◌<◌, Bool, true, false, ◌&&◌, if◌then◌else◌, List, Option, Some}
use Rattle.std.specs.Prelude.{None}
use Rattle.jbig2_base.specs.Bits.{bit}
use Rattle.jbig2_base.specs.Grid.{Grid, differ}
use Rattle.jbig2_mmr.specs.declared.mmr.change.RowWord.{RowWord}
use Rattle.jbig2_mmr.specs.declared.mmr.row.Place.{Place}
use Rattle.jbig2_mmr.specs.declared.mmr.row.Turn.{Turn}
use Rattle.jbig2_mmr.specs.T6.{Head, Step, black_at}
use Rattle.jbig2_mmr.specs.inner.T6Reading.{IsTurn, IsRow}

-- a place in a row, as the definition has it
abbrev pub head_of : Place → Head
head_of p = record { a0 = p.a0; past_start = p.past_start; black = p.black }

-- a word of a row and its changes to either colour; the left neighbour of its first pixel is taken as white
pub record IsWordOf (row : ℕ → Bool) (w : RowWord) : Type 0 where
  pub left : ℕ
  pub pixels : (k : ℕ) → k < 64 → bit w.pixels (64 - 1 - k) ≡ row (64 * w.index + k)
  pub first : bit left 63 ≡ bit 0 0
  pub others : (k : ℕ) → k < 63 → bit left k ≡ bit w.pixels (k + 1)
  pub changes : (black : Bool) (k : ℕ) → bit (if black then w.to_white else w.to_black) k
      ≡ (differ (bit w.pixels k) (bit left k) && differ (bit w.pixels k) black)

-- a mode that was read, compared with the definition
abbrev pub ReadStep : ℕ → Head → Option Step → Option Turn → List ℕ → Type 0
ReadStep w h (Some s) (Some t) left =
    (s.head ≡ head_of t.next) × (s.left ≡ left) × IsTurn w h s.added t.turn (head_of t.next)
ReadStep w h None None left = Unit {0}
ReadStep w h (Some s) None left = ⊥
ReadStep w h None (Some t) left = ⊥

-- a row that was read, compared with the definition; a row with a fault is white
abbrev pub ReadRow : Option (List ℕ × List ℕ) → Bool → Grid → Grid → ℕ → List ℕ → Type 0
ReadRow (Some (changes, rest)) true old new y left = IsRow old new y (black_at changes) × (rest ≡ left)
ReadRow None false old new y left = IsRow old new y (λ x. false)
ReadRow (Some r) false old new y left = ⊥
ReadRow None true old new y left = ⊥
