-- The state of a row as the writer has it, and what a mode adds.
use Rattle.std.specs.Prelude.{◌≡◌, ℕ, ◌-◌, Bool, false, not, true, List, ◌++◌}
use Rattle.jbig2_base.specs.Colour.{IsFirst}
use Rattle.jbig2_base.specs.Grid.{Grid, differ}
use Rattle.jbig2_base.specs.Search.{place_from}
use Rattle.jbig2_mmr.specs.T6.{Head}
use Rattle.jbig2_mmr.specs.declared.mmr.codes.Mode.TheVariants.{Horizontal}
use Rattle.jbig2_mmr.specs.inner.T6Reading.{pixels_of_row}
use Rattle.jbig2_inverses.specs.MmrRowWriter.{Code, code_of, mode_word, run_bits}
use Rattle.jbig2_mmr_writer.specs.declared.changes.Place.{Place}

abbrev pub head_of : Place → Head  -- the state, as the definition has it
head_of p = record { a0 = p.a0; past_start = p.past_start; black = p.black }

-- a state of row y: a1 is the next changing element, and before the first mode the row begins white
pub record IsPlace (g : Grid) (y : ℕ) (p : Place) : Type 0 where
  pub a1 : IsFirst (pixels_of_row g y) (not p.black) p.a0 g.width p.a1
  pub first : p.past_start ≡ false → (p.a0 ≡ 0) × (p.black ≡ false)

abbrev pub next_code : Grid → ℕ → ℕ → Place → Code  -- the next mode of row y under row `above`
next_code g y above p = code_of g.width (pixels_of_row g above) (pixels_of_row g y) (head_of p)

abbrev pub next_other : Grid → ℕ → Bool → ℕ → ℕ  -- the first pixel of row y from a place on that has not this colour
next_other g y black x = place_from (λ i. differ (pixels_of_row g y i) black) x g.width

abbrev pub horizontal_code : Grid → ℕ → Place → Code  -- the horizontal mode
horizontal_code g y p =
    let a2 = next_other g y (not p.black) p.a1 in
    record {
      bits = mode_word Horizontal ++ (run_bits p.black (p.a1 - p.a0) ++ run_bits (not p.black) (a2 - p.a1));
      head = record { a0 = a2; past_start = true; black = p.black };
    }

-- a mode of row y is added to the bits, and `next` is the state after it
pub record AddsMode (g : Grid) (y : ℕ) (code : Code) (old new : List ℕ) (next : Place) : Type 0 where
  pub bits : new ≡ old ++ code.bits
  pub head : head_of next ≡ code.head
  pub place : IsPlace g y next
