-- What a mode adds.
use Rattle.std.proofs.Common.{◌≡◌, ℕ, ◌+◌, ◌-◌, ◌*◌, ◌/◌, ◌<◌, ◌≤◌, min, Bool, true, cond, not, List, ◌++◌, sym, ◌∙◌, ap, subst, append_assoc, arith}
use Rattle.std.proofs.lemmas.Bool.{true≢false}
use Rattle.jbig2_base.specs.Colour.{IsFirst}
use Rattle.jbig2_base.specs.Counts.{Counts, words_loaded, words_searched}
use Rattle.jbig2_base.specs.Grid.{Grid}
use Rattle.jbig2_base.specs.Search.{place_from}
use Rattle.jbig2_mmr.specs.T6.{Head, is_change, is_change_from}
use Rattle.jbig2_mmr.specs.declared.mmr.codes.Mode.TheVariants.{Horizontal}
use Rattle.jbig2_mmr.specs.inner.T6Reading.{pixels_of_row}
use Rattle.jbig2_inverses.specs.MmrRowWriter.{Code, mode_word, run_bits}
use Rattle.jbig2_mmr_writer.specs.declared.changes.Place.{Place}
use Rattle.jbig2_mmr_writer.specs.declared.codes.TheConstants.{HORIZONTAL, PASS}
use Rattle.jbig2_mmr_writer.specs.inner.Entries.{word_of_entry}
use Rattle.jbig2_mmr_writer.specs.inner.Places.{AddsMode, IsPlace, head_of, horizontal_code, next_code, next_other}
use Rattle.jbig2_mmr_writer.proofs.ChoiceLemmas.{Searched, code-pass, code-runs, code-vertical, vertical_code}
use Rattle.jbig2_mmr_writer.proofs.CodeTables.{horizontal-word, pass-word}
use Rattle.jbig2_mmr_writer.proofs.PlaceLemmas.{first-later, next-is, same-is}

-- ---- states
pub place-after_mode : (g : Grid) (y w : ℕ) (p : Place) → w ≡ g.width → p.past_start ≡ true → IsFirst (pixels_of_row g y) (not p.black) p.a0 w p.a1 → IsPlace g y p
place-after_mode g y w p wide past first = record {
  a1 = subst (λ (n : ℕ). IsFirst (pixels_of_row g y) (not p.black) p.a0 n p.a1) wide first;
  first = λ start. absurd (true≢false (sym past ∙ start));
}

pub place-ordered : (g : Grid) (y : ℕ) (p : Place) → IsPlace g y p → (p.a0 ≤ p.a1) × (p.a1 ≤ g.width)
place-ordered g y p is = (is.a1.after, is.a1.within)

pub starts-at : (p : Place) (a0 : ℕ) (black : Bool) → head_of p ≡ record { a0 = a0; past_start = true; black = black } → p.a0 ≡ a0
starts-at p a0 black e = ap (λ (h : Head). h.a0) e

-- ---- the horizontal mode
pub adds-horizontal : (g : Grid) (y w a2 : ℕ) (p next : Place) (old opened half new : List ℕ) → w ≡ g.width → IsPlace g y p → IsFirst (pixels_of_row g y) p.black p.a1 w a2
    → opened ≡ old ++ word_of_entry HORIZONTAL → half ≡ opened ++ run_bits p.black (p.a1 - p.a0) → new ≡ half ++ run_bits (not p.black) (a2 - p.a1)
    → head_of next ≡ record { a0 = a2; past_start = true; black = p.black } → IsPlace g y next → AddsMode g y (horizontal_code g y p) old new next
adds-horizontal g y w a2 p next old opened half new wide is first word one two head place =
    let here : IsFirst (pixels_of_row g y) p.black p.a1 g.width a2 = subst (λ (n : ℕ). IsFirst (pixels_of_row g y) p.black p.a1 n a2) wide first in
    let end : a2 ≡ next_other g y (not p.black) p.a1 = same-is (pixels_of_row g y) p.black p.a1 g.width a2 is.a1.within here in
    let runs : ℕ → List ℕ = λ a. run_bits p.black (p.a1 - p.a0) ++ run_bits (not p.black) (a - p.a1) in
    record {
      bits =
          two
          ∙ ap (λ (t : List ℕ). t ++ run_bits (not p.black) (a2 - p.a1)) (one ∙ ap (λ (t : List ℕ). t ++ run_bits p.black (p.a1 - p.a0)) (word ∙ ap (λ (t : List ℕ). old ++ t) horizontal-word))
          ∙ append_assoc (old ++ mode_word Horizontal) (run_bits p.black (p.a1 - p.a0)) (run_bits (not p.black) (a2 - p.a1))
          ∙ append_assoc old (mode_word Horizontal) (runs a2)
          ∙ ap (λ (a : ℕ). old ++ (mode_word Horizontal ++ runs a)) end;
      head = head ∙ ap (λ (a : ℕ). let made : Head = record { a0 = a; past_start = true; black = p.black } in made) end;
      place = place;
    }

-- ---- the next mode
module _ (g : Grid) (y above : ℕ) (p : Place) (w to b1 b2 : ℕ) where
  abbrev pub Seen : Type 0  -- what was searched
  Seen = Searched g.width (pixels_of_row g above) (pixels_of_row g y) (head_of p) p.a1 to b1 b2

  pub seen : w ≡ g.width → IsPlace g y p → p.a0 < g.width → to ≡ min w (p.a1 + 4)
      → b1 ≡ place_from (is_change_from (pixels_of_row g above) p.black) (cond p.past_start (p.a0 + 1) 0) to → b2 ≡ place_from (is_change (pixels_of_row g above)) (b1 + 1) p.a1 → Seen
  seen wide is inside end first second =
      let to_is : to ≡ min g.width (p.a1 + 4) = end ∙ ap (λ (n : ℕ). min n (p.a1 + 4)) wide in
      let order = is.a1.after in
      record {
        a1_is = next-is (pixels_of_row g y) p.black p.a0 g.width p.a1 (omega (arith, inside)) is.a1;
        a1_within = is.a1.within;
        room = omega (arith, inside, to_is, order);
        to_is = to_is;
        b1_is = first;
        b2_is = second;
      }

  pub adds-pass : (old new : List ℕ) → Seen → IsPlace g y p → p.a0 ≤ b2 → b2 < p.a1 → new ≡ old ++ word_of_entry PASS
      → AddsMode g y (next_code g y above p) old new (record { a0 = b2; past_start = true; black = p.black; a1 = p.a1 })
  adds-pass old new seen is forward left word =
      let e = code-pass g.width (pixels_of_row g above) (pixels_of_row g y) (head_of p) p.a1 to b1 b2 seen left in
      record {
        bits = word ∙ ap (λ (t : List ℕ). old ++ t) pass-word ∙ ap (λ (c : Code). old ++ c.bits) (sym e);
        head = ap (λ (c : Code). c.head) (sym e);
        place = record {
          a1 = first-later (pixels_of_row g y) (not p.black) p.a0 b2 g.width p.a1 forward (omega (arith, left)) is.a1;
          first = λ start. absurd (true≢false start);
        };
      }

  pub adds-vertical : (next : Place) (old new word : List ℕ) → Seen → p.a1 ≤ b2 → p.a1 ≤ b1 + 3 → b1 ≤ p.a1 + 3 → new ≡ old ++ word → word ≡ (vertical_code p.a1 b1 (head_of p)).bits
      → head_of next ≡ record { a0 = p.a1; past_start = true; black = not p.black } → IsPlace g y next → AddsMode g y (next_code g y above p) old new next
  adds-vertical next old new word seen past right left bits is_word head place =
      let e = code-vertical g.width (pixels_of_row g above) (pixels_of_row g y) (head_of p) p.a1 to b1 b2 seen past right left in
      record {
        bits = bits ∙ ap (λ (t : List ℕ). old ++ t) is_word ∙ ap (λ (c : Code). old ++ c.bits) (sym e);
        head = head ∙ ap (λ (c : Code). c.head) (sym e);
        place = place;
      }

  pub adds-runs : (next : Place) (old new : List ℕ) → Seen → p.a1 ≤ b2 → (p.a1 ≤ b1 + 3 → b1 ≤ p.a1 + 3 → ⊥) → AddsMode g y (horizontal_code g y p) old new next → AddsMode g y (next_code g y above p) old new next
  adds-runs next old new seen past far adds =
      subst (λ (c : Code). AddsMode g y c old new next) (sym (code-runs g.width (pixels_of_row g above) (pixels_of_row g y) (head_of p) p.a1 to b1 b2 seen past far)) adds

-- ---- loads, one for each 64 columns that are searched
pub loads-found : (s t : Counts) (from to place : ℕ) → t ≡ words_loaded (words_searched from to place) s → t.loads ≤ s.loads + (1 + (place - from) / 64)
loads-found s t from to place e = omega (arith, ap (λ (c : Counts). c.loads) e)

pub loads-searched : (old middle new a0 a1 b1 b2 : ℕ) → a0 ≤ a1 → a0 ≤ b1 → b1 ≤ a1 + 4 → b2 ≤ a1
    → middle ≤ old + (2 + (b1 - a0) / 64) → new ≤ middle + (1 + (b2 - b1) / 64) → new + a0 ≤ old + (3 + a1)
loads-searched old middle new a0 a1 b1 b2 order low near within first second = omega (arith, order, low, near, within, first, second)

pub loads-passed : (old middle new a0 a1 b1 b2 : ℕ) → a0 ≤ b1 → b1 ≤ b2
    → middle ≤ old + (2 + (b1 - a0) / 64) → new ≤ middle + (1 + (b2 - b1) / 64) → new + (a0 + a1) ≤ old + (5 + b2 + a1)
loads-passed old middle new a0 a1 b1 b2 low order first second = omega (arith, low, order, first, second)

pub loads-vertical : (old middle new a0 a1 next : ℕ) → a1 ≤ next → middle + a0 ≤ old + (3 + a1) → new ≤ middle + (1 + (next - a1) / 64) → new + (a0 + a1) ≤ old + (5 + a1 + next)
loads-vertical old middle new a0 a1 next order first second = omega (arith, order, first, second)

pub loads-runs : (old middle new a1 a2 next : ℕ) → a1 ≤ a2 → a2 ≤ next → middle ≤ old + (1 + (a2 - a1) / 64) → new ≤ middle + (1 + (next - a2) / 64) → new + 2 * a1 ≤ old + (2 + a2 + next)
loads-runs old middle new a1 a2 next order more first second = omega (arith, order, more, first, second)
