-- Counts of loads and words.
use Rattle.std.proofs.Common.{◌≡◌, ℕ, ◌+◌, ◌-◌, ◌*◌, ◌/◌, ◌<◌, ◌≤◌, min, true, false, List, length, drop, refl, sym, ap, subst, ◌∙◌, ⊎_elim, arith}
use Rattle.std.proofs.Math.Nat.{mul-le-mul_left, mul-suc}
use Rattle.std.proofs.lemmas.Bool.{cases_Bool, cases_lt}
use Rattle.std.proofs.lemmas.List.{length-drop}
use Rattle.jbig2_base.specs.Counts.{Counts, words_loaded, words_searched}
use Rattle.jbig2_mmr.specs.T6.{ends_block}
use Rattle.jbig2_mmr.specs.Steps.{MovesWithin}
use Rattle.jbig2_mmr.specs.inner.T6Reading.{after_end}
use Rattle.jbig2_mmr.specs.inner.T6Steps.{words_after, span_words}
use Rattle.jbig2_mmr.proofs.T6Bits.{end-after, end-none}

-- ---- one call after another
pub moves-none : (most : ℕ) (s : Counts) → MovesWithin most s s
moves-none most s = record { moves = omega arith; decisions = refl; run_tests = refl }

pub moves-loaded : (n most : ℕ) (old new : Counts) → new ≡ words_loaded n old → n ≤ most → MovesWithin most old new
moves-loaded n most old new e few =
    let loads : new.loads ≡ old.loads + n = ap (λ (c : Counts). c.loads) e in
    let words : new.words ≡ old.words = ap (λ (c : Counts). c.words) e in
    record { moves = omega arith; decisions = ap (λ (c : Counts). c.decisions) e; run_tests = ap (λ (c : Counts). c.run_tests) e }

pub moves-word : (old new : Counts) → new ≡ record old { words = old.words + 1 } → MovesWithin 1 old new
moves-word old new e =
    let loads : new.loads ≡ old.loads = ap (λ (c : Counts). c.loads) e in
    let words : new.words ≡ old.words + 1 = ap (λ (c : Counts). c.words) e in
    record { moves = omega arith; decisions = ap (λ (c : Counts). c.decisions) e; run_tests = ap (λ (c : Counts). c.run_tests) e }

pub moves-then : (a b most : ℕ) (old mid new : Counts) → MovesWithin a old mid → MovesWithin b mid new → a + b ≤ most → MovesWithin most old new
moves-then a b most old mid new first second few = record {
  moves = omega arith;
  decisions = second.decisions ∙ first.decisions;
  run_tests = second.run_tests ∙ first.run_tests;
}

pub moves-most : (a most : ℕ) (old new : Counts) → MovesWithin a old new → a ≤ most → MovesWithin most old new
moves-most a most old new it few = record { moves = omega arith; decisions = it.decisions; run_tests = it.run_tests }

-- ---- the words that a search goes over
pub found-words : (first index lead w place : ℕ) → first ≤ index → 64 * index < w → lead < 64 → place ≡ min (64 * index + lead) w → index + 1 - first ≡ words_searched (64 * first) w place
found-words first index lead w place opening inside few e = omega arith

pub all-words : (first index w : ℕ) → first ≤ index → (w + 63) / 64 ≤ index → (first < index → index ≤ (w + 63) / 64) → index - first ≡ words_searched (64 * first) w w
all-words first index w opening past within =
    ⊎_elim
    (λ (more : first < index). let last : index ≤ (w + 63) / 64 = within more in omega arith)
    (λ (none : index ≤ first). omega arith)
    (cases_lt first index)

-- b1 lies in the word of a0
pub same-word : (w a0 index lead b1 : ℕ) → index ≡ a0 / 64 → a0 < w → a0 ≤ b1 → b1 ≡ 64 * index + lead → lead < 64 → 0 ≡ words_after w a0 b1
same-word w a0 index lead b1 at inside forward e few = omega arith

-- or in a later one
pub later-word : (w a0 index b1 : ℕ) → index ≡ a0 / 64 → a0 < w → b1 ≤ w → (64 * (index + 1) ≤ w → 64 * (index + 1) ≤ b1) → words_searched (64 * (index + 1)) w b1 ≡ words_after w a0 b1
later-word w a0 index b1 at inside within after =
    ⊎_elim
    (λ (last : w < 64 * (index + 1)). omega arith)
    (λ (more : 64 * (index + 1) ≤ w). let later : 64 * (index + 1) ≤ b1 = after more in omega arith)
    (cases_lt w (64 * (index + 1)))

-- ---- turns
pub pass-words : (w a0 b1 b2 : ℕ) → a0 ≤ b1 → b1 < w → b1 ≤ b2 → words_after w a0 b1 + (1 + words_after w b1 b2) ≤ words_after w a0 b2 + 1
pass-words w a0 b1 b2 forward inside after = omega arith

pub vertical-words : (w a0 b1 a1 : ℕ) → b1 ≤ a1 + 3 → words_after w a0 b1 ≤ words_after w a0 a1 + 1
vertical-words w a0 b1 a1 near = omega arith

pub fault-words : (w a0 b1 : ℕ) → b1 ≤ w → words_after w a0 b1 ≤ words_after w a0 w
fault-words w a0 b1 within = omega arith

-- ---- rows
-- loads and words up to column a0, where this many bits were read
abbrev pub row_moves : ℕ → ℕ → ℕ
row_moves a0 bits = 1 + 2 * (a0 / 64) + 3 * bits

pub turn-moves : (w a0 from to next before now left : ℕ) → a0 ≤ from → to ≤ next → a0 ≤ next → left < now → now ≤ before → row_moves a0 (before - now) + (1 + (words_after w a0 next + 1 + span_words from to)) ≤ row_moves next (before - left)
turn-moves w a0 from to next before now left opening within forward shorter read = omega arith

pub fault-moves : (w here to a0 before now : ℕ) → here ≡ w → to ≡ w → a0 < w → row_moves a0 (before - now) + (1 + (words_after here a0 here + span_words 0 to)) ≤ 3 * ((w + 63) / 64 + before)
fault-moves w here to a0 before now e f inside =
    subst (λ (n : ℕ). row_moves a0 (before - now) + (1 + (words_after n a0 n + span_words 0 to)) ≤ 3 * ((w + 63) / 64 + before)) (sym e)
    (subst (λ (n : ℕ). row_moves a0 (before - now) + (1 + (words_after w a0 w + span_words 0 n)) ≤ 3 * ((w + 63) / 64 + before)) (sym f)
    (same w a0 before now inside))
  where
    same : (w a0 before now : ℕ) → a0 < w → row_moves a0 (before - now) + (1 + (words_after w a0 w + span_words 0 w)) ≤ 3 * ((w + 63) / 64 + before)
    same w a0 before now inside = omega arith

pub last-moves : (w a0 bits : ℕ) → 0 < w → a0 ≤ w → row_moves a0 bits ≤ 3 * ((w + 63) / 64 + bits)
last-moves w a0 bits wide within = omega arith

-- ---- bitmaps
-- loads and words of this many rows, of some words each, where this many bits were read
abbrev pub rows_moves : ℕ → ℕ → ℕ → ℕ
rows_moves words rows bits = 3 * (words * rows + bits)

pub next-moves : (words rows bits left after : ℕ) → after ≤ left → left ≤ bits → rows_moves words rows (bits - left) + 3 * (words + (left - after)) ≤ rows_moves words (rows + 1) (bits - after)
next-moves words rows bits left after shorter read =
    let more : words * (rows + 1) ≡ words * rows + words = ap (λ (n : ℕ). words * n) (omega arith) ∙ mul-suc words rows in
    omega (arith, more)

-- a row at fault takes all bits
pub stop-moves : (words rows bits left : ℕ) → left ≤ bits → rows_moves words rows (bits - left) + 3 * (words + left) ≤ rows_moves words (rows + 1) bits
stop-moves words rows bits left read =
    let more : words * (rows + 1) ≡ words * rows + words = ap (λ (n : ℕ). words * n) (omega arith) ∙ mul-suc words rows in
    omega (arith, more)

pub all-moves : (words rows height bits taken : ℕ) → rows ≤ height → bits ≤ taken → rows_moves words rows bits ≤ 3 * (words * height + taken)
all-moves words rows height bits taken within few =
    let most : words * rows ≤ words * height = mul-le-mul_left words within in
    omega arith

-- the bits that were read are those of the bytes that are taken, at most
pub used-bits : (all left after used : ℕ) → after ≤ left → used ≡ all - after / 8 → 8 * all - left ≤ 8 * used
used-bits all left after used shorter e = omega arith

pub drop-shorter : (n : ℕ) (bits : List ℕ) → length (drop n bits) ≤ length bits
drop-shorter n bits = omega (arith, length-drop n bits)

pub end-shorter : (bits : List ℕ) → length (after_end bits) ≤ length bits
end-shorter bits =
    ⊎_elim
    (λ (t : ends_block bits ≡ true). subst (λ (ys : List ℕ). length ys ≤ length bits) (sym (end-after bits t)) (drop-shorter 24 bits))
    (λ (f : ends_block bits ≡ false). subst (λ (ys : List ℕ). length ys ≤ length bits) (sym (end-none bits f)) (omega arith))
    (cases_Bool (ends_block bits))

-- the bound of a row, by the width of the bitmap and the bits before it
pub row-bound : (w here bits left : ℕ) (old new : Counts) → here ≡ w → bits ≡ left → 0 < w → (0 < here → MovesWithin (3 * ((here + 63) / 64 + bits)) old new) → MovesWithin (3 * ((w + 63) / 64 + left)) old new
row-bound w here bits left old new e f wide it =
    subst (λ (n : ℕ). MovesWithin (3 * ((w + 63) / 64 + n)) old new) f
    (subst (λ (n : ℕ). 0 < n → MovesWithin (3 * ((n + 63) / 64 + bits)) old new) e it wide)

pub both : {a b c : ℕ} → a ≤ b → b ≤ c → a ≤ c
both first second = omega arith
