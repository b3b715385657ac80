-- The writer's tables have T.6's code words: each entry states the word of the run or the mode that looks it up.
use Rattle.std.proofs.Common.{◌≡◌, ℕ, ◌+◌, ◌-◌, ◌*◌, ◌/◌, ◌%◌, ◌^◌, ◌<◌, ◌≤◌, Bool, true, false, List, [], ◌∷◌, map, get_or, length, ltb, ◌&&◌, zero, suc, refl, ap, sym, ◌∙◌, arith}
use Rattle.std.specs.List.{range_with_len}
use Rattle.std.proofs.lemmas.List.{get_or-map}
use Rattle.std.proofs.lemmas.List.FromFn.{get_or-map-range_with_len}
use Rattle.std.proofs.lemmas.Bool.{and_parts, ltb-true}
use Rattle.jbig2_mmr.specs.T6Codes.{modes, longer_runs, white_runs, black_runs, vertical_left, vertical_right}
use Rattle.jbig2_mmr.specs.declared.mmr.codes.Mode.TheVariants.{Horizontal, Pass}
use Rattle.jbig2_inverses.specs.Digits.{digits}
use Rattle.jbig2_inverses.specs.MmrRowWriter.{mode_word, run_word, word_of}
use Rattle.jbig2_mmr_writer.specs.declared.codes.TheConstants.{BLACK_ENDS, BLACK_PARTS, HORIZONTAL, LEFT, PASS, RIGHT, WHITE_ENDS, WHITE_PARTS}
use Rattle.jbig2_mmr_writer.specs.inner.Entries.{word_of_entry}

abbrev pub words : List ℕ → List (List ℕ)
words table = map (λ entry. word_of_entry entry) table

abbrev pub parts : Bool → ℕ → List ℕ
parts black place = run_word black ((place + 1) * 64)

-- whether each code fits its size
pub smalls : List ℕ → Bool
smalls [] = true
smalls (e ∷ es) = ltb (e / 16) (2 ^ (e % 16)) && smalls es

small : (es : List ℕ) (i : ℕ) → smalls es ≡ true → get_or es i 0 / 16 < 2 ^ (get_or es i 0 % 16)
unfolding smalls
small [] i all = omega arith
small (e ∷ es) zero all = ltb-true (e / 16) (2 ^ (e % 16)) (and_parts _ _ all).0
small (e ∷ es) (suc i) all = small es i (and_parts _ _ all).1

-- a table whose n entries have the words that f gives for 0, 1 and so on, and fit their sizes
pub record IsTable (f : ℕ → List ℕ) (n : ℕ) (table : List ℕ) : Type 0 where
  pub are : words table ≡ map f (range_with_len 0 n)
  pub fit : smalls table ≡ true
  pub many : length table ≡ n

pub entry-fits : {f : ℕ → List ℕ} {n : ℕ} {table : List ℕ} → IsTable f n table → (i : ℕ) → get_or table i 0 / 16 < 2 ^ (get_or table i 0 % 16)
entry-fits {f} {n} {table} is i = small table i is.fit

pub black_ends : IsTable (λ run. run_word true run) 64 BLACK_ENDS
unfolding digits word_of black_runs longer_runs smalls
black_ends = record { are = refl; fit = refl; many = refl }

pub white_ends : IsTable (λ run. run_word false run) 64 WHITE_ENDS
unfolding digits word_of white_runs longer_runs smalls
white_ends = record { are = refl; fit = refl; many = refl }

pub black_parts : IsTable (λ place. parts true place) 40 BLACK_PARTS
unfolding digits word_of black_runs longer_runs smalls
black_parts = record { are = refl; fit = refl; many = refl }

pub white_parts : IsTable (λ place. parts false place) 40 WHITE_PARTS
unfolding digits word_of white_runs longer_runs smalls
white_parts = record { are = refl; fit = refl; many = refl }

rights : words RIGHT ≡ map (λ n. mode_word (vertical_right n)) (range_with_len 0 4)
unfolding digits word_of modes
rights = refl

lefts : words LEFT ≡ map (λ n. mode_word (vertical_left n)) (range_with_len 0 4)
unfolding digits word_of modes
lefts = refl

pub pass-word : word_of_entry PASS ≡ mode_word Pass
unfolding digits word_of modes
pass-word = refl

pub horizontal-word : word_of_entry HORIZONTAL ≡ mode_word Horizontal
unfolding digits word_of modes
horizontal-word = refl

-- the entry at a place of a table
at-place : (f : ℕ → List ℕ) (table : List ℕ) (n i : ℕ) → words table ≡ map f (range_with_len 0 n) → i < length table → i < n → word_of_entry (get_or table i 0) ≡ f i
at-place f table n i are inside few =
    sym (get_or-map (λ (entry : ℕ). word_of_entry entry) table i 0 [] inside)
    ∙ ap (λ (t : List (List ℕ)). get_or t i []) are
    ∙ get_or-map-range_with_len f 0 n i i [] few (omega arith)

-- the entry of a run
pub end-word : {table : List ℕ} (black : Bool) → IsTable (λ run. run_word black run) 64 table → (run : ℕ) → run < 64 → word_of_entry (get_or table run 0) ≡ run_word black run
end-word {table} black is run few = at-place (λ n. run_word black n) table 64 run is.are (omega (arith, is.many, few)) few

-- the entry of a part of 64 times `times` columns
pub part-word : {table : List ℕ} (black : Bool) → IsTable (λ place. parts black place) 40 table → (times : ℕ) → 1 ≤ times → times ≤ 40 → word_of_entry (get_or table (times - 1) 0) ≡ run_word black (times * 64)
part-word {table} black is times some few =
    let inside : times - 1 < 40 = omega (arith, some, few) in
    let same : times - 1 + 1 ≡ times = omega (arith, some) in
    at-place (λ place. parts black place) table 40 (times - 1) is.are (omega (arith, is.many, inside)) inside ∙ ap (λ (n : ℕ). run_word black (n * 64)) same

pub right-mode : (n : ℕ) → n < 4 → word_of_entry (get_or RIGHT n 0) ≡ mode_word (vertical_right n)
right-mode n few = at-place (λ k. mode_word (vertical_right k)) RIGHT 4 n rights few few

pub left-mode : (n : ℕ) → n < 4 → word_of_entry (get_or LEFT n 0) ≡ mode_word (vertical_left n)
left-mode n few = at-place (λ k. mode_word (vertical_left k)) LEFT 4 n lefts few few
