-- The code's tables are T.6's: each entry is the code that begins the bits that look it up.
use Rattle.std.proofs.Common.{◌≡◌, ℕ, ◌/◌, ◌%◌, ◌^◌, ◌<◌, ◌≤◌, ℤ, pos, cond, eqb, ltb, Option, Some, None, Bool, true, false, List, [], map, replicate, get_or, refl, ap, sym, ◌∙◌, arith}
use Rattle.std.specs.Prelude.{◌-ℤ◌}
use Rattle.std.proofs.lemmas.Bool.{cond-true, cond-false, eq-eqb, ne_eqb, lt-ltb, le-ltb, ltb-true}
use Rattle.std.specs.Option.{is_some}
use Rattle.std.specs.List.{range_with_len}
use Rattle.std.proofs.lemmas.List.FromFn.{get_or-map-range_with_len}
use Rattle.jbig2_mmr.specs.declared.mmr.codes.black.TheConstants.{BLACK_SHORT, BLACK_LONG}
use Rattle.jbig2_mmr.specs.declared.mmr.codes.white.TheConstants.{WHITE_SHORT, WHITE_LONG}
use Rattle.jbig2_mmr.specs.declared.mmr.codes.Mode.{Mode}
use Rattle.jbig2_mmr.specs.declared.mmr.codes.Mode.TheVariants.{Pass, Horizontal, Vertical}
use Rattle.jbig2_mmr.specs.declared.mmr.codes.modes.TheConstants.{MODES}
use Rattle.jbig2_mmr.specs.T6.{is_prefix_free, runs_of}
use Rattle.jbig2_mmr.specs.T6Codes.{modes, longer_runs, white_runs, black_runs}
use Rattle.jbig2_mmr.specs.inner.T6Reading.{spell, code_at, entry_of}
use Rattle.jbig2_mmr.proofs.T6Lookup.{are_short, at-all, long-same, short-entry}

pub modes-prefix_free : is_prefix_free modes ≡ true
unfolding is_prefix_free modes
modes-prefix_free = refl

pub runs-prefix_free : (black : Bool) → is_prefix_free (runs_of black) ≡ true
unfolding is_prefix_free white_runs black_runs longer_runs
runs-prefix_free true = refl
runs-prefix_free false = refl

-- no code is longer than 7 bits, or than 13
pub modes-short : are_short 7 modes ≡ true
unfolding modes
modes-short = refl

pub runs-short : (black : Bool) → are_short 13 (runs_of black) ≡ true
unfolding white_runs black_runs longer_runs
runs-short true = refl
runs-short false = refl

pub runs-window : (black : Bool) → are_short 24 (runs_of black) ≡ true
unfolding white_runs black_runs longer_runs
runs-window true = refl
runs-window false = refl

white-twelve : are_short 12 white_runs ≡ true
unfolding white_runs longer_runs
white-twelve = refl

-- what an entry of the table of modes says
abbrev pub mode_of : ℕ → Mode
mode_of kind = cond (ltb 2 kind) (Vertical (pos kind -ℤ pos 6)) (cond (eqb kind 2) Horizontal Pass)

said : ℕ → Option (Mode × ℕ)
said e = cond (eqb (e % 8) 0) None (Some (mode_of (e / 8), e % 8))

pub kind-vertical : (kind : ℕ) (z : ℤ) → 2 < kind → z ≡ pos kind -ℤ pos 6 → Vertical z ≡ mode_of kind
kind-vertical kind z high is = ap (λ (y : ℤ). Vertical y) is ∙ sym (cond-true (ltb 2 kind) (Vertical (pos kind -ℤ pos 6)) (cond (eqb kind 2) Horizontal Pass) (lt-ltb 2 kind high))

kind-low : (kind : ℕ) → kind ≤ 2 → mode_of kind ≡ cond (eqb kind 2) Horizontal Pass
kind-low kind low = cond-false (ltb 2 kind) (Vertical (pos kind -ℤ pos 6)) (cond (eqb kind 2) Horizontal Pass) (le-ltb 2 kind low)

pub kind-horizontal : (kind : ℕ) → kind ≡ 2 → Horizontal ≡ mode_of kind
kind-horizontal kind e = sym (kind-low kind (omega arith) ∙ cond-true (eqb kind 2) Horizontal Pass (eq-eqb kind 2 e))

pub kind-pass : (kind : ℕ) → kind ≤ 2 → (kind ≡ 2 → ⊥) → Pass ≡ mode_of kind
kind-pass kind low other = sym (kind-low kind low ∙ cond-false (eqb kind 2) Horizontal Pass (ne_eqb kind 2 other))

mode_at : ℕ → Option (Mode × ℕ)
mode_at bits = code_at modes (spell 7 bits [])

said_at : ℕ → Option (Mode × ℕ)
said_at bits = said (get_or MODES bits 0)

modes-same : map said_at (range_with_len 0 128) ≡ map mode_at (range_with_len 0 128)
unfolding said_at said mode_at code_at modes
modes-same = refl

modes-small : map (λ b. ltb (get_or MODES b 0) 256) (range_with_len 0 128) ≡ replicate 128 true
modes-small = refl

pub mode-small : (v : ℕ) → v < 128 → get_or MODES v 0 / 8 < 32
mode-small v inside =
    let below : get_or MODES v 0 < 256 = ltb-true (get_or MODES v 0) 256 (at-all (λ b. ltb (get_or MODES b 0) 256) true 0 128 v modes-small (omega arith) (omega arith)) in
    omega (arith, below)

mode-said : (v : ℕ) → v < 128 → said (get_or MODES v 0) ≡ code_at modes (spell 7 v [])
unfolding said_at mode_at
mode-said v inside =
    sym (get_or-map-range_with_len said_at 0 128 v v None inside (omega arith))
    ∙ ap (λ (t : List (Option (Mode × ℕ))). get_or t v None) modes-same
    ∙ get_or-map-range_with_len mode_at 0 128 v v None inside (omega arith)

pub mode-none : (v : ℕ) → v < 128 → get_or MODES v 0 % 8 ≡ 0 → code_at modes (spell 7 v []) ≡ None
unfolding said
mode-none v inside none =
    let e : ℕ = get_or MODES v 0 in
    sym (mode-said v inside) ∙ cond-true (eqb (e % 8) 0) None (Some (mode_of (e / 8), e % 8)) (eq-eqb (e % 8) 0 none)

pub mode-some : (v : ℕ) → v < 128 → (get_or MODES v 0 % 8 ≡ 0 → ⊥) → code_at modes (spell 7 v []) ≡ Some (mode_of (get_or MODES v 0 / 8), get_or MODES v 0 % 8)
unfolding said
mode-some v inside some =
    let e : ℕ = get_or MODES v 0 in
    sym (mode-said v inside) ∙ cond-false (eqb (e % 8) 0) None (Some (mode_of (e / 8), e % 8)) (ne_eqb (e % 8) 0 some)

-- the entry of the code that begins n bits
entry_at : Bool → ℕ → ℕ → ℕ
entry_at black n bits = entry_of (code_at (runs_of black) (spell n bits []))

starts : Bool → ℕ → ℕ → Bool
starts black n bits = is_some (code_at (runs_of black) (spell n bits []))

black_long-table : BLACK_LONG ≡ map (entry_at true 13) (range_with_len 0 512)
unfolding entry_at code_at black_runs longer_runs
black_long-table = refl

black_short-table : BLACK_SHORT ≡ map (entry_at true 6) (range_with_len 0 64)
unfolding entry_at code_at black_runs longer_runs
black_short-table = refl

white_long-table : WHITE_LONG ≡ map (entry_at false 12) (range_with_len 0 32)
unfolding entry_at code_at white_runs longer_runs
white_long-table = refl

white_short-table : WHITE_SHORT ≡ map (entry_at false 9) (range_with_len 0 512)
unfolding entry_at code_at white_runs longer_runs
white_short-table = refl

-- short codes begin all other bits
black_short-all : map (starts true 6) (range_with_len 4 60) ≡ replicate 60 true
unfolding starts code_at black_runs longer_runs
black_short-all = refl

white_short-all : map (starts false 9) (range_with_len 4 508) ≡ replicate 508 true
unfolding starts code_at white_runs longer_runs
white_short-all = refl

pub black-long : (v : ℕ) → v / 2 ^ 11 < 512 → get_or BLACK_LONG (v / 2 ^ 11) 0 ≡ entry_of (code_at black_runs (spell 24 v []))
unfolding entry_at
black-long v inside =
    ap (λ (t : List ℕ). get_or t (v / 2 ^ 11) 0) black_long-table
    ∙ get_or-map-range_with_len (entry_at true 13) 0 512 (v / 2 ^ 11) (v / 2 ^ 11) 0 inside (omega arith)
    ∙ ap entry_of (sym (long-same black_runs 13 11 v (runs-short true)))

pub black-short : (v : ℕ) → v < 2 ^ 24 → 512 ≤ v / 2 ^ 11 → get_or BLACK_SHORT (v / 2 ^ 18) 0 ≡ entry_of (code_at black_runs (spell 24 v []))
unfolding entry_at starts
black-short v small long =
    ap (λ (t : List ℕ). get_or t (v / 2 ^ 18) 0) black_short-table
    ∙ get_or-map-range_with_len (entry_at true 6) 0 64 (v / 2 ^ 18) (v / 2 ^ 18) 0 (omega arith) (omega arith)
    ∙ short-entry black_runs 6 18 v (runs-prefix_free true) (at-all (starts true 6) true 4 60 (v / 2 ^ 18) black_short-all (omega arith) (omega arith))

pub white-long : (v : ℕ) → v / 2 ^ 12 < 32 → get_or WHITE_LONG (v / 2 ^ 12) 0 ≡ entry_of (code_at white_runs (spell 24 v []))
unfolding entry_at
white-long v inside =
    ap (λ (t : List ℕ). get_or t (v / 2 ^ 12) 0) white_long-table
    ∙ get_or-map-range_with_len (entry_at false 12) 0 32 (v / 2 ^ 12) (v / 2 ^ 12) 0 inside (omega arith)
    ∙ ap entry_of (sym (long-same white_runs 12 12 v white-twelve))

pub white-short : (v : ℕ) → v < 2 ^ 24 → 32 ≤ v / 2 ^ 12 → get_or WHITE_SHORT (v / 2 ^ 15) 0 ≡ entry_of (code_at white_runs (spell 24 v []))
unfolding entry_at starts
white-short v small long =
    ap (λ (t : List ℕ). get_or t (v / 2 ^ 15) 0) white_short-table
    ∙ get_or-map-range_with_len (entry_at false 9) 0 512 (v / 2 ^ 15) (v / 2 ^ 15) 0 (omega arith) (omega arith)
    ∙ short-entry white_runs 9 15 v (runs-prefix_free false) (at-all (starts false 9) true 4 508 (v / 2 ^ 15) white_short-all (omega arith) (omega arith))
