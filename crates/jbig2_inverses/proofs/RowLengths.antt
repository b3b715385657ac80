-- How many bits modes and runs have.
use Rattle.std.proofs.Common.{◌≡◌, ℕ, zero, suc, ◌+◌, ◌-◌, ◌*◌, ◌/◌, ◌%◌, ◌<◌, ◌≤◌, eqb, ltb, leb, Bool, true, false, cond, not, List, [], ◌∷◌, ◌++◌, length, refl, sym, ◌∙◌, ap, subst, arith, ⊎_elim, lt-ltb, leb-true, length-append}
use Rattle.std.specs.List.{list_all}
use Rattle.std.proofs.lemmas.Bool.{cond-true, cond_both, cases_lt, and_parts, agree_below, agree_below_at}
use Rattle.jbig2_mmr.specs.declared.mmr.codes.Mode.{Mode}
use Rattle.jbig2_mmr.specs.declared.mmr.codes.Mode.TheVariants.{Pass, Horizontal}
use Rattle.jbig2_mmr.specs.T6Codes.{modes, longer_runs, white_runs, black_runs}
use Rattle.jbig2_mmr.specs.T6.{runs_of}
use Rattle.jbig2_inverses.specs.MmrRowWriter.{word_of, same_mode, mode_word, run_word, repeated, run_bits}

word-length : {A : Type 0} (most : ℕ) (is : A → Bool) (codes : List (A × List ℕ)) → list_all (λ e. leb (length e.1) most) codes ≡ true → length (word_of is codes) ≤ most
unfolding word_of
word-length most is [] h = omega arith
word-length most is ((value, word) ∷ codes) h =
    let parts = and_parts (leb (length word) most) (list_all (λ e. leb (length e.1) most) codes) h in
    cond_both (is value) word (word_of is codes) (λ (w : List ℕ). length w ≤ most) (λ e. leb-true (length word) most parts.0) (λ e. word-length most is codes parts.1)

short-modes : list_all (λ (e : Mode × List ℕ). leb (length e.1) 7) modes ≡ true
unfolding modes
short-modes = refl

short-runs : (black : Bool) → list_all (λ (e : ℕ × List ℕ). leb (length e.1) 13) (runs_of black) ≡ true
unfolding white_runs black_runs longer_runs
short-runs true = refl
short-runs false = refl

pub mode-length : (mode : Mode) → length (mode_word mode) ≤ 7
mode-length mode = word-length 7 (λ other. same_mode mode other) modes short-modes

pub pass-length : length (mode_word Pass) ≡ 4
unfolding word_of modes
pass-length = refl

pub horizontal-length : length (mode_word Horizontal) ≡ 3
unfolding word_of modes
horizontal-length = refl

run-word-length : (black : Bool) (n : ℕ) → length (run_word black n) ≤ 13
run-word-length black n = word-length 13 (λ other. eqb other n) (runs_of black) (short-runs black)

-- short runs: what a run of one colour saves of seven bits for each pixel, a run of the other one may use
saved : Bool → ℕ
saved black = cond black 2 1

white-short : agree_below (λ n. leb (length (run_word false (n + 1)) + 1) (7 * (n + 1))) (λ n. true) 63 ≡ true
unfolding word_of white_runs longer_runs
white-short = refl

black-short : agree_below (λ n. leb (length (run_word true (n + 1)) + 2) (7 * (n + 1))) (λ n. true) 63 ≡ true
unfolding word_of black_runs longer_runs
black-short = refl

none-length : (black : Bool) → length (run_word black 0) ≤ 10
unfolding word_of white_runs black_runs longer_runs
none-length true = omega arith
none-length false = omega arith

word-saves : (black : Bool) (n : ℕ) → n < 63 → length (run_word black (n + 1)) + saved black ≤ 7 * (n + 1)
unfolding saved
word-saves true n few = leb-true (length (run_word true (n + 1)) + 2) (7 * (n + 1)) (agree_below_at (λ m. leb (length (run_word true (m + 1)) + 2) (7 * (m + 1))) (λ m. true) 63 n black-short few)
word-saves false n few = leb-true (length (run_word false (n + 1)) + 1) (7 * (n + 1)) (agree_below_at (λ m. leb (length (run_word false (m + 1)) + 1) (7 * (m + 1))) (λ m. true) 63 n white-short few)

length-repeated : (n : ℕ) (word : List ℕ) → length word ≤ 13 → length (repeated n word) ≤ 13 * n
length-repeated zero word h = omega arith
length-repeated (suc n) word h = let e = length-append word (repeated n word) in let m = length-repeated n word h in omega (arith, e, m, h)

-- a short run is one word
run-short : (black : Bool) (n : ℕ) → n < 64 → length (run_bits black n) ≡ length (run_word black n)
unfolding run_bits
run-short black n few =
    let m : n % 2560 ≡ n = omega (arith, few) in
    let k : n / 2560 ≡ 0 = omega (arith, few) in
    let r : n % 64 ≡ n = omega (arith, few) in
    let no : List ℕ = [] in
    ap (λ (j : ℕ). length (repeated j (run_word black 2560) ++ cond (ltb (n % 2560) 64) [] (run_word black (n % 2560 / 64 * 64)) ++ run_word black (n % 2560 % 64))) k
    ∙ ap (λ (j : ℕ). length (cond (ltb j 64) [] (run_word black (j / 64 * 64)) ++ run_word black (j % 64))) m
    ∙ ap (λ (w : List ℕ). length (w ++ run_word black (n % 64))) (cond-true (ltb n 64) no (run_word black (n / 64 * 64)) (lt-ltb n 64 few))
    ∙ ap (λ (j : ℕ). length (run_word black j)) r

run-long : (black : Bool) (n : ℕ) → length (run_bits black n) ≤ 13 * (n / 2560) + 26
unfolding run_bits
run-long black n =
    let m = n % 2560 in
    let front = repeated (n / 2560) (run_word black 2560) in
    let middle = cond (ltb m 64) [] (run_word black (m / 64 * 64)) in
    let last = run_word black (m % 64) in
    let e = length-append (front ++ middle) last in
    let f = length-append front middle in
    let a = length-repeated (n / 2560) (run_word black 2560) (run-word-length black 2560) in
    let b : length middle ≤ 13 = cond_both (ltb m 64) [] (run_word black (m / 64 * 64)) (λ (w : List ℕ). length w ≤ 13) (λ t. omega arith) (λ t. run-word-length black (m / 64 * 64)) in
    let c = run-word-length black (m % 64) in
    omega (arith, e, f, a, b, c)

saved-few : (black : Bool) → saved black ≤ 2
unfolding saved
saved-few true = omega arith
saved-few false = omega arith

run-saves : (black : Bool) (n : ℕ) → 1 ≤ n → length (run_bits black n) + saved black ≤ 7 * n
run-saves black n some = ⊎_elim
    (λ (few : n < 64).
    let e = run-short black n few in
    let back : n - 1 + 1 ≡ n = omega (arith, some) in
    let word = subst (λ (k : ℕ). length (run_word black k) + saved black ≤ 7 * k) back (word-saves black (n - 1) (omega (arith, few, some))) in
    omega (arith, e, word))
    (λ (long : 64 ≤ n). let l = run-long black n in let s = saved-few black in omega (arith, l, s, long))
    (cases_lt n 64)

both-saved : (black : Bool) → saved black + saved (not black) ≡ 3
unfolding saved
both-saved true = omega arith
both-saved false = omega arith

-- two runs that are not empty, with the horizontal mode: seven bits for each pixel
pub runs-length : (black : Bool) (r s : ℕ) → 1 ≤ r → 1 ≤ s → 3 + length (run_bits black r) + length (run_bits (not black) s) ≤ 7 * (r + s)
runs-length black r s one two =
    let a = run-saves black r one in
    let b = run-saves (not black) s two in
    let c = both-saved black in
    omega (arith, a, b, c)

-- any run
pub run-length : (black : Bool) (n : ℕ) → length (run_bits black n) ≤ 7 * n + 10
run-length black n = ⊎_elim
    (λ (none : n < 1). let z : n ≡ 0 = omega (arith, none) in
    let e = run-short black n (omega (arith, none)) in
    let w : length (run_word black n) ≤ 10 = subst (λ (k : ℕ). length (run_word black k) ≤ 10) (sym z) (none-length black) in
    omega (arith, e, w))
    (λ (some : 1 ≤ n). let a = run-saves black n some in omega (arith, a))
    (cases_lt n 1)
