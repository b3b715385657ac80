-- The codes of modes and runs are read back.
use Rattle.std.proofs.Common.{◌≡◌, ◌⊎◌, ℕ, zero, suc, ◌+◌, ◌-◌, ◌*◌, ◌/◌, ◌%◌, ◌<◌, ◌≤◌, eqb, ltb, Bool, true, false, cond, not, ◌&&◌, List, [], ◌∷◌, ◌++◌, length, drop, Option, Some, refl, sym, ◌∙◌, ap, subst, arith, inl, inr, ⊎_elim, eq-eqb, ne_eqb, lt-ltb, le-ltb, eqb-true, ltb-true, append_assoc, length-append}
use Rattle.std.specs.List.{list_all}
use Rattle.std.proofs.lemmas.Bool.{cond-true, cond-false, cases_eq, cases_lt, cases_Bool, and_parts, agree_below, agree_below_at, true≢false}
use Rattle.std.proofs.lemmas.List.{drop_at}
use Rattle.jbig2_mmr.specs.declared.mmr.codes.Mode.TheVariants.{Pass, Horizontal}
use Rattle.jbig2_mmr.specs.T6Codes.{modes, longer_runs, white_runs, black_runs, vertical_right, vertical_left}
use Rattle.jbig2_mmr.specs.T6.{begins, read_code, is_prefix_free, runs_of, run, run_from, ◌>>=◌}
use Rattle.jbig2_inverses.specs.MmrRowWriter.{word_of, mode_word, run_word, repeated, run_bits}

-- ---- modes
pub pass-read : (left : List ℕ) → read_code modes (mode_word Pass ++ left) ≡ Some (Pass, left)
unfolding read_code word_of modes
pass-read left = refl

pub horizontal-read : (left : List ℕ) → read_code modes (mode_word Horizontal ++ left) ≡ Some (Horizontal, left)
unfolding read_code word_of modes
horizontal-read left = refl

pub right-read : (k : ℕ) → k ≤ 3 → (left : List ℕ) → read_code modes (mode_word (vertical_right k) ++ left) ≡ Some (vertical_right k, left)
unfolding read_code word_of modes
right-read zero h left = refl
right-read (suc zero) h left = refl
right-read (suc (suc zero)) h left = refl
right-read (suc (suc (suc zero))) h left = refl
right-read (suc (suc (suc (suc k)))) h left = absurd (omega (arith, h))

pub left-read : (k : ℕ) → 1 ≤ k → k ≤ 3 → (left : List ℕ) → read_code modes (mode_word (vertical_left k) ++ left) ≡ Some (vertical_left k, left)
unfolding read_code word_of modes
left-read zero l h left = absurd (omega (arith, l))
left-read (suc zero) l h left = refl
left-read (suc (suc zero)) l h left = refl
left-read (suc (suc (suc zero))) l h left = refl
left-read (suc (suc (suc (suc k)))) l h left = absurd (omega (arith, h))

-- ---- runs
abbrev same : ℕ → ℕ → Bool
same length n = eqb n length

has : ℕ → List (ℕ × List ℕ) → Bool
has length [] = false
has length ((value, word) ∷ codes) = cond (eqb value length) true (has length codes)

-- the code that is found passes what all codes pass
found-passes : (test : ℕ × List ℕ → Bool) (n : ℕ) (codes : List (ℕ × List ℕ)) → list_all test codes ≡ true → has n codes ≡ true → test (n, word_of (same n) codes) ≡ true
unfolding has word_of
found-passes test n [] all there = absurd (true≢false (sym there))
found-passes test n ((value, word) ∷ codes) all there =
    let parts = and_parts (test (value, word)) (list_all test codes) all in
    ⊎_elim
    (λ (e : value ≡ n).
    let found = cond-true (eqb value n) word (word_of (same n) codes) (eq-eqb value n e) in
    ap test (ap (λ (v : ℕ). (v, cond (eqb value n) word (word_of (same n) codes))) (sym e) ∙ ap (λ (u : List ℕ). (value, u)) found) ∙ parts.0)
    (λ (o : value ≡ n → ⊥).
    let later = cond-false (eqb value n) word (word_of (same n) codes) (ne_eqb value n o) in
    let more = sym (cond-false (eqb value n) true (has n codes) (ne_eqb value n o)) ∙ there in
    ap (λ (u : List ℕ). test (n, u)) later ∙ found-passes test n codes parts.1 more)
    (cases_eq value n)

begins-itself : (word left : List ℕ) → begins word (word ++ left) ≡ true
begins-itself [] left = refl
begins-itself (b ∷ word) left = ap (λ (t : Bool). t && begins word (word ++ left)) (eq-eqb b b refl) ∙ begins-itself word left

-- a word that does not begin another, and that the other does not begin, is not at the front of the other
not-front : (one other left : List ℕ) → (not (begins one other) && not (begins other one)) ≡ true → begins one (other ++ left) ≡ false
not-front [] other left h = absurd (true≢false (sym h))
not-front (b ∷ one) [] left h = absurd (true≢false (sym h))
not-front (b ∷ one) (c ∷ other) left h = ⊎_elim
    (λ (e : eqb b c ≡ true).
    let back : eqb c b ≡ true = eq-eqb c b (sym (eqb-true b c e)) in
    let turned : (not (begins one other) && not (begins other one)) ≡ true =
    sym (ap (λ (t : Bool). not (t && begins one other) && not (eqb c b && begins other one)) e ∙ ap (λ (t : Bool). not (begins one other) && not (t && begins other one)) back) ∙ h in
    ap (λ (t : Bool). t && begins one (other ++ left)) e ∙ not-front one other left turned)
    (λ (e : eqb b c ≡ false). ap (λ (t : Bool). t && begins one (other ++ left)) e)
    (cases_Bool (eqb b c))

reads-word : (n : ℕ) (codes : List (ℕ × List ℕ)) (left : List ℕ) → is_prefix_free codes ≡ true → has n codes ≡ true → read_code codes (word_of (same n) codes ++ left) ≡ Some (n, left)
unfolding has word_of read_code is_prefix_free
reads-word n [] left free there = absurd (true≢false (sym there))
reads-word n ((value, word) ∷ codes) left free there =
    let apart : ℕ × List ℕ → Bool = λ e. not (begins word e.1) && not (begins e.1 word) in
    let parts = and_parts (list_all apart codes) (is_prefix_free codes) free in
    ⊎_elim
    (λ (e : value ≡ n).
    let found = cond-true (eqb value n) word (word_of (same n) codes) (eq-eqb value n e) in
    ap (λ (u : List ℕ). cond (begins word (u ++ left)) (Some (value, drop (length word) (u ++ left))) (read_code codes (u ++ left))) found
    ∙ cond-true (begins word (word ++ left)) (Some (value, drop (length word) (word ++ left))) (read_code codes (word ++ left)) (begins-itself word left)
    ∙ ap (λ (v : ℕ). Some (v, drop (length word) (word ++ left))) e
    ∙ ap (λ (u : List ℕ). Some (n, u)) (drop_at word left (length word) refl))
    (λ (o : value ≡ n → ⊥).
    let later = cond-false (eqb value n) word (word_of (same n) codes) (ne_eqb value n o) in
    let more = sym (cond-false (eqb value n) true (has n codes) (ne_eqb value n o)) ∙ there in
    let found = word_of (same n) codes in
    let clear : begins word (found ++ left) ≡ false = not-front word found left (found-passes apart n codes parts.0 more) in
    ap (λ (u : List ℕ). cond (begins word (u ++ left)) (Some (value, drop (length word) (u ++ left))) (read_code codes (u ++ left))) later
    ∙ cond-false (begins word (found ++ left)) (Some (value, drop (length word) (found ++ left))) (read_code codes (found ++ left)) clear
    ∙ reads-word n codes left parts.1 more)
    (cases_eq value n)

free : (black : Bool) → is_prefix_free (runs_of black) ≡ true
unfolding is_prefix_free white_runs black_runs longer_runs
free true = refl
free false = refl

-- no word is empty
abbrev is_word : ℕ × List ℕ → Bool
is_word e = ltb 0 (length e.1)

words : (black : Bool) → list_all is_word (runs_of black) ≡ true
unfolding white_runs black_runs longer_runs
words true = refl
words false = refl

-- there are codes of all runs below 64, and of all multiples of 64 up to 2560
all-short : (black : Bool) → agree_below (λ n. has n (runs_of black)) (λ n. true) 64 ≡ true
unfolding has white_runs black_runs longer_runs
all-short true = refl
all-short false = refl

all-long : (black : Bool) → agree_below (λ n. has ((n + 1) * 64) (runs_of black)) (λ n. true) 40 ≡ true
unfolding has white_runs black_runs longer_runs
all-long true = refl
all-long false = refl

IsRun : ℕ → Type 0
IsRun n = (n < 64) ⊎ ((k : ℕ) × (k < 40) × (n ≡ (k + 1) * 64))

there-is : (black : Bool) (n : ℕ) → IsRun n → has n (runs_of black) ≡ true
unfolding IsRun
there-is black n (inl h) = agree_below_at (λ m. has m (runs_of black)) (λ m. true) 64 n (all-short black) h
there-is black n (inr h) = ap (λ (m : ℕ). has m (runs_of black)) h.2 ∙ agree_below_at (λ m. has ((m + 1) * 64) (runs_of black)) (λ m. true) 40 h.0 (all-long black) h.1

read-run : (black : Bool) (n : ℕ) (left : List ℕ) → IsRun n → read_code (runs_of black) (run_word black n ++ left) ≡ Some (n, left)
read-run black n left is = reads-word n (runs_of black) left (free black) (there-is black n is)

size-run : (black : Bool) (n : ℕ) → IsRun n → 1 ≤ length (run_word black n)
size-run black n is = let e = found-passes is_word n (runs_of black) (words black) (there-is black n is) in ltb-true 0 (length (run_word black n)) e

-- a terminating code, and a make-up code
abbrev Reads : Bool → List ℕ → ℕ → List ℕ → Type 0
Reads black bits n left = (most : ℕ) → length bits ≤ most → run_from most black bits ≡ Some (n, left)

step : (most : ℕ) (black : Bool) (bits : List ℕ) (part : ℕ) (left : List ℕ) → read_code (runs_of black) bits ≡ Some (part, left)
    → run_from (suc most) black bits ≡ cond (ltb part 64) (Some (part, left)) (run_from most black left >>= λ m. Some (part + m.0, m.1))
unfolding run_from
step most black bits part left e = ap (λ (o : Option (ℕ × List ℕ)). o >>= λ c. cond (ltb c.0 64) (Some (c.0, c.1)) (run_from most black c.1 >>= λ m. Some (c.0 + m.0, m.1))) e

ends : (black : Bool) (n : ℕ) (left : List ℕ) → n < 64 → Reads black (run_word black n ++ left) n left
unfolding IsRun
ends black n left h zero enough = let size = size-run black n (inl h) in absurd (omega (arith, enough, size, length-append (run_word black n) left))
ends black n left h (suc most) enough =
    step most black (run_word black n ++ left) n left (read-run black n left (inl h))
    ∙ cond-true (ltb n 64) (Some (n, left)) (run_from most black left >>= λ m. Some (n + m.0, m.1)) (lt-ltb n 64 h)

makes-up : (black : Bool) (k n : ℕ) (bits left : List ℕ) → k < 40 → Reads black bits n left → Reads black (run_word black ((k + 1) * 64) ++ bits) ((k + 1) * 64 + n) left
unfolding IsRun
makes-up black k n bits left h more zero enough =
    let size = size-run black ((k + 1) * 64) (inr (k, h, refl)) in absurd (omega (arith, enough, size, length-append (run_word black ((k + 1) * 64)) bits))
makes-up black k n bits left h more (suc most) enough =
    let part = (k + 1) * 64 in
    let size = size-run black part (inr (k, h, refl)) in
    let room : length bits ≤ most = omega (arith, enough, size, length-append (run_word black part) bits) in
    step most black (run_word black part ++ bits) part bits (read-run black part bits (inr (k, h, refl)))
    ∙ cond-false (ltb part 64) (Some (part, bits)) (run_from most black bits >>= λ m. Some (part + m.0, m.1)) (le-ltb part 64 (omega arith))
    ∙ ap (λ (o : Option (ℕ × List ℕ)). o >>= λ m. Some (part + m.0, m.1)) (more most room)

many : (black : Bool) (k n : ℕ) (bits left : List ℕ) → Reads black bits n left → Reads black (repeated k (run_word black 2560) ++ bits) (k * 2560 + n) left
many black zero n bits left more = let e : 0 * 2560 + n ≡ n = omega arith in subst (λ (m : ℕ). Reads black bits m left) (sym e) more
many black (suc k) n bits left more =
    let word = run_word black 2560 in
    let next = makes-up black 39 (k * 2560 + n) (repeated k word ++ bits) left (omega arith) (many black k n bits left more) in
    let sum : (39 + 1) * 64 + (k * 2560 + n) ≡ suc k * 2560 + n = omega arith in
    let turn : word ++ (repeated k word ++ bits) ≡ (word ++ repeated k word) ++ bits = sym (append_assoc word (repeated k word) bits) in
    subst (λ (m : ℕ). Reads black ((word ++ repeated k word) ++ bits) m left) sum (subst (λ (b : List ℕ). Reads black b ((39 + 1) * 64 + (k * 2560 + n)) left) turn next)

below : (black : Bool) (n : ℕ) (left : List ℕ) → n < 2560 → Reads black ((cond (ltb n 64) [] (run_word black (n / 64 * 64)) ++ run_word black (n % 64)) ++ left) n left
below black n left h = ⊎_elim
    (λ (s : n < 64).
    let small : n % 64 ≡ n = omega (arith, s) in
    let e : cond (ltb n 64) [] (run_word black (n / 64 * 64)) ≡ [] = cond-true (ltb n 64) [] (run_word black (n / 64 * 64)) (lt-ltb n 64 s) in
    subst (λ (b : List ℕ). Reads black ((b ++ run_word black (n % 64)) ++ left) n left) (sym e)
    (subst (λ (m : ℕ). Reads black (run_word black m ++ left) n left) (sym small) (ends black n left s)))
    (λ (l : 64 ≤ n).
    let k = n / 64 - 1 in
    let part : (k + 1) * 64 ≡ n / 64 * 64 = omega (arith, l) in
    let e : cond (ltb n 64) [] (run_word black (n / 64 * 64)) ≡ run_word black (n / 64 * 64) = cond-false (ltb n 64) [] (run_word black (n / 64 * 64)) (le-ltb n 64 l) in
    let whole : (k + 1) * 64 + n % 64 ≡ n = omega (arith, l) in
    let read = makes-up black k (n % 64) (run_word black (n % 64) ++ left) left (omega (arith, h)) (ends black (n % 64) left (omega arith)) in
    let read2 : Reads black (run_word black (n / 64 * 64) ++ (run_word black (n % 64) ++ left)) n left =
    subst (λ (m : ℕ). Reads black (run_word black (n / 64 * 64) ++ (run_word black (n % 64) ++ left)) m left) whole
    (subst (λ (m : ℕ). Reads black (run_word black m ++ (run_word black (n % 64) ++ left)) ((k + 1) * 64 + n % 64) left) part read) in
    subst (λ (b : List ℕ). Reads black ((b ++ run_word black (n % 64)) ++ left) n left) (sym e)
    (subst (λ (b : List ℕ). Reads black b n left) (sym (append_assoc (run_word black (n / 64 * 64)) (run_word black (n % 64)) left)) read2))
    (cases_lt n 64)

pub run-read : (black : Bool) (n : ℕ) (left : List ℕ) → run black (run_bits black n ++ left) ≡ Some (n, left)
unfolding run_bits
run-read black n left =
    let m = n % 2560 in
    let front = repeated (n / 2560) (run_word black 2560) in
    let middle = cond (ltb m 64) [] (run_word black (m / 64 * 64)) in
    let last = run_word black (m % 64) in
    let whole : n / 2560 * 2560 + m ≡ n = omega arith in
    let read : Reads black (front ++ ((middle ++ last) ++ left)) n left =
    subst (λ (k : ℕ). Reads black (front ++ ((middle ++ last) ++ left)) k left) whole (many black (n / 2560) m ((middle ++ last) ++ left) left (below black m left (omega arith))) in
    let turn : front ++ ((middle ++ last) ++ left) ≡ (front ++ middle ++ last) ++ left =
    ap (λ (b : List ℕ). front ++ b) (append_assoc middle last left)
    ∙ sym (append_assoc front middle (last ++ left))
    ∙ sym (append_assoc (front ++ middle) last left) in
    (subst (λ (b : List ℕ). Reads black b n left) turn read) (length ((front ++ middle ++ last) ++ left)) (omega arith)
