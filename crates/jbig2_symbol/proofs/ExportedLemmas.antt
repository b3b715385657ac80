-- The symbols that the runs export.
use Rattle.std.proofs.Common.{◌≡◌, ℕ, zero, suc, ◌+◌, ◌-◌, ◌%◌, ◌<◌, ◌≤◌, Bool, true, false, cond, eqb, leb, List, [], ◌∷◌, ◌++◌, length, take, drop, get_or, map, Result, Ok, Err, refl, sym, ap, ◌∙◌, ◌⊎◌, inl, inr, append_assoc, length-append, length-drop, arith}
use Rattle.std.specs.Prelude.{sum}
use Rattle.std.proofs.lemmas.Bool.{eq-eqb, le-leb, lt-leb, ne_eqb}
use Rattle.std.proofs.lemmas.List.{append-nil, get_or-append-add, get_or-drop, get_or-map, length-map, length-take, length-take-le, take_all, take_more, get_or_read}
use Rattle.std.proofs.Math.ListN.{get_or-append}
use Rattle.std.specs.Borrow.{Bor}
use Rattle.jbig2_symbol.specs.inner.SymbolViews.{all_symbols}
use Rattle.std.proofs.lemmas.List.Sums.{sum_by-append, sum_by-cons, sum_by-take-le}
use Rattle.std.proofs.Math.Seq.{drop-append_seam, take-add}
use Rattle.jbig2_base.specs.Grid.{Grid, blank}
use Rattle.jbig2_base.specs.declared.error.DecodeError.{DecodeError}
use Rattle.jbig2_base.specs.declared.error.DecodeError.TheVariants.{OutOfMemory}
use Rattle.jbig2_base.proofs.Causes.{same-ok}
use Rattle.jbig2_symbol.specs.Symbols.{ended_runs, exported_from}

abbrev is_exported : List ℕ → ℕ → Bool
is_exported runs i = eqb (ended_runs 0 runs i % 2) 1

-- no run ends before its start
ended-none : (runs : List ℕ) (from i : ℕ) → i < from → ended_runs from runs i ≡ 0
unfolding ended_runs
ended-none [] from i before = refl
ended-none (r ∷ runs) from i before =
    let test : leb (from + r) i ≡ false = lt-leb (from + r) i (omega arith) in
    let none = ended-none runs (from + r) i (omega arith) in
    rw test (omega (arith, none))

-- as many runs end at a symbol or before it as come before the run that it lies in
ended-before : (k : ℕ) (runs : List ℕ) (from i : ℕ) → k < length runs → from + sum (take k runs) ≤ i → i < from + sum (take k runs) + get_or runs k 0 → ended_runs from runs i ≡ k
unfolding ended_runs
ended-before k [] from i inside after before = omega arith
ended-before zero (r ∷ runs) from i inside after before =
    let test : leb (from + r) i ≡ false = lt-leb (from + r) i (omega arith) in
    let none = ended-none runs (from + r) i (omega arith) in
    rw test (omega (arith, none))
ended-before (suc k) (r ∷ runs) from i inside after before =
    let whole : sum (r ∷ take k runs) ≡ r + sum (take k runs) = sum_by-cons (λ (n : ℕ). n) r (take k runs) in
    let test : leb (from + r) i ≡ true = le-leb (from + r) i (omega (arith, whole)) in
    let more = ended-before k runs (from + r) i (omega arith) (omega (arith, whole)) (omega (arith, whole)) in
    rw test (omega (arith, more))

-- ---- exported ones of a list and another after it
kept : (b : Bool) (g : Grid) (all xs ys : List Grid) → all ≡ xs ++ ys → cond b (g ∷ all) all ≡ cond b (g ∷ xs) xs ++ ys
kept true g all xs ys e = ap (λ (gs : List Grid). g ∷ gs) e
kept false g all xs ys e = e

exported-append : (runs : List ℕ) (from : ℕ) (xs ys : List Grid) → exported_from runs from (xs ++ ys) ≡ exported_from runs from xs ++ exported_from runs (from + length xs) ys
unfolding exported_from
exported-append runs from [] ys = let none : from + 0 ≡ from = omega arith in rw none refl
exported-append runs from (g ∷ xs) ys =
    let one : from + suc (length xs) ≡ from + 1 + length xs = omega arith in
    rw one (kept (is_exported runs from) g _ _ _ (exported-append runs (from + 1) xs ys))

exported-all : (runs : List ℕ) (from : ℕ) (xs : List Grid) (b : Bool) → ((i : ℕ) → from ≤ i → i < from + length xs → is_exported runs i ≡ b) → exported_from runs from xs ≡ cond b xs []
unfolding exported_from
exported-all runs from [] true same = refl
exported-all runs from [] false same = refl
exported-all runs from (g ∷ xs) true same = rw (same from (omega arith) (omega arith)) (ap (λ (all : List Grid). g ∷ all) (exported-all runs (from + 1) xs true (λ i low high. same i (omega arith) (omega arith))))
exported-all runs from (g ∷ xs) false same = rw (same from (omega arith) (omega arith)) (exported-all runs (from + 1) xs false (λ i low high. same i (omega arith) (omega arith)))

-- one run more
pub exported-run : (runs : List ℕ) (all : List Grid) (k first run : ℕ) → k < length runs → first ≡ sum (take k runs) → run ≡ get_or runs k 0 → first + run ≤ length all → exported_from runs 0 (take (first + run) all) ≡ exported_from runs 0 (take first all) ++ cond (eqb (k % 2) 1) (take run (drop first all)) []
exported-run runs all k first run inside opening is within =
    let begins : 0 + length (take first all) ≡ first = omega (arith, length-take-le first all (omega arith)) in
    let few = length-take run (drop first all) in
    ap (λ (gs : List Grid). exported_from runs 0 gs) (take-add first run all)
    ∙ exported-append runs 0 (take first all) (take run (drop first all))
    ∙ ap (λ (n : ℕ). exported_from runs 0 (take first all) ++ exported_from runs n (take run (drop first all))) begins
    ∙ ap (λ (gs : List Grid). exported_from runs 0 (take first all) ++ gs)
    (exported-all runs first (take run (drop first all)) (eqb (k % 2) 1)
    (λ i low high. ap (λ (n : ℕ). eqb (n % 2) 1) (ended-before k runs 0 i inside (omega arith) (omega (arith, few)))))

pub sum-more : (runs : List ℕ) (k first run : ℕ) → k < length runs → first ≡ sum (take k runs) → run ≡ get_or runs k 0 → first + run ≡ sum (take (k + 1) runs)
sum-more runs k first run inside opening is =
    let zero_more : 0 + get_or runs k 0 ≡ get_or runs k 0 = omega arith in
    let next : sum (take (k + 1) runs) ≡ sum (take k runs) + get_or runs k 0 =
    ap (λ (rs : List ℕ). sum rs) (take_more runs k 0 inside)
    ∙ sum_by-append (λ (n : ℕ). n) (take k runs) (get_or runs k 0 ∷ [])
    ∙ ap (λ (n : ℕ). sum (take k runs) + n) zero_more in
    omega (arith, next)

pub sum-within : (runs : List ℕ) (k first run count : ℕ) → k < length runs → first ≡ sum (take k runs) → run ≡ get_or runs k 0 → sum runs ≡ count → first + run ≤ count
sum-within runs k first run count inside opening is whole =
    let part : sum (take (k + 1) runs) ≤ sum runs = sum_by-take-le (λ (n : ℕ). n) runs (k + 1) in
    let next = sum-more runs k first run inside opening is in
    omega (arith, part, next)

-- ---- the symbols that there are
pub all-length : (symbols : List (Bor Grid)) (new : List Grid) → length (all_symbols symbols new) ≡ length symbols + length new
all-length symbols new = length-append (map (λ (b : Bor Grid). b.now) symbols) new ∙ ap (λ (n : ℕ). n + length new) (length-map symbols (λ (b : Bor Grid). b.now))

pub all-referred : (symbols : List (Bor Grid)) (new : List Grid) (i : ℕ) (b : Bor Grid) (white g : Grid) → i < length symbols → b ≡ get_or symbols i b → b.now ≡ g → get_or (all_symbols symbols new) i white ≡ g
all-referred symbols new i b white g inside is same =
    let long : length (map (λ (r : Bor Grid). r.now) symbols) ≡ length symbols = length-map symbols (λ (r : Bor Grid). r.now) in
    get_or-append (map (λ (r : Bor Grid). r.now) symbols) new white i (omega (arith, long))
    ∙ get_or-map (λ (r : Bor Grid). r.now) symbols i b white inside
    ∙ ap (λ (r : Bor Grid). r.now) (sym is)
    ∙ same

pub all-new : (symbols : List (Bor Grid)) (new : List Grid) (i j : ℕ) (b white g : Grid) → i ≡ length symbols + j → j < length new → b ≡ get_or new j b → b ≡ g → get_or (all_symbols symbols new) i white ≡ g
all-new symbols new i j b white g place inside is same =
    let long : length (map (λ (r : Bor Grid). r.now) symbols) ≡ length symbols = length-map symbols (λ (r : Bor Grid). r.now) in
    let at : i ≡ length (map (λ (r : Bor Grid). r.now) symbols) + j = omega (arith, long) in
    ap (λ (n : ℕ). get_or (map (λ (r : Bor Grid). r.now) symbols ++ new) n white) at
    ∙ get_or-append-add (map (λ (r : Bor Grid). r.now) symbols) new j white
    ∙ sym (get_or_read new j b inside is white)
    ∙ same

-- a symbol more
pub pushed-next : (symbols : List (Bor Grid)) (new : List Grid) (first k : ℕ) (before so_far after : List Grid) (g : Grid) → first + k < length symbols + length new → so_far ≡ before ++ take k (drop first (all_symbols symbols new)) → ◌≡◌ {A = Result Grid DecodeError} (Ok (get_or (all_symbols symbols new) (first + k) (blank 0 0 false))) (Ok g) → after ≡ so_far ++ g ∷ [] → after ≡ before ++ take (k + 1) (drop first (all_symbols symbols new))
pushed-next symbols new first k before so_far after g inside is copy pushed =
    let all : List Grid = all_symbols symbols new in
    let many : length all ≡ length symbols + length new = all-length symbols new in
    let left : length (drop first all) ≡ length all - first = length-drop first all in
    let same : get_or (drop first all) k (blank 0 0 false) ≡ g = get_or-drop first all k (blank 0 0 false) ∙ same-ok _ _ copy in
    pushed
    ∙ ap (λ (gs : List Grid). gs ++ g ∷ []) is
    ∙ append_assoc before (take k (drop first all)) (g ∷ [])
    ∙ ap (λ (h : Grid). before ++ (take k (drop first all) ++ h ∷ [])) (sym same)
    ∙ ap (λ (gs : List Grid). before ++ gs) (sym (take_more (drop first all) k (blank 0 0 false) (omega (arith, many, left))))

pub exported-none : (runs : List ℕ) (all before : List Grid) → before ≡ [] → before ≡ exported_from runs 0 (take 0 all)
unfolding exported_from
exported-none runs all before none = none

-- a run of symbols that are exported, or are not
pub exported-odd : (runs : List ℕ) (all so_far after : List Grid) (k first run : ℕ) → k < length runs → first ≡ sum (take k runs) → run ≡ get_or runs k 0 → first + run ≤ length all → k % 2 ≡ 1 → so_far ≡ exported_from runs 0 (take first all) → after ≡ so_far ++ take run (drop first all) → after ≡ exported_from runs 0 (take (first + run) all)
exported-odd runs all so_far after k first run inside opening is within odd before pushed =
    let test : eqb (k % 2) 1 ≡ true = eq-eqb (k % 2) 1 odd in
    pushed
    ∙ ap (λ (gs : List Grid). gs ++ take run (drop first all)) before
    ∙ ap (λ (b : Bool). exported_from runs 0 (take first all) ++ cond b (take run (drop first all)) []) (sym test)
    ∙ sym (exported-run runs all k first run inside opening is within)

pub exported-even : (runs : List ℕ) (all so_far : List Grid) (k first run : ℕ) → k < length runs → first ≡ sum (take k runs) → run ≡ get_or runs k 0 → first + run ≤ length all → (k % 2 ≡ 1 → ⊥) → so_far ≡ exported_from runs 0 (take first all) → so_far ≡ exported_from runs 0 (take (first + run) all)
exported-even runs all so_far k first run inside opening is within even before =
    let test : eqb (k % 2) 1 ≡ false = ne_eqb (k % 2) 1 even in
    before
    ∙ sym (append-nil (exported_from runs 0 (take first all)))
    ∙ ap (λ (b : Bool). exported_from runs 0 (take first all) ++ cond b (take run (drop first all)) []) (sym test)
    ∙ sym (exported-run runs all k first run inside opening is within)

pub only-memory : (error : DecodeError) (xs ys : List Grid) → (error ≡ OutOfMemory) ⊎ (◌≡◌ {A = Result (List Grid) DecodeError} (Ok xs) (Err error)) → (error ≡ OutOfMemory) ⊎ (◌≡◌ {A = Result (List Grid) DecodeError} (Ok ys) (Err error))
only-memory error xs ys (inl memory) = inl memory
only-memory error xs ys (inr e) = cc

-- two runs of which the first leaves out what is referred to: the new ones are exported
pub exported_new : (runs : List ℕ) (symbols : List (Bor Grid)) (new : List Grid) → length runs ≡ 2 → get_or runs 0 0 ≡ length symbols → sum runs ≡ length symbols + length new → new ≡ exported_from runs 0 (all_symbols symbols new)
exported_new runs symbols new two left_out whole =
    let all : List Grid = all_symbols symbols new in
    let referred : List Grid = map (λ (b : Bor Grid). b.now) symbols in
    let a : ℕ = get_or runs 0 0 in
    let b : ℕ = get_or runs 1 0 in
    let many : length all ≡ length symbols + length new = all-length symbols new in
    let long : length referred ≡ length symbols = length-map symbols (λ (r : Bor Grid). r.now) in
    let first : 0 + a ≡ sum (take 1 runs) = sum-more runs 0 0 a (omega (arith, two)) refl refl in
    let second : 0 + a + b ≡ sum (take 2 runs) = sum-more runs 1 (0 + a) b (omega (arith, two)) first refl in
    let both : sum (take 2 runs) ≡ sum runs = ap (λ (rs : List ℕ). sum rs) (take_all 2 runs (omega (arith, two))) in
    let rest : b ≡ length new = omega (arith, second, both, whole, left_out) in
    let before : [] ≡ exported_from runs 0 (take (0 + a) all) = exported-even runs all [] 0 0 a (omega (arith, two)) refl refl (omega (arith, many, left_out)) (λ odd. omega arith) (exported-none runs all [] refl) in
    let those : take b (drop (0 + a) all) ≡ exported_from runs 0 (take (0 + a + b) all) = exported-odd runs all [] _ 1 (0 + a) b (omega (arith, two)) first refl (omega (arith, many, left_out, rest)) refl before refl in
    let place : 0 + a ≡ length referred = omega (arith, left_out, long) in
    let after : drop (0 + a) all ≡ new = ap (λ (n : ℕ). drop n all) place ∙ drop-append_seam referred new in
    sym (take_all b new (omega (arith, rest)))
    ∙ ap (λ (gs : List Grid). take b gs) (sym after)
    ∙ those
    ∙ ap (λ (gs : List Grid). exported_from runs 0 gs) (take_all (0 + a + b) all (omega (arith, many, left_out, rest)))
