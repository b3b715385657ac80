-- Runs that are joined: how they are read, and that they export the same symbols.
use Rattle.std.proofs.Common.{◌≡◌, ℕ, zero, suc, ◌+◌, ◌-◌, ◌%◌, ◌<◌, Bool, true, false, eqb, List, [], ◌∷◌, ◌++◌, Result, Ok, Err, refl, sym, ap, ◌∙◌, append_assoc, arith}
use Rattle.std.proofs.lemmas.Bool.{ne_eqb}
use Rattle.jbig2_base.specs.Results.{◌>>=◌}
use Rattle.jbig2_base.specs.Grid.{Grid}
use Rattle.jbig2_base.specs.Bits.{bit_number}
use Rattle.jbig2_base.specs.declared.error.DecodeError.{DecodeError}
use Rattle.jbig2_symbol.specs.SymbolReading.{ClassReadings, SymbolInput}
use Rattle.jbig2_symbol.specs.Symbols.{ended_runs, exported_grids, exported_from, next_run, runs_from}
use Rattle.jbig2_symbol.specs.inner.JoinedRuns.{join_runs, joined_from, joined_runs}

-- ---- what is read

-- the runs after the last one, where an empty one came between if the next is joined to it
abbrev pub pending : Bool → List ℕ → List ℕ
pending true runs = 0 ∷ runs
pending false runs = runs

-- all runs, where these came before, then the last one, and then what is read
abbrev pub joined_after : {S : Type 0} → List ℕ → ℕ → Bool → Result (List ℕ × S) DecodeError → Result (List ℕ × S) DecodeError
joined_after before last joins read = read >>= λ runs. Ok (before ++ joined_from last (pending joins runs.0), runs.1)

abbrev with_run : {S : Type 0} → ℕ → Result (List ℕ × S) DecodeError → Result (List ℕ × S) DecodeError
with_run run read = read >>= λ others. Ok (run ∷ others.0, others.1)

first-others : {S : Type 0} (run : ℕ) (read : Result (List ℕ × S) DecodeError) → joined_after [] 0 true (with_run run read) ≡ joined_runs (with_run run read)
unfolding join_runs joined_from
first-others run (Ok others) = let none : 0 + run ≡ run = omega arith in ap (λ (n : ℕ). Ok (joined_from n others.0, others.1)) none
first-others run (Err e) = refl

first-run : {S : Type 0} (read : Result (ℕ × S) DecodeError) (others : ℕ × S → Result (List ℕ × S) DecodeError) → joined_after [] 0 true (read >>= λ run. with_run run.0 (others run)) ≡ joined_runs (read >>= λ run. with_run run.0 (others run))
first-run (Ok run) others = first-others run.0 (others run)
first-run (Err e) others = refl

-- before the first run
pub joined-start : {S : Type 0} (r : ClassReadings S) (d : SymbolInput) (n m empty left : ℕ) (before : List ℕ) (s : S) → n ≡ suc m → 0 < left → before ≡ [] → joined_after before 0 true (runs_from r d n empty left s) ≡ joined_runs (runs_from r d n empty left s)
unfolding runs_from
joined-start r d n m empty left before s more some none =
    let test : eqb left 0 ≡ false = ne_eqb left 0 (λ is. omega arith) in
    rw (more, test, none) (first-run (next_run r d empty left s) (λ run. runs_from r d m (empty + bit_number (eqb run.0 0)) (left - run.0) run.1))

abbrev after_run : {S : Type 0} → ClassReadings S → SymbolInput → ℕ → ℕ → ℕ → ℕ → S → Result (List ℕ × S) DecodeError
after_run r d m empty left run t = runs_from r d m (empty + bit_number (eqb run 0)) (left - run) t

run-more : {S : Type 0} (r : ClassReadings S) (d : SymbolInput) (n m empty left run : ℕ) (s t : S) → n ≡ suc m → 0 < left → next_run r d empty left s ≡ Ok (run, t) → runs_from r d n empty left s ≡ with_run run (after_run r d m empty left run t)
unfolding runs_from
run-more r d n m empty left run s t more some e =
    let test : eqb left 0 ≡ false = ne_eqb left 0 (λ none. omega arith) in
    rw (more, test, e) refl

joins-next : {S : Type 0} (before : List ℕ) (last run : ℕ) (read : Result (List ℕ × S) DecodeError) → joined_after before last true (with_run run read) ≡ joined_after before (last + run) false read
unfolding joined_from
joins-next before last run (Ok others) = refl
joins-next before last run (Err e) = refl

empty-next : {S : Type 0} (before : List ℕ) (last : ℕ) (read : Result (List ℕ × S) DecodeError) → joined_after before last false (with_run 0 read) ≡ joined_after before last true read
empty-next before last (Ok others) = refl
empty-next before last (Err e) = refl

full-next : {S : Type 0} (before : List ℕ) (last run : ℕ) (read : Result (List ℕ × S) DecodeError) → (run ≡ 0 → ⊥) → joined_after before last false (with_run run read) ≡ joined_after (before ++ last ∷ []) run false read
unfolding joined_from
full-next before last zero read full = absurd (full refl)
full-next before last (suc n) (Ok others) full = ap (λ (all : List ℕ). Ok (all, others.1)) (sym (append_assoc before (last ∷ []) (joined_from (suc n) others.0)))
full-next before last (suc n) (Err e) full = refl

-- ---- a run more: it is joined to the last one, or is empty, or comes after the last one
pub next-joins : {S : Type 0} (r : ClassReadings S) (d : SymbolInput) (n m empty left run : ℕ) (joins : Bool) (before : List ℕ) (last : ℕ) (s t : S) → n ≡ suc m → 0 < left → next_run r d empty left s ≡ Ok (run, t) → joins ≡ true
    → joined_after before last joins (runs_from r d n empty left s) ≡ joined_after before (last + run) false (after_run r d m empty left run t)
next-joins r d n m empty left run joins before last s t more some e is =
    rw (is, run-more r d n m empty left run s t more some e) (joins-next before last run (after_run r d m empty left run t))

pub next-empty : {S : Type 0} (r : ClassReadings S) (d : SymbolInput) (n m empty left run : ℕ) (joins : Bool) (before : List ℕ) (last : ℕ) (s t : S) → n ≡ suc m → 0 < left → next_run r d empty left s ≡ Ok (run, t) → joins ≡ false → run ≡ 0
    → joined_after before last joins (runs_from r d n empty left s) ≡ joined_after before last true (after_run r d m empty left run t)
next-empty {S} r d n m empty left run joins before last s t more some e is none =
    rw (is, run-more r d n m empty left run s t more some e)
    (ap (λ (k : ℕ). joined_after before last false (with_run k (after_run r d m empty left run t))) none ∙ empty-next before last (after_run r d m empty left run t))

pub next-full : {S : Type 0} (r : ClassReadings S) (d : SymbolInput) (n m empty left run : ℕ) (joins : Bool) (before after : List ℕ) (last : ℕ) (s t : S) → n ≡ suc m → 0 < left → next_run r d empty left s ≡ Ok (run, t) → joins ≡ false → (run ≡ 0 → ⊥) → after ≡ before ++ last ∷ []
    → joined_after before last joins (runs_from r d n empty left s) ≡ joined_after after run joins (after_run r d m empty left run t)
next-full {S} r d n m empty left run joins before after last s t more some e is full pushed =
    rw (is, run-more r d n m empty left run s t more some e, pushed) (full-next before last run (after_run r d m empty left run t) full)

pub joined-fault : {S : Type 0} (r : ClassReadings S) (d : SymbolInput) (n m empty left : ℕ) (joins : Bool) (before : List ℕ) (last : ℕ) (s : S) (error : DecodeError) → n ≡ suc m → 0 < left → next_run r d empty left s ≡ Err error → joined_after before last joins (runs_from r d n empty left s) ≡ Err error
unfolding runs_from
joined-fault r d n m empty left joins before last s error more some e =
    let test : eqb left 0 ≡ false = ne_eqb left 0 (λ none. omega arith) in
    rw (more, test, e) refl

-- where all symbols are covered, no empty run came last
pub not-joined : (joins : Bool) (left : ℕ) → left ≡ 0 → (joins ≡ true → 0 < left) → joins ≡ false
not-joined true left none some = let more = some refl in absurd (omega (arith, more))
not-joined false left none some = refl

-- after the last run
pub joined-done : {S : Type 0} (r : ClassReadings S) (d : SymbolInput) (n empty left : ℕ) (joins : Bool) (before after : List ℕ) (last : ℕ) (s : S) → left ≡ 0 → joins ≡ false → after ≡ before ++ last ∷ [] → joined_after before last joins (runs_from r d n empty left s) ≡ Ok (after, s)
unfolding runs_from joined_from
joined-done r d zero empty left joins before after last s none apart pushed = rw (apart, pushed) refl
joined-done r d (suc n) empty left joins before after last s none apart pushed = rw (none, apart, pushed) refl

pub joined-none : {S : Type 0} (r : ClassReadings S) (d : SymbolInput) (n empty left : ℕ) (runs : List ℕ) (s : S) → left ≡ 0 → runs ≡ [] → joined_runs (runs_from r d n empty left s) ≡ Ok (runs, s)
unfolding runs_from join_runs
joined-none r d zero empty left runs s none is = rw is refl
joined-none r d (suc n) empty left runs s none is = rw (none, is) refl

-- ---- what they export

-- As many runs end at a symbol or before it, but for an even number: both the empty run and the one before it.
ended-joined : (runs : List ℕ) (run from i : ℕ) → ended_runs from (joined_from run runs) i % 2 ≡ ended_runs from (run ∷ runs) i % 2
unfolding ended_runs joined_from
ended-joined [] run from i = refl
ended-joined (zero ∷ []) run from i = refl
ended-joined (zero ∷ next ∷ runs) run from i =
    let joins = ended-joined runs (run + next) from i in
    let none : from + run + 0 ≡ from + run = omega arith in
    let both : from + run + next ≡ from + (run + next) = omega arith in
    rw (none, both) (omega (arith, joins))
ended-joined (suc n ∷ runs) run from i =
    let more = ended-joined runs (suc n) (from + run) i in
    omega (arith, more)

ended-all : (runs : List ℕ) (i : ℕ) → ended_runs 0 (join_runs runs) i % 2 ≡ ended_runs 0 runs i % 2
unfolding join_runs
ended-all [] i = refl
ended-all (run ∷ runs) i = ended-joined runs run 0 i

exported-joined_from : (runs : List ℕ) (from : ℕ) (grids : List Grid) → exported_from (join_runs runs) from grids ≡ exported_from runs from grids
unfolding exported_from
exported-joined_from runs from [] = refl
exported-joined_from runs from (g ∷ grids) = rw (ended-all runs from, exported-joined_from runs (from + 1) grids) refl

pub exported-joined : (runs : List ℕ) (grids : List Grid) → exported_grids (join_runs runs) grids ≡ exported_grids runs grids
exported-joined runs grids = exported-joined_from runs 0 grids
