-- What the exports are refused for, where their runs are, or their number.
use Rattle.std.proofs.Common.{◌≡◌, ◌≢◌, ◌⊎◌, inl, inr, ℕ, ◌+◌, ◌==◌, Bool, true, false, not, List, length, Result, Ok, Err, refl, sym, ap, subst, ◌∙◌, length-append}
use Rattle.std.proofs.lemmas.Bool.{eq-eqb, ne_eqb}
use Rattle.std.proofs.lemmas.List.{length-map}
use Rattle.std.specs.Borrow.{Bor}
use Rattle.std.specs.Prelude.{map}
use Rattle.jbig2_base.specs.Results.{◌>>=◌, refuse_if}
use Rattle.jbig2_base.specs.Grid.{Grid}
use Rattle.jbig2_base.specs.declared.error.DecodeError.{DecodeError}
use Rattle.jbig2_base.specs.declared.error.DecodeError.TheVariants.{OutOfMemory, Symbol}
use Rattle.jbig2_base.specs.declared.error.SymbolError.TheVariants.{NoSymbols}
use Rattle.jbig2_base.proofs.Causes.{same-ok}
use Rattle.jbig2_symbol.specs.SymbolReading.{ClassReadings, SymbolInput}
use Rattle.jbig2_symbol.specs.Symbols.{export_runs, exported_grids, exports}
use Rattle.jbig2_symbol.specs.inner.JoinedRuns.{joined_runs}
use Rattle.jbig2_symbol.specs.inner.SymbolViews.{all_symbols}
use Rattle.jbig2_symbol.proofs.JoinedLemmas.{exported-joined}

all-length : (input : List (Bor Grid)) (new : List Grid) → length (all_symbols input new) ≡ length input + length new
all-length input new =
    let seen : Bor Grid → Grid = λ b. b.now in
    length-append (map seen input) new ∙ ap (λ (n : ℕ). n + length new) (length-map input seen)

-- what is returned after the runs
abbrev AfterRuns : {S : Type 0} → SymbolInput → List Grid → Result (List ℕ × S) DecodeError → Result (List Grid × S) DecodeError
AfterRuns d all read = read >>= λ runs. refuse_if (not (length (exported_grids runs.0 all) == d.header.num_exported_symbols)) (Symbol NoSymbols) >>= λ right. Ok (exported_grids runs.0 all, runs.1)

-- it is the same if they are joined
after-joined : {S : Type 0} (d : SymbolInput) (all : List Grid) (read : Result (List ℕ × S) DecodeError) → AfterRuns d all read ≡ AfterRuns d all (joined_runs read)
after-joined d all (Ok runs) = rw (exported-joined runs.0 all) refl
after-joined d all (Err e) = refl

after-runs : {S : Type 0} (r : ClassReadings S) (d : SymbolInput) (input : List (Bor Grid)) (new : List Grid) (count : ℕ) (s : S) (read : Result (List ℕ × S) DecodeError)
    → count ≡ length input + length new → joined_runs (export_runs r d count s) ≡ read → exports r d (all_symbols input new) s ≡ AfterRuns d (all_symbols input new) read
unfolding exports
after-runs {S} r d input new count s read is read_is =
    let all = all_symbols input new in
    let whole : joined_runs (export_runs r d (length all) s) ≡ read = subst (λ (n : ℕ). joined_runs (export_runs r d n s) ≡ read) (is ∙ sym (all-length input new)) read_is in
    after-joined d all (export_runs r d (length all) s) ∙ ap (AfterRuns d all) whole

-- the runs are refused
pub exports-unread : {S : Type 0} (r : ClassReadings S) (d : SymbolInput) (input : List (Bor Grid)) (new : List Grid) (count : ℕ) (s : S) (e : DecodeError)
    → count ≡ length input + length new → (e ≡ OutOfMemory) ⊎ (joined_runs (export_runs r d count s) ≡ Err e) → (e ≡ OutOfMemory) ⊎ (exports r d (all_symbols input new) s ≡ Err e)
exports-unread r d input new count s e is (inl memory) = inl memory
exports-unread r d input new count s e is (inr unread) = inr (after-runs r d input new count s (Err e) is unread)

-- how many they are, by the program
listed-length : (ran runs : List ℕ) (all listed : List Grid) (n : ℕ) → ran ≡ runs → ◌≡◌ {A = Result (List Grid) DecodeError} (Ok (exported_grids ran all)) (Ok listed) → n ≡ length listed → n ≡ length (exported_grids runs all)
listed-length ran runs all listed n ran_is listed_is n_is = n_is ∙ ap length (sym (same-ok (exported_grids ran all) listed listed_is)) ∙ ap (λ (rs : List ℕ). length (exported_grids rs all)) ran_is

-- they are not as many as the header states
pub exports-other : {S : Type 0} (r : ClassReadings S) (d : SymbolInput) (input : List (Bor Grid)) (new : List Grid) (count : ℕ) (s after : S) (runs ran : List ℕ) (listed : List Grid) (n : ℕ)
    → count ≡ length input + length new → joined_runs (export_runs r d count s) ≡ Ok (runs, after) → ran ≡ runs → ◌≡◌ {A = Result (List Grid) DecodeError} (Ok (exported_grids ran (all_symbols input new))) (Ok listed)
    → n ≡ length listed → n ≢ d.header.num_exported_symbols → exports r d (all_symbols input new) s ≡ Err (Symbol NoSymbols)
exports-other {S} r d input new count s after runs ran listed n is read ran_is listed_is n_is other =
    let all = all_symbols input new in
    let size : n ≡ length (exported_grids runs all) = listed-length ran runs all listed n ran_is listed_is n_is in
    let apart : not (length (exported_grids runs all) == d.header.num_exported_symbols) ≡ true = ap not (ne_eqb (length (exported_grids runs all)) d.header.num_exported_symbols (λ same. other (size ∙ same))) in
    let refused : Bool → Result (List Grid × S) DecodeError = λ b. refuse_if b (Symbol NoSymbols) >>= λ right. Ok (exported_grids runs all, after) in
    after-runs r d input new count s (Ok (runs, after)) is read ∙ ap refused apart

-- they are
pub exports-all : {S : Type 0} (r : ClassReadings S) (d : SymbolInput) (input : List (Bor Grid)) (new : List Grid) (count : ℕ) (s after : S) (runs ran : List ℕ) (listed : List Grid) (n : ℕ)
    → count ≡ length input + length new → joined_runs (export_runs r d count s) ≡ Ok (runs, after) → ran ≡ runs → ◌≡◌ {A = Result (List Grid) DecodeError} (Ok (exported_grids ran (all_symbols input new))) (Ok listed)
    → n ≡ length listed → n ≡ d.header.num_exported_symbols → exports r d (all_symbols input new) s ≡ Ok (listed, after)
exports-all {S} r d input new count s after runs ran listed n is read ran_is listed_is n_is same =
    let all = all_symbols input new in
    let size : n ≡ length (exported_grids runs all) = listed-length ran runs all listed n ran_is listed_is n_is in
    let as_many : not (length (exported_grids runs all) == d.header.num_exported_symbols) ≡ false = ap not (eq-eqb (length (exported_grids runs all)) d.header.num_exported_symbols (sym size ∙ same)) in
    let refused : Bool → Result (List Grid × S) DecodeError = λ b. refuse_if b (Symbol NoSymbols) >>= λ right. Ok (exported_grids runs all, after) in
    after-runs r d input new count s (Ok (runs, after)) is read
    ∙ ap refused as_many
    ∙ ap (λ (gs : List Grid). Ok (gs, after)) (ap (λ (rs : List ℕ). exported_grids rs all) (sym ran_is) ∙ same-ok (exported_grids ran all) listed listed_is)
