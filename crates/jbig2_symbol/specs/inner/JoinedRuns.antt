-- Runs of symbols without the empty ones between others (our own rule). Runs of symbols left out and exported take
-- turns, so the runs before and after an empty run are of the same kind, and are one run.
use Rattle.std.specs.Prelude.{ℕ, zero, suc, ◌+◌, List, [], ◌∷◌, Result, Ok}
use Rattle.jbig2_base.specs.Results.{◌>>=◌}
use Rattle.jbig2_base.specs.declared.error.DecodeError.{DecodeError}

-- this run and those after it; an empty run stays where none comes after it
unfoldable pub joined_from : ℕ → List ℕ → List ℕ
joined_from run [] = run ∷ []
joined_from run (zero ∷ []) = run ∷ zero ∷ []
joined_from run (zero ∷ next ∷ runs) = joined_from (run + next) runs
joined_from run (suc n ∷ runs) = run ∷ joined_from (suc n) runs

-- all runs; the first stays also where it is empty
unfoldable pub join_runs : List ℕ → List ℕ
join_runs [] = []
join_runs (run ∷ runs) = joined_from run runs

-- the runs that were read
abbrev pub joined_runs : {S : Type 0} → Result (List ℕ × S) DecodeError → Result (List ℕ × S) DecodeError
joined_runs read = read >>= λ (runs, after). Ok (join_runs runs, after)
