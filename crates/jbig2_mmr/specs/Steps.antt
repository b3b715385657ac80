-- The most loads and words that decoding counts (our own rule; no part of the format).
use Rattle.std.specs.Prelude.{◌≡◌, ℕ, ◌+◌, ◌≤◌, Result, Ok, Err}
use Rattle.jbig2_base.specs.Counts.{Counts}
use Rattle.jbig2_base.specs.declared.error.DecodeError.{DecodeError}

-- at most this many loads and words together; no decision and no run test
pub record MovesWithin (most : ℕ) (old new : Counts) : Type 0 where
  pub moves : new.loads + new.words ≤ old.loads + old.words + most
  pub decisions : new.decisions ≡ old.decisions
  pub run_tests : new.run_tests ≡ old.run_tests

abbrev pub bytes_taken : Result ℕ DecodeError → ℕ → ℕ  -- how many bytes are used; all of them if the data is refused
bytes_taken (Ok used) all = used
bytes_taken (Err e) all = all
