-- The counts of steps before and after a call (our own rule; no part of the format). There is a number for each kind of
-- step: loads of words, written words, decisions, run tests, groups of lanes, single pixels, and cleared words: those that
-- a bitmap has when it is made, made anew or filled.
use Rattle.std.specs.Prelude.{◌≡◌, ℕ, ◌+◌}

pub record Counts : Type 0 where
  pub loads : ℕ
  pub words : ℕ
  pub decisions : ℕ
  pub run_tests : ℕ
  pub groups : ℕ
  pub pixels : ℕ
  pub cleared : ℕ

abbrev pub no_steps : Counts
no_steps = record { loads = 0; words = 0; decisions = 0; run_tests = 0; groups = 0; pixels = 0; cleared = 0 }

abbrev pub words_written : ℕ → ℕ → Counts → Counts  -- adds this many written words and this many loads
words_written words loads c = record c { loads = c.loads + loads; words = c.words + words }

abbrev pub words_loaded : ℕ → Counts → Counts  -- adds this many loads
words_loaded n c = record c { loads = c.loads + n }

abbrev pub words_copied : ℕ → Counts → Counts  -- adds this many words that are loaded and written
words_copied n = words_written n n

abbrev pub words_cleared : ℕ → Counts → Counts  -- adds this many cleared words
words_cleared n c = record c { cleared = c.cleared + n }

-- no group of lanes, no single pixel and no cleared word was counted
pub record KeepsLanes (old new : Counts) : Type 0 where
  pub groups : new.groups ≡ old.groups
  pub pixels : new.pixels ≡ old.pixels
  pub cleared : new.cleared ≡ old.cleared
