-- The words of a run (our own rule). `is_run` says whether words are those of `jbig2-bench`: none for the worked rows,
-- or "lists". `is_one_word` does so for `jbig2-row`, which takes the name of a row.
use Rattle.std.specs.Prelude.{ℕ, Bool, true, false, List, [], ◌∷◌, codes}
use Rattle.std.specs.Str.{bytes_eq}

unfoldable pub is_lists : List ℕ → Bool
is_lists word = bytes_eq word (codes "lists")

abbrev pub is_run : List (List ℕ) → Bool
is_run [] = true
is_run (word ∷ []) = is_lists word
is_run _ = false

abbrev pub is_one_word : List (List ℕ) → Bool
is_one_word (name ∷ []) = true
is_one_word _ = false
