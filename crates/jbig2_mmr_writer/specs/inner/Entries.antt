-- Entries of the tables of code words.
use Rattle.std.specs.Prelude.{ℕ, ◌/◌, ◌%◌, List}
use Rattle.jbig2_inverses.specs.Digits.{digits}

abbrev pub word_of_entry : ℕ → List ℕ  -- the lowest four bits are the size of the word, and the bits above are its bits
word_of_entry entry = digits (entry % 16) (entry / 16)
