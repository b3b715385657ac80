-- The runs of whole bytes of one colour at the beginning of a row's pixels, as the code looks for them.
use Rattle.std.specs.Prelude.{◌≡◌, ◌<◌, ◌≤◌, Option, Some, None, ℕ, suc, zero, Bool, true, false, List, take, drop}
use Rattle.std.specs.Prelude.{if◌then◌else◌}
use Rattle.jbig2_page.specs.Calls.{is_all}

-- how many of the whole bytes, from the left, have this colour one after the other
abbrev pub run_of : ℕ → Bool → List Bool → ℕ
run_of zero black bits = 0
run_of (suc n) black bits = if is_all black (take 8 bits) then suc (run_of n black (drop 8 bits)) else 0

-- The colour of all these pixels, if they have one.
abbrev pub IsColourOf : List Bool → Option Bool → Type 0
IsColourOf bits None = (is_all true bits ≡ false) × (is_all false bits ≡ false)
IsColourOf bits (Some black) = is_all black bits ≡ true

-- the number of bytes of a run, if there is one
abbrev pub bytes_of_run : Option (Bool × ℕ) → ℕ
bytes_of_run None = 0
bytes_of_run (Some (black, count)) = count

-- Either the pixels begin with no byte of one colour, or with a run of whole bytes of one colour.
abbrev pub IsRunAt : ℕ → List Bool → Option (Bool × ℕ) → Type 0
IsRunAt n bits None = (run_of n true bits ≡ 0) × (run_of n false bits ≡ 0)
IsRunAt n bits (Some (black, count)) = (run_of n black bits ≡ count) × (0 < count) × (count ≤ n)
