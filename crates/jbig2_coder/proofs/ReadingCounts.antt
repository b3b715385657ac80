-- How many decisions an integer takes: a sign, at most five of the prefix and at most 32 of the value (T.88, Table A.1).
use Rattle.std.specs.Prelude.{if◌then◌else◌}
use Rattle.std.proofs.Common.{◌≡◌, ℕ, ◌+◌, ◌≤◌, Bool, true, false, List, [], ◌∷◌, length, refl, arith}
use Rattle.jbig2_coder.specs.Coder.{Context, Registers}
use Rattle.jbig2_coder.specs.Integers.{Reading, Range, are_next, integer, next_range, prev_of, range, ranges, read, read_more}
use Rattle.jbig2_coder.proofs.Readings.{length-read_more}

abbrev size : Range → ℕ  -- how many decisions a row of the table takes
size row = length row.prefix + row.bits

either-few : (c : Bool) (x y : Range) → size x ≤ 37 → size y ≤ 37 → size (if c then x else y) ≤ 37
either-few true x y one two = one
either-few false x y one two = two

next-few : (row : Range) (rows : List Range) (bytes : List ℕ) (r : Reading) → size row ≤ 37 → size (next_range rows bytes r) ≤ 37 → size (next_range (row ∷ rows) bytes r) ≤ 37
unfolding next_range
next-few row rows bytes r one others = either-few (are_next row.prefix bytes r) row (next_range rows bytes r) one others

none-few : (bytes : List ℕ) (r : Reading) → size (next_range [] bytes r) ≤ 37
unfolding next_range
none-few bytes r = omega arith

range-few : (bytes : List ℕ) (r : Reading) → size (next_range ranges bytes r) ≤ 37
unfolding ranges
range-few bytes r =
    next-few (range (false ∷ []) 2 0) _ bytes r (omega arith)
    (next-few (range (true ∷ false ∷ []) 4 4) _ bytes r (omega arith)
    (next-few (range (true ∷ true ∷ false ∷ []) 6 20) _ bytes r (omega arith)
    (next-few (range (true ∷ true ∷ true ∷ false ∷ []) 8 84) _ bytes r (omega arith)
    (next-few (range (true ∷ true ∷ true ∷ true ∷ false ∷ []) 12 340) _ bytes r (omega arith)
    (next-few (range (true ∷ true ∷ true ∷ true ∷ true ∷ []) 32 4436) [] bytes r (omega arith) (none-few bytes r))))))

pub integer-few : (bytes : List ℕ) (registers : Registers) (contexts : List Context) → length (integer bytes registers contexts).reading.bits ≤ 38
unfolding integer read
integer-few bytes registers contexts =
    let start : Reading = record { bits = []; registers = registers; contexts = contexts } in
    let signed = read prev_of bytes start in
    let row = next_range ranges bytes signed in
    let before = read_more prev_of (length row.prefix) bytes signed in
    let one : length signed.bits ≡ 1 = refl in
    omega (arith, one, range-few bytes signed, length-read_more prev_of (length row.prefix) bytes signed, length-read_more prev_of row.bits bytes before)
