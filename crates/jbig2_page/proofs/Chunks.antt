-- Where chunks stand, and how many calls there are.
use Rattle.std.proofs.Common.{◌≡◌, ℕ, suc, zero, ◌+◌, ◌*◌, ◌/◌, ◌%◌, ◌≤◌, Bool, true, false, cond, List, [], ◌∷◌, ◌++◌, length, take, drop, subst, arith}
use Rattle.std.specs.List.{range_with_len, flat_map}
use Rattle.std.proofs.lemmas.Bool.{cond_both}
use Rattle.std.proofs.lemmas.List.{length-append, length-take-le, length-drop}
use Rattle.jbig2_base.specs.Grid.{Grid, same_colour}
use Rattle.jbig2_page.specs.Calls.{Call, Pixel, Chunk, Line, CallsAreFew, ChunksFit, is_all, singles, with_whole, with_byte, whole_calls, row_of_grid, line_calls, calls_of}
use Rattle.jbig2_page.proofs.Runs.{length-row}

-- from another number of the column
fits-from : (w x y : ℕ) (calls : List Call) → x ≡ y → ChunksFit w x calls → ChunksFit w y calls
fits-from w x y calls same fits = subst (λ (n : ℕ). ChunksFit w n calls) same fits

one-chunk : (w x : ℕ) (black : Bool) (calls : List Call) → x % 8 ≡ 0 → x + 8 ≤ w → ChunksFit w (x + 8) calls → ChunksFit w x (Chunk black 1 ∷ calls)
one-chunk w x black calls whole inside fits = (whole, omega arith, omega arith, fits-from w (x + 8) (x + 8 * 1) calls (omega arith) fits)

longer-chunk : (w x n : ℕ) (black : Bool) (calls : List Call) → x % 8 ≡ 0 → (x + 8) + 8 * n ≤ w → ChunksFit w ((x + 8) + 8 * n) calls → ChunksFit w x (Chunk black (n + 1) ∷ calls)
longer-chunk w x n black calls whole inside fits = (whole, omega arith, omega arith, fits-from w ((x + 8) + 8 * n) (x + 8 * (n + 1)) calls (omega arith) fits)

whole-fits : (w x : ℕ) (black : Bool) (calls : List Call) → x % 8 ≡ 0 → x + 8 ≤ w → ChunksFit w (x + 8) calls → ChunksFit w x (with_whole black calls)
whole-fits w x black [] whole inside fits = one-chunk w x black [] whole inside fits
whole-fits w x black (Pixel b ∷ calls) whole inside fits = one-chunk w x black (Pixel b ∷ calls) whole inside fits
whole-fits w x black (Line ∷ calls) whole inside fits = one-chunk w x black (Line ∷ calls) whole inside fits
whole-fits w x black (Chunk other n ∷ calls) whole inside fits =
    cond_both (same_colour black other) (Chunk black (n + 1) ∷ calls) (Chunk black 1 ∷ (Chunk other n ∷ calls)) (λ ds. ChunksFit w x ds)
    (λ same. longer-chunk w x n black calls whole fits.2 fits.3)
    (λ differs. one-chunk w x black (Chunk other n ∷ calls) whole inside fits)

singles-fit : (w x : ℕ) (byte : List Bool) (calls : List Call) → ChunksFit w (x + length byte) calls → ChunksFit w x (singles byte ++ calls)
singles-fit w x [] calls fits = fits-from w (x + 0) x calls (omega arith) fits
singles-fit w x (b ∷ bs) calls fits = singles-fit w (x + 1) bs calls (fits-from w (x + suc (length bs)) (x + 1 + length bs) calls (omega arith) fits)

alone-fit : (w x : ℕ) (bits : List Bool) → ChunksFit w x (singles bits)
alone-fit w x [] = tt
alone-fit w x (b ∷ bs) = alone-fit w (x + 1) bs

byte-fits : (w x : ℕ) (byte : List Bool) (calls : List Call) → x % 8 ≡ 0 → x + 8 ≤ w → length byte ≡ 8 → ChunksFit w (x + 8) calls → ChunksFit w x (with_byte byte calls)
byte-fits w x byte calls whole inside eight fits =
    let P : List Call → Type 0 = λ ds. ChunksFit w x ds in
    cond_both (is_all true byte) (with_whole true calls) (cond (is_all false byte) (with_whole false calls) (singles byte ++ calls)) P
    (λ all. whole-fits w x true calls whole inside fits)
    (λ other. cond_both (is_all false byte) (with_whole false calls) (singles byte ++ calls) P
    (λ all. whole-fits w x false calls whole inside fits)
    (λ mixed. singles-fit w x byte calls (fits-from w (x + 8) (x + length byte) calls (omega arith) fits)))

bytes-fit : (n w x : ℕ) (bits : List Bool) → x % 8 ≡ 0 → 8 * n ≤ length bits → x + length bits ≤ w → ChunksFit w x (whole_calls n bits)
unfolding whole_calls
bytes-fit zero w x bits whole room inside = alone-fit w x bits
bytes-fit (suc n) w x bits whole room inside =
    byte-fits w x (take 8 bits) (whole_calls n (drop 8 bits)) whole (omega arith) (length-take-le 8 bits (omega arith))
    (bytes-fit n w (x + 8) (drop 8 bits) (omega arith) (omega (arith, length-drop 8 bits)) (omega (arith, length-drop 8 bits)))

-- after the end of a row
line-fits : (w x : ℕ) (calls others : List Call) → ChunksFit w x calls → ChunksFit w 0 others → ChunksFit w x ((calls ++ Line ∷ []) ++ others)
line-fits w x [] others fits more = more
line-fits w x (Pixel b ∷ calls) others fits more = line-fits w (x + 1) calls others fits more
line-fits w x (Chunk b n ∷ calls) others fits more = (fits.0, fits.1, fits.2, line-fits w (x + 8 * n) calls others fits.3 more)
line-fits w x (Line ∷ calls) others fits more = line-fits w 0 calls others fits more

rows-fit : (g : Grid) (a n : ℕ) → ChunksFit g.width 0 (flat_map (line_calls g) (range_with_len a n))
rows-fit g a zero = tt
rows-fit g a (suc n) =
    line-fits g.width 0 (whole_calls (length (row_of_grid g a) / 8) (row_of_grid g a)) (flat_map (line_calls g) (range_with_len (a + 1) n))
    (bytes-fit (length (row_of_grid g a) / 8) g.width 0 (row_of_grid g a) (omega arith) (omega arith) (omega (arith, length-row g a))) (rows-fit g (a + 1) n)

pub chunks-fit : (g : Grid) → ChunksFit g.width 0 (calls_of g)
unfolding calls_of
chunks-fit g = rows-fit g 0 g.height

-- ---- how many calls there are
whole-few : (black : Bool) (calls : List Call) → length (with_whole black calls) ≤ length calls + 1
whole-few black [] = omega arith
whole-few black (Pixel b ∷ calls) = omega arith
whole-few black (Line ∷ calls) = omega arith
whole-few black (Chunk other n ∷ calls) =
    cond_both (same_colour black other) (Chunk black (n + 1) ∷ calls) (Chunk black 1 ∷ (Chunk other n ∷ calls)) (λ ds. length ds ≤ suc (length calls) + 1) (λ same. omega arith) (λ differs. omega arith)

length-singles : (bits : List Bool) → length (singles bits) ≡ length bits
length-singles [] = omega arith
length-singles (b ∷ bs) = omega (arith, length-singles bs)

byte-few : (byte : List Bool) (calls : List Call) → length byte ≡ 8 → length (with_byte byte calls) ≤ length calls + 8
byte-few byte calls eight =
    let P : List Call → Type 0 = λ ds. length ds ≤ length calls + 8 in
    cond_both (is_all true byte) (with_whole true calls) (cond (is_all false byte) (with_whole false calls) (singles byte ++ calls)) P
    (λ all. omega (arith, whole-few true calls))
    (λ other. cond_both (is_all false byte) (with_whole false calls) (singles byte ++ calls) P
    (λ all. omega (arith, whole-few false calls))
    (λ mixed. omega (arith, length-append (singles byte) calls, length-singles byte)))

bytes-few : (n : ℕ) (bits : List Bool) → 8 * n ≤ length bits → length (whole_calls n bits) ≤ length bits
unfolding whole_calls
bytes-few zero bits room = omega (arith, length-singles bits)
bytes-few (suc n) bits room =
    let less : length (whole_calls n (drop 8 bits)) ≤ length (drop 8 bits) = bytes-few n (drop 8 bits) (omega (arith, length-drop 8 bits)) in
    omega (arith, byte-few (take 8 bits) (whole_calls n (drop 8 bits)) (length-take-le 8 bits (omega arith)), less, length-drop 8 bits)

rows-few : (g : Grid) (a n : ℕ) → length (flat_map (line_calls g) (range_with_len a n)) ≤ g.width * n + n
rows-few g a zero = omega arith
rows-few g a (suc n) =
    let calls : List Call = whole_calls (length (row_of_grid g a) / 8) (row_of_grid g a) in
    let rest : List Call = flat_map (line_calls g) (range_with_len (a + 1) n) in
    let line : List Call = Line ∷ [] in
    omega (arith, length-append (calls ++ line) rest, length-append calls line, bytes-few (length (row_of_grid g a) / 8) (row_of_grid g a) (omega arith), length-row g a, rows-few g (a + 1) n)

pub calls-few : (g : Grid) → CallsAreFew g
unfolding calls_of
calls-few g = rows-few g 0 g.height
