-- The calls of a grid spell its rows.
use Rattle.std.proofs.Common.{◌≡◌, ℕ, suc, zero, ◌+◌, ◌*◌, ◌/◌, ◌≤◌, Bool, true, false, cond, None, Some, List, [], ◌∷◌, ◌++◌, length, take, drop, replicate, map, count_by, refl, sym, subst, ◌∙◌, ap, arith}
use Rattle.std.specs.List.{All, range_with_len, flat_map}
use Rattle.std.proofs.lemmas.List.Elements.{All-nil, All-cons}
use Rattle.std.proofs.lemmas.Bool.{cond_both, and_parts}
use Rattle.std.proofs.lemmas.List.{append_assoc, append-nil, replicate-append-replicate, take-append-drop, length-take-le, length-drop}
use Rattle.std.proofs.lemmas.List.Sums.{sum_by-append}
use Rattle.jbig2_base.specs.Grid.{Grid, same_colour}
use Rattle.jbig2_page.specs.Calls.{Call, Pixel, Chunk, Line, is_all, is_line, singles, with_whole, with_byte, whole_calls, row_of_grid, line_calls, calls_of, rows_after, DrawsGrid}
use Rattle.jbig2_page.proofs.Runs.{length-row, colour_is}

rows-singles : (front bits : List Bool) (cs : List Call) → rows_after (Some front) (singles bits ++ cs) ≡ rows_after (Some (front ++ bits)) cs
rows-singles front [] cs = ap (λ (r : List Bool). rows_after (Some r) cs) (sym (append-nil front))
rows-singles front (b ∷ bs) cs = rows-singles (front ++ b ∷ []) bs cs ∙ ap (λ (r : List Bool). rows_after (Some r) cs) (append_assoc front (b ∷ []) bs)

rows-chunk : (front : List Bool) (black : Bool) (n : ℕ) (cs : List Call) → rows_after (Some front) (Chunk black (n + 1) ∷ cs) ≡ rows_after (Some (front ++ replicate 8 black)) (Chunk black n ∷ cs)
rows-chunk front black n cs =
    let more : 8 * (n + 1) ≡ 8 + 8 * n = omega arith in
    ap (λ (r : List Bool). rows_after (Some (front ++ r)) cs) (ap (λ (m : ℕ). replicate m black) more ∙ sym (replicate-append-replicate 8 (8 * n) black))
    ∙ ap (λ (r : List Bool). rows_after (Some r) cs) (sym (append_assoc front (replicate 8 black) (replicate (8 * n) black)))

rows-whole : (front : List Bool) (black : Bool) (calls cs : List Call) → rows_after (Some front) (with_whole black calls ++ cs) ≡ rows_after (Some (front ++ replicate 8 black)) (calls ++ cs)
rows-whole front true [] cs = refl
rows-whole front false [] cs = refl
rows-whole front true (Pixel b ∷ calls) cs = refl
rows-whole front false (Pixel b ∷ calls) cs = refl
rows-whole front true (Line ∷ calls) cs = refl
rows-whole front false (Line ∷ calls) cs = refl
rows-whole front true (Chunk true n ∷ calls) cs = rows-chunk front true n (calls ++ cs)
rows-whole front true (Chunk false n ∷ calls) cs = refl
rows-whole front false (Chunk true n ∷ calls) cs = refl
rows-whole front false (Chunk false n ∷ calls) cs = rows-chunk front false n (calls ++ cs)

all-replicate : (black : Bool) (bits : List Bool) → is_all black bits ≡ true → replicate (length bits) black ≡ bits
all-replicate black [] all = refl
all-replicate black (b ∷ bs) all =
    let parts = and_parts (same_colour black b) (is_all black bs) all in
    ap (λ (c : Bool). c ∷ replicate (length bs) black) (sym (colour_is black b parts.0)) ∙ ap (λ (cs : List Bool). b ∷ cs) (all-replicate black bs parts.1)

rows-byte : (front byte : List Bool) (calls cs : List Call) → length byte ≡ 8 → rows_after (Some front) (with_byte byte calls ++ cs) ≡ rows_after (Some (front ++ byte)) (calls ++ cs)
rows-byte front byte calls cs eight =
    let P : List Call → Type 0 = λ ds. rows_after (Some front) (ds ++ cs) ≡ rows_after (Some (front ++ byte)) (calls ++ cs) in
    let whole : (black : Bool) → is_all black byte ≡ true → P (with_whole black calls) = λ black all.
    rows-whole front black calls cs ∙ ap (λ (r : List Bool). rows_after (Some (front ++ r)) (calls ++ cs)) (ap (λ (n : ℕ). replicate n black) (sym eight) ∙ all-replicate black byte all) in
    cond_both (is_all true byte) (with_whole true calls) (cond (is_all false byte) (with_whole false calls) (singles byte ++ calls)) P
    (λ all. whole true all)
    (λ other. cond_both (is_all false byte) (with_whole false calls) (singles byte ++ calls) P
    (λ all. whole false all)
    (λ mixed. ap (λ (ds : List Call). rows_after (Some front) ds) (append_assoc (singles byte) calls cs) ∙ rows-singles front byte (calls ++ cs)))

rows-calls : (n : ℕ) (front bits : List Bool) (cs : List Call) → 8 * n ≤ length bits → rows_after (Some front) (whole_calls n bits ++ cs) ≡ rows_after (Some (front ++ bits)) cs
unfolding whole_calls
rows-calls zero front bits cs room = rows-singles front bits cs
rows-calls (suc n) front bits cs room =
    rows-byte front (take 8 bits) (whole_calls n (drop 8 bits)) cs (length-take-le 8 bits (omega arith))
    ∙ rows-calls n (front ++ take 8 bits) (drop 8 bits) cs (omega (arith, length-drop 8 bits))
    ∙ ap (λ (r : List Bool). rows_after (Some r) cs) (append_assoc front (take 8 bits) (drop 8 bits) ∙ ap (λ (r : List Bool). front ++ r) (take-append-drop 8 bits))

-- a row begins without pixels
rows-start : (ds cs : List Call) → rows_after None (ds ++ Line ∷ cs) ≡ rows_after (Some []) (ds ++ Line ∷ cs)
rows-start [] cs = refl
rows-start (Pixel b ∷ ds) cs = refl
rows-start (Chunk b n ∷ ds) cs = refl
rows-start (Line ∷ ds) cs = refl

rows-line : (g : Grid) (y : ℕ) (cs : List Call) → rows_after None (line_calls g y ++ cs) ≡ row_of_grid g y ∷ rows_after None cs
rows-line g y cs =
    ap (λ (calls : List Call). rows_after None calls) (append_assoc (whole_calls (length (row_of_grid g y) / 8) (row_of_grid g y)) (Line ∷ []) cs)
    ∙ rows-start (whole_calls (length (row_of_grid g y) / 8) (row_of_grid g y)) cs
    ∙ rows-calls (length (row_of_grid g y) / 8) [] (row_of_grid g y) (Line ∷ cs) (omega arith)

rows-lines : (g : Grid) (a n : ℕ) → rows_after None (flat_map (line_calls g) (range_with_len a n)) ≡ map (row_of_grid g) (range_with_len a n)
rows-lines g a zero = refl
rows-lines g a (suc n) = rows-line g a (flat_map (line_calls g) (range_with_len (a + 1) n)) ∙ ap (λ (rs : List (List Bool)). row_of_grid g a ∷ rs) (rows-lines g (a + 1) n)

widths-rows : (g : Grid) (a n : ℕ) → All (λ row. length row ≡ g.width) (map (row_of_grid g) (range_with_len a n))
widths-rows g a zero = All-nil (λ row. length row ≡ g.width)
widths-rows g a (suc n) = All-cons (λ row. length row ≡ g.width) (row_of_grid g a) (map (row_of_grid g) (range_with_len (a + 1) n)) (length-row g a) (widths-rows g (a + 1) n)

count-append : (cs ds : List Call) → count_by is_line (cs ++ ds) ≡ count_by is_line cs + count_by is_line ds
count-append cs ds = sum_by-append (λ c. cond (is_line c) 1 0) cs ds

count-singles : (bits : List Bool) → count_by is_line (singles bits) ≡ 0
count-singles [] = refl
count-singles (b ∷ bs) = count-singles bs

count-whole : (black : Bool) (calls : List Call) → count_by is_line (with_whole black calls) ≡ count_by is_line calls
count-whole true [] = refl
count-whole false [] = refl
count-whole true (Pixel b ∷ calls) = refl
count-whole false (Pixel b ∷ calls) = refl
count-whole true (Line ∷ calls) = refl
count-whole false (Line ∷ calls) = refl
count-whole true (Chunk true n ∷ calls) = refl
count-whole true (Chunk false n ∷ calls) = refl
count-whole false (Chunk true n ∷ calls) = refl
count-whole false (Chunk false n ∷ calls) = refl

count-calls : (n : ℕ) (bits : List Bool) → count_by is_line (whole_calls n bits) ≡ 0
unfolding whole_calls
count-calls zero bits = count-singles bits
count-calls (suc n) bits =
    let byte = take 8 bits in
    let calls = whole_calls n (drop 8 bits) in
    let none : count_by is_line calls ≡ 0 = count-calls n (drop 8 bits) in
    let P : List Call → Type 0 = λ ds. count_by is_line ds ≡ 0 in
    cond_both (is_all true byte) (with_whole true calls) (cond (is_all false byte) (with_whole false calls) (singles byte ++ calls)) P
    (λ all. count-whole true calls ∙ none)
    (λ other. cond_both (is_all false byte) (with_whole false calls) (singles byte ++ calls) P
    (λ all. count-whole false calls ∙ none)
    (λ mixed. omega (arith, count-append (singles byte) calls, count-singles byte, none)))

count-lines : (g : Grid) (a n : ℕ) → count_by is_line (flat_map (line_calls g) (range_with_len a n)) ≡ n
count-lines g a zero = refl
count-lines g a (suc n) =
    let cs = whole_calls (length (row_of_grid g a) / 8) (row_of_grid g a) in
    let rest = flat_map (line_calls g) (range_with_len (a + 1) n) in
    let line : List Call = Line ∷ [] in
    let one : count_by is_line line ≡ 1 = refl in
    omega (arith, count-append (line_calls g a) rest, count-append cs line, count-calls (length (row_of_grid g a) / 8) (row_of_grid g a), count-lines g (a + 1) n, one)

pub spells : (g : Grid) → DrawsGrid (calls_of g) g
unfolding calls_of
spells g =
    let rows = rows-lines g 0 g.height in
    let P : List (List Bool) → Type 0 = λ rs. All (λ row. length row ≡ g.width) rs in
    record { lines = count-lines g 0 g.height; widths = subst P (sym rows) (widths-rows g 0 g.height); rows = rows }
