-- Runs of whole bytes of one colour, from the left.
use Rattle.std.proofs.Common.{◌≡◌, ℕ, suc, zero, ◌+◌, ◌-◌, ◌*◌, ◌<◌, ◌≤◌, Bool, true, false, not, cond, List, [], ◌∷◌, ◌++◌, length, take, drop, refl, sym, ◌∙◌, ap, arith, subst, map, nat_eq, ⊎_elim, ◌/◌, ◌^◌, if◌then◌else◌}
use Rattle.std.proofs.lemmas.Bool.{cond_both, cond-true, cond-false, and_from, and_parts, cases_Bool, cases_lt, eq-eqb, ne_eqb, false≢true}
use Rattle.std.proofs.lemmas.List.{append_assoc, take_all, length-take-le, length-drop, drop-drop, drop-map}
use Rattle.std.proofs.lemmas.List.FromFn.{take-map-range_with_len, length-map-range_with_len}
use Rattle.std.proofs.lemmas.Nat.Bits.{same_from_bits_below}
use Rattle.std.specs.List.{range_with_len, flat_map}
use Rattle.jbig2_base.specs.Grid.{Grid, pixel_at, same_colour}
use Rattle.jbig2_base.specs.Bits.{bit, bit_number}
use Rattle.jbig2_base.specs.Colour.{IsFirst}
use Rattle.jbig2_base.proofs.BitLemmas.{bit-ones, bit-zero, bit_number-bit}
use Rattle.jbig2_page.specs.Calls.{Call, Pixel, Chunk, Line, is_all, singles, with_whole, with_byte, whole_calls, row_of_grid, line_calls, calls_of}
use Rattle.jbig2_page.specs.inner.RunViews.{run_of}

-- a byte that is not all of one colour begins with a pixel
with_whole-singles : (black : Bool) (bits : List Bool) (calls : List Call) → is_all black bits ≡ false → with_whole black (singles bits ++ calls) ≡ Chunk black 1 ∷ (singles bits ++ calls)
with_whole-singles black [] calls h = absurd (let never : true ≡ false = h in cc)
with_whole-singles black (b ∷ bs) calls h = refl

with_whole-last : (black : Bool) (bits : List Bool) → with_whole black (singles bits) ≡ Chunk black 1 ∷ singles bits
with_whole-last black [] = refl
with_whole-last black (b ∷ bs) = refl

-- a chunk of the other colour is not joined
with_whole-other : (black : Bool) (calls : List Call) → with_whole black (with_whole (not black) calls) ≡ Chunk black 1 ∷ with_whole (not black) calls
with_whole-other true [] = refl
with_whole-other true (Pixel b ∷ calls) = refl
with_whole-other true (Line ∷ calls) = refl
with_whole-other true (Chunk true n ∷ calls) = refl
with_whole-other true (Chunk false n ∷ calls) = refl
with_whole-other false [] = refl
with_whole-other false (Pixel b ∷ calls) = refl
with_whole-other false (Line ∷ calls) = refl
with_whole-other false (Chunk true n ∷ calls) = refl
with_whole-other false (Chunk false n ∷ calls) = refl

-- a byte of another kind ends a run
with_whole-byte : (black : Bool) (byte : List Bool) (calls : List Call) → is_all black byte ≡ false → with_whole black (with_byte byte calls) ≡ Chunk black 1 ∷ with_byte byte calls
with_whole-byte true byte calls h =
    let chosen : with_byte byte calls ≡ cond (is_all false byte) (with_whole false calls) (singles byte ++ calls) = ap (λ (b : Bool). cond b (with_whole true calls) (cond (is_all false byte) (with_whole false calls) (singles byte ++ calls))) h in
    let P : List Call → Type 0 = λ cs. with_whole true cs ≡ Chunk true 1 ∷ cs in
    subst P (sym chosen) (cond_both (is_all false byte) (with_whole false calls) (singles byte ++ calls) P (λ e. with_whole-other true calls) (λ e. with_whole-singles true byte calls h))
with_whole-byte false byte calls h =
    let P : List Call → Type 0 = λ cs. with_whole false cs ≡ Chunk false 1 ∷ cs in
    let other : List Call = cond (is_all false byte) (with_whole false calls) (singles byte ++ calls) in
    let chosen : other ≡ singles byte ++ calls = ap (λ (b : Bool). cond b (with_whole false calls) (singles byte ++ calls)) h in
    cond_both (is_all true byte) (with_whole true calls) other P (λ e. with_whole-other false calls) (λ e. subst P (sym chosen) (with_whole-singles false byte calls h))

none : (b : Bool) (k : ℕ) → cond b (suc k) 0 ≡ 0 → b ≡ false
none true k e = absurd (omega arith)
none false k e = refl

run_of-end : (n : ℕ) (black : Bool) (bits : List Bool) → run_of n black bits ≡ 0 → with_whole black (whole_calls n bits) ≡ Chunk black 1 ∷ whole_calls n bits
unfolding whole_calls
run_of-end zero black bits h = with_whole-last black bits
run_of-end (suc n) black bits h = with_whole-byte black (take 8 bits) (whole_calls n (drop 8 bits)) (none (is_all black (take 8 bits)) (run_of n black (drop 8 bits)) h)

-- eight pixels cannot have both colours
one_colour : (bits : List Bool) → 1 ≤ length bits → is_all false bits ≡ true → is_all true bits ≡ false
one_colour [] h e = absurd (omega arith)
one_colour (true ∷ bs) h e = absurd (let never : false ≡ true = e in cc)
one_colour (false ∷ bs) h e = refl

with_byte-whole : (black : Bool) (byte : List Bool) (calls : List Call) → 1 ≤ length byte → is_all black byte ≡ true → with_byte byte calls ≡ with_whole black calls
with_byte-whole true byte calls some h = cond-true (is_all true byte) (with_whole true calls) (cond (is_all false byte) (with_whole false calls) (singles byte ++ calls)) h
with_byte-whole false byte calls some h =
    cond-false (is_all true byte) (with_whole true calls) (cond (is_all false byte) (with_whole false calls) (singles byte ++ calls)) (one_colour byte some h)
    ∙ cond-true (is_all false byte) (with_whole false calls) (singles byte ++ calls) h

joined : (black : Bool) (n : ℕ) (calls : List Call) → with_whole black (Chunk black n ∷ calls) ≡ Chunk black (n + 1) ∷ calls
joined true n calls = refl
joined false n calls = refl

-- what the first byte says of a run
run_of-first : (b : Bool) (m k : ℕ) → cond b (suc m) 0 ≡ suc k → (b ≡ true) × (m ≡ k)
run_of-first true m k e = (refl, omega arith)
run_of-first false m k e = absurd (omega arith)

first_byte : (bits : List Bool) → 8 ≤ length bits → 1 ≤ length (take 8 bits)
first_byte bits room = omega (arith, length-take-le 8 bits room)

-- A run of whole bytes is one chunk, and the calls of the pixels after it.
pub run_calls : (n k : ℕ) (black : Bool) (bits : List Bool) → 8 * n ≤ length bits → run_of n black bits ≡ suc k → whole_calls n bits ≡ Chunk black (suc k) ∷ whole_calls (n - suc k) (drop (8 * suc k) bits)
unfolding whole_calls
run_calls zero k black bits room h = absurd (omega arith)
run_calls (suc n) zero black bits room h =
    let first = run_of-first (is_all black (take 8 bits)) (run_of n black (drop 8 bits)) zero h in
    let left : n ≡ suc n - suc zero = omega arith in
    with_byte-whole black (take 8 bits) (whole_calls n (drop 8 bits)) (first_byte bits (omega arith)) first.0
    ∙ run_of-end n black (drop 8 bits) first.1
    ∙ ap (λ (m : ℕ). Chunk black 1 ∷ whole_calls m (drop 8 bits)) left
run_calls (suc n) (suc k) black bits room h =
    let first = run_of-first (is_all black (take 8 bits)) (run_of n black (drop 8 bits)) (suc k) h in
    let rest : List Call = whole_calls (n - suc k) (drop (8 * suc k) (drop 8 bits)) in
    let left : n - suc k ≡ suc n - suc (suc k) = omega arith in
    let place : 8 + 8 * suc k ≡ 8 * suc (suc k) = omega arith in
    let more : suc k + 1 ≡ suc (suc k) = omega arith in
    with_byte-whole black (take 8 bits) (whole_calls n (drop 8 bits)) (first_byte bits (omega arith)) first.0
    ∙ ap (λ (cs : List Call). with_whole black cs) (run_calls n k black (drop 8 bits) (omega (arith, length-drop 8 bits)) first.1)
    ∙ joined black (suc k) rest
    ∙ ap (λ (m : ℕ). Chunk black m ∷ rest) more
    ∙ ap (λ (m : ℕ). Chunk black (suc (suc k)) ∷ whole_calls m (drop (8 * suc k) (drop 8 bits))) left
    ∙ ap (λ (ds : List Bool). Chunk black (suc (suc k)) ∷ whole_calls (suc n - suc (suc k)) ds) (drop-drop (8 * suc k) 8 bits ∙ ap (λ (m : ℕ). drop m bits) place)

-- a byte that begins no run of either colour
pub byte_calls : (n : ℕ) (bits : List Bool) → run_of (suc n) true bits ≡ 0 → run_of (suc n) false bits ≡ 0 → whole_calls (suc n) bits ≡ singles (take 8 bits) ++ whole_calls n (drop 8 bits)
unfolding whole_calls
byte_calls n bits black white =
    cond-false (is_all true (take 8 bits)) (with_whole true (whole_calls n (drop 8 bits))) (cond (is_all false (take 8 bits)) (with_whole false (whole_calls n (drop 8 bits))) (singles (take 8 bits) ++ whole_calls n (drop 8 bits))) (none (is_all true (take 8 bits)) (run_of n true (drop 8 bits)) black)
    ∙ cond-false (is_all false (take 8 bits)) (with_whole false (whole_calls n (drop 8 bits))) (singles (take 8 bits) ++ whole_calls n (drop 8 bits)) (none (is_all false (take 8 bits)) (run_of n false (drop 8 bits)) white)

-- A row's pixels from a column on.
drop-range : (k a n : ℕ) → k ≤ n → drop k (range_with_len a n) ≡ range_with_len (a + k) (n - k)
drop-range zero a n h =
    let from : a ≡ a + 0 = omega arith in
    let len : n ≡ n - 0 = omega arith in
    ap (λ (m : ℕ). range_with_len m n) from ∙ ap (λ (m : ℕ). range_with_len (a + 0) m) len
drop-range (suc k) a zero h = absurd (omega arith)
drop-range (suc k) a (suc n) h =
    let from : a + 1 + k ≡ a + suc k = omega arith in
    let len : n - k ≡ suc n - suc k = omega arith in
    drop-range k (a + 1) n (omega arith) ∙ ap (λ (m : ℕ). range_with_len m (n - k)) from ∙ ap (λ (m : ℕ). range_with_len (a + suc k) m) len

pub row-from : (g : Grid) (x y : ℕ) → x ≤ g.width → drop x (row_of_grid g y) ≡ map (λ i. pixel_at g i y) (range_with_len x (g.width - x))
unfolding row_of_grid
row-from g x y h =
    let zero_on : 0 + x ≡ x = omega arith in
    drop-map (λ i. pixel_at g i y) x (range_with_len 0 g.width)
    ∙ ap (λ (ns : List ℕ). map (λ i. pixel_at g i y) ns) (drop-range x 0 g.width h ∙ ap (λ (m : ℕ). range_with_len m (g.width - x)) zero_on)

pub row-part : (g : Grid) (x y count : ℕ) → x + count ≤ g.width → take count (drop x (row_of_grid g y)) ≡ map (λ i. pixel_at g i y) (range_with_len x count)
row-part g x y count h =
    ap (λ (bs : List Bool). take count bs) (row-from g x y (omega arith))
    ∙ take-map-range_with_len (λ i. pixel_at g i y) x (g.width - x) count (omega arith)

pub length-row : (g : Grid) (y : ℕ) → length (row_of_grid g y) ≡ g.width
unfolding row_of_grid
length-row g y = length-map-range_with_len (λ i. pixel_at g i y) 0 g.width

own_colour : (black : Bool) → same_colour black black ≡ true
own_colour true = refl
own_colour false = refl

pub colour_is : (black b : Bool) → same_colour black b ≡ true → b ≡ black
colour_is true b e = e
colour_is false true e = absurd (let never : false ≡ true = e in cc)
colour_is false false e = refl

all-from : (black : Bool) (f : ℕ → Bool) (a n : ℕ) → ((k : ℕ) → k < n → f (a + k) ≡ black) → is_all black (map f (range_with_len a n)) ≡ true
all-from black f a zero each = refl
all-from black f a (suc n) each =
    let here : f a ≡ black = ap f (let e : a ≡ a + 0 = omega arith in e) ∙ each 0 (omega arith) in
    and_from (same_colour black (f a)) (is_all black (map f (range_with_len (a + 1) n))) (ap (λ (b : Bool). same_colour black b) here ∙ own_colour black)
    (all-from black f (a + 1) n (λ k h. ap f (let e : a + 1 + k ≡ a + suc k = omega arith in e) ∙ each (suc k) (omega arith)))

all-to : (black : Bool) (f : ℕ → Bool) (a n : ℕ) → is_all black (map f (range_with_len a n)) ≡ true → (k : ℕ) → k < n → f (a + k) ≡ black
all-to black f a zero all k h = absurd (omega arith)
all-to black f a (suc n) all zero h = ap f (let e : a + zero ≡ a = omega arith in e) ∙ colour_is black (f a) (and_parts (same_colour black (f a)) (is_all black (map f (range_with_len (a + 1) n))) all).0
all-to black f a (suc n) all (suc k) h =
    ap f (let e : a + suc k ≡ a + 1 + k = omega arith in e)
    ∙ all-to black f (a + 1) n (and_parts (same_colour black (f a)) (is_all black (map f (range_with_len (a + 1) n))) all).1 k (omega arith)

-- the byte of eight pixels of one colour
abbrev pub byte_of : Bool → ℕ
byte_of black = if black then 255 else 0

bit-byte : (black : Bool) (k : ℕ) → k < 8 → bit (byte_of black) k ≡ black
bit-byte true k h = bit-ones 8 k h
bit-byte false k h = bit-zero k

same_bytes : (v w : ℕ) → v < 2 ^ 8 → w < 2 ^ 8 → ((k : ℕ) → k < 8 → bit v k ≡ bit w k) → v ≡ w
same_bytes v w low small same = same_from_bits_below 8 v w low small (λ i h. sym (bit_number-bit v i) ∙ ap (λ (b : Bool). bit_number b) (same i h) ∙ bit_number-bit w i)

byte_of-lt : (black : Bool) → byte_of black < 2 ^ 8
byte_of-lt true = omega arith
byte_of-lt false = omega arith

pub byte-test : (black : Bool) (f : ℕ → Bool) (a v : ℕ) → v < 2 ^ 8 → ((k : ℕ) → k < 8 → bit v (8 - 1 - k) ≡ f (a + k)) → nat_eq v (byte_of black) ≡ is_all black (map f (range_with_len a 8))
byte-test black f a v low bits =
    ⊎_elim
    (λ (all : is_all black (map f (range_with_len a 8)) ≡ true).
    eq-eqb v (byte_of black)
    (same_bytes v (byte_of black) low (byte_of-lt black)
    (λ k h. let place : 8 - 1 - (7 - k) ≡ k = omega arith in
    ap (λ (m : ℕ). bit v m) (sym place) ∙ bits (7 - k) (omega arith) ∙ all-to black f a 8 all (7 - k) (omega arith) ∙ sym (bit-byte black k h)))
    ∙ sym all)
    (λ (not_all : is_all black (map f (range_with_len a 8)) ≡ false).
    ne_eqb v (byte_of black)
    (λ (e : v ≡ byte_of black). false≢true (sym not_all ∙ all-from black f a 8 (λ k h. sym (bits k h) ∙ ap (λ (m : ℕ). bit m (8 - 1 - k)) e ∙ bit-byte black (8 - 1 - k) (omega arith))))
    ∙ sym not_all)
    (cases_Bool (is_all black (map f (range_with_len a 8))))

-- a byte of one colour, and one that is not all of it
pub byte-is : (black : Bool) (f : ℕ → Bool) (a v : ℕ) → v < 2 ^ 8 → ((k : ℕ) → k < 8 → bit v (8 - 1 - k) ≡ f (a + k)) → v ≡ byte_of black → is_all black (map f (range_with_len a 8)) ≡ true
byte-is black f a v low bits e = sym (byte-test black f a v low bits) ∙ eq-eqb v (byte_of black) e

pub byte-is_not : (black : Bool) (f : ℕ → Bool) (a v : ℕ) → v < 2 ^ 8 → ((k : ℕ) → k < 8 → bit v (8 - 1 - k) ≡ f (a + k)) → (v ≡ byte_of black → ⊥) → is_all black (map f (range_with_len a 8)) ≡ false
byte-is_not black f a v low bits differs = sym (byte-test black f a v low bits) ∙ ne_eqb v (byte_of black) differs

-- a first byte that ends the run, and one that begins it
pub run_of-none : (n : ℕ) (black : Bool) (bits : List Bool) → is_all black (take 8 bits) ≡ false → run_of n black bits ≡ 0
run_of-none zero black bits h = refl
run_of-none (suc n) black bits h = cond-false (is_all black (take 8 bits)) (suc (run_of n black (drop 8 bits))) 0 h

pub run_of-some : (n : ℕ) (black : Bool) (bits : List Bool) → 1 ≤ n → is_all black (take 8 bits) ≡ true → 0 < run_of n black bits
run_of-some zero black bits some h = absurd (omega arith)
run_of-some (suc n) black bits some h =
    let e : run_of (suc n) black bits ≡ suc (run_of n black (drop 8 bits)) = cond-true (is_all black (take 8 bits)) (suc (run_of n black (drop 8 bits))) 0 h in
    omega arith

differ : (b : Bool) → b ≡ not b → ⊥
differ true e = false≢true (sym e)
differ false e = false≢true e

twice : (b : Bool) → not (not b) ≡ b
twice true = refl
twice false = refl

-- As far as a colour goes, its whole bytes go.
run-found : (n x len place : ℕ) (black : Bool) (f : ℕ → Bool) → 8 * n ≤ len → len < 8 * n + 8 → x ≤ place → place ≤ x + len → ((k : ℕ) → x ≤ k → k < place → f k ≡ black) → (place < x + len → f place ≡ not black) → run_of n black (map f (range_with_len x len)) ≡ (place - x) / 8
run-found zero x len place black f many few after within before found = omega arith
run-found (suc n) x len place black f many few after within before found =
    let bits : List Bool = map f (range_with_len x len) in
    let later : List Bool = map f (range_with_len (x + 8) (len - 8)) in
    let first : take 8 bits ≡ map f (range_with_len x 8) = take-map-range_with_len f x len 8 (omega arith) in
    let rest : drop 8 bits ≡ later = drop-map f 8 (range_with_len x len) ∙ ap (λ (ns : List ℕ). map f ns) (drop-range 8 x len (omega arith)) in
    ap (λ (bs : List Bool). cond (is_all black bs) (suc (run_of n black (drop 8 bits))) 0) first
    ∙ ap (λ (bs : List Bool). cond (is_all black (map f (range_with_len x 8))) (suc (run_of n black bs)) 0) rest
    ∙ ⊎_elim
    (λ (cut : place < x + 8).
    let other : f (x + (place - x)) ≡ not black = ap f (let e : x + (place - x) ≡ place = omega arith in e) ∙ found (omega arith) in
    let mixed : is_all black (map f (range_with_len x 8)) ≡ false =
    ⊎_elim
    (λ (all : is_all black (map f (range_with_len x 8)) ≡ true). absurd (differ black (sym (all-to black f x 8 all (place - x) (omega arith)) ∙ other)))
    (λ (none : is_all black (map f (range_with_len x 8)) ≡ false). none)
    (cases_Bool (is_all black (map f (range_with_len x 8)))) in
    let short : 0 ≡ (place - x) / 8 = omega arith in
    cond-false (is_all black (map f (range_with_len x 8))) (suc (run_of n black later)) 0 mixed ∙ short)
    (λ (whole : x + 8 ≤ place).
    let all : is_all black (map f (range_with_len x 8)) ≡ true = all-from black f x 8 (λ k h. before (x + k) (omega arith) (omega arith)) in
    let more : suc ((place - (x + 8)) / 8) ≡ (place - x) / 8 = omega arith in
    cond-true (is_all black (map f (range_with_len x 8))) (suc (run_of n black later)) 0 all
    ∙ ap (λ (m : ℕ). suc m) (run-found n (x + 8) (len - 8) place black f (omega arith) (omega arith) whole (omega arith) (λ k from to. before k (omega arith) to) (λ inside. found (omega arith)))
    ∙ more)
    (cases_lt place (x + 8))

pub run-to : (g : Grid) (x y place : ℕ) (black : Bool) → x ≤ g.width → IsFirst (λ i. pixel_at g i y) (not black) x g.width place → (place - x) / 8 ≡ run_of ((g.width - x) / 8) black (drop x (row_of_grid g y))
run-to g x y place black inside first =
    sym
    (ap (λ (bs : List Bool). run_of ((g.width - x) / 8) black bs) (row-from g x y inside)
    ∙ run-found ((g.width - x) / 8) x (g.width - x) place black (λ i. pixel_at g i y) (omega arith) (omega arith) first.after (omega (arith, first.within))
    (λ k from to. first.before k from to ∙ twice black)
    (λ within. first.found (omega arith)))

-- one of the pixels that were loaded together
pub loaded-pixel : (g : Grid) (x y count column pixels : ℕ) → x ≤ column → column < x + count → ((k : ℕ) → k < count → bit pixels (count - 1 - k) ≡ pixel_at g (x + k) y) → bit pixels (x + (count - 1) - column) ≡ pixel_at g column y
loaded-pixel g x y count column pixels from to bits =
    let place : x + (count - 1) - column ≡ count - 1 - (column - x) = omega arith in
    let on : x + (column - x) ≡ column = omega arith in
    ap (λ (k : ℕ). bit pixels k) place ∙ bits (column - x) (omega arith) ∙ ap (λ (k : ℕ). pixel_at g k y) on

pub bit-test : (b : Bool) (r : ℕ) → r ≡ bit_number b → nat_eq r 1 ≡ b
bit-test true r e = eq-eqb r 1 e
bit-test false r e = ne_eqb r 1 (λ one. absurd (omega arith))

-- the first of some single pixels
pub singles-first : (g : Grid) (x end y : ℕ) (black : Bool) → x < end → end ≤ g.width → black ≡ pixel_at g x y → singles (take (end - x) (drop x (row_of_grid g y))) ≡ Pixel black ∷ singles (take (end - (x + 1)) (drop (x + 1) (row_of_grid g y)))
singles-first g x end y black inside within is =
    let count : end - x ≡ suc (end - (x + 1)) = omega arith in
    let others : List Call = singles (map (λ i. pixel_at g i y) (range_with_len (x + 1) (end - (x + 1)))) in
    ap (λ (bs : List Bool). singles bs) (row-part g x y (end - x) (omega arith))
    ∙ ap (λ (n : ℕ). singles (map (λ i. pixel_at g i y) (range_with_len x n))) count
    ∙ ap (λ (b : Bool). Pixel b ∷ others) (sym is)
    ∙ ap (λ (bs : List Bool). Pixel black ∷ singles bs) (sym (row-part g (x + 1) y (end - (x + 1)) (omega arith)))

-- a row from its beginning
pub line-start : (g : Grid) (y : ℕ) → whole_calls (length (row_of_grid g y) / 8) (row_of_grid g y) ≡ whole_calls ((g.width - 0) / 8) (row_of_grid g y)
line-start g y = ap (λ (n : ℕ). whole_calls (n / 8) (row_of_grid g y)) (length-row g y ∙ (let e : g.width ≡ g.width - 0 = omega arith in e))

-- what is left after a run
pub run-first : (width x k : ℕ) (black : Bool) (row : List Bool) → length row ≡ width → x ≤ width → run_of ((width - x) / 8) black (drop x row) ≡ k → 0 < k → whole_calls ((width - x) / 8) (drop x row) ≡ Chunk black k ∷ whole_calls ((width - (x + 8 * k)) / 8) (drop (x + 8 * k) row)
run-first width x k black row len within e some =
    let n = (width - x) / 8 in
    let one : suc (k - 1) ≡ k = omega arith in
    let left : n - k ≡ (width - (x + 8 * k)) / 8 = omega arith in
    run_calls n (k - 1) black (drop x row) (omega (arith, length-drop x row)) (e ∙ sym one)
    ∙ ap (λ (m : ℕ). Chunk black m ∷ whole_calls (n - m) (drop (8 * m) (drop x row))) one
    ∙ ap (λ (m : ℕ). Chunk black k ∷ whole_calls m (drop (8 * k) (drop x row))) left
    ∙ ap (λ (bs : List Bool). Chunk black k ∷ whole_calls ((width - (x + 8 * k)) / 8) bs) (drop-drop (8 * k) x row)

-- what is left after eight pixels of both colours
pub byte-first : (width x : ℕ) (row : List Bool) → x + 8 ≤ width → run_of ((width - x) / 8) true (drop x row) ≡ 0 → run_of ((width - x) / 8) false (drop x row) ≡ 0 → whole_calls ((width - x) / 8) (drop x row) ≡ singles (take (x + 8 - x) (drop x row)) ++ whole_calls ((width - (x + 8)) / 8) (drop (x + 8) row)
byte-first width x row room black white =
    let n : (width - x) / 8 ≡ suc ((width - (x + 8)) / 8) = omega arith in
    let eight : 8 ≡ x + 8 - x = omega arith in
    let m = (width - (x + 8)) / 8 in
    ap (λ (k : ℕ). whole_calls k (drop x row)) n
    ∙ byte_calls m (drop x row) (sym (ap (λ (k : ℕ). run_of k true (drop x row)) n) ∙ black) (sym (ap (λ (k : ℕ). run_of k false (drop x row)) n) ∙ white)
    ∙ ap (λ (k : ℕ). singles (take k (drop x row)) ++ whole_calls m (drop 8 (drop x row))) eight
    ∙ ap (λ (bs : List Bool). singles (take (x + 8 - x) (drop x row)) ++ whole_calls m bs) (drop-drop 8 x row)

-- the last pixels of a row, fewer than eight
pub rest-last : (width x : ℕ) (row : List Bool) → length row ≡ width → width - x < 8 → whole_calls ((width - x) / 8) (drop x row) ≡ singles (take (width - x) (drop x row))
unfolding whole_calls
rest-last width x row len few =
    let none : (width - x) / 8 ≡ 0 = omega arith in
    ap (λ (n : ℕ). whole_calls n (drop x row)) none
    ∙ ap (λ (bs : List Bool). singles bs) (sym (take_all (width - x) (drop x row) (omega (arith, length-drop x row))))

-- The calls of a row from a column on, its end with them.
abbrev pub left_calls : Grid → ℕ → ℕ → List Call
left_calls g y x = whole_calls ((g.width - x) / 8) (drop x (row_of_grid g y)) ++ Line ∷ []

pub left-start : (g : Grid) (y : ℕ) → line_calls g y ≡ left_calls g y 0
left-start g y = ap (λ (cs : List Call). cs ++ Line ∷ []) (line-start g y)

pub left-run : (g : Grid) (y x k : ℕ) (black : Bool) → x ≤ g.width → run_of ((g.width - x) / 8) black (drop x (row_of_grid g y)) ≡ k → 0 < k → left_calls g y x ≡ (Chunk black k ∷ []) ++ left_calls g y (x + 8 * k)
left-run g y x k black within e some =
    ap (λ (cs : List Call). cs ++ Line ∷ []) (run-first g.width x k black (row_of_grid g y) (length-row g y) within e some)

pub left-byte : (g : Grid) (y x : ℕ) → x + 8 ≤ g.width → run_of ((g.width - x) / 8) true (drop x (row_of_grid g y)) ≡ 0 → run_of ((g.width - x) / 8) false (drop x (row_of_grid g y)) ≡ 0 → left_calls g y x ≡ singles (take (x + 8 - x) (drop x (row_of_grid g y))) ++ left_calls g y (x + 8)
left-byte g y x room black white =
    let row = row_of_grid g y in
    ap (λ (cs : List Call). cs ++ Line ∷ []) (byte-first g.width x row room black white)
    ∙ append_assoc (singles (take (x + 8 - x) (drop x row))) (whole_calls ((g.width - (x + 8)) / 8) (drop (x + 8) row)) (Line ∷ [])

pub left-last : (g : Grid) (y x width : ℕ) → width ≡ g.width → width - x < 8 → left_calls g y x ≡ singles (take (width - x) (drop x (row_of_grid g y))) ++ Line ∷ []
left-last g y x width is few =
    let row = row_of_grid g y in
    ap (λ (cs : List Call). cs ++ Line ∷ []) (rest-last g.width x row (length-row g y) (omega arith))
    ∙ ap (λ (w : ℕ). singles (take (w - x) (drop x row)) ++ Line ∷ []) (sym is)

-- one row more
pub lines-first : (g : Grid) (y : ℕ) → y < g.height → flat_map (line_calls g) (range_with_len y (g.height - y)) ≡ line_calls g y ++ flat_map (line_calls g) (range_with_len (y + 1) (g.height - (y + 1)))
lines-first g y inside =
    let left : g.height - y ≡ suc (g.height - (y + 1)) = omega arith in
    ap (λ (n : ℕ). flat_map (line_calls g) (range_with_len y n)) left

pub lines-start : (g : Grid) → calls_of g ≡ flat_map (line_calls g) (range_with_len 0 (g.height - 0))
unfolding calls_of
lines-start g = ap (λ (n : ℕ). flat_map (line_calls g) (range_with_len 0 n)) (let e : g.height ≡ g.height - 0 = omega arith in e)
