-- Reading bits: their number, PREV, and how a call's state relates to what was read.
use Rattle.std.specs.Prelude.{◌==◌, ◌&&◌, not, if◌then◌else◌}
use Rattle.std.proofs.Common.{◌≡◌, ℕ, zero, suc, ◌+◌, ◌-◌, ◌*◌, ◌%◌, ◌^◌, ◌<◌, ◌≤◌, Bool, true, false, List, [], ◌∷◌, ◌++◌, length, drop, get_or, set, ℤ, Some, None, refl, sym, ap, ◌∙◌, arith, subst, add-one, length-append, length-drop, ⊎_elim}
use Rattle.std.proofs.Math.Nat.{pow-suc, pow-le-pow_right}
use Rattle.std.proofs.Math.Seq.{drop-length}
use Rattle.std.proofs.lemmas.List.{drop-append-le, drop_more, get_or_default}
use Rattle.std.proofs.lemmas.Bool.{cases_lt, cond-true, cond-false, eq-eqb, ne_eqb}
use Rattle.std.proofs.lemmas.Bool.Decides.{nat_tests}
use Rattle.std.proofs.lemmas.Int.{of_z-to_z}
use mir.Val.{to_z, of_z}
use mir.Syntax.{w32}
use Rattle.jbig2_base.specs.Counts.{Counts}
use Rattle.jbig2_base.specs.Bits.{bit_number, value_of_bits}
use Rattle.jbig2_coder.specs.Coder.{Coder, Context, Decision, Registers, decision, fresh}
use Rattle.jbig2_coder.specs.Integers.{Reading, Range, next, read, read_more, prev_of, range, ranges, are_next, next_range, signed_number, value_of, integer, Ids, id}
use Rattle.jbig2_coder.specs.inner.IntegerPrefixes.{Prefix, prefix, range_of, place_of}
use Rattle.jbig2_coder.specs.inner.IntegerStates.{HasRead, prev_next}

pub bit_number-same : (a b : Bool) → bit_number a ≡ bit_number b → a ≡ b
bit_number-same true true h = refl
bit_number-same false false h = refl
bit_number-same true false h = absurd (omega arith)
bit_number-same false true h = absurd (omega arith)

-- PREV

pub prev_next-small : (p : ℕ) (b : Bool) → p < 256 → 2 * p + bit_number b ≡ prev_next p b
unfolding prev_next
prev_next-small p b h = grind (arith, nat_tests)

pub prev_next-large : (p : ℕ) (b : Bool) → 256 ≤ p → 256 + (2 * p + bit_number b) % 256 ≡ prev_next p b
unfolding prev_next
prev_next-large p b h = grind (arith, nat_tests)

-- numbers

pub number-push : (bits : List Bool) (b : Bool) → value_of_bits (bits ++ b ∷ []) ≡ 2 * value_of_bits bits + bit_number b
unfolding value_of_bits
number-push [] b = omega arith
number-push (x ∷ bits) b =
    let e : length (bits ++ b ∷ []) ≡ suc (length bits) = length-append bits (b ∷ []) ∙ (omega arith) in
    rw (e, pow-suc) (omega (arith, number-push bits b))

bit-small : (b : Bool) → bit_number b < 2
bit-small true = omega arith
bit-small false = omega arith

number-cons : (b : Bool) (bits : List Bool) → value_of_bits (b ∷ bits) ≡ bit_number b * 2 ^ length bits + value_of_bits bits
unfolding value_of_bits
number-cons b bits = refl

pub number-below : (bits : List Bool) → value_of_bits bits < 2 ^ length bits
unfolding value_of_bits
number-below [] = omega arith
number-below (true ∷ bits) = rw pow-suc (omega (arith, number-below bits))
number-below (false ∷ bits) = rw pow-suc (omega (arith, number-below bits))

-- what a 1 and the bits spell
number-marked : (bits : List Bool) → value_of_bits (true ∷ bits) ≡ 2 ^ length bits + value_of_bits bits
unfolding value_of_bits
number-marked bits = omega arith

prev-short : (bits : List Bool) (b : Bool) → length bits < 8 → prev_of (bits ++ b ∷ []) ≡ prev_next (prev_of bits) b
prev-short bits b short =
    let more : length (bits ++ b ∷ []) - 8 ≡ 0 = omega (arith, length-append bits (b ∷ [])) in
    let none : length bits - 8 ≡ 0 = omega arith in
    let power : 2 ^ length bits ≤ 2 ^ 7 = pow-le-pow_right (omega arith) (let few : length bits ≤ 7 = omega arith in few) in
    let small : value_of_bits (true ∷ bits) < 256 = omega (arith, number-marked bits, number-below bits, power) in
    ap (λ (k : ℕ). value_of_bits (true ∷ drop k (bits ++ b ∷ []))) more
    ∙ number-push (true ∷ bits) b
    ∙ prev_next-small (value_of_bits (true ∷ bits)) b small
    ∙ sym (ap (λ (k : ℕ). prev_next (value_of_bits (true ∷ drop k bits)) b) none)

prev-long : (bits : List Bool) (b : Bool) → 8 ≤ length bits → prev_of (bits ++ b ∷ []) ≡ prev_next (prev_of bits) b
prev-long bits b long =
    let k = length bits - 8 in
    let first : Bool = get_or bits k false in
    let rest : List Bool = drop (k + 1) bits in
    let size : length rest ≡ 7 = length-drop (k + 1) bits ∙ (let e : length bits - (k + 1) ≡ 7 = omega arith in e) in
    let more : length (bits ++ b ∷ []) - 8 ≡ k + 1 = omega (arith, length-append bits (b ∷ [])) in
    let left : drop k bits ≡ first ∷ rest = drop_more bits k false (omega arith) in
    let old : prev_of bits ≡ value_of_bits (true ∷ first ∷ rest) = ap (λ (ys : List Bool). value_of_bits (true ∷ ys)) left in
    let power : 2 ^ length rest ≡ 128 = ap (λ (n : ℕ). 2 ^ n) size in
    let wide : 2 ^ length (first ∷ rest) ≡ 256 = ap (λ (n : ℕ). 2 ^ suc n) size in
    let marked : value_of_bits (true ∷ first ∷ rest) ≡ 2 ^ length (first ∷ rest) + value_of_bits (first ∷ rest) = number-marked (first ∷ rest) in
    let below : value_of_bits (first ∷ rest) < 2 ^ length (first ∷ rest) = number-below (first ∷ rest) in
    let new : value_of_bits (true ∷ (rest ++ b ∷ [])) ≡ 2 * value_of_bits (true ∷ rest) + bit_number b = number-push (true ∷ rest) b in
    let head : value_of_bits (first ∷ rest) ≡ bit_number first * 2 ^ length rest + value_of_bits rest = number-cons first rest in
    let scaled : bit_number first * 2 ^ length rest ≡ bit_number first * 128 = ap (λ (n : ℕ). bit_number first * n) power in
    let inner : value_of_bits (true ∷ rest) ≡ 2 ^ length rest + value_of_bits rest = number-marked rest in
    let low : value_of_bits rest < 2 ^ length rest = number-below rest in
    let kept : 2 * value_of_bits (true ∷ rest) + bit_number b ≡ 256 + (2 * value_of_bits (true ∷ first ∷ rest) + bit_number b) % 256 = omega (arith, bit-small b, bit-small first) in
    ap (λ (n : ℕ). value_of_bits (true ∷ drop n (bits ++ b ∷ []))) more
    ∙ ap (λ (ys : List Bool). value_of_bits (true ∷ ys)) (drop-append-le (k + 1) bits (b ∷ []) (omega arith))
    ∙ new ∙ kept
    ∙ prev_next-large (value_of_bits (true ∷ first ∷ rest)) b (omega arith)
    ∙ ap (λ (n : ℕ). prev_next n b) (sym old)

pub prev_of-push : (bits : List Bool) (b : Bool) → prev_of (bits ++ b ∷ []) ≡ prev_next (prev_of bits) b
prev_of-push bits b = ⊎_elim (λ (short : length bits < 8). prev-short bits b short) (λ (long : 8 ≤ length bits). prev-long bits b long) (cases_lt (length bits) 8)

-- values

pub signed-to_z : (n : ℕ) → n < 2 ^ 32 → signed_number n ≡ to_z w32 n
unfolding signed_number
signed-to_z n h = grind (arith, nat_tests)

pub signed-passed : (n : ℕ) (x : ℤ) → n < 2 ^ 32 → x ≡ to_z w32 n → to_z w32 (of_z w32 x) ≡ signed_number n
signed-passed n x h e =
    ap (λ z. to_z w32 (of_z w32 z)) e ∙ ap (to_z w32) (of_z-to_z w32 n h) ∙ sym (signed-to_z n h)

pub value_of-positive : (n : ℕ) → value_of false n ≡ Some (signed_number n)
unfolding value_of
value_of-positive n = refl

pub value_of-none : (n : ℕ) → n ≡ 0 → value_of true n ≡ None
unfolding value_of
value_of-none n h = cond-true _ _ _ (eq-eqb n 0 h)

pub value_of-negative : (n m : ℕ) → n < 2 ^ 32 → m < 2 ^ 32 → (n ≡ 0 → ⊥) → (m + n) % 2 ^ 32 ≡ 0 → value_of true n ≡ Some (signed_number m)
unfolding value_of
value_of-negative n m h k some e =
    let f : 2 ^ 32 - n ≡ m = omega arith in
    cond-false _ _ _ (ne_eqb n 0 some) ∙ ap (λ v. Some (signed_number v)) f

pub bit_number-one : (b : Bool) → (bit_number b == 1) ≡ b
bit_number-one true = refl
bit_number-one false = refl

-- readings

pub length-read_more : (name : List Bool → ℕ) (n : ℕ) (bytes : List ℕ) (r : Reading) → length (read_more name n bytes r).bits ≡ length r.bits + n
unfolding read_more read
length-read_more name zero bytes r = omega arith
length-read_more name (suc n) bytes r =
    let s = read_more name n bytes r in
    omega (arith, length-append s.bits ((next name bytes s).symbol ∷ []), length-read_more name n bytes r)

-- the number of the bits read, with one more
pub read_more-number : (name : List Bool → ℕ) (n : ℕ) (bytes : List ℕ) (r : Reading)
    → value_of_bits (drop (length r.bits) (read_more name (suc n) bytes r).bits)
    ≡ 2 * value_of_bits (drop (length r.bits) (read_more name n bytes r).bits) + bit_number (next name bytes (read_more name n bytes r)).symbol
unfolding read_more read
read_more-number name n bytes r =
    let s = read_more name n bytes r in
    let within : length r.bits ≤ length s.bits = omega (arith, length-read_more name n bytes r) in
    rw (drop-append-le (length r.bits) s.bits ((next name bytes s).symbol ∷ []) within) (number-push (drop (length r.bits) s.bits) (next name bytes s).symbol)

-- The code's decision is the reading's next one, for the context that the code takes from its place.
pub HasRead-decision : (name : List Bool → ℕ) (start : Counts) (r : Reading) (place : ℕ) (coder : Coder) (contexts : List Context) (steps : Counts) (x : Context)
    → HasRead name start r place coder contexts steps → place < length contexts
    → decision coder.bytes coder.registers (get_or contexts place x) ≡ next name coder.bytes r
unfolding next
HasRead-decision name start r place coder contexts steps x s l =
    let f : get_or contexts place x ≡ get_or r.contexts (name r.bits) fresh =
    get_or_default contexts place x fresh l ∙ (λ i. get_or (s.learned i) (s.named i) fresh) in
    λ i. decision coder.bytes (s.registers i) (f i)

one_more : (n : ℕ) (bits : List Bool) (b : Bool) → n + length bits + 1 ≡ n + length (bits ++ b ∷ [])
one_more n bits b = omega (arith, length-append bits (b ∷ []))

pub HasRead-read : (name : List Bool → ℕ) (start : Counts) (r : Reading) (place : ℕ) (coder : Coder) (contexts : List Context) (steps : Counts)
    → HasRead name start r place coder contexts steps
    → (place' : ℕ) (coder' : Coder) (contexts' : List Context) (steps' : Counts) (d : Decision) → d ≡ next name coder.bytes r
    → place' ≡ name (r.bits ++ d.symbol ∷ []) → coder'.registers ≡ d.registers → contexts' ≡ set contexts place d.context
    → steps' ≡ record steps { decisions = steps.decisions + 1 }
    → HasRead name start (read name coder.bytes r) place' coder' contexts' steps'
unfolding read
HasRead-read name start r place coder contexts steps s place' coder' contexts' steps' d e named registers learned counted = record {
  named = named ∙ ap (λ (v : Decision). name (r.bits ++ v.symbol ∷ [])) e;
  registers = registers ∙ ap (λ (v : Decision). v.registers) e;
  learned = learned ∙ (λ i. set (s.learned i) (s.named i) ((e i).context));
  counted =
      counted
      ∙ ap (λ (v : Counts). let w : Counts = record v { decisions = v.decisions + 1 } in w) s.counted
      ∙ ap (λ (n : ℕ). let w : Counts = record start { decisions = n } in w) (one_more start.decisions r.bits (next name coder.bytes r).symbol);
}

pub HasRead-bytes : (name : List Bool → ℕ) (start : Counts) (b b' : List ℕ) (r : Reading) (place : ℕ) (coder : Coder) (contexts : List Context) (steps : Counts)
    → b ≡ b' → HasRead name start (read name b r) place coder contexts steps → HasRead name start (read name b' r) place coder contexts steps
HasRead-bytes name start b b' r place coder contexts steps e s = subst (λ (v : List ℕ). HasRead name start (read name v r) place coder contexts steps) e s

pub read_more-next : (name : List Bool → ℕ) (n : ℕ) (bytes : List ℕ) (r : Reading) → read name bytes (read_more name n bytes r) ≡ read_more name (n + 1) bytes r
unfolding read_more
read_more-next name n bytes r = rw add-one refl

-- the prefix

pub prefix-one : (most ones : ℕ) (bytes : List ℕ) (r : Reading) → (next prev_of bytes r).symbol ≡ true
    → prefix (suc most) ones bytes r ≡ prefix most (suc ones) bytes (read prev_of bytes r)
unfolding prefix
prefix-one most ones bytes r h = cond-true _ _ _ h

pub prefix-zero : (most ones : ℕ) (bytes : List ℕ) (r : Reading) → (next prev_of bytes r).symbol ≡ false
    → prefix (suc most) ones bytes r ≡ record { ones = ones; reading = read prev_of bytes r }
unfolding prefix
prefix-zero most ones bytes r h = cond-false _ _ _ h

pub prefix-end : (ones : ℕ) (bytes : List ℕ) (r : Reading) → prefix 0 ones bytes r ≡ record { ones = ones; reading = r }
unfolding prefix
prefix-end ones bytes r = refl

-- what the code's turns do
pub prefix-goes : (k : ℕ) (b : List ℕ) (r s : Reading) → k < 5 → prefix 5 0 b r ≡ prefix (5 - k) k b s → (next prev_of b s).symbol ≡ true
    → prefix 5 0 b r ≡ prefix (5 - (k + 1)) (k + 1) b (read prev_of b s)
prefix-goes k b r s h e one =
    let f : 5 - k ≡ suc (5 - (k + 1)) = omega arith in
    e ∙ ap (λ n. prefix n k b s) f ∙ prefix-one (5 - (k + 1)) k b s one
    ∙ ap (λ n. prefix (5 - (k + 1)) n b (read prev_of b s)) (sym (add-one k))

pub prefix-stops : (k : ℕ) (b : List ℕ) (r s : Reading) → k < 5 → prefix 5 0 b r ≡ prefix (5 - k) k b s → (next prev_of b s).symbol ≡ false
    → prefix 5 0 b r ≡ record { ones = k; reading = read prev_of b s }
prefix-stops k b r s h e none =
    let f : 5 - k ≡ suc (4 - k) = omega arith in
    e ∙ ap (λ n. prefix n k b s) f ∙ prefix-zero (4 - k) k b s none

pub prefix-full : (k : ℕ) (b : List ℕ) (r s : Reading) → k ≡ 5 → prefix 5 0 b r ≡ prefix (5 - k) k b s
    → prefix 5 0 b r ≡ record { ones = 5; reading = s }
prefix-full k b r s h e = e ∙ ap (λ n. prefix (5 - n) n b s) h ∙ prefix-end 5 b s

pub bit-zero : (b : Bool) → bit_number b ≡ 0 → b ≡ false
bit-zero false h = refl
bit-zero true h = absurd (omega arith)

pub bit-one : (b : Bool) → (bit_number b ≡ 0 → ⊥) → b ≡ true
bit-one true h = refl
bit-one false h = absurd (h refl)

pub read_more-none : (name : List Bool → ℕ) (bytes : List ℕ) (r : Reading) → read_more name 0 bytes r ≡ r
unfolding read_more
read_more-none name bytes r = refl

-- before the first bit
pub number-none : (name : List Bool → ℕ) (bytes : List ℕ) (r : Reading) → 0 ≡ value_of_bits (drop (length r.bits) (read_more name 0 bytes r).bits)
unfolding read_more value_of_bits
number-none name bytes r = sym (ap value_of_bits (drop-length r.bits))

pub number-next : (name : List Bool → ℕ) (n : ℕ) (bytes : List ℕ) (r : Reading) (value bit : ℕ)
    → value ≡ value_of_bits (drop (length r.bits) (read_more name n bytes r).bits) → bit ≡ bit_number (next name bytes (read_more name n bytes r)).symbol
    → 2 * value + bit ≡ value_of_bits (drop (length r.bits) (read_more name (n + 1) bytes r).bits)
number-next name n bytes r value bit e f =
    (λ i. 2 * e i + f i) ∙ sym (read_more-number name n bytes r)
    ∙ ap (λ m. value_of_bits (drop (length r.bits) (read_more name m bytes r).bits)) (sym (add-one n))

-- An integer

pub start_of : Registers → List Context → Reading
start_of registers contexts = record { bits = []; registers = registers; contexts = contexts }

-- before the first bit
pub HasRead-start : (name : List Bool → ℕ) (coder : Coder) (contexts : List Context) (steps : Counts)
    → HasRead name steps (start_of coder.registers contexts) (name []) coder contexts steps
unfolding start_of
HasRead-start name coder contexts steps = record {
  named = refl;
  registers = refl;
  learned = refl;
  counted = let e : steps.decisions ≡ steps.decisions + 0 = omega arith in λ i. record steps { decisions = e i };
}

-- Table A.1 by the five decisions that may come next
abbrev row_by : Bool → Bool → Bool → Bool → Bool → Range
row_by d0 d1 d2 d3 d4 =
    if not d0 && true then range (false ∷ []) 2 0
    else if d0 && (not d1 && true) then range (true ∷ false ∷ []) 4 4
    else if d0 && (d1 && (not d2 && true)) then range (true ∷ true ∷ false ∷ []) 6 20
    else if d0 && (d1 && (d2 && (not d3 && true))) then range (true ∷ true ∷ true ∷ false ∷ []) 8 84
    else if d0 && (d1 && (d2 && (d3 && (not d4 && true)))) then range (true ∷ true ∷ true ∷ true ∷ false ∷ []) 12 340
    else if d0 && (d1 && (d2 && (d3 && (d4 && true)))) then range (true ∷ true ∷ true ∷ true ∷ true ∷ []) 32 4436
    else range [] 0 0

abbrev ended : ℕ → Reading → Prefix
ended ones r = record { ones = ones; reading = r }

-- and the prefix by them
abbrev prefix_by : Reading → Reading → Reading → Reading → Reading → Bool → Bool → Bool → Bool → Bool → Prefix
prefix_by r1 r2 r3 r4 r5 d0 d1 d2 d3 d4 =
    if d0 then (if d1 then (if d2 then (if d3 then (if d4 then ended 5 r5 else ended 4 r5) else ended 3 r4) else ended 2 r3) else ended 1 r2) else ended 0 r1

by_ones : (r1 r2 r3 r4 r5 : Reading) (d0 d1 d2 d3 d4 : Bool) → row_by d0 d1 d2 d3 d4 ≡ range_of (prefix_by r1 r2 r3 r4 r5 d0 d1 d2 d3 d4).ones
unfolding range_of ranges
by_ones r1 r2 r3 r4 r5 false d1 d2 d3 d4 = refl
by_ones r1 r2 r3 r4 r5 true false d2 d3 d4 = refl
by_ones r1 r2 r3 r4 r5 true true false d3 d4 = refl
by_ones r1 r2 r3 r4 r5 true true true false d4 = refl
by_ones r1 r2 r3 r4 r5 true true true true false = refl
by_ones r1 r2 r3 r4 r5 true true true true true = refl

-- the readings from one on
abbrev beyond : ℕ → List ℕ → Reading → Reading
beyond n b r = read_more prev_of n b r

after_ones : (b : List ℕ) (r : Reading) (d0 d1 d2 d3 d4 : Bool)
    → read_more prev_of (length (row_by d0 d1 d2 d3 d4).prefix) b r ≡ (prefix_by (beyond 1 b r) (beyond 2 b r) (beyond 3 b r) (beyond 4 b r) (beyond 5 b r) d0 d1 d2 d3 d4).reading
after_ones b r false d1 d2 d3 d4 = refl
after_ones b r true false d2 d3 d4 = refl
after_ones b r true true false d3 d4 = refl
after_ones b r true true true false d4 = refl
after_ones b r true true true true false = refl
after_ones b r true true true true true = refl

-- the first row whose prefix comes next is the one with this many ones
pub next_range-prefix : (b : List ℕ) (r : Reading) → next_range ranges b r ≡ range_of (prefix 5 0 b r).ones
unfolding next_range ranges are_next prefix range_of
next_range-prefix b r =
    let r1 = read prev_of b r in
    let r2 = read prev_of b r1 in
    let r3 = read prev_of b r2 in
    let r4 = read prev_of b r3 in
    by_ones r1 r2 r3 r4 (read prev_of b r4) (next prev_of b r).symbol (next prev_of b r1).symbol (next prev_of b r2).symbol (next prev_of b r3).symbol (next prev_of b r4).symbol

-- after that row's prefix
pub next_range-read : (b : List ℕ) (r : Reading) → read_more prev_of (length (next_range ranges b r).prefix) b r ≡ (prefix 5 0 b r).reading
unfolding next_range ranges are_next prefix read_more
next_range-read b r =
    let r1 = read prev_of b r in
    let r2 = read prev_of b r1 in
    let r3 = read prev_of b r2 in
    let r4 = read prev_of b r3 in
    after_ones b r (next prev_of b r).symbol (next prev_of b r1).symbol (next prev_of b r2).symbol (next prev_of b r3).symbol (next prev_of b r4).symbol

pub integer-reading : (b b1 b2 : List ℕ) (registers : Registers) (contexts : List Context) (count ones : ℕ) → b1 ≡ b → b2 ≡ b
    → ones ≡ (prefix 5 0 b1 (read prev_of b (start_of registers contexts))).ones → count ≡ (range_of ones).bits
    → read_more prev_of count b2 (prefix 5 0 b1 (read prev_of b (start_of registers contexts))).reading ≡ (integer b registers contexts).reading
unfolding integer start_of
integer-reading b b1 b2 registers contexts count ones e1 e2 o k =
    let r = read prev_of b (start_of registers contexts) in
    let row = o ∙ ap (λ v. (prefix 5 0 v r).ones) e1 in
    let f : count ≡ (next_range ranges b r).bits = k ∙ ap (λ n. (range_of n).bits) row ∙ ap (λ (v : Range). v.bits) (sym (next_range-prefix b r)) in
    let before : (prefix 5 0 b1 r).reading ≡ read_more prev_of (length (next_range ranges b r).prefix) b r = ap (λ v. (prefix 5 0 v r).reading) e1 ∙ sym (next_range-read b r) in
    λ i. read_more prev_of (f i) (e2 i) (before i)

pub integer-value : (b b1 b2 : List ℕ) (registers : Registers) (contexts : List Context) (negative : Bool) (count ones value offset : ℕ) → b1 ≡ b → b2 ≡ b
    → negative ≡ (next prev_of b (start_of registers contexts)).symbol
    → ones ≡ (prefix 5 0 b1 (read prev_of b (start_of registers contexts))).ones → count ≡ (range_of ones).bits → offset ≡ (range_of ones).offset
    → value ≡ value_of_bits (drop (length (prefix 5 0 b1 (read prev_of b (start_of registers contexts))).reading.bits) (read_more prev_of count b2 (prefix 5 0 b1 (read prev_of b (start_of registers contexts))).reading).bits)
    → value_of negative ((value + offset) % 2 ^ 32) ≡ (integer b registers contexts).value
unfolding integer start_of
integer-value b b1 b2 registers contexts negative count ones value offset e1 e2 n o k l v =
    let r = read prev_of b (start_of registers contexts) in
    let row = o ∙ ap (λ v. (prefix 5 0 v r).ones) e1 in
    let f : count ≡ (next_range ranges b r).bits = k ∙ ap (λ n. (range_of n).bits) row ∙ ap (λ (v : Range). v.bits) (sym (next_range-prefix b r)) in
    let g : offset ≡ (next_range ranges b r).offset = l ∙ ap (λ n. (range_of n).offset) row ∙ ap (λ (v : Range). v.offset) (sym (next_range-prefix b r)) in
    let before : (prefix 5 0 b1 r).reading ≡ read_more prev_of (length (next_range ranges b r).prefix) b r = ap (λ v. (prefix 5 0 v r).reading) e1 ∙ sym (next_range-read b r) in
    let h = v ∙ (λ i. value_of_bits (drop (length (before i).bits) (read_more prev_of (f i) (e2 i) (before i)).bits)) in
    λ i. value_of (n i) ((h i + g i) % 2 ^ 32)

-- Symbol ids

pub place_of-is : (bits : List Bool) → place_of bits ≡ 2 ^ length bits + value_of_bits bits
unfolding value_of_bits
place_of-is bits = omega arith

pub HasRead-id : (n : ℕ) (ids : Ids) (coder : Coder) (steps : Counts) (prev : ℕ) (coder' : Coder) (contexts' : List Context) (steps' : Counts) → n ≡ ids.code_len
    → HasRead place_of steps (read_more place_of n coder.bytes (start_of coder.registers ids.contexts)) prev coder' contexts' steps'
    → HasRead place_of steps (id coder.bytes coder.registers ids) prev coder' contexts' steps'
unfolding id start_of
HasRead-id n ids coder steps prev coder' contexts' steps' e s =
    subst (λ m. HasRead place_of steps (read_more place_of m coder.bytes (start_of coder.registers ids.contexts)) prev coder' contexts' steps') e s

pub id-length : (bytes : List ℕ) (registers : Registers) (ids : Ids) → length (id bytes registers ids).bits ≡ ids.code_len
unfolding id
id-length bytes registers ids = omega (arith, length-read_more place_of ids.code_len bytes (record { bits = []; registers = registers; contexts = ids.contexts }))

-- the code's 1 << code_len
pub one-shifted : (n : ℕ) → n ≤ 30 → 1 * 2 ^ n % 2 ^ 32 ≡ 2 ^ n
one-shifted n h =
    let p : 2 ^ n ≤ 2 ^ 30 = pow-le-pow_right (omega arith) h in
    omega (arith, p)

pub id-place : (bytes : List ℕ) (registers : Registers) (ids : Ids) → place_of (id bytes registers ids).bits ≡ 2 ^ ids.code_len + value_of_bits (id bytes registers ids).bits
id-place bytes registers ids =
    place_of-is (id bytes registers ids).bits ∙ ap (λ n. 2 ^ n + value_of_bits (id bytes registers ids).bits) (id-length bytes registers ids)

pub id-below : (bytes : List ℕ) (registers : Registers) (ids : Ids) → value_of_bits (id bytes registers ids).bits < 2 ^ ids.code_len
id-below bytes registers ids =
    let P : ℕ → Type 0 = λ n. value_of_bits (id bytes registers ids).bits < 2 ^ n in
    subst P (id-length bytes registers ids) (number-below (id bytes registers ids).bits)
