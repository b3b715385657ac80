-- The row of Table A.1 in which a size lies is the one that its prefix selects.
use Rattle.std.proofs.Common.{◌≡◌, ℕ, zero, suc, ◌+◌, ◌-◌, ◌*◌, ◌/◌, ◌%◌, ◌^◌, ◌<◌, ◌≤◌, eqb, ltb, Bool, true, false, not, ◌&&◌, List, [], ◌∷◌, ◌++◌, length, drop, Option, Some, None, refl, sym, ◌∙◌, ap, subst, arith, ⊎_elim, lt-ltb, le-ltb, mod-eq_of_lt, pow-suc, pow_mono, length-drop}
use Rattle.std.proofs.lemmas.Bool.{cond-true, cond-false, cases_lt, and_left}
use Rattle.jbig2_coder.specs.Integers.{Reading, Range, range, ranges, next, read, are_next, next_range, prev_of}
use Rattle.jbig2_inverses.specs.Digits.{digits}
use Rattle.jbig2_inverses.specs.CoderStates.{State, state_on, GivesDecisions}
use Rattle.jbig2_inverses.specs.IntegerWriter.{binary, range_of, in_contexts}
use Rattle.jbig2_inverses.proofs.Digits.{top-digit}
use Rattle.jbig2_inverses.proofs.CoderStates.{reading_at, next-gives, read-gives, gives-next}
use Rattle.jbig2_base.specs.Bits.{bit_number, value_of_bits}

pub length-binary : (k n : ℕ) → length (binary k n) ≡ k
unfolding digits
length-binary zero n = refl
length-binary (suc k) n = ap suc (length-binary k n)

bit-number : (n : ℕ) → n < 2 → bit_number (eqb n 1) ≡ n
bit-number zero h = refl
bit-number (suc zero) h = refl
bit-number (suc (suc n)) h = absurd (omega (arith, h))

value-binary : (k n : ℕ) → value_of_bits (binary k n) ≡ n % 2 ^ k
unfolding digits value_of_bits
value-binary zero n = let one : 2 ^ 0 ≡ 1 = omega arith in let e : 0 ≡ n % 1 = omega arith in e ∙ ap (λ (p : ℕ). n % p) (sym one)
value-binary (suc k) n =
    let b = n / 2 ^ k % 2 in
    let bit = bit-number b (omega arith) in
    ap (λ (x : ℕ). x * 2 ^ length (binary k n) + value_of_bits (binary k n)) bit
    ∙ ap (λ (l : ℕ). b * 2 ^ l + value_of_bits (binary k n)) (length-binary k n)
    ∙ ap (λ (x : ℕ). b * 2 ^ k + x) (value-binary k n)
    ∙ top-digit k n

pub value-whole : (k n : ℕ) → n < 2 ^ k → value_of_bits (binary k n) ≡ n
value-whole k n h = value-binary k n ∙ mod-eq_of_lt h

pub value-below : (bits : List Bool) → value_of_bits bits < 2 ^ length bits
unfolding value_of_bits
value-below [] = omega arith
value-below (true ∷ bits) =
    let h = value-below bits in
    let twice : 2 ^ suc (length bits) ≡ 2 * 2 ^ length bits = rw pow-suc (omega arith) in
    omega (arith, h, twice)
value-below (false ∷ bits) =
    let h = value-below bits in
    let twice : 2 ^ suc (length bits) ≡ 2 * 2 ^ length bits = rw pow-suc (omega arith) in
    omega (arith, h, twice)

pub prev-below : (bits : List Bool) → prev_of bits < 512
prev-below bits =
    let last = drop (length bits - 8) bits in
    let h = value-below (true ∷ last) in
    let size : length last ≡ length bits - (length bits - 8) = length-drop (length bits - 8) bits in
    let short : suc (length last) ≤ 9 = omega (arith, size) in
    let top : 2 ^ suc (length last) ≤ 2 ^ 9 = pow_mono short in
    omega (arith, h, top)

-- whether the first decisions are these; None if there are too few of them to know it
abbrev begin_with : List Bool → List Bool → Option Bool
begin_with [] ds = Some true
begin_with (b ∷ wanted) [] = None
begin_with (true ∷ wanted) (true ∷ ds) = begin_with wanted ds
begin_with (true ∷ wanted) (false ∷ ds) = Some false
begin_with (false ∷ wanted) (true ∷ ds) = Some false
begin_with (false ∷ wanted) (false ∷ ds) = begin_with wanted ds

abbrev IsAnswer : Option Bool → Bool → Type 0
IsAnswer (Some t) b = b ≡ t
IsAnswer None b = Unit {0}

choose : (row : Range) (rows : List Range) (size : ℕ) → size < row.offset + 2 ^ row.bits → range_of (row ∷ rows) size ≡ row
unfolding range_of
choose row rows size h = cond-true (ltb size (row.offset + 2 ^ row.bits)) row (range_of rows size) (lt-ltb size (row.offset + 2 ^ row.bits) h)

pass : (row : Range) (rows : List Range) (size : ℕ) → row.offset + 2 ^ row.bits ≤ size → range_of (row ∷ rows) size ≡ range_of rows size
unfolding range_of
pass row rows size h = cond-false (ltb size (row.offset + 2 ^ row.bits)) row (range_of rows size) (le-ltb size (row.offset + 2 ^ row.bits) h)

abbrev r1 : Range
r1 = range (false ∷ []) 2 0

abbrev r2 : Range
r2 = range (true ∷ false ∷ []) 4 4

abbrev r3 : Range
r3 = range (true ∷ true ∷ false ∷ []) 6 20

abbrev r4 : Range
r4 = range (true ∷ true ∷ true ∷ false ∷ []) 8 84

abbrev r5 : Range
r5 = range (true ∷ true ∷ true ∷ true ∷ false ∷ []) 12 340

abbrev r6 : Range
r6 = range (true ∷ true ∷ true ∷ true ∷ true ∷ []) 32 4436

module _ (base : ℕ) (bytes : List ℕ) where
  abbrev at : List Bool → State → Reading
  at bits s = reading_at prev_of base 512 0 bits s

  are_next-is : (wanted ds bits : List Bool) (s : State) → GivesDecisions bytes s (in_contexts prev_of base bits ds) → IsAnswer (begin_with wanted ds) (are_next wanted bytes (at bits s))
  unfolding are_next in_contexts
  are_next-is [] ds bits s g = refl
  are_next-is (b ∷ wanted) [] bits s g = tt
  are_next-is (true ∷ wanted) (true ∷ ds) bits s g =
      let k = base + prev_of bits in
      let es = in_contexts prev_of base (bits ++ true ∷ []) ds in
      let symbol = next-gives prev_of base 512 0 bytes bits s true es (prev-below bits) g in
      let reading = read-gives prev_of base 512 0 bytes bits s true es (prev-below bits) g in
      let more = are_next-is wanted ds (bits ++ true ∷ []) (state_on bytes s k) (gives-next bytes s (k, true) es g) in
      let turned = subst (λ (r : Reading). IsAnswer (begin_with wanted ds) (are_next wanted bytes r)) (sym reading) more in
      subst (λ (x : Bool). IsAnswer (begin_with wanted ds) (x && are_next wanted bytes (read prev_of bytes (at bits s)))) (sym symbol) turned
  are_next-is (true ∷ wanted) (false ∷ ds) bits s g =
      let symbol = next-gives prev_of base 512 0 bytes bits s false (in_contexts prev_of base (bits ++ false ∷ []) ds) (prev-below bits) g in
      and_left (next prev_of bytes (at bits s)).symbol (are_next wanted bytes (read prev_of bytes (at bits s))) symbol
  are_next-is (false ∷ wanted) (true ∷ ds) bits s g =
      let symbol = next-gives prev_of base 512 0 bytes bits s true (in_contexts prev_of base (bits ++ true ∷ []) ds) (prev-below bits) g in
      and_left (not (next prev_of bytes (at bits s)).symbol) (are_next wanted bytes (read prev_of bytes (at bits s))) (ap not symbol)
  are_next-is (false ∷ wanted) (false ∷ ds) bits s g =
      let k = base + prev_of bits in
      let es = in_contexts prev_of base (bits ++ false ∷ []) ds in
      let symbol = next-gives prev_of base 512 0 bytes bits s false es (prev-below bits) g in
      let reading = read-gives prev_of base 512 0 bytes bits s false es (prev-below bits) g in
      let more = are_next-is wanted ds (bits ++ false ∷ []) (state_on bytes s k) (gives-next bytes s (k, false) es g) in
      let turned = subst (λ (r : Reading). IsAnswer (begin_with wanted ds) (are_next wanted bytes r)) (sym reading) more in
      subst (λ (x : Bool). IsAnswer (begin_with wanted ds) (not x && are_next wanted bytes (read prev_of bytes (at bits s)))) (sym symbol) turned

  answer : (wanted ds bits : List Bool) (s : State) (t : Bool) → GivesDecisions bytes s (in_contexts prev_of base bits ds) → begin_with wanted ds ≡ Some t → are_next wanted bytes (at bits s) ≡ t
  answer wanted ds bits s t g e = subst (λ (o : Option Bool). IsAnswer o (are_next wanted bytes (at bits s))) e (are_next-is wanted ds bits s g)

  passed : (row : Range) (rows : List Range) (ds bits : List Bool) (s : State) → GivesDecisions bytes s (in_contexts prev_of base bits ds) → begin_with row.prefix ds ≡ Some false
      → next_range (row ∷ rows) bytes (at bits s) ≡ next_range rows bytes (at bits s)
  unfolding next_range
  passed row rows ds bits s g e = cond-false (are_next row.prefix bytes (at bits s)) row (next_range rows bytes (at bits s)) (answer row.prefix ds bits s false g e)

  taken : (row : Range) (rows : List Range) (ds bits : List Bool) (s : State) → GivesDecisions bytes s (in_contexts prev_of base bits ds) → begin_with row.prefix ds ≡ Some true
      → next_range (row ∷ rows) bytes (at bits s) ≡ row
  unfolding next_range
  taken row rows ds bits s g e = cond-true (are_next row.prefix bytes (at bits s)) row (next_range rows bytes (at bits s)) (answer row.prefix ds bits s true g e)

  pub record RowOf (size : ℕ) (row : Range) : Type 0 where
    pub chosen : range_of ranges size ≡ row
    pub low : row.offset ≤ size
    pub high : size - row.offset < 2 ^ row.bits
    pub next : (tail bits : List Bool) (s : State) → GivesDecisions bytes s (in_contexts prev_of base bits (row.prefix ++ tail)) → next_range ranges bytes (at bits s) ≡ row

  row-1 : (size : ℕ) → 0 ≤ size → size < 4 → RowOf size r1
  unfolding ranges
  row-1 size low high = record {
    chosen = choose r1 (r2 ∷ r3 ∷ r4 ∷ r5 ∷ r6 ∷ []) size (omega (arith, high));
    low = low;
    high = omega (arith, low, high);
    next = λ tail bits s g. taken r1 (r2 ∷ r3 ∷ r4 ∷ r5 ∷ r6 ∷ []) (false ∷ tail) bits s g refl;
  }

  row-2 : (size : ℕ) → 4 ≤ size → size < 20 → RowOf size r2
  unfolding ranges
  row-2 size low high = record {
    chosen = pass r1 (r2 ∷ r3 ∷ r4 ∷ r5 ∷ r6 ∷ []) size (omega (arith, low)) ∙ choose r2 (r3 ∷ r4 ∷ r5 ∷ r6 ∷ []) size (omega (arith, high));
    low = low;
    high = omega (arith, low, high);
    next = λ tail bits s g. passed r1 (r2 ∷ r3 ∷ r4 ∷ r5 ∷ r6 ∷ []) (true ∷ false ∷ tail) bits s g refl ∙ taken r2 (r3 ∷ r4 ∷ r5 ∷ r6 ∷ []) (true ∷ false ∷ tail) bits s g refl;
  }

  row-3 : (size : ℕ) → 20 ≤ size → size < 84 → RowOf size r3
  unfolding ranges
  row-3 size low high = record {
    chosen = pass r1 (r2 ∷ r3 ∷ r4 ∷ r5 ∷ r6 ∷ []) size (omega (arith, low)) ∙ pass r2 (r3 ∷ r4 ∷ r5 ∷ r6 ∷ []) size (omega (arith, low)) ∙ choose r3 (r4 ∷ r5 ∷ r6 ∷ []) size (omega (arith, high));
    low = low;
    high = omega (arith, low, high);
    next = λ tail bits s g. passed r1 (r2 ∷ r3 ∷ r4 ∷ r5 ∷ r6 ∷ []) (true ∷ true ∷ false ∷ tail) bits s g refl ∙ passed r2 (r3 ∷ r4 ∷ r5 ∷ r6 ∷ []) (true ∷ true ∷ false ∷ tail) bits s g refl ∙ taken r3 (r4 ∷ r5 ∷ r6 ∷ []) (true ∷ true ∷ false ∷ tail) bits s g refl;
  }

  row-4 : (size : ℕ) → 84 ≤ size → size < 340 → RowOf size r4
  unfolding ranges
  row-4 size low high = record {
    chosen = pass r1 (r2 ∷ r3 ∷ r4 ∷ r5 ∷ r6 ∷ []) size (omega (arith, low)) ∙ pass r2 (r3 ∷ r4 ∷ r5 ∷ r6 ∷ []) size (omega (arith, low)) ∙ pass r3 (r4 ∷ r5 ∷ r6 ∷ []) size (omega (arith, low)) ∙ choose r4 (r5 ∷ r6 ∷ []) size (omega (arith, high));
    low = low;
    high = omega (arith, low, high);
    next = λ tail bits s g. passed r1 (r2 ∷ r3 ∷ r4 ∷ r5 ∷ r6 ∷ []) (true ∷ true ∷ true ∷ false ∷ tail) bits s g refl ∙ passed r2 (r3 ∷ r4 ∷ r5 ∷ r6 ∷ []) (true ∷ true ∷ true ∷ false ∷ tail) bits s g refl ∙ passed r3 (r4 ∷ r5 ∷ r6 ∷ []) (true ∷ true ∷ true ∷ false ∷ tail) bits s g refl ∙ taken r4 (r5 ∷ r6 ∷ []) (true ∷ true ∷ true ∷ false ∷ tail) bits s g refl;
  }

  row-5 : (size : ℕ) → 340 ≤ size → size < 4436 → RowOf size r5
  unfolding ranges
  row-5 size low high = record {
    chosen = pass r1 (r2 ∷ r3 ∷ r4 ∷ r5 ∷ r6 ∷ []) size (omega (arith, low)) ∙ pass r2 (r3 ∷ r4 ∷ r5 ∷ r6 ∷ []) size (omega (arith, low)) ∙ pass r3 (r4 ∷ r5 ∷ r6 ∷ []) size (omega (arith, low)) ∙ pass r4 (r5 ∷ r6 ∷ []) size (omega (arith, low)) ∙ choose r5 (r6 ∷ []) size (omega (arith, high));
    low = low;
    high = omega (arith, low, high);
    next = λ tail bits s g. passed r1 (r2 ∷ r3 ∷ r4 ∷ r5 ∷ r6 ∷ []) (true ∷ true ∷ true ∷ true ∷ false ∷ tail) bits s g refl ∙ passed r2 (r3 ∷ r4 ∷ r5 ∷ r6 ∷ []) (true ∷ true ∷ true ∷ true ∷ false ∷ tail) bits s g refl ∙ passed r3 (r4 ∷ r5 ∷ r6 ∷ []) (true ∷ true ∷ true ∷ true ∷ false ∷ tail) bits s g refl ∙ passed r4 (r5 ∷ r6 ∷ []) (true ∷ true ∷ true ∷ true ∷ false ∷ tail) bits s g refl ∙ taken r5 (r6 ∷ []) (true ∷ true ∷ true ∷ true ∷ false ∷ tail) bits s g refl;
  }

  row-6 : (size : ℕ) → 4436 ≤ size → size < 4294971732 → RowOf size r6
  unfolding ranges
  row-6 size low high = record {
    chosen = pass r1 (r2 ∷ r3 ∷ r4 ∷ r5 ∷ r6 ∷ []) size (omega (arith, low)) ∙ pass r2 (r3 ∷ r4 ∷ r5 ∷ r6 ∷ []) size (omega (arith, low)) ∙ pass r3 (r4 ∷ r5 ∷ r6 ∷ []) size (omega (arith, low)) ∙ pass r4 (r5 ∷ r6 ∷ []) size (omega (arith, low)) ∙ pass r5 (r6 ∷ []) size (omega (arith, low)) ∙ choose r6 ([]) size (omega (arith, high));
    low = low;
    high = omega (arith, low, high);
    next = λ tail bits s g. passed r1 (r2 ∷ r3 ∷ r4 ∷ r5 ∷ r6 ∷ []) (true ∷ true ∷ true ∷ true ∷ true ∷ tail) bits s g refl ∙ passed r2 (r3 ∷ r4 ∷ r5 ∷ r6 ∷ []) (true ∷ true ∷ true ∷ true ∷ true ∷ tail) bits s g refl ∙ passed r3 (r4 ∷ r5 ∷ r6 ∷ []) (true ∷ true ∷ true ∷ true ∷ true ∷ tail) bits s g refl ∙ passed r4 (r5 ∷ r6 ∷ []) (true ∷ true ∷ true ∷ true ∷ true ∷ tail) bits s g refl ∙ passed r5 (r6 ∷ []) (true ∷ true ∷ true ∷ true ∷ true ∷ tail) bits s g refl ∙ taken r6 ([]) (true ∷ true ∷ true ∷ true ∷ true ∷ tail) bits s g refl;
  }

  pub row-of : (size : ℕ) → size < 2 ^ 32 → (row : Range) × RowOf size row
  row-of size h =
      ⊎_elim (λ (a : size < 4). (r1, row-1 size (omega arith) (omega (arith, a))))
      (λ (a : 4 ≤ size). ⊎_elim (λ (b : size < 20). (r2, row-2 size a b))
      (λ (b : 20 ≤ size). ⊎_elim (λ (c : size < 84). (r3, row-3 size b c))
      (λ (c : 84 ≤ size). ⊎_elim (λ (d : size < 340). (r4, row-4 size c d))
      (λ (d : 340 ≤ size). ⊎_elim (λ (e : size < 4436). (r5, row-5 size d e))
      (λ (e : 4436 ≤ size). (r6, row-6 size e (omega (arith, h))))
      (cases_lt size 4436)) (cases_lt size 340)) (cases_lt size 84)) (cases_lt size 20)) (cases_lt size 4)
