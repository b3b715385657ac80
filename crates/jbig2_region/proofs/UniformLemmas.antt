-- Contexts of one colour, and the pixels that they are made from.
use Rattle.std.proofs.Common.{pow-suc, subst, pos, ℤ, ◌+ℤ◌, ◌-ℤ◌, ◌≡◌, ℕ, zero, suc, ◌+◌, ◌-◌, ◌*◌, ◌/◌, ◌%◌, ◌^◌, ◌<◌, Bool, true, false, cond, replicate, refl, sym, ap, ◌∙◌, arith}
use Rattle.std.proofs.lemmas.Bool.{eq-eqb, eqb-true}
use Rattle.std.proofs.lemmas.Int.{ints}
use Rattle.std.proofs.lemmas.List.{replicate-append-replicate, length-replicate}
use Rattle.std.proofs.lemmas.Nat.{same_from_place, mod_below, pow_pos}
use Rattle.std.proofs.lemmas.Nat.Bits.{same_from_bits_below}
use Rattle.jbig2_base.specs.Grid.{Grid, pixel}
use Rattle.jbig2_base.specs.Bits.{bit, bit_number, number_of}
use Rattle.jbig2_base.proofs.BitLemmas.{bit_number-bit, bit-zero, bit-ones, bit-mod, bit-shr}
use Rattle.jbig2_region.specs.Generic.{context_at}
use Rattle.jbig2_region.specs.inner.Neighbours.{side_by_side, is_field}
use Rattle.jbig2_region.proofs.ContextBits.{number_of-append}

-- the number of this many bits of one colour
abbrev pub full : ℕ → Bool → ℕ
full count colour = number_of (replicate count colour)

pub full-lt : (count : ℕ) (c : Bool) → full count c < 2 ^ count
full-lt zero c = omega arith
full-lt (suc count) true = rw pow-suc (omega (arith, full-lt count true))
full-lt (suc count) false = rw pow-suc (omega (arith, full-lt count false))

pub full-add : (n m : ℕ) (c : Bool) → full (n + m) c ≡ full n c + full m c * 2 ^ n
full-add n m c = ap number_of (sym (replicate-append-replicate n m c)) ∙ number_of-append (replicate n c) (replicate m c) ∙ ap (λ (k : ℕ). full n c + full m c * 2 ^ k) (length-replicate n c)

pub full-black : (count : ℕ) → full count true ≡ 2 ^ count - 1
full-black zero = refl
full-black (suc count) = rw (full-black count, pow-suc) (omega (arith, pow_pos count))

pub full-white : (count : ℕ) → full count false ≡ 0
full-white zero = refl
full-white (suc count) = rw (full-white count) refl

pub full-cond : (count : ℕ) (c : Bool) → full count c ≡ cond c (2 ^ count - 1) 0
full-cond count true = full-black count
full-cond count false = full-white count

pub full-bit : (count k : ℕ) (c : Bool) → k < count → bit (full count c) k ≡ c
full-bit count k true inside = rw (full-black count) (bit-ones count k inside)
full-bit count k false inside = rw (full-white count) (bit-zero k)

-- ---- a field of one colour, and its bits
field-bit : (n s m i : ℕ) → i < m → bit (n / 2 ^ s % 2 ^ m) i ≡ bit n (s + i)
field-bit n s m i inside = bit-mod (n / 2 ^ s) m i inside ∙ bit-shr n s i

pub field-gives : (n s m i : ℕ) (c : Bool) → is_field n s m c ≡ true → i < m → bit n (s + i) ≡ c
field-gives n s m i c is inside =
    let same : n / 2 ^ s % 2 ^ m ≡ full m c = eqb-true _ _ is ∙ sym (full-cond m c) in
    sym (field-bit n s m i inside) ∙ ap (λ (k : ℕ). bit k i) same ∙ full-bit m i c inside

pub field-all : (n s m : ℕ) (c : Bool) → ((i : ℕ) → i < m → bit n (s + i) ≡ c) → is_field n s m c ≡ true
field-all n s m c each =
    let same : n / 2 ^ s % 2 ^ m ≡ full m c =
    same_from_bits_below m (n / 2 ^ s % 2 ^ m) (full m c) (mod_below (n / 2 ^ s) (2 ^ m) (pow_pos m)) (full-lt m c)
    (λ i inside.
    sym (bit_number-bit (n / 2 ^ s % 2 ^ m) i) ∙ ap bit_number (field-bit n s m i inside ∙ each i inside ∙ sym (full-bit m i c inside)) ∙ bit_number-bit (full m c) i) in
    eq-eqb _ _ (same ∙ full-cond m c)

-- ---- pixels side by side of one colour
-- the pixel of place i
abbrev pub side-pixel : Grid → ℕ → ℕ → ℤ → ℕ → ℕ → Bool
side-pixel g x y dx rows i = pixel g (pos x +ℤ (dx -ℤ pos i)) (pos y +ℤ (pos 0 -ℤ pos rows))

first-pixel : (g : Grid) (x y rows : ℕ) (dx : ℤ) → side-pixel g x y dx rows 0 ≡ pixel g (pos x +ℤ dx) (pos y +ℤ (pos 0 -ℤ pos rows))
first-pixel g x y rows dx =
    let same : dx -ℤ pos 0 ≡ dx = omega (arith, ints) in
    ap (λ (z : ℤ). pixel g (pos x +ℤ z) (pos y +ℤ (pos 0 -ℤ pos rows))) same

next-pixel : (g : Grid) (x y rows i : ℕ) (dx : ℤ) → side-pixel g x y (dx -ℤ pos 1) rows i ≡ side-pixel g x y dx rows (i + 1)
next-pixel g x y rows i dx =
    let same : (dx -ℤ pos 1) -ℤ pos i ≡ dx -ℤ pos (i + 1) = omega (arith, ints) in
    ap (λ (z : ℤ). pixel g (pos x +ℤ z) (pos y +ℤ (pos 0 -ℤ pos rows))) same

pub side-all : (g : Grid) (x y rows count : ℕ) (dx : ℤ) (c : Bool) → ((i : ℕ) → i < count → side-pixel g x y dx rows i ≡ c) → context_at (side_by_side dx rows count) g x y ≡ full count c
unfolding context_at
side-all g x y rows zero dx c each = refl
side-all g x y rows (suc count) dx c each =
    rw (sym (first-pixel g x y rows dx) ∙ each 0 (omega arith), side-all g x y rows count (dx -ℤ pos 1) c (λ i inside. next-pixel g x y rows i dx ∙ each (i + 1) (omega arith))) refl

same-digit : (b c : Bool) (m n : ℕ) → bit_number b + 2 * m ≡ bit_number c + 2 * n → (b ≡ c) × (m ≡ n)
same-digit true true m n e = (refl, omega arith)
same-digit false false m n e = (refl, omega arith)
same-digit true false m n e = absurd (omega arith)
same-digit false true m n e = absurd (omega arith)

pub side-gives : (g : Grid) (x y rows count i : ℕ) (dx : ℤ) (c : Bool) → context_at (side_by_side dx rows count) g x y ≡ full count c → i < count → side-pixel g x y dx rows i ≡ c
unfolding context_at
side-gives g x y rows zero i dx c e inside = absurd (omega arith)
side-gives g x y rows (suc count) zero dx c e inside = first-pixel g x y rows dx ∙ (same-digit _ c _ (full count c) e).0
side-gives g x y rows (suc count) (suc i) dx c e inside =
    let others = (same-digit _ c _ (full count c) e).1 in
    let next : i + 1 ≡ suc i = omega arith in
    subst (λ (k : ℕ). side-pixel g x y dx rows k ≡ c) next (sym (next-pixel g x y rows i dx) ∙ side-gives g x y rows count i (dx -ℤ pos 1) c others (omega arith))

-- ---- three parts of a number
pub same-parts : (a b t a' b' t' n m : ℕ) → a < 2 ^ n → a' < 2 ^ n → b < 2 ^ m → b' < 2 ^ m → a + (b + t * 2 ^ m) * 2 ^ n ≡ a' + (b' + t' * 2 ^ m) * 2 ^ n → (a ≡ a') × ((b ≡ b') × (t ≡ t'))
same-parts a b t a' b' t' n m small small' less less' e =
    let outer : (b + t * 2 ^ m ≡ b' + t' * 2 ^ m) × (a ≡ a') = same_from_place (b + t * 2 ^ m) a (b' + t' * 2 ^ m) a' (2 ^ n) small small' (omega arith) in
    let inner : (t ≡ t') × (b ≡ b') = same_from_place t b t' b' (2 ^ m) less less' (omega (arith, outer.0)) in
    (outer.1, (inner.1, inner.0))
