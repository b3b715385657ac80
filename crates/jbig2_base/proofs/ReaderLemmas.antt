-- One bit on, n bits on, and bytes on.
use Rattle.std.proofs.Common.{◌≡◌, ℕ, ◌+◌, ◌-◌, ◌/◌, ◌%◌, ◌^◌, ◌<◌, ◌≤◌, suc, zero, List, [], ◌∷◌, ◌++◌, length, take, drop, get_or, Option, Some, None, Result, Ok, Err, OnOk, nat_lt, refl, sym, ◌∙◌, ap, arith, bit_and}
use Rattle.std.specs.List.{flat_map}
use Rattle.std.proofs.lemmas.List.{drop_more, drop_all, drop-drop}
use Rattle.std.proofs.lemmas.Nat.Bits.{shr_and_one}
use Rattle.std.proofs.lemmas.Bool.{cond-true, cond-false, cond_both, lt-ltb, le-ltb, ltb-false}
use Rattle.jbig2_base.specs.Bits.{Place, start_of, byte_bits, bits_left, bits_next, bits_on, bytes_on, number_after}
use Rattle.jbig2_base.specs.declared.error.DecodeError.{DecodeError}

-- the place at byte i and bit k of xs
abbrev pub place_in : List ℕ → ℕ → ℕ → Place
place_in xs i k = record { bytes = drop i xs; bit = k }

pub bits_at : (b : ℕ) (rest : List ℕ) (k : ℕ) → k < 8 → drop k (byte_bits b ++ rest) ≡ b / 2 ^ (7 - k) % 2 ∷ drop (k + 1) (byte_bits b ++ rest)
bits_at b rest zero h = refl
bits_at b rest (suc zero) h = refl
bits_at b rest (suc (suc zero)) h = refl
bits_at b rest (suc (suc (suc zero))) h = refl
bits_at b rest (suc (suc (suc (suc zero)))) h = refl
bits_at b rest (suc (suc (suc (suc (suc zero))))) h = refl
bits_at b rest (suc (suc (suc (suc (suc (suc zero)))))) h = refl
bits_at b rest (suc (suc (suc (suc (suc (suc (suc zero))))))) h = refl
bits_at b rest (suc (suc (suc (suc (suc (suc (suc (suc k)))))))) h = absurd (omega arith)

-- the first bit that is left, and the others
next_bit : (xs : List ℕ) (i k : ℕ) → i < length xs → k < 8 → bits_left (place_in xs i k) ≡ get_or xs i 0 / 2 ^ (7 - k) % 2 ∷ drop (k + 1) (flat_map byte_bits (drop i xs))
unfolding bits_left
next_bit xs i k inside h =
    let e = drop_more xs i 0 inside in
    ap (λ (ys : List ℕ). drop k (flat_map byte_bits ys)) e
    ∙ bits_at (get_or xs i 0) (flat_map byte_bits (drop (i + 1) xs)) k h
    ∙ sym (ap (λ (ys : List ℕ). get_or xs i 0 / 2 ^ (7 - k) % 2 ∷ drop (k + 1) (flat_map byte_bits ys)) e)

one_of : (b : ℕ) (bs : List ℕ) → bits_next 1 (b ∷ bs) ≡ Some b
one_of b bs =
    let alone : number_after 0 (take 1 (b ∷ bs)) ≡ b = omega arith in
    cond-false (nat_lt (length (b ∷ bs)) 1) None (Some (number_after 0 (take 1 (b ∷ bs)))) (le-ltb (length (b ∷ bs)) 1 (omega arith))
    ∙ ap (λ (n : ℕ). Some n) alone

pub bit-value : (xs : List ℕ) (i k : ℕ) → i < length xs → k < 8 → ◌≡◌ {A = Option ℕ} (Some (bit_and (get_or xs i 0 / 2 ^ (7 - k)) 1)) (bits_next 1 (bits_left (place_in xs i k)))
bit-value xs i k inside h =
    ap (λ (n : ℕ). Some n) (shr_and_one (get_or xs i 0) (7 - k))
    ∙ sym (ap (λ (bs : List ℕ). bits_next 1 bs) (next_bit xs i k inside h) ∙ one_of (get_or xs i 0 / 2 ^ (7 - k) % 2) (drop (k + 1) (flat_map byte_bits (drop i xs))))

-- n bits on, where there are as many
pub bits_on-enough : (n : ℕ) (p : Place) → n ≤ length (bits_left p) → bits_on n p ≡ record { bytes = drop ((p.bit + n) / 8) p.bytes; bit = (p.bit + n) % 8 }
unfolding bits_on
bits_on-enough n p enough = cond-false (nat_lt (length (bits_left p)) n) (start_of []) (record { bytes = drop ((p.bit + n) / 8) p.bytes; bit = (p.bit + n) % 8 }) (le-ltb (length (bits_left p)) n enough)

-- past the end
pub bits_on-past : (n : ℕ) (p : Place) → length (bits_left p) < n → bits_on n p ≡ start_of []
unfolding bits_on
bits_on-past n p past = cond-true (nat_lt (length (bits_left p)) n) (start_of []) (record { bytes = drop ((p.bit + n) / 8) p.bytes; bit = (p.bit + n) % 8 }) (lt-ltb (length (bits_left p)) n past)

bits_on-one : (xs : List ℕ) (i k : ℕ) → i < length xs → k < 8 → bits_on 1 (place_in xs i k) ≡ place_in xs (i + (k + 1) / 8) ((k + 1) % 8)
bits_on-one xs i k inside h =
    let some : length (bits_left (place_in xs i k)) ≡ suc (length (drop (k + 1) (flat_map byte_bits (drop i xs)))) = ap length (next_bit xs i k inside h) in
    bits_on-enough 1 (place_in xs i k) (omega arith)
    ∙ ap (λ (ys : List ℕ). record { bytes = ys; bit = (k + 1) % 8 }) (drop-drop ((k + 1) / 8) i xs)

pub bit-place_last : (xs : List ℕ) (i k : ℕ) → i < length xs → k ≡ 7 → place_in xs (i + 1) 0 ≡ bits_on 1 (place_in xs i k)
bit-place_last xs i k inside h =
    let e : i + 1 ≡ i + (k + 1) / 8 = omega arith in
    let b : 0 ≡ (k + 1) % 8 = omega arith in
    ap (λ (j : ℕ). place_in xs j 0) e ∙ ap (λ (j : ℕ). place_in xs (i + (k + 1) / 8) j) b ∙ sym (bits_on-one xs i k inside (omega arith))

pub bit-place_more : (xs : List ℕ) (i k : ℕ) → i < length xs → k < 7 → place_in xs i (k + 1) ≡ bits_on 1 (place_in xs i k)
bit-place_more xs i k inside h =
    let e : i ≡ i + (k + 1) / 8 = omega arith in
    let b : k + 1 ≡ (k + 1) % 8 = omega arith in
    ap (λ (j : ℕ). place_in xs j (k + 1)) e ∙ ap (λ (j : ℕ). place_in xs (i + (k + 1) / 8) j) b ∙ sym (bits_on-one xs i k inside (omega arith))

bits_past : (b : ℕ) (rest : List ℕ) → drop 8 (byte_bits b ++ rest) ≡ rest
bits_past b rest = refl

pub bit-rest_last : (xs : List ℕ) (i k : ℕ) → i < length xs → k ≡ 7 → bits_left (place_in xs (i + 1) 0) ≡ drop 1 (bits_left (place_in xs i k))
unfolding bits_left
bit-rest_last xs i k inside h =
    let e = drop_more xs i 0 inside in
    sym (ap (λ (zs : List ℕ). drop 1 zs) (next_bit xs i k inside (omega arith))
    ∙ ap (λ (j : ℕ). drop (j + 1) (flat_map byte_bits (drop i xs))) h
    ∙ ap (λ (ys : List ℕ). drop 8 (flat_map byte_bits ys)) e)

pub bit-rest_more : (xs : List ℕ) (i k : ℕ) → i < length xs → k < 7 → bits_left (place_in xs i (k + 1)) ≡ drop 1 (bits_left (place_in xs i k))
unfolding bits_left
bit-rest_more xs i k inside h = sym (ap (λ (zs : List ℕ). drop 1 zs) (next_bit xs i k inside (omega arith)))

-- where no byte is left
pub end_place : (xs : List ℕ) (i k : ℕ) → length xs ≤ i → i ≤ length xs → (i ≡ length xs → k ≡ 0) → place_in xs i k ≡ start_of []
end_place xs i k past within opening =
    ap (λ (ys : List ℕ). record { bytes = ys; bit = k }) (drop_all i xs past)
    ∙ ap (λ (j : ℕ). record { bytes = []; bit = j }) (opening (omega arith))

pub end-bits : bits_left (start_of []) ≡ []
unfolding bits_left
end-bits = refl

pub end-on : (n : ℕ) → start_of [] ≡ bits_on n (start_of [])
unfolding bits_on
end-on n = sym (cond_both (nat_lt (length (bits_left (start_of []))) n) (start_of []) (record { bytes = drop ((0 + n) / 8) []; bit = (0 + n) % 8 }) (λ q. q ≡ start_of []) (λ _. refl)
    (λ e. let none : n ≡ 0 = omega (arith, ltb-false (length (bits_left (start_of []))) n e, ap length end-bits) in
    ap (λ (m : ℕ). record { bytes = drop ((0 + m) / 8) []; bit = (0 + m) % 8 }) none))

-- bytes that are read leave the place at the beginning of a byte
bytes_on-start : (count : ℕ) (p q : Place) → q ≡ bytes_on count p → length q.bytes + count ≡ length p.bytes → q ≡ start_of q.bytes
bytes_on-start count p q on taken =
    let there : q ≡ start_of (drop count p.bytes) = on ∙ cond-false (nat_lt (length p.bytes) count) p (start_of (drop count p.bytes)) (le-ltb (length p.bytes) count (omega arith)) in
    there ∙ sym (ap (λ (r : Place). start_of r.bytes) there)

pub bytes_read-start : {X : Type 0} (r : Result X DecodeError) (count : ℕ) (p q : Place) → q ≡ bytes_on count p → OnOk r (length q.bytes + count ≡ length p.bytes) → OnOk r (q ≡ start_of q.bytes)
bytes_read-start (Ok x) count p q on taken = bytes_on-start count p q on taken
bytes_read-start (Err e) count p q on taken = tt
