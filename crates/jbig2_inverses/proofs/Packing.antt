-- Bits in bytes are those bits, and zeros.
use Rattle.std.proofs.Common.{◌≡◌, ℕ, zero, suc, ◌+◌, ◌*◌, ◌/◌, ◌%◌, ◌^◌, ◌<◌, ◌≤◌, List, [], ◌∷◌, ◌++◌, length, take, drop, replicate, refl, sym, ◌∙◌, ap, arith, ⊎_elim, append_assoc, append-nil, length-append, length-drop, length-take-le, take-append-drop}
use Rattle.std.specs.List.{flat_map}
use Rattle.std.proofs.lemmas.Bool.{cases_lt}
use Rattle.std.proofs.lemmas.Nat.{shr_high}
use Rattle.std.proofs.lemmas.List.{nil_from_length, take-append-le, take-replicate, length-replicate}
use Rattle.jbig2_base.specs.Bits.{byte_bits, number_after}
use Rattle.jbig2_base.specs.inner.BitLists.{AreBits}
use Rattle.jbig2_base.proofs.BitFieldLemmas.{bits-drop, bits-take}
use Rattle.jbig2_base.proofs.NumberLemmas.{number-front, number-lt}
use Rattle.jbig2_inverses.specs.MmrWriter.{packed}
use Rattle.jbig2_inverses.specs.Digits.{digits}
use Rattle.jbig2_inverses.proofs.RowBits.{bits-both}

digits-back : (xs : List ℕ) (f : ℕ) → AreBits xs → digits (length xs) (number_after f xs) ≡ xs
unfolding digits AreBits
digits-back [] f are = refl
digits-back (b ∷ xs) f are =
    let n = length xs in
    let small = number-lt xs are.1 in
    let high : number_after (2 * f + b) xs / 2 ^ n ≡ 2 * f + b = ap (λ (v : ℕ). v / 2 ^ n) (number-front (2 * f + b) xs) ∙ shr_high (2 * f + b) n (number_after 0 xs) small in
    let bit : number_after (2 * f + b) xs / 2 ^ n % 2 ≡ b = ap (λ (v : ℕ). v % 2) high ∙ (let e : (2 * f + b) % 2 ≡ b = omega (arith, are.0) in e) in
    ap (λ (d : ℕ). d ∷ digits n (number_after (2 * f + b) xs)) bit ∙ ap (λ (ds : List ℕ). b ∷ ds) (digits-back xs (2 * f + b) are.1)

byte-digits : (v : ℕ) → digits 8 v ≡ byte_bits v
unfolding digits
byte-digits v = refl

byte-back : (xs : List ℕ) → length xs ≡ 8 → AreBits xs → byte_bits (number_after 0 xs) ≡ xs
byte-back xs size are =
    sym (byte-digits (number_after 0 xs)) ∙ ap (λ (n : ℕ). digits n (number_after 0 xs)) (sym size) ∙ digits-back xs 0 are

zeros-bits : (n : ℕ) → AreBits (replicate n 0)
unfolding AreBits
zeros-bits zero = tt
zeros-bits (suc n) = (omega arith, zeros-bits n)

take-past : (xs ys : List ℕ) (n z : ℕ) → n ≡ length xs + z → take n (xs ++ ys) ≡ xs ++ take z ys
take-past [] ys n z e = let same : n ≡ z = omega (arith, e) in ap (λ (k : ℕ). take k ys) same
take-past (x ∷ xs) ys zero z e = absurd (omega (arith, e))
take-past (x ∷ xs) ys (suc n) z e = ap (λ (zs : List ℕ). x ∷ zs) (take-past xs ys n z (omega (arith, e)))

pub length-packed : (n : ℕ) (bits : List ℕ) → length (packed n bits) ≡ n
unfolding packed
length-packed zero bits = refl
length-packed (suc n) bits = ap suc (length-packed n (drop 8 bits))

pub packed-bits : (n z : ℕ) (bits : List ℕ) → AreBits bits → length bits + z ≡ 8 * n → z < 8 → flat_map byte_bits (packed n bits) ≡ bits ++ replicate z 0
unfolding packed
packed-bits zero z bits are size few =
    let none : bits ≡ [] = nil_from_length bits (omega (arith, size)) in
    let no : z ≡ 0 = omega (arith, size) in
    sym (ap (λ (b : List ℕ). b ++ replicate z 0) none ∙ ap (λ (k : ℕ). replicate k 0) no)
packed-bits (suc n) z bits are size few = ⊎_elim
    (λ (short : length bits < 8).
    let last : n ≡ 0 = omega (arith, size, short, few) in
    let whole : 8 ≡ length bits + z = omega (arith, size, last) in
    let zeros : take z (replicate 8 0) ≡ replicate z 0 = take-replicate z 8 0 (omega (arith, few)) in
    let front : take 8 (bits ++ replicate 8 0) ≡ bits ++ replicate z 0 = take-past bits (replicate 8 0) 8 z whole ∙ ap (λ (zs : List ℕ). bits ++ zs) zeros in
    let full : length (bits ++ replicate z 0) ≡ 8 = length-append bits (replicate z 0) ∙ ap (λ (k : ℕ). length bits + k) (length-replicate z 0) ∙ sym whole in
    let end : flat_map byte_bits (packed n (drop 8 bits)) ≡ [] = ap (λ (k : ℕ). flat_map byte_bits (packed k (drop 8 bits))) last in
    ap (λ (xs : List ℕ). byte_bits (number_after 0 xs) ++ flat_map byte_bits (packed n (drop 8 bits))) front
    ∙ ap (λ (xs : List ℕ). xs ++ flat_map byte_bits (packed n (drop 8 bits))) (byte-back (bits ++ replicate z 0) full (bits-both bits (replicate z 0) are (zeros-bits z)))
    ∙ ap (λ (xs : List ℕ). (bits ++ replicate z 0) ++ xs) end
    ∙ append-nil (bits ++ replicate z 0))
    (λ (long : 8 ≤ length bits).
    let left : length (drop 8 bits) + z ≡ 8 * n = omega (arith, length-drop 8 bits, size, long) in
    let front : take 8 (bits ++ replicate 8 0) ≡ take 8 bits = take-append-le 8 bits (replicate 8 0) long in
    ap (λ (xs : List ℕ). byte_bits (number_after 0 xs) ++ flat_map byte_bits (packed n (drop 8 bits))) front
    ∙ ap (λ (xs : List ℕ). xs ++ flat_map byte_bits (packed n (drop 8 bits))) (byte-back (take 8 bits) (length-take-le 8 bits long) (bits-take 8 bits are))
    ∙ ap (λ (xs : List ℕ). take 8 bits ++ xs) (packed-bits n z (drop 8 bits) (bits-drop 8 bits are) left few)
    ∙ sym (append_assoc (take 8 bits) (drop 8 bits) (replicate z 0))
    ∙ ap (λ (xs : List ℕ). xs ++ replicate z 0) (take-append-drop 8 bits))
    (cases_lt (length bits) 8)
