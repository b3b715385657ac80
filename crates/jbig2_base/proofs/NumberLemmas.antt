-- The numbers of bits and of bytes.
use Rattle.std.proofs.Common.{◌≡◌, ℕ, zero, suc, ◌+◌, ◌-◌, ◌*◌, ◌/◌, ◌%◌, ◌^◌, ◌<◌, ◌≤◌, ltb, List, [], ◌∷◌, ◌++◌, length, take, drop, get_or, min, Option, Some, None, refl, sym, ◌∙◌, ap, subst, arith, pow-suc, zero-add, ⊎_elim, length-drop}
use Rattle.std.specs.List.{flat_map}
use Rattle.std.specs.Int.{w64, from_be_bytes}
use Rattle.std.proofs.Math.Nat.{pow-le-pow_right}
use Rattle.std.proofs.lemmas.Nat.{pow-add, mod_low, shr_high}
use Rattle.std.proofs.lemmas.Grind.{flat_map-append}
use Rattle.std.proofs.lemmas.Bool.{cases_eq, cond-true, cond-false, lt-ltb, le-ltb}
use Rattle.std.proofs.lemmas.List.{length-take, take-append-drop, drop-append-le, take-append-le, drop-drop, drop_all}
use Rattle.jbig2_base.specs.Bits.{start_of, byte_bits, bits_left, bits_next, bits_on, number_after}
use Rattle.jbig2_base.specs.inner.BitLists.{AreBits}
use Rattle.jbig2_base.proofs.BitFieldLemmas.{bits-drop, bits-take, byte-bits, number-below}
use Rattle.jbig2_base.proofs.ReaderLemmas.{place_in, bits_on-enough, bits_on-past}

regroup : (f b p n : ℕ) → (2 * f + b) * p + n ≡ f * (2 * p) + (b * p + n)
regroup f b p n = omega arith

pub number-front : (f : ℕ) (xs : List ℕ) → number_after f xs ≡ f * 2 ^ length xs + number_after 0 xs
number-front f [] = omega arith
number-front f (b ∷ xs) =
    let p : ℕ = 2 ^ length xs in
    let twice : 2 ^ length (b ∷ xs) ≡ 2 * p = rw pow-suc (omega arith) in
    number-front (2 * f + b) xs
    ∙ regroup f b p (number_after 0 xs)
    ∙ ap (λ (q : ℕ). f * q + (b * p + number_after 0 xs)) (sym twice)
    ∙ ap (λ (n : ℕ). f * 2 ^ length (b ∷ xs) + n) (sym (ap (λ (i : ℕ). number_after i xs) (zero-add b) ∙ number-front b xs))

number-append : (f : ℕ) (xs ys : List ℕ) → number_after f (xs ++ ys) ≡ number_after (number_after f xs) ys
number-append f [] ys = refl
number-append f (x ∷ xs) ys = number-append (2 * f + x) xs ys

pub number-both : (xs ys : List ℕ) → number_after 0 (xs ++ ys) ≡ number_after 0 xs * 2 ^ length ys + number_after 0 ys
number-both xs ys = number-append 0 xs ys ∙ number-front (number_after 0 xs) ys

pub number-lt : (xs : List ℕ) → AreBits xs → number_after 0 xs < 2 ^ length xs
number-lt xs are = let below = number-below 0 xs are in omega arith

-- the number of a part: n bits, with t after them
number-part : (zs : List ℕ) (k n t : ℕ) → AreBits zs → length zs ≡ k + n + t → number_after 0 zs / 2 ^ t % 2 ^ n ≡ number_after 0 (take n (drop k zs))
number-part zs k n t are whole =
    let front : List ℕ = take k zs in
    let rest : List ℕ = drop k zs in
    let part : List ℕ = take n rest in
    let back : List ℕ = drop n rest in
    let a : ℕ = number_after 0 front in
    let y : ℕ = number_after 0 part in
    let r : ℕ = number_after 0 back in
    let rest_size : length rest ≡ n + t = length-drop k zs ∙ omega arith in
    let back_size : length back ≡ t = length-drop n rest ∙ omega arith in
    let part_size : length part ≡ n = length-take n rest ∙ (let e : min n (length rest) ≡ n = omega arith in e) in
    let low : r < 2 ^ t = subst (λ (i : ℕ). r < 2 ^ i) back_size (number-lt back (bits-drop n rest (bits-drop k zs are))) in
    let high : y < 2 ^ n = subst (λ (i : ℕ). y < 2 ^ i) part_size (number-lt part (bits-take n rest (bits-drop k zs are))) in
    let inner : number_after 0 rest ≡ y * 2 ^ t + r =
    ap (λ (l : List ℕ). number_after 0 l) (sym (take-append-drop n rest)) ∙ number-both part back ∙ ap (λ (i : ℕ). y * 2 ^ i + r) back_size in
    let outer : number_after 0 zs ≡ (a * 2 ^ n + y) * 2 ^ t + r =
    ap (λ (l : List ℕ). number_after 0 l) (sym (take-append-drop k zs)) ∙ number-both front rest
    ∙ ap (λ (i : ℕ). a * 2 ^ i + number_after 0 rest) rest_size
    ∙ ap (λ (i : ℕ). a * i + number_after 0 rest) (pow-add 2 n t)
    ∙ ap (λ (i : ℕ). a * (2 ^ n * 2 ^ t) + i) inner
    ∙ spread a y r (2 ^ n) (2 ^ t) in
    ap (λ (v : ℕ). v / 2 ^ t % 2 ^ n) outer
    ∙ ap (λ (v : ℕ). v % 2 ^ n) (shr_high (a * 2 ^ n + y) t r low)
    ∙ mod_low a n y high
  where
    spread : (a y r p q : ℕ) → a * (p * q) + (y * q + r) ≡ (a * p + y) * q + r
    spread a y r p q = omega arith

pub length-bits : (bytes : List ℕ) → length (flat_map byte_bits bytes) ≡ 8 * length bytes
length-bits [] = refl
length-bits (b ∷ bytes) = let rest = length-bits bytes in omega arith

length-left : (bytes : List ℕ) (k : ℕ) → length (bits_left (record { bytes = bytes; bit = k })) ≡ 8 * length bytes - k
unfolding bits_left
length-left bytes k = length-drop k (flat_map byte_bits bytes) ∙ ap (λ (n : ℕ). n - k) (length-bits bytes)

byte-after : (f b : ℕ) → b < 256 → number_after f (byte_bits b) ≡ 256 * f + b
byte-after f b h = omega arith

-- one byte more
pub number-push_byte : (bytes : List ℕ) (b : ℕ) → b < 256 → number_after 0 (flat_map byte_bits (bytes ++ b ∷ [])) ≡ 256 * number_after 0 (flat_map byte_bits bytes) + b
number-push_byte bytes b h =
    ap (λ (l : List ℕ). number_after 0 l) (flat_map-append byte_bits bytes (b ∷ []))
    ∙ number-append 0 (flat_map byte_bits bytes) (byte_bits b)
    ∙ byte-after (number_after 0 (flat_map byte_bits bytes)) b h

byte-then : (f b : ℕ) (bytes : List ℕ) → b < 256 → number_after f (flat_map byte_bits (b ∷ bytes)) ≡ number_after (256 * f + b) (flat_map byte_bits bytes)
byte-then f b bytes h = ap (λ (v : ℕ). number_after v (flat_map byte_bits bytes)) (byte-after f b h)

-- seven bytes leave room for one more
pub number-small : (bytes : List ℕ) → length bytes < 8 → 256 * number_after 0 (flat_map byte_bits bytes) + 255 < 2 ^ 64
number-small bytes few =
    let below = number-lt (flat_map byte_bits bytes) (byte-bits bytes) in
    let size = length-bits bytes in
    let most : 2 ^ length (flat_map byte_bits bytes) ≤ 2 ^ 56 = pow-le-pow_right {n = 2} (omega arith) {i = length (flat_map byte_bits bytes)} {j = 56} (omega arith) in
    omega arith

-- the first eight bytes as `from_be_bytes` gives them
pub number-eight : (bytes : List ℕ) (n a b c d e f g h : ℕ) → 8 ≤ length bytes → a ≡ get_or bytes 0 0 → b ≡ get_or bytes 1 0 → c ≡ get_or bytes 2 0 → d ≡ get_or bytes 3 0 → e ≡ get_or bytes 4 0 → f ≡ get_or bytes 5 0 → g ≡ get_or bytes 6 0 → h ≡ get_or bytes 7 0 → a < 256 → b < 256 → c < 256 → d < 256 → e < 256 → f < 256 → g < 256 → h < 256 → n ≡ from_be_bytes w64 (a ∷ b ∷ c ∷ d ∷ e ∷ f ∷ g ∷ h ∷ []) → n ≡ number_after 0 (flat_map byte_bits (take 8 bytes))
number-eight bytes n a b c d e f g h enough ia ib ic id ie if_ ig ih sa sb sc sd se sf sg sh is =
    let first : take 8 bytes ≡ a ∷ b ∷ c ∷ d ∷ e ∷ f ∷ g ∷ h ∷ [] = front bytes enough ∙ (let same : get_or bytes 0 0 ∷ get_or bytes 1 0 ∷ get_or bytes 2 0 ∷ get_or bytes 3 0 ∷ get_or bytes 4 0 ∷ get_or bytes 5 0 ∷ get_or bytes 6 0 ∷ get_or bytes 7 0 ∷ [] ≡ a ∷ b ∷ c ∷ d ∷ e ∷ f ∷ g ∷ h ∷ [] = cc in same) in
    let spelled : number_after 0 (flat_map byte_bits (a ∷ b ∷ c ∷ d ∷ e ∷ f ∷ g ∷ h ∷ [])) ≡ 256 * (256 * (256 * (256 * (256 * (256 * (256 * (256 * 0 + a) + b) + c) + d) + e) + f) + g) + h =
    byte-then 0 a (b ∷ c ∷ d ∷ e ∷ f ∷ g ∷ h ∷ []) sa
    ∙ byte-then (256 * 0 + a) b (c ∷ d ∷ e ∷ f ∷ g ∷ h ∷ []) sb
    ∙ byte-then (256 * (256 * 0 + a) + b) c (d ∷ e ∷ f ∷ g ∷ h ∷ []) sc
    ∙ byte-then (256 * (256 * (256 * 0 + a) + b) + c) d (e ∷ f ∷ g ∷ h ∷ []) sd
    ∙ byte-then (256 * (256 * (256 * (256 * 0 + a) + b) + c) + d) e (f ∷ g ∷ h ∷ []) se
    ∙ byte-then (256 * (256 * (256 * (256 * (256 * 0 + a) + b) + c) + d) + e) f (g ∷ h ∷ []) sf
    ∙ byte-then (256 * (256 * (256 * (256 * (256 * (256 * 0 + a) + b) + c) + d) + e) + f) g (h ∷ []) sg
    ∙ byte-then (256 * (256 * (256 * (256 * (256 * (256 * (256 * 0 + a) + b) + c) + d) + e) + f) + g) h [] sh in
    is ∙ sum a b c d e f g h ∙ sym spelled ∙ ap (λ (l : List ℕ). number_after 0 (flat_map byte_bits l)) (sym first)
  where
    front : (xs : List ℕ) → 8 ≤ length xs → take 8 xs ≡ get_or xs 0 0 ∷ get_or xs 1 0 ∷ get_or xs 2 0 ∷ get_or xs 3 0 ∷ get_or xs 4 0 ∷ get_or xs 5 0 ∷ get_or xs 6 0 ∷ get_or xs 7 0 ∷ []
    front [] many = absurd (omega arith)
    front (a ∷ []) many = absurd (omega arith)
    front (a ∷ b ∷ []) many = absurd (omega arith)
    front (a ∷ b ∷ c ∷ []) many = absurd (omega arith)
    front (a ∷ b ∷ c ∷ d ∷ []) many = absurd (omega arith)
    front (a ∷ b ∷ c ∷ d ∷ e ∷ []) many = absurd (omega arith)
    front (a ∷ b ∷ c ∷ d ∷ e ∷ f ∷ []) many = absurd (omega arith)
    front (a ∷ b ∷ c ∷ d ∷ e ∷ f ∷ g ∷ []) many = absurd (omega arith)
    front (a ∷ b ∷ c ∷ d ∷ e ∷ f ∷ g ∷ h ∷ xs) many = refl

    sum : (a b c d e f g h : ℕ) → from_be_bytes w64 (a ∷ b ∷ c ∷ d ∷ e ∷ f ∷ g ∷ h ∷ []) ≡ 256 * (256 * (256 * (256 * (256 * (256 * (256 * (256 * 0 + a) + b) + c) + d) + e) + f) + g) + h
    sum a b c d e f g h = omega arith

-- the next n bits, from the first eight bytes as a number, of which k bits are read
pub peeked : (bytes : List ℕ) (k n word count : ℕ) → word ≡ number_after 0 (flat_map byte_bits (take 8 bytes)) → count ≡ min 8 (length bytes) → k + n ≤ 8 * count → ◌≡◌ {A = Option ℕ} (Some (word / 2 ^ (8 * count - (k + n)) % 2 ^ n)) (bits_next n (bits_left (record { bytes = bytes; bit = k })))
unfolding bits_left
peeked bytes k n word count spelled size inside =
    let zs : List ℕ = flat_map byte_bits (take 8 bytes) in
    let rest : List ℕ = flat_map byte_bits (drop 8 bytes) in
    let all : zs ++ rest ≡ flat_map byte_bits bytes = sym (flat_map-append byte_bits (take 8 bytes) (drop 8 bytes)) ∙ ap (λ (l : List ℕ). flat_map byte_bits l) (take-append-drop 8 bytes) in
    let left : List ℕ = drop k (flat_map byte_bits bytes) in
    let whole : length zs ≡ k + n + (8 * count - (k + n)) = length-bits (take 8 bytes) ∙ ap (λ (m : ℕ). 8 * m) (length-take 8 bytes) ∙ omega arith in
    let enough : n ≤ length left = omega (arith, length-left bytes k) in
    let same : take n left ≡ take n (drop k zs) =
    ap (λ (l : List ℕ). take n (drop k l)) (sym all)
    ∙ ap (λ (l : List ℕ). take n l) (drop-append-le k zs rest (omega arith))
    ∙ take-append-le n (drop k zs) rest (omega (arith, length-drop k zs)) in
    ap (λ (v : ℕ). Some v)
    (ap (λ (v : ℕ). v / 2 ^ (8 * count - (k + n)) % 2 ^ n) spelled
    ∙ number-part zs k n (8 * count - (k + n)) (byte-bits (take 8 bytes)) whole
    ∙ ap (λ (l : List ℕ). number_after 0 l) (sym same))
    ∙ sym (cond-false (ltb (length left) n) None (Some (number_after 0 (take n left))) (le-ltb (length left) n enough))

-- there are fewer bits
pub peeked-none : (bytes : List ℕ) (k n count : ℕ) → 0 < n → n ≤ 32 → k < 8 → count ≡ min 8 (length bytes) → 8 * count < k + n → ◌≡◌ {A = Option ℕ} None (bits_next n (bits_left (record { bytes = bytes; bit = k })))
peeked-none bytes k n count some most opening size past =
    let left : List ℕ = bits_left (record { bytes = bytes; bit = k }) in
    sym (cond-true (ltb (length left) n) None (Some (number_after 0 (take n left))) (lt-ltb (length left) n (omega (arith, length-left bytes k))))

-- Whole bytes dropped.
drop-bytes : (q : ℕ) (bytes : List ℕ) → drop (8 * q) (flat_map byte_bits bytes) ≡ flat_map byte_bits (drop q bytes)
drop-bytes zero bytes = refl
drop-bytes (suc q) [] = drop_all (8 * suc q) [] (omega arith)
drop-bytes (suc q) (b ∷ bytes) =
    let more : 8 * suc q ≡ 8 + 8 * q = omega arith in
    ap (λ (n : ℕ). drop n (flat_map byte_bits (b ∷ bytes))) more
    ∙ sym (drop-drop (8 * q) 8 (flat_map byte_bits (b ∷ bytes)))
    ∙ drop-bytes q bytes

-- count bits on, at byte i and bit k
pub bits-on : (xs : List ℕ) (i k count : ℕ) → drop ((k + count) % 8) (flat_map byte_bits (drop (i + (k + count) / 8) xs)) ≡ drop count (drop k (flat_map byte_bits (drop i xs)))
bits-on xs i k count =
    let q : ℕ = (k + count) / 8 in
    let r : ℕ = (k + count) % 8 in
    let whole : 8 * q + r ≡ k + count = omega arith in
    ap (λ (ys : List ℕ). drop r (flat_map byte_bits ys)) (sym (drop-drop q i xs))
    ∙ ap (λ (ys : List ℕ). drop r ys) (sym (drop-bytes q (drop i xs)))
    ∙ drop-drop r (8 * q) (flat_map byte_bits (drop i xs))
    ∙ ap (λ (n : ℕ). drop n (flat_map byte_bits (drop i xs))) whole
    ∙ sym (drop-drop count k (flat_map byte_bits (drop i xs)))

pub rest-on : (xs : List ℕ) (i k count : ℕ) → bits_left (place_in xs (i + (k + count) / 8) ((k + count) % 8)) ≡ drop count (bits_left (place_in xs i k))
unfolding bits_left
rest-on xs i k count = bits-on xs i k count

-- how many bits are left at byte i and bit k
pub length-at : (xs : List ℕ) (i k : ℕ) → length (drop k (flat_map byte_bits (drop i xs))) ≡ 8 * (length xs - i) - k
length-at xs i k = length-drop k (flat_map byte_bits (drop i xs)) ∙ ap (λ (n : ℕ). n - k) (length-bits (drop i xs) ∙ ap (λ (n : ℕ). 8 * n) (length-drop i xs))

left-at : (xs : List ℕ) (i k : ℕ) → length (bits_left (place_in xs i k)) ≡ 8 * (length xs - i) - k
unfolding bits_left
left-at xs i k = length-at xs i k

pub place-on : (xs : List ℕ) (i k count : ℕ) → (k + count + 7) / 8 ≤ length xs - i → place_in xs (i + (k + count) / 8) ((k + count) % 8) ≡ bits_on count (place_in xs i k)
place-on xs i k count inside =
    ap (λ (ys : List ℕ). record { bytes = ys; bit = (k + count) % 8 }) (sym (drop-drop ((k + count) / 8) i xs))
    ∙ sym (bits_on-enough count (place_in xs i k) (omega (arith, left-at xs i k)))

pub place-past : (xs : List ℕ) (i k count : ℕ) → k < 8 → (i ≡ length xs → k ≡ 0) → i ≤ length xs → length xs - i < (k + count + 7) / 8 → place_in xs (length xs) 0 ≡ bits_on count (place_in xs i k)
place-past xs i k count opening end within past =
    let size = left-at xs i k in
    let short : length (bits_left (place_in xs i k)) < count =
    ⊎_elim (λ (e : i ≡ length xs). let none = end e in omega arith) (λ (o : i ≡ length xs → ⊥). let before : i < length xs = omega (arith, o) in omega arith) (cases_eq i (length xs)) in
    ap (λ (ys : List ℕ). start_of ys) (drop_all (length xs) xs (omega arith))
    ∙ sym (bits_on-past count (place_in xs i k) short)

pub rest-past : (xs : List ℕ) (i k count : ℕ) → length xs - i < (k + count + 7) / 8 → bits_left (place_in xs (length xs) 0) ≡ drop count (bits_left (place_in xs i k))
unfolding bits_left
rest-past xs i k count past =
    ap (λ (ys : List ℕ). flat_map byte_bits ys) (drop_all (length xs) xs (omega arith))
    ∙ sym (drop_all count (bits_left (place_in xs i k)) (omega (arith, left-at xs i k)))

-- `1 << n` in 64 bits
pub one-shl : (n : ℕ) → n ≤ 32 → 1 * 2 ^ n % 2 ^ 64 ≡ 2 ^ n
one-shl n few =
    let most : 2 ^ n ≤ 2 ^ 32 = pow-le-pow_right {n = 2} (omega arith) {i = n} {j = 32} few in
    omega arith
