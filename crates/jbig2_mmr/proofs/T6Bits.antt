-- Bits of bytes, their numbers, and the codes that begin them.
use Rattle.std.proofs.Common.{◌≡◌, ℕ, zero, suc, ◌+◌, ◌-◌, ◌*◌, ◌/◌, ◌%◌, ◌^◌, ◌<◌, ◌≤◌, Bool, true, false, ◌&&◌, eqb, leb, List, [], ◌∷◌, ◌++◌, length, take, drop, replicate, get_or, min, refl, sym, ap, subst, ◌∙◌, ⊎_elim, arith}
use Rattle.std.specs.List.{flat_map}
use Rattle.std.proofs.lemmas.Nat.{pow-add, shr-shr, mod_low, shr_high, shl_below}
use Rattle.std.proofs.lemmas.List.{take-replicate, length-drop, take-append-drop, drop-append-le, take-append-le}
use Rattle.std.proofs.lemmas.Bool.{cases_eq, cond-true, cond-false, and_left, le-leb, lt-leb}
use Rattle.jbig2_base.specs.Bits.{byte_bits, number_after}
use Rattle.jbig2_base.specs.inner.BitLists.{AreBits}
use Rattle.jbig2_base.proofs.BitFieldLemmas.{bits-drop, byte-bits}
use Rattle.jbig2_base.proofs.NumberLemmas.{length-bits, number-both, number-lt}
use Rattle.jbig2_mmr.specs.T6.{ends_block}
use Rattle.jbig2_mmr.specs.inner.T6Reading.{after_end, spell, padded_bits}

-- ---- places
-- a place at the end has no bit read
pub within-bits : (byte bit len n : ℕ) → byte ≤ len → bit < 8 → (byte ≡ len → bit ≡ 0) → n ≤ 8 * (len - byte) - bit → bit + n ≤ 8 * (len - byte)
within-bits byte bit len n inside few end there =
    ⊎_elim (λ (e : byte ≡ len). let none = end e in omega arith) (λ (o : byte ≡ len → ⊥). let before : byte < len = omega (arith, o) in omega arith) (cases_eq byte len)

pub place-within : (byte bit len n : ℕ) → byte ≤ len → bit < 8 → (byte ≡ len → bit ≡ 0) → n ≤ 8 * (len - byte) - bit → (byte + (bit + n) / 8 ≤ len) × ((bit + n) % 8 < 8) × (byte + (bit + n) / 8 ≡ len → (bit + n) % 8 ≡ 0)
place-within byte bit len n inside few end there = let fits = within-bits byte bit len n inside few end there in (omega arith, omega arith, λ e. omega arith)

pub used-opening : (byte bit len left : ℕ) → byte ≤ len → bit < 8 → (byte ≡ len → bit ≡ 0) → left ≡ 8 * (len - byte) - bit → 0 < bit → byte + 1 ≡ len - left / 8
used-opening byte bit len left inside few end e some =
    ⊎_elim (λ (h : byte ≡ len). let none = end h in absurd (omega arith)) (λ (o : byte ≡ len → ⊥). let before : byte < len = omega (arith, o) in omega arith) (cases_eq byte len)

-- ---- numbers
byte-number : (b : ℕ) → b < 256 → number_after 0 (byte_bits b) ≡ b
byte-number b h = omega arith

-- ---- a window of 32 bits
arrange : (a y r k n m : ℕ) → k + (n + m) ≡ 32 → ((a * 2 ^ (n + m) + (y * 2 ^ m + r)) * 2 ^ k) ≡ a * 2 ^ 32 + (y * 2 ^ (m + k) + r * 2 ^ k)
arrange a y r k n m e =
    let whole : 2 ^ 32 ≡ 2 ^ (n + m) * 2 ^ k = ap (λ (i : ℕ). 2 ^ i) (let f : 32 ≡ n + m + k = omega arith in f) ∙ pow-add 2 (n + m) k in
    let part : 2 ^ (m + k) ≡ 2 ^ m * 2 ^ k = pow-add 2 m k in
    spread a y r (2 ^ (n + m)) (2 ^ m) (2 ^ k)
    ∙ ap (λ (p : ℕ). a * p + (y * (2 ^ m * 2 ^ k) + r * 2 ^ k)) (sym whole)
    ∙ ap (λ (p : ℕ). a * 2 ^ 32 + (y * p + r * 2 ^ k)) (sym part)
  where
    spread : (a y r p q s : ℕ) → (a * p + (y * q + r)) * s ≡ a * (p * s) + (y * (q * s) + r * s)
    spread a y r p q s = omega arith

window-split : (a y r k n m : ℕ) → k + (n + m) ≡ 32 → k < 8 → n ≤ 24 → y * 2 ^ m + r < 2 ^ (n + m) → r < 2 ^ m → (a * 2 ^ (n + m) + (y * 2 ^ m + r)) * 2 ^ k % 2 ^ 32 / 2 ^ 8 / 2 ^ (24 - n) ≡ y
window-split a y r k n m e few short inside low =
    let width : n + m + k ≡ 32 = omega arith in
    let shift : 8 + (24 - n) ≡ m + k = omega arith in
    let part : y * 2 ^ (m + k) + r * 2 ^ k ≡ (y * 2 ^ m + r) * 2 ^ k = ap (λ (p : ℕ). y * p + r * 2 ^ k) (pow-add 2 m k) ∙ fold y r (2 ^ m) (2 ^ k) in
    let small : y * 2 ^ (m + k) + r * 2 ^ k < 2 ^ 32 = subst (λ (i : ℕ). y * 2 ^ (m + k) + r * 2 ^ k < 2 ^ i) width (subst (λ (v : ℕ). v < 2 ^ (n + m + k)) (sym part) (shl_below (y * 2 ^ m + r) (n + m) k inside)) in
    ap (λ (v : ℕ). v % 2 ^ 32 / 2 ^ 8 / 2 ^ (24 - n)) (arrange a y r k n m e)
    ∙ ap (λ (v : ℕ). v / 2 ^ 8 / 2 ^ (24 - n)) (mod_low a 32 (y * 2 ^ (m + k) + r * 2 ^ k) small)
    ∙ shr-shr (y * 2 ^ (m + k) + r * 2 ^ k) 8 (24 - n)
    ∙ ap (λ (i : ℕ). (y * 2 ^ (m + k) + r * 2 ^ k) / 2 ^ i) shift
    ∙ shr_high y (m + k) (r * 2 ^ k) (shl_below r m k low)
  where
    fold : (y r p s : ℕ) → y * (p * s) + r * s ≡ (y * p + r) * s
    fold y r p s = omega arith

window-bits : (zs : List ℕ) (k n : ℕ) → AreBits zs → length zs ≡ 32 → k < 8 → n ≤ 24 → number_after 0 zs * 2 ^ k % 2 ^ 32 / 2 ^ 8 / 2 ^ (24 - n) ≡ number_after 0 (take n (drop k zs))
window-bits zs k n bits whole few short =
    let xs : List ℕ = take k zs in
    let rest : List ℕ = drop k zs in
    let ys : List ℕ = take n rest in
    let rs : List ℕ = drop n rest in
    let m : ℕ = length rs in
    let rest_length : length rest ≡ 32 - k = length-drop k zs ∙ ap (λ (i : ℕ). i - k) whole in
    let rs_length : m ≡ 32 - k - n = length-drop n rest ∙ ap (λ (i : ℕ). i - n) rest_length in
    let width : n + m ≡ length rest = omega arith in
    let inner : number_after 0 rest ≡ number_after 0 ys * 2 ^ m + number_after 0 rs = ap (λ (l : List ℕ). number_after 0 l) (sym (take-append-drop n rest)) ∙ number-both ys rs in
    let outer : number_after 0 zs ≡ number_after 0 xs * 2 ^ (n + m) + (number_after 0 ys * 2 ^ m + number_after 0 rs) =
    ap (λ (l : List ℕ). number_after 0 l) (sym (take-append-drop k zs)) ∙ number-both xs rest
    ∙ ap (λ (i : ℕ). number_after 0 xs * 2 ^ i + number_after 0 rest) (sym width)
    ∙ ap (λ (i : ℕ). number_after 0 xs * 2 ^ (n + m) + i) inner in
    let inside : number_after 0 ys * 2 ^ m + number_after 0 rs < 2 ^ (n + m) =
    subst (λ (i : ℕ). i < 2 ^ (n + m)) inner (subst (λ (i : ℕ). number_after 0 rest < 2 ^ i) (sym width) (number-lt rest (bits-drop k zs bits))) in
    ap (λ (v : ℕ). v * 2 ^ k % 2 ^ 32 / 2 ^ 8 / 2 ^ (24 - n)) outer
    ∙ window-split (number_after 0 xs) (number_after 0 ys) (number_after 0 rs) k n m (omega arith) few short inside (number-lt rs (bits-drop n rest (bits-drop k zs bits)))

-- four bytes, zeros after the end
abbrev four : List ℕ → List ℕ
four ps = get_or ps 0 0 ∷ get_or ps 1 0 ∷ get_or ps 2 0 ∷ get_or ps 3 0 ∷ []

front-same : (xs ys : List ℕ) (k n : ℕ) → k + n ≤ length xs → take n (drop k (xs ++ ys)) ≡ take n (drop k xs)
front-same xs ys k n inside =
    ap (λ (l : List ℕ). take n l) (drop-append-le k xs ys (omega arith))
    ∙ take-append-le n (drop k xs) ys (omega (arith, length-drop k xs))

four-bits : (ps : List ℕ) (k n : ℕ) → k < 8 → n ≤ 24 → k + n ≤ length (flat_map byte_bits ps) → take n (drop k (flat_map byte_bits (four ps))) ≡ take n (drop k (flat_map byte_bits ps))
four-bits [] k n few short inside = front-same [] (flat_map byte_bits (four [])) k n inside
four-bits (a ∷ []) k n few short inside = front-same (byte_bits a) (flat_map byte_bits (0 ∷ 0 ∷ 0 ∷ [])) k n inside
four-bits (a ∷ b ∷ []) k n few short inside = front-same (flat_map byte_bits (a ∷ b ∷ [])) (flat_map byte_bits (0 ∷ 0 ∷ [])) k n inside
four-bits (a ∷ b ∷ c ∷ []) k n few short inside = front-same (flat_map byte_bits (a ∷ b ∷ c ∷ [])) (flat_map byte_bits (0 ∷ [])) k n inside
four-bits (a ∷ b ∷ c ∷ d ∷ ps) k n few short inside = sym (front-same (flat_map byte_bits (a ∷ b ∷ c ∷ d ∷ [])) (flat_map byte_bits ps) k n (omega arith))

-- bits with zeros after them, as far as the zeros reach
zeros-same : (n : ℕ) (xs : List ℕ) (p q : ℕ) → n ≤ length xs + p → n ≤ length xs + q → take n (xs ++ replicate p 0) ≡ take n (xs ++ replicate q 0)
zeros-same n [] p q short enough = take-replicate n p 0 (omega arith) ∙ sym (take-replicate n q 0 (omega arith))
zeros-same zero (x ∷ xs) p q short enough = refl
zeros-same (suc n) (x ∷ xs) p q short enough = ap (λ (ys : List ℕ). x ∷ ys) (zeros-same n xs p q (omega arith) (omega arith))

zeros-following : (xs : List ℕ) (k n p : ℕ) → k ≤ length xs → n ≤ 24 → k + n ≤ length xs + p → take n (drop k (xs ++ replicate p 0)) ≡ take n (drop k xs ++ replicate 24 0)
zeros-following xs k n p inside few enough =
    ap (λ (ys : List ℕ). take n ys) (drop-append-le k xs (replicate p 0) inside)
    ∙ zeros-same n (drop k xs) p 24 (omega (arith, length-drop k xs)) (omega arith)

four-padded : (ps : List ℕ) (k n : ℕ) → k < 8 → n ≤ 24 → k ≤ length (flat_map byte_bits ps) → take n (drop k (flat_map byte_bits (four ps))) ≡ take n (drop k (flat_map byte_bits ps) ++ replicate 24 0)
four-padded [] k n few short inside = zeros-following [] k n 32 inside short (omega arith)
four-padded (a ∷ []) k n few short inside = zeros-following (byte_bits a) k n 24 inside short (omega arith)
four-padded (a ∷ b ∷ []) k n few short inside = zeros-following (flat_map byte_bits (a ∷ b ∷ [])) k n 16 inside short (omega arith)
four-padded (a ∷ b ∷ c ∷ []) k n few short inside = zeros-following (flat_map byte_bits (a ∷ b ∷ c ∷ [])) k n 8 inside short (omega arith)
four-padded (a ∷ b ∷ c ∷ d ∷ ps) k n few short inside =
    let rest : List ℕ = drop k (flat_map byte_bits (a ∷ b ∷ c ∷ d ∷ ps)) in
    four-bits (a ∷ b ∷ c ∷ d ∷ ps) k n few short (omega (arith, length-bits (a ∷ b ∷ c ∷ d ∷ ps)))
    ∙ sym (take-append-le n rest (replicate 24 0) (omega (arith, length-drop k (flat_map byte_bits (a ∷ b ∷ c ∷ d ∷ ps)), length-bits (a ∷ b ∷ c ∷ d ∷ ps))))

byte-front : (b : ℕ) (bytes : List ℕ) → b < 256 → number_after 0 (flat_map byte_bits (b ∷ bytes)) ≡ b * 2 ^ (8 * length bytes) + number_after 0 (flat_map byte_bits bytes)
byte-front b bytes h =
    number-both (byte_bits b) (flat_map byte_bits bytes)
    ∙ ap (λ (v : ℕ). v * 2 ^ length (flat_map byte_bits bytes) + number_after 0 (flat_map byte_bits bytes)) (byte-number b h)
    ∙ ap (λ (i : ℕ). b * 2 ^ i + number_after 0 (flat_map byte_bits bytes)) (length-bits bytes)

four-number : (a b c d : ℕ) → a < 256 → b < 256 → c < 256 → d < 256 → number_after 0 (flat_map byte_bits (a ∷ b ∷ c ∷ d ∷ [])) ≡ a * 16777216 + (b * 65536 + (c * 256 + d))
four-number a b c d p q r s =
    byte-front a (b ∷ c ∷ d ∷ []) p
    ∙ ap (λ (v : ℕ). a * 16777216 + v) (byte-front b (c ∷ d ∷ []) q ∙ ap (λ (v : ℕ). b * 65536 + v) (byte-front c (d ∷ []) r ∙ ap (λ (v : ℕ). c * 256 + v) (byte-number d s)))

pub window-is : (word a b c d : ℕ) (ps : List ℕ) (k n : ℕ) → word ≡ a * 16777216 + (b * 65536 + (c * 256 + d)) → a ≡ get_or ps 0 0 → b ≡ get_or ps 1 0 → c ≡ get_or ps 2 0 → d ≡ get_or ps 3 0 → a < 256 → b < 256 → c < 256 → d < 256 → k < 8 → n ≤ 24 → k ≤ length (flat_map byte_bits ps) → word * 2 ^ k % 2 ^ 32 / 2 ^ 8 / 2 ^ (24 - n) ≡ number_after 0 (take n (drop k (flat_map byte_bits ps) ++ replicate 24 0))
window-is word a b c d ps k n e ea eb ec ed p q r s few short inside =
    let same : flat_map byte_bits (a ∷ b ∷ c ∷ d ∷ []) ≡ flat_map byte_bits (four ps) = ap (λ (l : List ℕ). flat_map byte_bits l) (let l : a ∷ b ∷ c ∷ d ∷ [] ≡ four ps = cc in l) in
    ap (λ (v : ℕ). v * 2 ^ k % 2 ^ 32 / 2 ^ 8 / 2 ^ (24 - n)) (e ∙ sym (four-number a b c d p q r s))
    ∙ window-bits (flat_map byte_bits (a ∷ b ∷ c ∷ d ∷ [])) k n (byte-bits (a ∷ b ∷ c ∷ d ∷ [])) refl few short
    ∙ ap (λ (l : List ℕ). number_after 0 (take n (drop k l))) same
    ∙ ap (λ (l : List ℕ). number_after 0 l) (four-padded ps k n few short inside)

-- ---- bits that a number spells
pub spell-length : (n v : ℕ) (xs : List ℕ) → length (spell n v xs) ≡ n + length xs
spell-length zero v xs = omega arith
spell-length (suc n) v xs = spell-length n (v / 2) (v % 2 ∷ xs) ∙ omega arith

-- what a window of 24 bits says of the bits
pub record IsWindow (window few : ℕ) (bits : List ℕ) : Type 0 where
  pub few_is : few ≡ min 24 (length bits)
  pub value : (n : ℕ) → n ≤ 24 → window / 2 ^ (24 - n) ≡ number_after 0 (take n (padded_bits bits))
  pub are : AreBits bits

-- ---- the end of block
pub end-short : (bits : List ℕ) → length bits < 24 → ends_block bits ≡ false
unfolding ends_block
end-short bits short = and_left (leb 24 (length bits)) (eqb (number_after 0 (take 24 bits)) 0x001001) (lt-leb 24 (length bits) short)

pub end-is : (window few : ℕ) (bits : List ℕ) → IsWindow window few bits → 24 ≤ few → ends_block bits ≡ eqb window 0x001001
unfolding ends_block
end-is window few bits known enough =
    let there : 24 ≤ length bits = omega (arith, known.few_is) in
    let one : window / 2 ^ (24 - 24) ≡ window = omega arith in
    ap (λ (t : Bool). t && eqb (number_after 0 (take 24 bits)) 0x001001) (le-leb 24 (length bits) there)
    ∙ ap (λ (v : ℕ). eqb v 0x001001) (sym (known.value 24 (omega arith) ∙ ap (λ (ys : List ℕ). number_after 0 ys) (take-append-le 24 bits (replicate 24 0) there)) ∙ one)

pub end-after : (bits : List ℕ) → ends_block bits ≡ true → after_end bits ≡ drop 24 bits
end-after bits e = cond-true (ends_block bits) (drop 24 bits) bits e

pub end-none : (bits : List ℕ) → ends_block bits ≡ false → after_end bits ≡ bits
end-none bits e = cond-false (ends_block bits) (drop 24 bits) bits e
