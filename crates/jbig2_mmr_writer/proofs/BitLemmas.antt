-- Bits that go into bytes: how numbers of bits fall apart and come together, and what `packed` makes of whole bytes.
use Rattle.std.proofs.Common.{◌≡◌, ℕ, zero, suc, ◌+◌, ◌-◌, ◌*◌, ◌/◌, ◌%◌, ◌^◌, ◌<◌, ◌≤◌, List, [], ◌∷◌, ◌++◌, length, take, replicate, All, refl, sym, ◌∙◌, ap, subst, pow-suc, pow_mono, append_assoc, append-nil, length-append, arith}
use Rattle.std.specs.List.{flat_map}
use Rattle.std.proofs.lemmas.Nat.{div-add-mod', mod_below, mul-add-lt, one_shl, pow-add, pow_pos, shl_below, shl_whole, shr-shr, shr_below, shr_high}
use Rattle.std.proofs.lemmas.List.Elements.{All-head, All-push, All-same, All-tail}
use Rattle.std.proofs.lemmas.Grind.{flat_map-append}
use Rattle.jbig2_base.specs.Bits.{byte_bits, number_after}
use Rattle.jbig2_base.proofs.NumberLemmas.{length-bits}
use Rattle.jbig2_inverses.specs.MmrWriter.{packed}
use Rattle.jbig2_inverses.specs.Digits.{digits}
use Rattle.jbig2_inverses.proofs.Digits.{length-digits}

-- what lies above the lowest k bits does not show
digits-low : (k f n : ℕ) → n < 2 ^ k → digits k (f * 2 ^ k + n) ≡ digits k n
unfolding digits
digits-low zero f n small = refl
digits-low (suc k) f n small =
    let p : ℕ = 2 ^ k in
    let q : ℕ = n / p in
    let m : ℕ = n % p in
    let below : m < p = mod_below n p (omega (arith, small)) in
    let whole : q * p + m ≡ n = div-add-mod' n p in
    let twice : 2 ^ suc k ≡ 2 * p = rw pow-suc (omega arith) in
    let joined : f * 2 ^ suc k + n ≡ (2 * f + q) * p + m = ap (λ (t : ℕ). f * t + n) twice ∙ ap (λ (t : ℕ). f * (2 * p) + t) (sym whole) ∙ spread f p q m in
    let top : (f * 2 ^ suc k + n) / p % 2 ≡ q % 2 = ap (λ (t : ℕ). t / p % 2) joined ∙ ap (λ (t : ℕ). t % 2) (shr_high (2 * f + q) k m below) ∙ even f q in
    ap (λ (t : ℕ). t ∷ digits k (f * 2 ^ suc k + n)) top
    ∙ ap (λ (t : List ℕ). q % 2 ∷ t) (ap (λ (t : ℕ). digits k t) joined ∙ digits-low k (2 * f + q) m below ∙ sym (digits-low k q m below) ∙ ap (λ (t : ℕ). digits k t) whole)
  where
    spread : (f p q m : ℕ) → f * (2 * p) + (q * p + m) ≡ (2 * f + q) * p + m
    spread f p q m = omega arith

    even : (f q : ℕ) → (2 * f + q) % 2 ≡ q % 2
    even f q = omega arith

-- the bits of a number, then those of another
digits-both : (c s r n : ℕ) → n < 2 ^ s → digits (c + s) (r * 2 ^ s + n) ≡ digits c r ++ digits s n
unfolding digits
digits-both zero s r n small =
    let same : 0 + s ≡ s = omega arith in
    ap (λ (k : ℕ). digits k (r * 2 ^ s + n)) same ∙ digits-low s r n small
digits-both (suc c) s r n small =
    let all : ℕ = r * 2 ^ s + n in
    let same : suc c + s ≡ suc (c + s) = omega arith in
    let turned : c + s ≡ s + c = omega arith in
    let high : all / 2 ^ (c + s) ≡ r / 2 ^ c = ap (λ (k : ℕ). all / 2 ^ k) turned ∙ sym (shr-shr all s c) ∙ ap (λ (t : ℕ). t / 2 ^ c) (shr_high r s n small) in
    ap (λ (k : ℕ). digits k all) same
    ∙ ap (λ (t : ℕ). t % 2 ∷ digits (c + s) all) high
    ∙ ap (λ (t : List ℕ). r / 2 ^ c % 2 ∷ t) (digits-both c s r n small)

-- the first byte of some bits, and those after it
byte-out : (bytes : List ℕ) (left rest : ℕ) → flat_map byte_bits (bytes ++ rest / 2 ^ left ∷ []) ++ digits left (rest % 2 ^ left) ≡ flat_map byte_bits bytes ++ digits (left + 8) rest
unfolding digits
byte-out bytes left rest =
    let p : ℕ = 2 ^ left in
    let byte : ℕ = rest / p in
    let low : ℕ = rest % p in
    let below : low < p = mod_below rest p (pow_pos left) in
    let turned : left + 8 ≡ 8 + left = omega arith in
    let parts : digits (left + 8) rest ≡ byte_bits byte ++ digits left low = ap (λ (k : ℕ). digits k rest) turned ∙ ap (λ (t : ℕ). digits (8 + left) t) (sym (div-add-mod' rest p)) ∙ digits-both 8 left byte low below in
    ap (λ (t : List ℕ). t ++ digits left low) (flat_map-append byte_bits bytes (byte ∷ []))
    ∙ append_assoc (flat_map byte_bits bytes) (byte_bits byte) (digits left low)
    ∙ ap (λ (t : List ℕ). flat_map byte_bits bytes ++ t) (sym parts)

-- ---- whole bytes in `packed`
byte-number : (b : ℕ) → b < 256 → number_after 0 (byte_bits b) ≡ b
byte-number b small = omega arith

packed-whole : (bytes tail : List ℕ) (n : ℕ) → All (λ b. b < 256) bytes → packed (length bytes + n) (flat_map byte_bits bytes ++ tail) ≡ bytes ++ packed n tail
unfolding packed
packed-whole [] tail n are = let same : 0 + n ≡ n = omega arith in ap (λ (k : ℕ). packed k tail) same
packed-whole (b ∷ bytes) tail n are =
    let same : length (b ∷ bytes) + n ≡ suc (length bytes + n) = omega arith in
    ap (λ (k : ℕ). packed k (flat_map byte_bits (b ∷ bytes) ++ tail)) same
    ∙ ap (λ (t : ℕ). t ∷ packed (length bytes + n) (flat_map byte_bits bytes ++ tail)) (byte-number b (All-head (λ (x : ℕ). x < 256) b bytes are))
    ∙ ap (λ (t : List ℕ). b ∷ t) (packed-whole bytes tail n (All-tail (λ (x : ℕ). x < 256) b bytes are))

-- the last byte, of one to seven bits
last-byte : (c r : ℕ) → 0 < c → c < 8 → r < 2 ^ c → packed 1 (digits c r) ≡ r * 2 ^ (8 - c) ∷ []
unfolding packed digits
last-byte zero r some few small = absurd (omega (arith, some))
last-byte (suc zero) r some few small = let e : number_after 0 (take 8 (digits 1 r ++ replicate 8 0)) ≡ r * 2 ^ (8 - 1) = omega (arith, small) in ap (λ (t : ℕ). t ∷ []) e
last-byte (suc (suc zero)) r some few small = let e : number_after 0 (take 8 (digits 2 r ++ replicate 8 0)) ≡ r * 2 ^ (8 - 2) = omega (arith, small) in ap (λ (t : ℕ). t ∷ []) e
last-byte (suc (suc (suc zero))) r some few small = let e : number_after 0 (take 8 (digits 3 r ++ replicate 8 0)) ≡ r * 2 ^ (8 - 3) = omega (arith, small) in ap (λ (t : ℕ). t ∷ []) e
last-byte (suc (suc (suc (suc zero)))) r some few small = let e : number_after 0 (take 8 (digits 4 r ++ replicate 8 0)) ≡ r * 2 ^ (8 - 4) = omega (arith, small) in ap (λ (t : ℕ). t ∷ []) e
last-byte (suc (suc (suc (suc (suc zero))))) r some few small = let e : number_after 0 (take 8 (digits 5 r ++ replicate 8 0)) ≡ r * 2 ^ (8 - 5) = omega (arith, small) in ap (λ (t : ℕ). t ∷ []) e
last-byte (suc (suc (suc (suc (suc (suc zero)))))) r some few small = let e : number_after 0 (take 8 (digits 6 r ++ replicate 8 0)) ≡ r * 2 ^ (8 - 6) = omega (arith, small) in ap (λ (t : ℕ). t ∷ []) e
last-byte (suc (suc (suc (suc (suc (suc (suc zero))))))) r some few small = let e : number_after 0 (take 8 (digits 7 r ++ replicate 8 0)) ≡ r * 2 ^ (8 - 7) = omega (arith, small) in ap (λ (t : ℕ). t ∷ []) e
last-byte (suc (suc (suc (suc (suc (suc (suc (suc c)))))))) r some few small = absurd (omega (arith, few))

bits-count : (bytes : List ℕ) (c r : ℕ) → length (flat_map byte_bits bytes ++ digits c r) ≡ 8 * length bytes + c
bits-count bytes c r = omega (arith, length-append (flat_map byte_bits bytes) (digits c r), length-bits bytes, length-digits c r)

packed-full : (bytes : List ℕ) (r : ℕ) → All (λ b. b < 256) bytes → let bits = flat_map byte_bits bytes ++ digits 0 r in packed ((length bits + 7) / 8) bits ≡ bytes
unfolding packed digits
packed-full bytes r are =
    let bits : List ℕ = flat_map byte_bits bytes ++ digits 0 r in
    let size : (length bits + 7) / 8 ≡ length bytes + 0 = omega (arith, bits-count bytes 0 r) in
    ap (λ (k : ℕ). packed k bits) size ∙ packed-whole bytes (digits 0 r) 0 are ∙ append-nil bytes

packed-last : (bytes : List ℕ) (c r : ℕ) → All (λ b. b < 256) bytes → 0 < c → c < 8 → r < 2 ^ c → let bits = flat_map byte_bits bytes ++ digits c r in packed ((length bits + 7) / 8) bits ≡ bytes ++ r * 2 ^ (8 - c) ∷ []
packed-last bytes c r are some few small =
    let bits : List ℕ = flat_map byte_bits bytes ++ digits c r in
    let size : (length bits + 7) / 8 ≡ length bytes + 1 = omega (arith, bits-count bytes c r, some, few) in
    ap (λ (k : ℕ). packed k bits) size ∙ packed-whole bytes (digits c r) 1 are ∙ ap (λ (t : List ℕ). bytes ++ t) (last-byte c r some few small)

-- ---- what a writer has: whole bytes, and the bits after them
pub finish-whole : (all bytes : List ℕ) (c r : ℕ) → c ≡ 0 → All (λ b. b < 256) bytes → flat_map byte_bits bytes ++ digits c r ≡ all → bytes ≡ packed ((length all + 7) / 8) all
finish-whole all bytes c r none are has =
    let is : flat_map byte_bits bytes ++ digits 0 r ≡ all = ap (λ (k : ℕ). flat_map byte_bits bytes ++ digits k r) (sym none) ∙ has in
    sym (packed-full bytes r are) ∙ ap (λ (bits : List ℕ). packed ((length bits + 7) / 8) bits) is

pub finish-last : (all bytes new : List ℕ) (c r : ℕ) → 0 < c → c < 8 → r < 2 ^ c → All (λ b. b < 256) bytes → flat_map byte_bits bytes ++ digits c r ≡ all
    → new ≡ bytes ++ r * 2 ^ (8 - c) % 2 ^ 32 ∷ [] → new ≡ packed ((length all + 7) / 8) all
finish-last all bytes new c r some few small are has is =
    is
    ∙ ap (λ (b : ℕ). bytes ++ b ∷ []) (shl_whole r c (8 - c) 32 small (omega (arith, few)))
    ∙ sym (packed-last bytes c r are some few small)
    ∙ ap (λ (bits : List ℕ). packed ((length bits + 7) / 8) bits) has

pub last-fits : (c r : ℕ) → c < 8 → r < 2 ^ c → r * 2 ^ (8 - c) % 2 ^ 32 < 256
last-fits c r few small =
    let whole = shl_whole r c (8 - c) 32 small (omega (arith, few)) in
    let below = shl_below r c (8 - c) small in
    let eight : c + (8 - c) ≡ 8 = omega (arith, few) in
    subst (λ (n : ℕ). n < 256) (sym whole) (subst (λ (k : ℕ). r * 2 ^ (8 - c) < 2 ^ k) eight below)

-- a number of k bits, and then one of s bits
both-below : (k r s n : ℕ) → r < 2 ^ k → n < 2 ^ s → r * 2 ^ s + n < 2 ^ (k + s)
both-below k r s n high low =
    let below = mul-add-lt r (2 ^ s) n (2 ^ k) high low in
    let power = pow-add 2 k s in
    omega (arith, below, power)

between : (a b c : ℕ) → a < b → b ≤ c → a < c
between a b c low high = omega (arith, low, high)

module _ (k r s n : ℕ) (few : k < 8) (high : r < 2 ^ k) (more : s ≤ 24) (low : n < 2 ^ s) where
  shifted : r * 2 ^ s % 2 ^ 32 ≡ r * 2 ^ s
  shifted = shl_whole r k s 32 high (omega (arith, few, more))

  pub join-fits : r * 2 ^ s % 2 ^ 32 + n < 2 ^ 32
  join-fits =
      let power : 2 ^ (k + s) ≤ 2 ^ 32 = pow_mono (let most : k + s ≤ 32 = omega (arith, few, more) in most) in
      subst (λ (m : ℕ). m + n < 2 ^ 32) (sym shifted) (between (r * 2 ^ s + n) (2 ^ (k + s)) (2 ^ 32) (both-below k r s n high low) power)

  pub join-small : r * 2 ^ s % 2 ^ 32 + n < 2 ^ (k + s)
  join-small = subst (λ (m : ℕ). m + n < 2 ^ (k + s)) (sym shifted) (both-below k r s n high low)

  pub join-bits : (all bytes : List ℕ) → flat_map byte_bits bytes ++ digits k r ≡ all → flat_map byte_bits bytes ++ digits (k + s) (r * 2 ^ s % 2 ^ 32 + n) ≡ all ++ digits s n
  join-bits all bytes has =
      ap (λ (m : ℕ). flat_map byte_bits bytes ++ digits (k + s) (m + n)) shifted
      ∙ ap (λ (bits : List ℕ). flat_map byte_bits bytes ++ bits) (digits-both k s r n low)
      ∙ sym (append_assoc (flat_map byte_bits bytes) (digits k r) (digits s n))
      ∙ ap (λ (bits : List ℕ). bits ++ digits s n) has

-- the first byte of `left` bits
module _ (left rest : ℕ) (some : 8 ≤ left) (small : rest < 2 ^ left) where
  pub byte-fits : rest / 2 ^ (left - 8) < 256
  byte-fits =
      let parts : left ≡ 8 + (left - 8) = omega (arith, some) in
      shr_below rest 8 (left - 8) (subst (λ (k : ℕ). rest < 2 ^ k) parts small)

  pub byte-pushed : (all bytes new : List ℕ) → left < 32 → flat_map byte_bits bytes ++ digits left rest ≡ all → new ≡ bytes ++ rest / 2 ^ (left - 8) ∷ []
      → flat_map byte_bits new ++ digits (left - 8) (rest % (1 * 2 ^ (left - 8) % 2 ^ 32)) ≡ all
  byte-pushed all bytes new few has is =
      let parts : left - 8 + 8 ≡ left = omega (arith, some) in
      ap (λ (l : List ℕ). flat_map byte_bits l ++ digits (left - 8) (rest % (1 * 2 ^ (left - 8) % 2 ^ 32))) is
      ∙ ap (λ (p : ℕ). flat_map byte_bits (bytes ++ rest / 2 ^ (left - 8) ∷ []) ++ digits (left - 8) (rest % p)) (one_shl (left - 8) 32 (omega (arith, few)))
      ∙ byte-out bytes (left - 8) rest
      ∙ ap (λ (k : ℕ). flat_map byte_bits bytes ++ digits k rest) parts
      ∙ has

  pub bytes-pushed : (bytes new : List ℕ) → All (λ b. b < 256) bytes → new ≡ bytes ++ rest / 2 ^ (left - 8) ∷ [] → All (λ b. b < 256) new
  bytes-pushed bytes new are is = All-same (λ (b : ℕ). b < 256) new (bytes ++ rest / 2 ^ (left - 8) ∷ []) is (All-push (λ (b : ℕ). b < 256) bytes (rest / 2 ^ (left - 8)) are byte-fits)

pub rest-small : (left rest : ℕ) → left < 32 → rest % (1 * 2 ^ left % 2 ^ 32) < 2 ^ left
rest-small left rest few =
    let one = one_shl left 32 few in
    let some = pow_pos left in
    subst (λ (p : ℕ). rest % p < 2 ^ left) (sym one) (mod_below rest (2 ^ left) some)
