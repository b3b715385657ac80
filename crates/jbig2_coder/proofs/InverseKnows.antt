-- What the bytes that the encoder ends with say of an interval on the way, and how it goes from a later
-- interval to an earlier one.
use Rattle.std.proofs.Common.{◌≡◌, ℕ, suc, ◌+◌, ◌-◌, ◌*◌, ◌^◌, ◌<◌, ◌≤◌, List, [], ◌∷◌, length, refl, sym, ap, ◌∙◌, arith, subst, ⊎_elim, ◌⊎◌, le_refl, mul-le-mul_right}
use Rattle.std.proofs.Math.Nat.{le_of_mul-le-mul_right, lt_of_mul-lt-mul_right, mul-lt-mul_of_pos_right}
use Rattle.std.proofs.lemmas.Nat.{pow_pos, pow-add}
use Rattle.std.proofs.lemmas.Bool.{cases_eq, cases_lt}
use Rattle.jbig2_coder.specs.Encoder.{Writer}
use Rattle.jbig2_coder.proofs.InverseBytes.{bits, value, first, bits-first, value-first}
use Rattle.jbig2_coder.proofs.InverseByteOut.{low, time, Grown, Put}

-- A number v of k bits, and the ends of an interval at a time. At time 0 the interval has sixteen bits, of which
-- the first is before the first byte.
abbrev pub Above : ℕ → ℕ → ℕ → ℕ → Type 0
Above lo t v k = lo * 2 ^ k < (v + 1) * 2 ^ (t + 15)

abbrev pub Under : ℕ → ℕ → ℕ → ℕ → Type 0
Under hi t v k = v * 2 ^ (t + 15) < hi * 2 ^ k

-- the bytes that are out are the first ones of the end, but for carries into the last
abbrev pub Headed : (ℕ → ℕ) → List ℕ → Type 0
Headed f [] = Unit {0}
Headed f (b ∷ r) = (r ≡ first f (length r)) × (b ≤ f (length r))

-- the bytes that the encoder ends with are the first m of f
pub record Knows (f : ℕ → ℕ) (m lo hi t : ℕ) (r : List ℕ) : Type 0 where
  pub some : length r < m
  pub headed : Headed f r
  pub above : (j : ℕ) → length r < j → j ≤ m → Above lo t (value (first f j)) (bits (first f j))
  pub under : (value (first f m) + 1) * 2 ^ (t + 15) ≤ hi * 2 ^ bits (first f m)

-- an interval around
pub Knows-wider : (f : ℕ → ℕ) (m lo hi t lo2 hi2 : ℕ) (r : List ℕ) → lo ≤ lo2 → hi2 ≤ hi
    → Knows f m lo2 hi2 t r → Knows f m lo hi t r
Knows-wider f m lo hi t lo2 hi2 r h l k =
    record {
      some = k.some;
      headed = k.headed;
      above = λ j p q.
          let a : Above lo2 t (value (first f j)) (bits (first f j)) = k.above j p q in
          omega (arith, a, mul-le-mul_right (2 ^ bits (first f j)) h);
      under = omega (arith, k.under, mul-le-mul_right (2 ^ bits (first f m)) l);
    }

above-scaled : (lo t s v k : ℕ) → Above (lo * 2 ^ s) (t + s) v k → Above lo t v k
above-scaled lo t s v k h =
    let e : 2 ^ (t + s + 15) ≡ 2 ^ (t + 15) * 2 ^ s =
    ap (λ n. 2 ^ n) (let e : t + s + 15 ≡ t + 15 + s = omega arith in e) ∙ pow-add 2 (t + 15) s in
    let p : lo * 2 ^ s * 2 ^ k < (v + 1) * (2 ^ (t + 15) * 2 ^ s) = rw e at h in
    lt_of_mul-lt-mul_right (2 ^ s) (omega (arith, p))

under-scaled : (hi t s v k : ℕ) → (v + 1) * 2 ^ (t + s + 15) ≤ hi * 2 ^ s * 2 ^ k → (v + 1) * 2 ^ (t + 15) ≤ hi * 2 ^ k
under-scaled hi t s v k h =
    let e : 2 ^ (t + s + 15) ≡ 2 ^ (t + 15) * 2 ^ s =
    ap (λ n. 2 ^ n) (let e : t + s + 15 ≡ t + 15 + s = omega arith in e) ∙ pow-add 2 (t + 15) s in
    let p : (v + 1) * (2 ^ (t + 15) * 2 ^ s) ≤ hi * 2 ^ s * 2 ^ k = rw e at h in
    le_of_mul-le-mul_right {k = 2 ^ s} (omega (arith, p)) (pow_pos s)

-- s shifts
pub Knows-scaled : (f : ℕ → ℕ) (m lo hi t s lo2 hi2 t2 : ℕ) (r : List ℕ)
    → lo2 ≡ lo * 2 ^ s → hi2 ≡ hi * 2 ^ s → t2 ≡ t + s → Knows f m lo2 hi2 t2 r → Knows f m lo hi t r
Knows-scaled f m lo hi t s lo2 hi2 t2 r el eh et k =
    record {
      some = k.some;
      headed = k.headed;
      above = λ j p q.
          above-scaled lo t s (value (first f j)) (bits (first f j))
          (rw (← el, ← et) (k.above j p q));
      under = under-scaled hi t s (value (first f m)) (bits (first f m)) (rw (← eh, ← et) k.under);
    }

headed-step : (f : ℕ → ℕ) (b : ℕ) (r s : List ℕ) → Grown (b ∷ r) s → s ≡ first f (suc (length r)) → Headed f (b ∷ r)
headed-step f b r s g e =
    let h : g.0 ∷ r ≡ f (length r) ∷ first f (length r) = sym g.1 ∙ e in
    let c : g.0 ≡ f (length r) = cc in
    (cc, omega (arith, g.2, c))

pub Headed-grown : (f : ℕ → ℕ) (r s : List ℕ) → Grown r s → s ≡ first f (length r) → Headed f r
Headed-grown f [] s g e = tt
Headed-grown f (b ∷ r) s g e = headed-step f b r s g e

pub above-out : (lo v u b q t : ℕ) → lo < (v + 1) * 2 ^ q → v ≤ u → t ≡ b + q → lo * 2 ^ b < (u + 1) * 2 ^ t
above-out lo v u b q t h l e =
    let k : lo * 2 ^ b < (v + 1) * 2 ^ q * 2 ^ b = mul-lt-mul_of_pos_right h (pow_pos b) in
    let n : (v + 1) * (2 ^ b * 2 ^ q) ≤ (u + 1) * (2 ^ b * 2 ^ q) = mul-le-mul_right (2 ^ b * 2 ^ q) (omega (arith, l)) in
    rw (e, pow-add 2 b q) (omega (arith, k, n))

-- the byte that goes out, as it goes out and as it is in the end
pub last-byte : (f : ℕ → ℕ) (s : List ℕ) (byte : ℕ) (rest : List ℕ) (n : ℕ) → s ≡ byte ∷ rest → length rest ≡ n → Headed f s
    → (rest ≡ first f n) × (length s ≡ suc n) × (value s ≤ value (first f (suc n))) × (bits (first f (suc n)) ≡ bits s)
last-byte f s byte rest n is len headed =
    let h : Headed f (byte ∷ rest) = subst (Headed f) is headed in
    let e : rest ≡ first f n = h.0 ∙ ap (first f) len in
    let b : byte ≤ f n = rw len at h.1 in (
      e,
      ap length is ∙ ap suc len,
      rw (is, ← e) (omega (arith, b)),
      rw (is, ← e),
    )

-- BYTEOUT
pub Knows-put : (f : ℕ → ℕ) (m hi a c : ℕ) (r : List ℕ) (w : Writer) → Put a c r w
    → Knows f m (low w) hi (time w) w.out → Knows f m (low w) hi (time w) r
Knows-put f m hi a c r w p k =
    let l = p.longer in
    let b = last-byte f w.out l.byte l.rest (length r) l.is l.same k.headed in
    record {
      some = omega (arith, k.some, b.1);
      headed = Headed-grown f r l.rest l.grown b.0;
      above = λ j q more. ⊎_elim
          (λ (e : j ≡ suc (length r)).
          rw (e, b.3) (above-out (low w) (value w.out) (value (first f (suc (length r)))) (bits w.out) (27 - w.wait) (time w + 15) p.below b.2 p.scale))
          (λ (n : j ≡ suc (length r) → ⊥). k.above j (omega (arith, b.1)) more)
          (cases_eq j (suc (length r)));
      under = k.under;
    }

-- what the decoder has read at place p: the bytes up to p, or all of them and ones after them
pub record Inside (f : ℕ → ℕ) (m p v k : ℕ) : Type 0 where
  pub before : p < m
  pub number : v ≡ value (first f (suc p))
  pub count : k ≡ bits (first f (suc p))

pub record Past (f : ℕ → ℕ) (m p v k : ℕ) : Type 0 where
  pub full : f p ≡ 255
  pub marker : 143 < f (p + 1)
  pub ones : (v + 1) * 2 ^ bits (first f m) ≡ (value (first f m) + 1) * 2 ^ k

abbrev pub Seen : (ℕ → ℕ) → ℕ → ℕ → ℕ → ℕ → Type 0
Seen f m p v k = Inside f m p v k ⊎ Past f m p v k

under-inside : (hi v u t q p : ℕ) → v * 2 ^ p ≤ u * 2 ^ q → (u + 1) * 2 ^ t ≤ hi * 2 ^ p → v * 2 ^ t < hi * 2 ^ q
under-inside hi v u t q p h k =
    let a : v * 2 ^ p * 2 ^ t ≤ u * 2 ^ q * 2 ^ t = mul-le-mul_right (2 ^ t) h in
    let b : (u + 1) * 2 ^ t * 2 ^ q ≤ hi * 2 ^ p * 2 ^ q = mul-le-mul_right (2 ^ q) k in
    let c : u * 2 ^ t * 2 ^ q < (u + 1) * 2 ^ t * 2 ^ q = mul-lt-mul_of_pos_right (omega (arith, pow_pos t)) (pow_pos q) in
    lt_of_mul-lt-mul_right (2 ^ p) (omega (arith, a, b, c))

above-past : (lo v u t k m : ℕ) → (v + 1) * 2 ^ m ≡ (u + 1) * 2 ^ k → lo * 2 ^ m < (u + 1) * 2 ^ t → lo * 2 ^ k < (v + 1) * 2 ^ t
above-past lo v u t k m e h =
    let a : lo * 2 ^ m * 2 ^ k < (u + 1) * 2 ^ t * 2 ^ k = mul-lt-mul_of_pos_right h (pow_pos k) in
    let b : (v + 1) * 2 ^ m * 2 ^ t ≡ (u + 1) * 2 ^ k * 2 ^ t = ap (λ x. x * 2 ^ t) e in
    lt_of_mul-lt-mul_right (2 ^ m) (omega (arith, a, b))

under-past : (hi v u t k m : ℕ) → (v + 1) * 2 ^ m ≡ (u + 1) * 2 ^ k → (u + 1) * 2 ^ t ≤ hi * 2 ^ m → v * 2 ^ t < hi * 2 ^ k
under-past hi v u t k m e h =
    let a : (u + 1) * 2 ^ t * 2 ^ k ≤ hi * 2 ^ m * 2 ^ k = mul-le-mul_right (2 ^ k) h in
    let b : (v + 1) * 2 ^ m * 2 ^ t ≡ (u + 1) * 2 ^ k * 2 ^ t = ap (λ x. x * 2 ^ t) e in
    let c : (v + 1) * 2 ^ t ≤ hi * 2 ^ k = le_of_mul-le-mul_right {k = 2 ^ m} (omega (arith, a, b)) (pow_pos m) in
    omega (arith, c, pow_pos t)

bits-headed : (f : ℕ → ℕ) (r : List ℕ) → Headed f r → bits (first f (length r)) ≡ bits r
bits-headed f [] h = refl
bits-headed f (b ∷ r) h = rw (← h.0) refl

-- this many bits come from after the bytes that are out
inside-later : (f : ℕ → ℕ) (r : List ℕ) (p : ℕ) → Headed f r → bits r < bits (first f (suc p)) → length r < suc p
inside-later f r p h l =
    ⊎_elim
    (λ (k : length r < suc p). k)
    (λ (k : suc p ≤ length r).
    let b : bits (first f (suc p)) ≤ bits (first f (length r)) = bits-first f (suc p) (length r) k in
    absurd (omega (arith, b, bits-headed f r h, l)))
    (cases_lt (length r) (suc p))

-- A number between the ends of an interval: one more is above the low end, and at most the high end.
pub record Fits (lo hi v s : ℕ) : Type 0 where
  pub above : lo * 2 ^ s < v + 1
  pub under : v + 1 ≤ hi * 2 ^ s

fits : (lo hi t v k s : ℕ) → k ≡ t + 15 + s → Above lo t v k → Under hi t v k → Fits lo hi v s
fits lo hi t v k s e a u =
    let p : 2 ^ k ≡ 2 ^ (t + 15) * 2 ^ s = ap (λ n. 2 ^ n) e ∙ pow-add 2 (t + 15) s in
    let b : lo * (2 ^ (t + 15) * 2 ^ s) < (v + 1) * 2 ^ (t + 15) = rw p at a in
    let c : v * 2 ^ (t + 15) < hi * (2 ^ (t + 15) * 2 ^ s) = rw p at u in
    let d : v < hi * 2 ^ s = lt_of_mul-lt-mul_right (2 ^ (t + 15)) (omega (arith, c)) in
    record { above = lt_of_mul-lt-mul_right (2 ^ (t + 15)) (omega (arith, b)); under = omega (arith, d) }

-- what the decoder has read fits each interval that it can be asked about
pub Seen-fits : (f : ℕ → ℕ) (m lo hi t : ℕ) (r : List ℕ) (p v k s : ℕ) → Knows f m lo hi t r → bits r ≤ t → k ≡ t + 15 + s
    → Seen f m p v k → Fits lo hi v s
Seen-fits f m lo hi t r p v k s know few e seen =
    ⊎_elim
    (λ (i : Inside f m p v k).
    let later : length r < suc p = inside-later f r p know.headed (omega (arith, i.count)) in
    let a : Above lo t (value (first f (suc p))) (bits (first f (suc p))) = know.above (suc p) later i.before in
    fits lo hi t v k s e (rw (i.number, i.count) a)
    (rw (i.number, i.count) (under-inside hi (value (first f (suc p))) (value (first f m)) (t + 15) (bits (first f (suc p))) (bits (first f m)) (value-first f (suc p) m i.before) know.under)))
    (λ (o : Past f m p v k).
    fits lo hi t v k s e
    (above-past lo v (value (first f m)) (t + 15) k (bits (first f m)) o.ones (know.above m know.some (le_refl m)))
    (under-past hi v (value (first f m)) (t + 15) k (bits (first f m)) o.ones know.under))
    seen
