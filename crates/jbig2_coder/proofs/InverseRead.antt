-- BYTEIN as a step of the number that has been read.
use Rattle.std.proofs.Common.{◌≡◌, ℕ, zero, suc, ◌+◌, ◌-◌, ◌*◌, ◌%◌, ◌^◌, ◌<◌, ◌≤◌, List, refl, sym, ap, ◌∙◌, arith, subst, ⊎_elim, ◌⊎◌, inl, inr}
use Rattle.std.proofs.lemmas.Nat.{pow-add}
use Rattle.std.proofs.lemmas.Bool.{cases_eq, cases_lt}
use Rattle.jbig2_coder.specs.Coder.{byte_at, byte_in}
use Rattle.jbig2_coder.specs.declared.arithmetic_decoder.registers.CodeRegister.{CodeRegister}
use Rattle.jbig2_coder.proofs.Choices.{byte_in-marker, byte_in-stuffed, byte_in-plain}
use Rattle.jbig2_coder.proofs.InverseBytes.{width, bits, value, Valid, first, width-full, width-other}
use Rattle.jbig2_coder.proofs.InverseKnows.{Seen, Inside, Past}

-- the first m bytes are the encoder's, and after them comes a marker, which begins with the last of them where
-- that is FF
pub record Closing (f : ℕ → ℕ) (m : ℕ) : Type 0 where
  pub valid : Valid (first f m)
  pub full : (n : ℕ) → m ≡ suc n → f n ≡ 255 → 143 < f m
  pub other : (n : ℕ) → m ≡ suc n → (f n ≡ 255 → ⊥) → (f m ≡ 255) × (143 < f (m + 1))

Valid-first : (f : ℕ → ℕ) (j m : ℕ) → j ≤ m → Valid (first f m) → Valid (first f j)
Valid-first f j zero h v = let e : j ≡ 0 = omega arith in rw e tt
Valid-first f j (suc m) h v =
    ⊎_elim (λ (e : j ≡ suc m). rw e v) (λ (n : j ≡ suc m → ⊥). Valid-first f j m (omega arith) v.2) (cases_eq j (suc m))

-- the three ways of BYTEIN
pub record Marker (f : ℕ → ℕ) (m p v k : ℕ) : Type 0 where
  pub full : f p ≡ 255
  pub marker : 143 < f (p + 1)
  pub seen : Seen f m p (v * 256 + 255) (k + 8)

pub record Stuffed (f : ℕ → ℕ) (m p v k : ℕ) : Type 0 where
  pub full : f p ≡ 255
  pub byte : f (p + 1) ≤ 143
  pub seen : Seen f m (p + 1) (v * 128 + f (p + 1)) (k + 7)

pub record Plain (f : ℕ → ℕ) (m p v k : ℕ) : Type 0 where
  pub other : f p ≡ 255 → ⊥
  pub byte : f (p + 1) ≤ 255
  pub seen : Seen f m (p + 1) (v * 256 + f (p + 1)) (k + 8)

abbrev pub Step : (ℕ → ℕ) → ℕ → ℕ → ℕ → ℕ → Type 0
Step f m p v k = Marker f m p v k ⊎ (Stuffed f m p v k ⊎ Plain f m p v k)

ones-more : (u v k n : ℕ) → (v + 1) * 2 ^ n ≡ (u + 1) * 2 ^ k → (v * 256 + 255 + 1) * 2 ^ n ≡ (u + 1) * 2 ^ (k + 8)
ones-more u v k n e = rw (pow-add 2 k 8) (omega (arith, e))

step-past : (f : ℕ → ℕ) (m p v k : ℕ) → Past f m p v k → Step f m p v k
step-past f m p v k o =
    inl (record {
      full = o.full;
      marker = o.marker;
      seen = inr (record { full = o.full; marker = o.marker; ones = ones-more (value (first f m)) v k (bits (first f m)) o.ones });
    })

step-inside : (f : ℕ → ℕ) (m p v k : ℕ) → Closing f m → suc p < m → Inside f m p v k → Step f m p v k
step-inside f m p v k c h i =
    let e : suc p ≡ p + 1 = omega arith in
    let b : Valid (first f (suc (suc p))) = Valid-first f (suc (suc p)) m h c.valid in
    let r : List ℕ = first f (suc p) in
    ⊎_elim
    (λ (full : f p ≡ 255).
    let w : width r ≡ 7 = width-full (f p) (first f p) full in
    let l : f (suc p) ≤ 143 = b.1 w in
    let s : Seen f m (suc p) (v * 128 + f (suc p)) (k + 7) = inl (record {
      before = h;
      number = ap (λ x. x * 128 + f (suc p)) i.number ∙ sym (ap (λ n. value r * 2 ^ n + f (suc p)) w);
      count = ap (λ x. x + 7) i.count ∙ sym (ap (λ n. bits r + n) w);
    }) in
    inr (inl (record {
      full = full;
      byte = rw (← e) l;
      seen = subst (λ q. Seen f m q (v * 128 + f q) (k + 7)) e s;
    })))
    (λ (other : f p ≡ 255 → ⊥).
    let w : width r ≡ 8 = width-other (f p) (first f p) other in
    let s : Seen f m (suc p) (v * 256 + f (suc p)) (k + 8) = inl (record {
      before = h;
      number = ap (λ x. x * 256 + f (suc p)) i.number ∙ sym (ap (λ n. value r * 2 ^ n + f (suc p)) w);
      count = ap (λ x. x + 8) i.count ∙ sym (ap (λ n. bits r + n) w);
    }) in
    inr (inr (record {
      other = other;
      byte = rw (← e) b.0;
      seen = subst (λ q. Seen f m q (v * 256 + f q) (k + 8)) e s;
    })))
    (cases_eq (f p) 255)

ones-all : (f : ℕ → ℕ) (m p v k : ℕ) → m ≡ suc p → Inside f m p v k → (v + 1) * 2 ^ bits (first f m) ≡ (value (first f m) + 1) * 2 ^ k
ones-all f m p v k e i = rw (e, i.number, i.count) refl

step-last : (f : ℕ → ℕ) (m p v k : ℕ) → Closing f m → m ≡ suc p → Inside f m p v k → Step f m p v k
step-last f m p v k c e i =
    let place : p + 1 ≡ m = omega arith in
    let ones : (v * 256 + 255 + 1) * 2 ^ bits (first f m) ≡ (value (first f m) + 1) * 2 ^ (k + 8) =
    ones-more (value (first f m)) v k (bits (first f m)) (ones-all f m p v k e i) in
    ⊎_elim
    (λ (full : f p ≡ 255).
    let marker : 143 < f (p + 1) = rw place (c.full p e full) in
    inl (record { full = full; marker = marker; seen = inr (record { full = full; marker = marker; ones = ones }) }))
    (λ (other : f p ≡ 255 → ⊥).
    let b = c.other p e other in
    let byte : f (p + 1) ≡ 255 = ap f place ∙ b.0 in
    let next : 143 < f (p + 1 + 1) = rw place b.1 in
    inr (inr (record {
      other = other;
      byte = omega (arith, byte);
      seen = inr (record { full = byte; marker = next; ones = rw byte ones });
    })))
    (cases_eq (f p) 255)

-- BYTEIN goes on along the bytes, and then along ones
pub step : (f : ℕ → ℕ) (m p v k : ℕ) → Closing f m → Seen f m p v k → Step f m p v k
step f m p v k c seen =
    ⊎_elim
    (λ (i : Inside f m p v k). ⊎_elim
    (λ (h : suc p < m). step-inside f m p v k c h i)
    (λ (h : m ≤ suc p). step-last f m p v k c (omega (arith, i.before)) i)
    (cases_lt (suc p) m))
    (λ (o : Past f m p v k). step-past f m p v k o)
    seen

-- What BYTEIN makes of C where no bit is left: hi is the top of the interval, v the number that has been read.
pub record Read (f : ℕ → ℕ) (m hi k : ℕ) (r : CodeRegister) : Type 0 where
  pub number : ℕ
  pub wait : (r.ct ≡ 7) ⊎ (r.ct ≡ 8)
  pub seen : Seen f m r.place number (k + r.ct)
  pub code : r.c * 2 ^ r.ct + (number + 1) * 2 ^ 16 ≡ hi * 2 ^ r.ct * 2 ^ 16

read-marker : (f : ℕ → ℕ) (m hi c p v k : ℕ) → c + (v + 1) * 2 ^ 16 ≡ hi * 2 ^ 16 → Marker f m p v k
    → Read f m hi k (record { c = c; ct = 8; place = p })
read-marker f m hi c p v k e s = record { number = v * 256 + 255; wait = inr refl; seen = s.seen; code = omega arith }

read-stuffed : (f : ℕ → ℕ) (m hi c p v k : ℕ) → c < 2 ^ 32 → c + (v + 1) * 2 ^ 16 ≡ hi * 2 ^ 16 → (s : Stuffed f m p v k)
    → v * 128 + f (p + 1) + 1 ≤ hi * 2 ^ 7
    → Read f m hi k (record { c = (c + (2 ^ 32 + 0xFE00 - f (p + 1) * 2 ^ 9)) % 2 ^ 32; ct = 7; place = p + 1 })
read-stuffed f m hi c p v k below e s fit =
    let b : ℕ = f (p + 1) in
    let byte : b ≤ 143 = s.byte in
    let x : (c + (2 ^ 32 + 0xFE00 - b * 2 ^ 9)) % 2 ^ 32 ≡ c + 65024 - b * 512 = omega arith in
    record { number = v * 128 + b; wait = inl refl; seen = s.seen; code = rw x (omega arith) }

read-plain : (f : ℕ → ℕ) (m hi c p v k : ℕ) → c < 2 ^ 32 → c + (v + 1) * 2 ^ 16 ≡ hi * 2 ^ 16 → Plain f m p v k
    → Read f m hi k (record { c = (c + (0xFF00 - f (p + 1) * 2 ^ 8)) % 2 ^ 32; ct = 8; place = p + 1 })
read-plain f m hi c p v k below e s =
    let b : ℕ = f (p + 1) in
    let byte : b ≤ 255 = s.byte in
    let x : (c + (0xFF00 - b * 2 ^ 8)) % 2 ^ 32 ≡ c + 65280 - b * 256 = omega arith in
    record { number = v * 256 + b; wait = inr refl; seen = s.seen; code = rw x (omega arith) }

-- no number that is read is past the top
pub read : (bytes : List ℕ) (m hi c p v k : ℕ) → Closing (byte_at bytes) m → c < 2 ^ 32 → c + (v + 1) * 2 ^ 16 ≡ hi * 2 ^ 16
    → ((q u s : ℕ) → (s ≡ 7) ⊎ (s ≡ 8) → Seen (byte_at bytes) m q u (k + s) → u + 1 ≤ hi * 2 ^ s)
    → Seen (byte_at bytes) m p v k → Read (byte_at bytes) m hi k (byte_in bytes c p)
read bytes m hi c p v k closing below e fit seen =
    let f : ℕ → ℕ = byte_at bytes in
    ⊎_elim
    (λ (s : Marker f m p v k). subst (Read f m hi k) (sym (byte_in-marker bytes c p s.full s.marker)) (read-marker f m hi c p v k e s))
    (λ (t : Stuffed f m p v k ⊎ Plain f m p v k). ⊎_elim
    (λ (s : Stuffed f m p v k).
    subst (Read f m hi k) (sym (byte_in-stuffed bytes c p s.full s.byte))
    (read-stuffed f m hi c p v k below e s (fit (p + 1) (v * 128 + f (p + 1)) 7 (inl refl) s.seen)))
    (λ (s : Plain f m p v k). subst (Read f m hi k) (sym (byte_in-plain bytes c p s.other)) (read-plain f m hi c p v k below e s))
    t)
    (step f m p v k closing seen)
