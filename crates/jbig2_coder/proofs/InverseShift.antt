-- RENORME, one shift at a time: what it keeps, and how knowledge goes back over it.
use Rattle.std.proofs.Common.{◌≡◌, ℕ, zero, suc, ◌+◌, ◌-◌, ◌*◌, ◌^◌, ◌<◌, ◌≤◌, sym, ap, ◌∙◌, arith, subst, ⊎_elim, ◌⊎◌, inl, eqb, mul-le-mul_right}
use Rattle.std.proofs.Math.Nat.{pow-suc}
use Rattle.std.proofs.lemmas.Nat.{pow_pos, pow-add}
use Rattle.std.proofs.lemmas.Bool.{cases_eq, cases_lt, cond-true, cond-false, eq-eqb, ne_eqb}
use Rattle.jbig2_coder.specs.Encoder.{Writer, EncoderState, byte_out, shift_once, renorme}
use Rattle.jbig2_coder.proofs.Encoders.{renormed-step, renormed-stop}
use Rattle.jbig2_coder.proofs.InverseByteOut.{low, time, Room, Bounded, Put, put}
use Rattle.jbig2_coder.proofs.InverseKnows.{Knows, Knows-scaled, Knows-put}

-- what the end knows of the interval of length a from the low end of w
abbrev pub KnowsAt : (ℕ → ℕ) → ℕ → ℕ → Writer → Type 0
KnowsAt f m a w = Knows f m (low w) (low w + a) (time w) w.out

-- k shifts, for which there are bits
abbrev pub scaled : ℕ → Writer → Writer
scaled k w = record { register = w.register * 2 ^ k; wait = w.wait - k; out = w.out }

pub low-scaled : (k : ℕ) (w : Writer) → k ≤ w.wait → w.wait ≤ 12 → low (scaled k w) ≡ low w * 2 ^ k
low-scaled k w h few =
    let e : 2 ^ (27 - (w.wait - k)) ≡ 2 ^ (27 - w.wait) * 2 ^ k =
    ap (λ n. 2 ^ n) (let e : 27 - (w.wait - k) ≡ 27 - w.wait + k = omega arith in e) ∙ pow-add 2 (27 - w.wait) k in
    rw e (omega arith)

pub time-scaled : (k : ℕ) (w : Writer) → k ≤ w.wait → w.wait ≤ 12 → time (scaled k w) ≡ time w + k
time-scaled k w h few = omega arith

pub Bounded-scaled : (a k : ℕ) (w : Writer) → k ≤ w.wait → Bounded a w → Bounded (a * 2 ^ k) (scaled k w)
Bounded-scaled a k w h b =
    let e : 2 ^ w.wait ≡ 2 ^ k * 2 ^ (w.wait - k) =
    ap (λ n. 2 ^ n) (let e : w.wait ≡ k + (w.wait - k) = omega arith in e) ∙ pow-add 2 k (w.wait - k) in
    let x : (w.register + a) * 2 ^ w.wait ≡ (w.register * 2 ^ k + a * 2 ^ k) * 2 ^ (w.wait - k) =
    ap (λ p. (w.register + a) * p) e ∙ omega arith in
    record {
      some = omega (arith, b.some, mul-le-mul_right (2 ^ k) b.some, pow_pos k);
      few = omega (arith, b.few);
      room = subst (λ n. Room n w.out) x b.room;
      valid = b.valid;
    }

pub KnowsAt-scaled : (f : ℕ → ℕ) (m a k : ℕ) (w : Writer) → k ≤ w.wait → w.wait ≤ 12 → KnowsAt f m (a * 2 ^ k) (scaled k w) → KnowsAt f m a w
KnowsAt-scaled f m a k w h few know =
    let e : low (scaled k w) ≡ low w * 2 ^ k = low-scaled k w h few in
    Knows-scaled f m (low w) (low w + a) (time w) k (low (scaled k w)) (low (scaled k w) + a * 2 ^ k) (time (scaled k w)) w.out
    e (omega (arith, e)) (time-scaled k w h few) know

-- BYTEOUT, as an encoder with no bit left to wait for makes it
pub Put-low : (a : ℕ) (w w2 : Writer) → w.wait ≡ 0 → Put a w.register w.out w2 → low w2 ≡ low w
Put-low a w w2 e p = rw e (omega (arith, p.number))

pub Put-time : (a : ℕ) (w w2 : Writer) → w.wait ≡ 0 → Put a w.register w.out w2 → time w2 ≡ time w
Put-time a w w2 e p = omega (arith, p.moment)

pub Put-back : (f : ℕ → ℕ) (m a : ℕ) (w w2 : Writer) → w.wait ≡ 0 → Put a w.register w.out w2 → KnowsAt f m a w2 → KnowsAt f m a w
Put-back f m a w w2 e p know =
    let k : Knows f m (low w2) (low w2 + a) (time w2) w.out = Knows-put f m (low w2 + a) a w.register w.out w2 p know in
    rw (Put-low a w w2 e p, Put-time a w w2 e p) at k

pub Put-here : (a : ℕ) (w : Writer) → w.wait ≡ 0 → Bounded a w → Put a w.register w.out (byte_out w.register w.out)
Put-here a w e b =
    let x : (w.register + a) * 2 ^ w.wait ≡ w.register + a = rw e (omega arith) in
    put a w.register w.out b.some b.valid (subst (λ n. Room n w.out) x b.room)

-- What one shift keeps, of an interval of length a.
pub record Shift (a : ℕ) (w w2 : Writer) : Type 0 where
  pub bounded : Bounded (2 * a) w2
  pub some : 1 ≤ w2.wait
  pub few : w2.wait ≤ 11
  pub number : low w2 ≡ 2 * low w
  pub moment : time w2 ≡ time w + 1
  pub back : (f : ℕ → ℕ) (m : ℕ) → KnowsAt f m (2 * a) w2 → KnowsAt f m a w

shifted-is : (w : Writer) → (w.wait ≡ 1 → ⊥) → 1 ≤ w.wait → shift_once w ≡ record { register = w.register * 2; wait = w.wait - 1; out = w.out }
unfolding shift_once
shifted-is w n some =
    let e : 2 * w.register ≡ w.register * 2 = omega arith in
    cond-false (eqb (w.wait - 1) 0) _ _ (ne_eqb (w.wait - 1) 0 (λ z. n (omega arith)))
    ∙ (λ i. record { register = e i; wait = w.wait - 1; out = w.out })

shifted-put : (w : Writer) → w.wait ≡ 1 → shift_once w ≡ byte_out (w.register * 2) w.out
unfolding shift_once
shifted-put w h =
    let e : 2 * w.register ≡ w.register * 2 = omega arith in
    let z : w.wait - 1 ≡ 0 = omega arith in
    cond-true (eqb (w.wait - 1) 0) _ _ (eq-eqb (w.wait - 1) 0 z)
    ∙ ap (λ c. byte_out c w.out) e

doubled-once : (f : ℕ → ℕ) (m a : ℕ) (w : Writer) → 1 ≤ w.wait → w.wait ≤ 12 → KnowsAt f m (2 * a) (scaled 1 w) → KnowsAt f m a w
doubled-once f m a w h few know =
    let e : 2 * a ≡ a * 2 ^ 1 = omega arith in
    KnowsAt-scaled f m a 1 w h few (subst (λ b. KnowsAt f m b (scaled 1 w)) e know)

bounded-once : (a : ℕ) (w : Writer) → 1 ≤ w.wait → Bounded a w → Bounded (2 * a) (scaled 1 w)
bounded-once a w h b =
    let e : a * 2 ^ 1 ≡ 2 * a = omega arith in
    subst (λ n. Bounded n (scaled 1 w)) e (Bounded-scaled a 1 w h b)

shift-moved : (a : ℕ) (w : Writer) → Bounded a w → 1 ≤ w.wait → (w.wait ≡ 1 → ⊥) → Shift a w (scaled 1 w)
shift-moved a w b h n =
    let l : low (scaled 1 w) ≡ low w * 2 ^ 1 = low-scaled 1 w h b.few in
    record {
      bounded = bounded-once a w h b;
      some = omega arith;
      few = omega (arith, b.few);
      number = omega (arith, l);
      moment = time-scaled 1 w h b.few;
      back = λ f m know. doubled-once f m a w h b.few know;
    }

shift-put : (a : ℕ) (w w2 : Writer) → Bounded a w → w.wait ≡ 1 → a < 0x8000 → Put (2 * a) (w.register * 2) w.out w2 → Shift a w w2
shift-put a w w2 b e half p =
    let h : 1 ≤ w.wait = omega arith in
    let z : (scaled 1 w).wait ≡ 0 = omega arith in
    let l : low (scaled 1 w) ≡ low w * 2 ^ 1 = low-scaled 1 w h b.few in
    let t : time (scaled 1 w) ≡ time w + 1 = time-scaled 1 w h b.few in
    let l2 : low w2 ≡ low (scaled 1 w) = Put-low (2 * a) (scaled 1 w) w2 z p in
    let t2 : time w2 ≡ time (scaled 1 w) = Put-time (2 * a) (scaled 1 w) w2 z p in
    record {
      bounded = p.bounded (omega arith);
      some = omega (arith, p.wait);
      few = omega (arith, p.wait);
      number = l2 ∙ l ∙ omega arith;
      moment = t2 ∙ t;
      back = λ f m know. doubled-once f m a w h b.few (Put-back f m (2 * a) (scaled 1 w) w2 z p know);
    }

-- one shift of RENORME
pub shift : (a : ℕ) (w : Writer) → Bounded a w → 1 ≤ w.wait → a < 0x8000 → Shift a w (shift_once w)
shift a w b h half =
    ⊎_elim
    (λ (e : w.wait ≡ 1).
    let z : (scaled 1 w).wait ≡ 0 = omega arith in
    subst (Shift a w) (sym (shifted-put w e))
    (shift-put a w (byte_out (w.register * 2) w.out) b e half (Put-here (2 * a) (scaled 1 w) z (bounded-once a w h b))))
    (λ (n : w.wait ≡ 1 → ⊥). subst (Shift a w) (sym (shifted-is w n h)) (shift-moved a w b h n))
    (cases_eq w.wait 1)

-- What holds between two decisions, but the first.
pub record Resting (s : EncoderState) : Type 0 where
  pub bounded : Bounded s.range s.writer
  pub some : 1 ≤ s.writer.wait
  pub few : s.writer.wait ≤ 11
  pub normal : 0x8000 ≤ s.range
  pub below : s.range < 0x10000

-- What RENORME makes of A and its writer: it rests, and what the end knows of it goes back.
pub record Renorm (a : ℕ) (w : Writer) (s : EncoderState) : Type 0 where
  pub resting : Resting s
  pub back : (f : ℕ → ℕ) (m : ℕ) → KnowsAt f m s.range s.writer → KnowsAt f m a w

renorm-stop : (n a : ℕ) (w : Writer) → Bounded a w → 1 ≤ w.wait → w.wait ≤ 11 → a < 0x10000 → 0x8000 ≤ a → Renorm a w (renorme n a w)
renorm-stop n a w b h few below normal =
    subst (Renorm a w) (sym (renormed-stop n a w normal))
    (record { resting = record { bounded = b; some = h; few = few; normal = normal; below = below }; back = λ f m know. know })

pub renorm : (n a : ℕ) (w : Writer) → Bounded a w → 1 ≤ w.wait → (w.wait ≤ 11) ⊎ (a < 0x8000) → a < 0x10000 → 0x8000 ≤ a * 2 ^ n
    → Renorm a w (renorme n a w)
renorm zero a w b h few below enough = renorm-stop zero a w b h (omega (arith, few)) below (omega arith)
renorm (suc n) a w b h few below enough =
    ⊎_elim
    (λ (half : a < 0x8000).
    let s : Shift a w (shift_once w) = shift a w b h half in
    let room : 0x8000 ≤ 2 * a * 2 ^ n = omega (arith, rw pow-suc at enough) in
    let r : Renorm (2 * a) (shift_once w) (renorme n (2 * a) (shift_once w)) =
    renorm n (2 * a) (shift_once w) s.bounded s.some (inl s.few) (omega arith) room in
    subst (Renorm a w) (sym (renormed-step n a w half)) (record { resting = r.resting; back = λ f m know. s.back f m (r.back f m know) }))
    (λ (normal : 0x8000 ≤ a). renorm-stop (suc n) a w b h (omega (arith, few)) below normal)
    (cases_lt a 0x8000)
