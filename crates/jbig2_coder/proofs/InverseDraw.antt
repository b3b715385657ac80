-- RENORME and RENORMD together: the decoder's register says how far the top of the encoder's interval is above the
-- number that has been read.
use Rattle.std.proofs.Common.{◌≡◌, ℕ, zero, suc, ◌+◌, ◌-◌, ◌*◌, ◌%◌, ◌^◌, ◌<◌, ◌≤◌, List, refl, sym, ap, ◌∙◌, arith, subst, ⊎_elim, ◌⊎◌, inl}
use Rattle.std.proofs.Math.Nat.{pow-suc, lt_of_mul-lt-mul_right}
use Rattle.std.proofs.lemmas.Bool.{cases_eq, cases_lt}
use Rattle.jbig2_coder.specs.Coder.{Registers, byte_at, byte_in, byte_in_if_empty, shift_left, renormd}
use Rattle.jbig2_coder.specs.Encoder.{Writer, EncoderState, shift_once, renorme}
use Rattle.jbig2_coder.specs.declared.arithmetic_decoder.registers.CodeRegister.{CodeRegister}
use Rattle.jbig2_coder.proofs.Encoders.{renormed-step as encoder-step, renormed-stop as encoder-stop}
use Rattle.jbig2_coder.proofs.Renorm.{filled-some, filled-none, renormed-step, renormed-stop}
use Rattle.jbig2_coder.proofs.InverseByteOut.{low, time, Bounded}
use Rattle.jbig2_coder.proofs.InverseKnows.{Seen, Fits, Seen-fits}
use Rattle.jbig2_coder.proofs.InverseShift.{KnowsAt, Shift, shift, Renorm, renorm}
use Rattle.jbig2_coder.proofs.InverseRead.{Closing, Read, read}

-- The interval has length a from lo on, t shifts are made, and v is the number that has been read.
pub record Follows (f : ℕ → ℕ) (m lo a t : ℕ) (r : CodeRegister) (v : ℕ) : Type 0 where
  pub few : r.ct ≤ 8
  pub seen : Seen f m r.place v (t + 15 + r.ct)
  pub code : r.c * 2 ^ r.ct + (v + 1) * 2 ^ 16 ≡ (lo + a) * 2 ^ r.ct * 2 ^ 16

-- the same, for the part of the encoder that writes
abbrev pub FollowsAt : (ℕ → ℕ) → ℕ → ℕ → Writer → CodeRegister → ℕ → Type 0
FollowsAt f m a w r v = Follows f m (low w) a (time w) r v

pub Follows-fits : (f : ℕ → ℕ) (m a : ℕ) (w : Writer) (r : CodeRegister) (v : ℕ) → FollowsAt f m a w r v → KnowsAt f m a w
    → Fits (low w) (low w + a) v r.ct
Follows-fits f m a w r v h know =
    Seen-fits f m (low w) (low w + a) (time w) w.out r.place v (time w + 15 + r.ct) r.ct know (omega arith) refl h.seen

pub code-below : (c v s lo a : ℕ) → c * 2 ^ s + (v + 1) * 2 ^ 16 ≡ (lo + a) * 2 ^ s * 2 ^ 16 → lo * 2 ^ s < v + 1 → c < a * 2 ^ 16
code-below c v s lo a e h =
    let p : ℕ = 2 ^ s in
    let d : c * p < a * 2 ^ 16 * p = omega (arith, e, h) in
    lt_of_mul-lt-mul_right (2 ^ s) d

-- the register is in the interval
pub Follows-below : (f : ℕ → ℕ) (m a : ℕ) (w : Writer) (r : CodeRegister) (v : ℕ) → FollowsAt f m a w r v → KnowsAt f m a w → r.c < a * 2 ^ 16
Follows-below f m a w r v h know = code-below r.c v r.ct (low w) a h.code (Follows-fits f m a w r v h know).above

-- BYTEIN, where no bit is left
pub record Filled (f : ℕ → ℕ) (m a : ℕ) (w : Writer) (r : CodeRegister) : Type 0 where
  pub number : ℕ
  pub some : 1 ≤ r.ct
  pub follows : FollowsAt f m a w r number

fill-none : (bytes : List ℕ) (m a : ℕ) (w : Writer) (r : CodeRegister) (v : ℕ) → Closing (byte_at bytes) m → a ≤ 0x10000 → r.ct ≡ 0
    → FollowsAt (byte_at bytes) m a w r v → KnowsAt (byte_at bytes) m a w → Filled (byte_at bytes) m a w (byte_in bytes r.c r.place)
fill-none bytes m a w r v closing small e h know =
    let f : ℕ → ℕ = byte_at bytes in
    let b : r.c < a * 2 ^ 16 = Follows-below f m a w r v h know in
    let code : r.c + (v + 1) * 2 ^ 16 ≡ (low w + a) * 2 ^ 16 = omega (arith, rw e at h.code) in
    let count : time w + 15 + r.ct ≡ time w + 15 = omega arith in
    let d : Read f m (low w + a) (time w + 15) (byte_in bytes r.c r.place) =
    read bytes m (low w + a) r.c r.place v (time w + 15) closing (omega arith) code
    (λ q u s _ seen. (Seen-fits f m (low w) (low w + a) (time w) w.out q u (time w + 15 + s) s know (omega arith) refl seen).under)
    (subst (λ k. Seen f m r.place v k) count h.seen) in
    record {
      number = d.number;
      some = omega (arith, d.wait);
      follows = record { few = omega (arith, d.wait); seen = d.seen; code = d.code };
    }

fill : (bytes : List ℕ) (m a : ℕ) (w : Writer) (r : CodeRegister) (v : ℕ) → Closing (byte_at bytes) m → a ≤ 0x10000
    → FollowsAt (byte_at bytes) m a w r v → KnowsAt (byte_at bytes) m a w → Filled (byte_at bytes) m a w (byte_in_if_empty bytes r)
fill bytes m a w r v closing small h know =
    ⊎_elim
    (λ (e : r.ct ≡ 0). subst (Filled (byte_at bytes) m a w) (sym (filled-none bytes r e)) (fill-none bytes m a w r v closing small e h know))
    (λ (n : r.ct ≡ 0 → ⊥).
    let some : 1 ≤ r.ct = omega arith in
    subst (Filled (byte_at bytes) m a w) (sym (filled-some bytes r some)) (record { number = v; some = some; follows = h }))
    (cases_eq r.ct 0)

double-code : (c v s hi : ℕ) → 1 ≤ s → c * 2 ^ s + (v + 1) * 2 ^ 16 ≡ hi * 2 ^ s * 2 ^ 16
    → 2 * c * 2 ^ (s - 1) + (v + 1) * 2 ^ 16 ≡ 2 * hi * 2 ^ (s - 1) * 2 ^ 16
double-code c v s hi some e =
    let p : 2 ^ s ≡ 2 ^ (s - 1) * 2 = ap (λ k. 2 ^ k) (let e : s ≡ suc (s - 1) = omega arith in e) ∙ pow-suc 2 (s - 1) in
    let d : c * (2 ^ (s - 1) * 2) + (v + 1) * 2 ^ 16 ≡ hi * (2 ^ (s - 1) * 2) * 2 ^ 16 = rw p at e in
    omega (arith, d)

-- one shift on both sides
double : (f : ℕ → ℕ) (m a : ℕ) (w w2 : Writer) (r : CodeRegister) (v : ℕ) → a < 0x8000 → 1 ≤ r.ct → Shift a w w2
    → FollowsAt f m a w r v → KnowsAt f m a w → FollowsAt f m (2 * a) w2 (shift_left r) v
unfolding shift_left
double f m a w w2 r v half some s h know =
    let b : r.c < a * 2 ^ 16 = Follows-below f m a w r v h know in
    let whole : 2 * r.c % 2 ^ 32 ≡ 2 * r.c = omega arith in
    let top : 2 * (low w + a) ≡ low w2 + 2 * a = omega (arith, s.number) in
    let count : time w + 15 + r.ct ≡ time w2 + 15 + (r.ct - 1) = omega (arith, s.moment) in
    let code : 2 * r.c * 2 ^ (r.ct - 1) + (v + 1) * 2 ^ 16 ≡ 2 * (low w + a) * 2 ^ (r.ct - 1) * 2 ^ 16 =
    double-code r.c v r.ct (low w + a) some h.code in
    record {
      few = omega (arith, h.few);
      seen = subst (λ k. Seen f m r.place v k) count h.seen;
      code = ap (λ c. c * 2 ^ (r.ct - 1) + (v + 1) * 2 ^ 16) whole ∙ code ∙ ap (λ n. n * 2 ^ (r.ct - 1) * 2 ^ 16) top;
    }

-- what both have become: A is one number
pub record Together (f : ℕ → ℕ) (m : ℕ) (s : EncoderState) (d : Registers) : Type 0 where
  pub number : ℕ
  pub same : d.a ≡ s.range
  pub follows : FollowsAt f m s.range s.writer d.code number

together-stop : (bytes : List ℕ) (m n a : ℕ) (w : Writer) (r : CodeRegister) (v : ℕ) → 0x8000 ≤ a → FollowsAt (byte_at bytes) m a w r v
    → Together (byte_at bytes) m (renorme n a w) (renormd bytes n a r)
together-stop bytes m n a w r v h follows =
    let f : ℕ → ℕ = byte_at bytes in
    subst (λ (s : EncoderState). Together f m s (renormd bytes n a r)) (sym (encoder-stop n a w h))
    (subst (λ (d : Registers). Together f m (record { range = a; writer = w }) d) (sym (renormed-stop bytes n a r h))
    (record { number = v; same = refl; follows = follows }))

pub together : (bytes : List ℕ) (m n a : ℕ) (w : Writer) (r : CodeRegister) (v : ℕ) → Closing (byte_at bytes) m
    → Bounded a w → 1 ≤ w.wait → (w.wait ≤ 11) ⊎ (a < 0x8000) → a < 0x10000 → 0x8000 ≤ a * 2 ^ n
    → KnowsAt (byte_at bytes) m (renorme n a w).range (renorme n a w).writer
    → FollowsAt (byte_at bytes) m a w r v
    → Together (byte_at bytes) m (renorme n a w) (renormd bytes n a r)
together bytes m zero a w r v closing b some few below enough know follows = together-stop bytes m zero a w r v (omega arith) follows
together bytes m (suc n) a w r v closing b some few below enough know follows =
    let f : ℕ → ℕ = byte_at bytes in
    ⊎_elim
    (λ (half : a < 0x8000).
    let s : Shift a w (shift_once w) = shift a w b some half in
    let room : 0x8000 ≤ 2 * a * 2 ^ n = omega (arith, rw pow-suc at enough) in
    let back : Renorm a w (renorme (suc n) a w) = renorm (suc n) a w b some few below enough in
    let here : KnowsAt f m a w = back.back f m know in
    let next : Filled f m a w (byte_in_if_empty bytes r) = fill bytes m a w r v closing (omega arith) follows here in
    let more : FollowsAt f m (2 * a) (shift_once w) (shift_left (byte_in_if_empty bytes r)) next.number =
    double f m a w (shift_once w) (byte_in_if_empty bytes r) next.number half next.some s next.follows here in
    let later : KnowsAt f m (renorme n (2 * a) (shift_once w)).range (renorme n (2 * a) (shift_once w)).writer =
    subst (λ (z : EncoderState). KnowsAt f m z.range z.writer) (encoder-step n a w half) know in
    let rest : Together f m (renorme n (2 * a) (shift_once w)) (renormd bytes n (2 * a) (shift_left (byte_in_if_empty bytes r))) =
    together bytes m n (2 * a) (shift_once w) (shift_left (byte_in_if_empty bytes r)) next.number closing s.bounded s.some (inl s.few) (omega arith) room later more in
    subst (λ (z : EncoderState). Together f m z (renormd bytes (suc n) a r)) (sym (encoder-step n a w half))
    (subst (λ (z : Registers). Together f m (renorme n (2 * a) (shift_once w)) z) (sym (renormed-step bytes n a r half)) rest))
    (λ (normal : 0x8000 ≤ a). together-stop bytes m (suc n) a w r v normal follows)
    (cases_lt a 0x8000)
