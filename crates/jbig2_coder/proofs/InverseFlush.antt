-- FLUSH: it narrows the interval to one number, whose low bits are ones, and the bytes that are out in the end name
-- that number.
use Rattle.std.proofs.Common.{◌≡◌, ℕ, suc, ◌+◌, ◌-◌, ◌*◌, ◌/◌, ◌%◌, ◌^◌, ◌<◌, ◌≤◌, List, [], ◌∷◌, length, leb, sym, ap, ◌∙◌, arith, ⊎_elim, ◌⊎◌, le_refl, mul-le-mul_right}
use Rattle.std.proofs.Math.Nat.{pow-suc, pow-le-pow_right}
use Rattle.std.proofs.lemmas.Nat.{pow_pos, pow-add}
use Rattle.std.proofs.lemmas.Bool.{cond_both, leb-true, leb-false}
use Rattle.jbig2_coder.specs.Encoder.{Writer, EncoderState, byte_out, set_bits, flush_coder}
use Rattle.jbig2_coder.proofs.InverseBytes.{bits, value, first, Valid}
use Rattle.jbig2_coder.proofs.InverseByteOut.{low, time, Room-le, Bounded, Put}
use Rattle.jbig2_coder.proofs.InverseKnows.{Headed, Knows, Knows-wider, Headed-grown, last-byte, above-out}
use Rattle.jbig2_coder.proofs.InverseShift.{KnowsAt, scaled, low-scaled, Bounded-scaled, KnowsAt-scaled, Put-low, Put-time, Put-back, Put-here, Resting}

-- what SETBITS chooses is in the interval, and ends in fifteen ones
pub record Chosen (a c n : ℕ) : Type 0 where
  pub least : c ≤ n
  pub most : n + 1 ≤ c + a
  pub ones : n + 1 ≡ 0x8000 * ((n + 1) / 0x8000)

pub set_bits-chosen : (a c : ℕ) → 0x8000 ≤ a → Chosen a c (set_bits a c)
unfolding set_bits
set_bits-chosen a c h =
    let ones : ℕ = c - c % 2 ^ 16 + 0xFFFF in
    cond_both (leb (c + a) ones) (ones - 0x8000) ones (Chosen a c)
    (λ e. let k : c + a ≤ ones = leb-true (c + a) ones e in
    record { least = omega (arith, k); most = omega arith; ones = omega arith })
    (λ e. let k : ones < c + a = leb-false (c + a) ones e in
    record { least = omega arith; most = omega (arith, k); ones = omega arith })

Headed-whole : (f : ℕ → ℕ) (s : List ℕ) (m : ℕ) → length s ≡ m → first f m ≡ s → Headed f s
Headed-whole f [] m l e = tt
Headed-whole f (b ∷ r) m l e =
    let h : f (length r) ∷ first f (length r) ≡ b ∷ r = ap (first f) l ∙ e in
    let c : b ≡ f (length r) = cc in
    (cc, omega (arith, c))

-- the last BYTEOUT
Knows-end : (f : ℕ → ℕ) (m hi a c : ℕ) (r : List ℕ) (w : Writer) → Put a c r w → length w.out ≡ m → first f m ≡ w.out
    → hi ≡ (value w.out + 1) * 2 ^ (27 - w.wait) → Knows f m (low w) hi (time w) r
Knows-end f m hi a c r w p len whole top =
    let l = p.longer in
    let b = last-byte f w.out l.byte l.rest (length r) l.is l.same (Headed-whole f w.out m len whole) in
    let t : 2 ^ (time w + 15) ≡ 2 ^ bits w.out * 2 ^ (27 - w.wait) = ap (λ n. 2 ^ n) p.scale ∙ pow-add 2 (bits w.out) (27 - w.wait) in
    record {
      some = omega (arith, len, b.1);
      headed = Headed-grown f r l.rest l.grown b.0;
      above = λ j q more.
          let e : j ≡ suc (length r) = omega (arith, len, b.1) in
          rw (e, b.3) (above-out (low w) (value w.out) (value (first f (suc (length r)))) (bits w.out) (27 - w.wait) (time w + 15) p.below b.2 p.scale);
      under = rw (whole, top, t) (omega arith);
    }

-- the top of that interval of one number, once it is moved on
end-high : (v z u c p s t : ℕ) → (s ≡ 7) ⊎ (s ≡ 8) → (t ≡ 7) ⊎ (t ≡ 8) → 1 ≤ p → p ≤ 2048
    → (v * 2 ^ 27 + 2 ^ 16 * z) * 2 ^ s ≡ u * 2 ^ (27 - t) + (c + p * 2 ^ s) → c < 2 ^ (27 - t) → c + p * 2 ^ s ≡ 2 ^ (27 - t)
end-high v z u c p s t hs ht some few e h =
    ⊎_elim
    (λ (s7 : s ≡ 7). ⊎_elim (λ (t7 : t ≡ 7). rw (s7, t7) (seven-seven (rw (s7, t7) at e) (rw t7 at h))) (λ (t8 : t ≡ 8). rw (s7, t8) (seven-eight (rw (s7, t8) at e) (rw t8 at h))) ht)
    (λ (s8 : s ≡ 8). ⊎_elim (λ (t7 : t ≡ 7). rw (s8, t7) (eight-seven (rw (s8, t7) at e) (rw t7 at h))) (λ (t8 : t ≡ 8). rw (s8, t8) (eight-eight (rw (s8, t8) at e) (rw t8 at h))) ht)
    hs
  where
    seven-seven : (v * 2 ^ 27 + 2 ^ 16 * z) * 2 ^ 7 ≡ u * 2 ^ 20 + (c + p * 2 ^ 7) → c < 2 ^ 20 → c + p * 2 ^ 7 ≡ 2 ^ 20
    seven-seven e h = omega arith

    seven-eight : (v * 2 ^ 27 + 2 ^ 16 * z) * 2 ^ 7 ≡ u * 2 ^ 19 + (c + p * 2 ^ 7) → c < 2 ^ 19 → c + p * 2 ^ 7 ≡ 2 ^ 19
    seven-eight e h = omega arith

    eight-seven : (v * 2 ^ 27 + 2 ^ 16 * z) * 2 ^ 8 ≡ u * 2 ^ 20 + (c + p * 2 ^ 8) → c < 2 ^ 20 → c + p * 2 ^ 8 ≡ 2 ^ 20
    eight-seven e h = omega arith

    eight-eight : (v * 2 ^ 27 + 2 ^ 16 * z) * 2 ^ 8 ≡ u * 2 ^ 19 + (c + p * 2 ^ 8) → c < 2 ^ 19 → c + p * 2 ^ 8 ≡ 2 ^ 19
    eight-eight e h = omega arith

-- a writer whose register has its bits set
abbrev filled : ℕ → Writer → Writer
filled n w = record { register = n; wait = w.wait; out = w.out }

-- one that has no bit to wait for
abbrev ready : Writer → Writer
ready w = scaled w.wait w

ready-wait : (w : Writer) → (ready w).wait ≡ 0
ready-wait w = omega arith

power-few : (t : ℕ) → 1 ≤ t → t ≤ 11 → (2 ≤ 2 ^ t) × (2 ^ t ≤ 2048)
power-few t some few =
    let p : 2 ^ 1 ≤ 2 ^ t = pow-le-pow_right (omega arith) some in
    let q : 2 ^ t ≤ 2 ^ 11 = pow-le-pow_right (omega arith) few in
    (omega (arith, p), omega (arith, q))

Bounded-filled : (a n : ℕ) (w : Writer) → Chosen a w.register n → Bounded a w → Bounded 1 (filled n w)
Bounded-filled a n w k b =
    let h : (n + 1) * 2 ^ w.wait ≤ (w.register + a) * 2 ^ w.wait = mul-le-mul_right (2 ^ w.wait) k.most in
    record {
      some = omega arith;
      few = b.few;
      room = Room-le ((n + 1) * 2 ^ w.wait) ((w.register + a) * 2 ^ w.wait) w.out h b.room;
      valid = b.valid;
    }

-- the number that is named, as its low bits show it
ones-low : (v n t : ℕ) → t ≤ 12 → 1 ≤ t → n + 1 ≡ 0x8000 * ((n + 1) / 0x8000)
    → (v * 2 ^ (27 - t) + n) * 2 ^ t + 1 * 2 ^ t ≡ v * 2 ^ 27 + 2 ^ 16 * ((n + 1) / 0x8000 * 2 ^ (t - 1))
ones-low v n t few some e =
    let p : 2 ^ (27 - t) * 2 ^ t ≡ 2 ^ 27 = sym (pow-add 2 (27 - t) t) ∙ ap (λ k. 2 ^ k) (let e : 27 - t + t ≡ 27 = omega arith in e) in
    let q : 2 ^ t ≡ 2 ^ (t - 1) * 2 = ap (λ k. 2 ^ k) (let e : t ≡ suc (t - 1) = omega arith in e) ∙ pow-suc 2 (t - 1) in
    let y : (n + 1) * 2 ^ t ≡ 0x8000 * ((n + 1) / 0x8000) * 2 ^ t = ap (λ x. x * 2 ^ t) e in
    let z : (n + 1) / 0x8000 * 2 ^ t ≡ (n + 1) / 0x8000 * (2 ^ (t - 1) * 2) = ap (λ x. (n + 1) / 0x8000 * x) q in
    let vp : v * (2 ^ (27 - t) * 2 ^ t) ≡ v * 2 ^ 27 = ap (λ x. v * x) p in
    omega (arith, vp, y, z)

flush-back : (f : ℕ → ℕ) (m a n : ℕ) (w u x : Writer) → Chosen a w.register n → Bounded a w → 1 ≤ w.wait → w.wait ≤ 11
    → Put (1 * 2 ^ w.wait) (ready (filled n w)).register w.out u
    → Put (1 * 2 ^ w.wait * 2 ^ u.wait) (ready u).register u.out x
    → length x.out ≡ m → first f m ≡ x.out → KnowsAt f m a w
flush-back f m a n w u x k b some few p q len whole =
    let t : ℕ = w.wait in
    let l0 : low (ready (filled n w)) ≡ low (filled n w) * 2 ^ t = low-scaled t (filled n w) (le_refl t) b.few in
    let l1 : low u ≡ low (ready (filled n w)) = Put-low (1 * 2 ^ t) (ready (filled n w)) u (ready-wait (filled n w)) p in
    let small : u.wait ≤ 12 = omega (arith, p.wait) in
    let l2 : low (ready u) ≡ low u * 2 ^ u.wait = low-scaled u.wait u (le_refl u.wait) small in
    let l3 : low x ≡ low (ready u) = Put-low (1 * 2 ^ t * 2 ^ u.wait) (ready u) x (ready-wait u) q in
    let ones : low (filled n w) * 2 ^ t + 1 * 2 ^ t ≡ value w.out * 2 ^ 27 + 2 ^ 16 * ((n + 1) / 0x8000 * 2 ^ (t - 1)) =
    ones-low (value w.out) n t b.few some k.ones in
    let lowest : low x ≡ low (filled n w) * 2 ^ t * 2 ^ u.wait = l3 ∙ l2 ∙ ap (λ v. v * 2 ^ u.wait) (l1 ∙ l0) in
    let whole_low : (value w.out * 2 ^ 27 + 2 ^ 16 * ((n + 1) / 0x8000 * 2 ^ (t - 1))) * 2 ^ u.wait ≡ low x + 2 ^ t * 2 ^ u.wait =
    ap (λ v. v * 2 ^ u.wait) (sym ones) ∙ omega (arith, lowest) in
    let top : x.register + 2 ^ t * 2 ^ u.wait ≡ 2 ^ (27 - x.wait) =
    end-high (value w.out) ((n + 1) / 0x8000 * 2 ^ (t - 1)) (value x.out) x.register (2 ^ t) u.wait x.wait p.wait q.wait (omega (arith, pow_pos t)) ((power-few t some few).1) (whole_low ∙ omega arith) (omega (arith, q.below)) in
    let hi : low x + 1 * 2 ^ t * 2 ^ u.wait ≡ (value x.out + 1) * 2 ^ (27 - x.wait) = omega (arith, top) in
    let e : KnowsAt f m (1 * 2 ^ t * 2 ^ u.wait) (ready u) = end-ready f m (1 * 2 ^ t * 2 ^ u.wait) u x q len whole hi in
    let d : KnowsAt f m (1 * 2 ^ t) (ready (filled n w)) =
    Put-back f m (1 * 2 ^ t) (ready (filled n w)) u (ready-wait (filled n w)) p (KnowsAt-scaled f m (1 * 2 ^ t) u.wait u (le_refl u.wait) small e) in
    let c : KnowsAt f m 1 (filled n w) = KnowsAt-scaled f m 1 t (filled n w) (le_refl t) b.few d in
    Knows-wider f m (low w) (low w + a) (time w) (low (filled n w)) (low (filled n w) + 1) w.out (omega (arith, k.least)) (omega (arith, k.most)) c
  where
    end-ready : (f : ℕ → ℕ) (m a : ℕ) (u x : Writer) → Put a (ready u).register u.out x → length x.out ≡ m → first f m ≡ x.out
        → low x + a ≡ (value x.out + 1) * 2 ^ (27 - x.wait) → KnowsAt f m a (ready u)
    end-ready f m a u x q len whole hi =
        let k : Knows f m (low x) (low x + a) (time x) u.out = Knows-end f m (low x + a) a (ready u).register u.out x q len whole hi in
        rw (Put-low a (ready u) x (ready-wait u) q, Put-time a (ready u) x (ready-wait u) q) at k

-- What the bytes that FLUSH leaves know of the interval before it.
pub record Flush (s : EncoderState) (w : Writer) : Type 0 where
  pub valid : Valid w.out
  pub back : (f : ℕ → ℕ) (m : ℕ) → length w.out ≡ m → first f m ≡ w.out → KnowsAt f m s.range s.writer

pub flush : (s : EncoderState) → Resting s → Flush s (flush_coder s)
unfolding flush_coder
flush s rest =
    let w : Writer = s.writer in
    let n : ℕ = set_bits s.range w.register in
    let k : Chosen s.range w.register n = set_bits-chosen s.range w.register rest.normal in
    let b : Bounded (1 * 2 ^ w.wait) (ready (filled n w)) =
    Bounded-scaled 1 w.wait (filled n w) (le_refl w.wait) (Bounded-filled s.range n w k rest.bounded) in
    let u : Writer = byte_out (n * 2 ^ w.wait) w.out in
    let p : Put (1 * 2 ^ w.wait) (n * 2 ^ w.wait) w.out u = Put-here (1 * 2 ^ w.wait) (ready (filled n w)) (ready-wait (filled n w)) b in
    let small : 1 * 2 ^ w.wait ≤ 2 ^ 16 = omega (arith, (power-few w.wait rest.some rest.few).1) in
    let c : Bounded (1 * 2 ^ w.wait * 2 ^ u.wait) (ready u) = Bounded-scaled (1 * 2 ^ w.wait) u.wait u (le_refl u.wait) (p.bounded small) in
    let q : Put (1 * 2 ^ w.wait * 2 ^ u.wait) (u.register * 2 ^ u.wait) u.out (byte_out (u.register * 2 ^ u.wait) u.out) =
    Put-here (1 * 2 ^ w.wait * 2 ^ u.wait) (ready u) (ready-wait u) c in
    record {
      valid = q.valid;
      back = λ f m len whole. flush-back f m s.range n w u _ k rest.bounded rest.some rest.few p q len whole;
    }
