-- The bytes after a closed list, and the decoder's start over them.
use Rattle.std.proofs.Common.{◌≡◌, ℕ, zero, suc, ◌+◌, ◌-◌, ◌*◌, ◌%◌, ◌^◌, ◌<◌, ◌≤◌, true, false, List, [], ◌∷◌, ◌++◌, append_assoc, length, reverse, get_or, refl, sym, ap, ◌∙◌, arith, subst, ⊎_elim, ◌⊎◌, inl}
use Rattle.std.proofs.lemmas.Bool.{cases_Bool, eqb-true}
use Rattle.std.proofs.lemmas.List.{reverse-append, reverse-reverse, length-reverse, get_or_at, get_or-append-add}
use Rattle.jbig2_coder.specs.Coder.{byte_at, byte_in, initial_registers}
use Rattle.jbig2_coder.specs.Encoder.{initial_coding, is_full, with_marker}
use Rattle.jbig2_coder.specs.declared.arithmetic_decoder.registers.CodeRegister.{CodeRegister}
use Rattle.jbig2_coder.proofs.Encoders.{is_full-last, closed-full, closed-plain}
use Rattle.jbig2_coder.proofs.InverseBytes.{Valid, first}
use Rattle.jbig2_coder.proofs.InverseKnows.{Seen, Inside, Fits, Seen-fits}
use Rattle.jbig2_coder.proofs.InverseShift.{KnowsAt}
use Rattle.jbig2_coder.proofs.InverseRead.{Closing, Read, read}
use Rattle.jbig2_coder.proofs.InverseDraw.{Together}

byte_at-is : (bytes : List ℕ) (i : ℕ) → byte_at bytes i ≡ get_or bytes i 255
unfolding byte_at
byte_at-is bytes i = refl

-- the last byte of a turned list goes to the head of what follows
reverse-cons : (b : ℕ) (r q : List ℕ) → reverse (b ∷ r) ++ q ≡ reverse r ++ (b ∷ q)
reverse-cons b r q = ap (λ (s : List ℕ). s ++ q) (reverse-append (b ∷ []) r) ∙ append_assoc (reverse r) (b ∷ []) q

-- the first bytes of a turned list, the last one first, are the list
first-reverse : (r q bytes : List ℕ) → bytes ≡ reverse r ++ q → first (byte_at bytes) (length r) ≡ r
first-reverse [] q bytes e = refl
first-reverse (b ∷ r) q bytes e =
    let turned : bytes ≡ reverse r ++ (b ∷ q) = e ∙ reverse-cons b r q in
    let ih : first (byte_at bytes) (length r) ≡ r = first-reverse r (b ∷ q) bytes turned in
    let last : byte_at bytes (length r) ≡ b =
    byte_at-is bytes (length r) ∙ ap (λ (s : List ℕ). get_or s (length r) 255) turned
    ∙ get_or_at (reverse r) b q 255 (length r) (length-reverse r) in
    λ i. last i ∷ ih i

-- what follows it
byte-after : (r q bytes : List ℕ) (n : ℕ) → bytes ≡ reverse r ++ q → byte_at bytes (length r + n) ≡ get_or q n 255
byte-after r q bytes n e =
    byte_at-is bytes (length r + n) ∙ ap (λ (s : List ℕ). get_or s (length r + n) 255) e
    ∙ ap (λ k. get_or (reverse r ++ q) (k + n) 255) (sym (length-reverse r))
    ∙ get_or-append-add (reverse r) q n 255

byte-next : (r q bytes : List ℕ) → bytes ≡ reverse r ++ q → byte_at bytes (length r) ≡ get_or q 0 255
byte-next r q bytes e = ap (byte_at bytes) (let e : length r ≡ length r + 0 = omega arith in e) ∙ byte-after r q bytes 0 e

closed-full_is : (r : List ℕ) → is_full r ≡ true → with_marker r ≡ reverse r ++ 0xAC ∷ []
closed-full_is r h =
    let k : is_full (reverse (reverse r)) ≡ true = ap is_full (reverse-reverse r) ∙ h in
    ap with_marker (sym (reverse-reverse r)) ∙ sym (closed-full (reverse r) k)

closed-plain_is : (r : List ℕ) → is_full r ≡ false → with_marker r ≡ reverse r ++ 0xFF ∷ 0xAC ∷ []
closed-plain_is r h =
    let k : is_full (reverse (reverse r)) ≡ false = ap is_full (reverse-reverse r) ∙ h in
    ap with_marker (sym (reverse-reverse r)) ∙ sym (closed-plain (reverse r) k)

pub first-closed : (r : List ℕ) → first (byte_at (with_marker r)) (length r) ≡ r
first-closed r =
    ⊎_elim
    (λ (h : is_full r ≡ true). first-reverse r (0xAC ∷ []) (with_marker r) (closed-full_is r h))
    (λ (h : is_full r ≡ false). first-reverse r (0xFF ∷ 0xAC ∷ []) (with_marker r) (closed-plain_is r h))
    (cases_Bool (is_full r))

last-full : (f : ℕ → ℕ) (r : List ℕ) (n : ℕ) → first f (length r) ≡ r → length r ≡ suc n → is_full r ≡ true → f n ≡ 255
last-full f r n e l h =
    let s : r ≡ f n ∷ first f n = sym e ∙ ap (first f) l in
    eqb-true (f n) 255 (sym (is_full-last (f n) r (first f n) s) ∙ h)

-- after the bytes comes a marker
pub Closing-closed : (r : List ℕ) → Valid r → Closing (byte_at (with_marker r)) (length r)
Closing-closed r valid =
    let f : ℕ → ℕ = byte_at (with_marker r) in
    let whole : first f (length r) ≡ r = first-closed r in
    let v : Valid (first f (length r)) = subst Valid (sym whole) valid in
    ⊎_elim
    (λ (h : is_full r ≡ true).
    let e : with_marker r ≡ reverse r ++ 0xAC ∷ [] = closed-full_is r h in
    let next : f (length r) ≡ 0xAC = byte-next r (0xAC ∷ []) (with_marker r) e in
    record {
      valid = v;
      full = λ n l k. omega (arith, next);
      other = λ n l k. absurd (k (last-full f r n whole l h));
    })
    (λ (h : is_full r ≡ false).
    let e : with_marker r ≡ reverse r ++ 0xFF ∷ 0xAC ∷ [] = closed-plain_is r h in
    let next : f (length r) ≡ 0xFF = byte-next r (0xFF ∷ 0xAC ∷ []) (with_marker r) e in
    let after : f (length r + 1) ≡ 0xAC = byte-after r (0xFF ∷ 0xAC ∷ []) (with_marker r) 1 e in
    record {
      valid = v;
      full = λ n l k. omega (arith, next);
      other = λ n l k. (next, omega (arith, after));
    })
    (cases_Bool (is_full r))

-- INITDEC is one BYTEIN over an interval of length 2^8, seven shifts before the encoder's first
start-fits : (u s : ℕ) → (s ≡ 7) ⊎ (s ≡ 8) → u + 1 ≤ 0x8000 * 2 ^ (s - 7) → u + 1 ≤ 2 ^ 8 * 2 ^ s
start-fits u s h k =
    ⊎_elim
    (λ (e : s ≡ 7). let d : u + 1 ≤ 0x8000 * 2 ^ (7 - 7) = rw e at k in rw e (omega (arith, d)))
    (λ (e : s ≡ 8). let d : u + 1 ≤ 0x8000 * 2 ^ (8 - 7) = rw e at k in rw e (omega (arith, d)))
    h

start-code : (c u s : ℕ) → (s ≡ 7) ⊎ (s ≡ 8) → c * 2 ^ s + (u + 1) * 2 ^ 16 ≡ 2 ^ 8 * 2 ^ s * 2 ^ 16
    → c * 2 ^ 7 % 2 ^ 32 * 2 ^ (s - 7) + (u + 1) * 2 ^ 16 ≡ 0x8000 * 2 ^ (s - 7) * 2 ^ 16
start-code c u s h k =
    ⊎_elim
    (λ (e : s ≡ 7). let d : c * 2 ^ 7 + (u + 1) * 2 ^ 16 ≡ 2 ^ 8 * 2 ^ 7 * 2 ^ 16 = rw e at k in rw e (seven d))
    (λ (e : s ≡ 8). let d : c * 2 ^ 8 + (u + 1) * 2 ^ 16 ≡ 2 ^ 8 * 2 ^ 8 * 2 ^ 16 = rw e at k in rw e (eight d))
    h
  where
    seven : c * 2 ^ 7 + (u + 1) * 2 ^ 16 ≡ 2 ^ 8 * 2 ^ 7 * 2 ^ 16 → c * 2 ^ 7 % 2 ^ 32 * 2 ^ (7 - 7) + (u + 1) * 2 ^ 16 ≡ 0x8000 * 2 ^ (7 - 7) * 2 ^ 16
    seven d = omega arith

    eight : c * 2 ^ 8 + (u + 1) * 2 ^ 16 ≡ 2 ^ 8 * 2 ^ 8 * 2 ^ 16 → c * 2 ^ 7 % 2 ^ 32 * 2 ^ (8 - 7) + (u + 1) * 2 ^ 16 ≡ 0x8000 * 2 ^ (8 - 7) * 2 ^ 16
    eight d = omega arith

first-byte : (f : ℕ → ℕ) (m : ℕ) → 0 < m → Valid (first f m) → f 0 ≤ 255
first-byte f zero h v = absurd (omega arith)
first-byte f (suc zero) h v = v.0
first-byte f (suc (suc m)) h v = first-byte f (suc m) (omega arith) v.2

pub start : (bytes : List ℕ) (m : ℕ) → Closing (byte_at bytes) m → KnowsAt (byte_at bytes) m initial_coding.range initial_coding.writer
    → Together (byte_at bytes) m initial_coding (initial_registers bytes)
unfolding initial_registers initial_coding
start bytes m closing know =
    let f : ℕ → ℕ = byte_at bytes in
    let b : f 0 ≤ 255 = first-byte f m know.some closing.valid in
    let i : Inside f m 0 (f 0) 8 = record { before = know.some; number = omega arith; count = refl } in
    let r : CodeRegister = byte_in bytes ((0xFF - f 0) * 2 ^ 16) 0 in
    let d : Read f m (2 ^ 8) 8 r =
    read bytes m (2 ^ 8) ((0xFF - f 0) * 2 ^ 16) 0 (f 0) 8 closing (omega arith) (omega arith)
    (λ q u s wide seen.
    let fit : Fits 0 0x8000 u (s - 7) = Seen-fits f m 0 0x8000 0 [] q u (8 + s) (s - 7) know (omega arith) (omega (arith, wide)) seen in
    start-fits u s wide fit.under)
    (inl i) in
    record {
      number = d.number;
      same = refl;
      follows = record {
        few = omega (arith, d.wait);
        seen = subst (λ k. Seen f m r.place d.number k) (let e : 8 + r.ct ≡ 0 + 15 + (r.ct - 7) = omega (arith, d.wait) in e) d.seen;
        code = start-code r.c d.number r.ct d.wait d.code;
      };
    }
