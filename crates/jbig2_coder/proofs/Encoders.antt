-- The paths through the encoder.
use Rattle.std.proofs.Common.{◌≡◌, ℕ, zero, suc, ◌+◌, ◌-◌, ◌*◌, ◌%◌, ◌^◌, ◌<◌, ◌≤◌, Bool, true, false, not, cond, eqb, List, [], ◌∷◌, ◌++◌, reverse, refl, sym, ap, subst, ◌∙◌, arith, ⊎_elim}
use mathlib.Core.Bool.{beq}
use Rattle.std.proofs.Math.Nat.{pow-suc, pow-le-pow_right, mul-le-mul_left, mul-le-mul_right}
use Rattle.std.proofs.lemmas.Nat.{pow-add}
use Rattle.std.proofs.lemmas.Bool.{cases_lt}
use Rattle.std.proofs.lemmas.List.{reverse-append, reverse-reverse}
use Rattle.std.proofs.lemmas.Bool.Decides.{nat_tests}
use Rattle.jbig2_coder.specs.QeTable.{qe_row}
use Rattle.jbig2_coder.specs.Coder.{Context, likely_next, unlikely_next}
use Rattle.jbig2_coder.specs.Encoder.{Writer, EncoderState, eight_bits_out, seven_bits_out, byte_out, shift_once, renorme, narrowed_likely, narrowed_unlikely, narrowed_interval, encoding, set_bits, flush_coder, is_full, with_marker}
use Rattle.jbig2_coder.specs.inner.EncoderViews.{writer_of, shifted_registers, HasRoom}
use Rattle.jbig2_coder.specs.declared.mq.encoder.CodeRegister.{CodeRegister}
use Rattle.jbig2_coder.specs.declared.mq.encoder.Registers.{Registers}
use Rattle.jbig2_coder.proofs.Renorm.{batch-room}

-- BYTEOUT
pub byte_out-none : (c : ℕ) (out : List ℕ) → out ≡ [] → byte_out c out ≡ eight_bits_out c out
unfolding byte_out
byte_out-none c out e = rw e refl

pub byte_out-full : (c last : ℕ) (out rest : List ℕ) → out ≡ last ∷ rest → last ≡ 0xFF → byte_out c out ≡ seven_bits_out c out
unfolding byte_out
byte_out-full c last out rest e full = rw (e, full) refl

pub byte_out-below : (c last : ℕ) (out rest : List ℕ) → out ≡ last ∷ rest → (last ≡ 0xFF → ⊥) → c < 2 ^ 27
    → byte_out c out ≡ eight_bits_out c out
unfolding byte_out
byte_out-below c last out rest e free h = rw e (grind (arith, nat_tests))

pub byte_out-carry_full : (c last : ℕ) (out rest : List ℕ) → out ≡ last ∷ rest → 2 ^ 27 ≤ c → last + 1 ≡ 0xFF
    → byte_out c out ≡ seven_bits_out (c % 2 ^ 27) ((last + 1) ∷ rest)
unfolding byte_out
byte_out-carry_full c last out rest e h full = rw (e, full) (grind (arith, nat_tests))

pub byte_out-carry : (c last : ℕ) (out rest : List ℕ) → out ≡ last ∷ rest → (last ≡ 0xFF → ⊥) → 2 ^ 27 ≤ c → (last + 1 ≡ 0xFF → ⊥)
    → byte_out c out ≡ eight_bits_out c ((last + 1) ∷ rest)
unfolding byte_out
byte_out-carry c last out rest e free h full = rw e (grind (arith, nat_tests))

-- one decision; the code compares it with the likely symbol
narrowed-likely : (x : Context) (d : Bool) (a c : ℕ) → beq d x.likely ≡ true → narrowed_interval x d a c ≡ narrowed_likely x a c
unfolding narrowed_interval
narrowed-likely x d a c e = both d x.likely e
  where
    both : (p q : Bool) → beq p q ≡ true → cond (cond q p (not p)) (narrowed_likely x a c) (narrowed_unlikely x a c) ≡ narrowed_likely x a c
    both true true h = refl
    both true false h = cc
    both false true h = cc
    both false false h = refl

narrowed-unlikely : (x : Context) (d : Bool) (a c : ℕ) → beq d x.likely ≡ false → narrowed_interval x d a c ≡ narrowed_unlikely x a c
unfolding narrowed_interval
narrowed-unlikely x d a c e = both d x.likely e
  where
    both : (p q : Bool) → beq p q ≡ false → cond (cond q p (not p)) (narrowed_likely x a c) (narrowed_unlikely x a c) ≡ narrowed_unlikely x a c
    both true true h = cc
    both true false h = refl
    both false true h = refl
    both false false h = cc

pub narrowed-quiet : (x : Context) (d : Bool) (a c qe : ℕ) → beq d x.likely ≡ true → (qe_row x.row).qe ≡ qe → 0x8000 ≤ a - qe
    → narrowed_interval x d a c ≡ record { range = a - qe; register = c + qe; context = x; renorm = false }
unfolding narrowed_likely
narrowed-quiet x d a c qe e q h = narrowed-likely x d a c e ∙ grind (arith, nat_tests)

pub narrowed-likely_lower : (x : Context) (d : Bool) (a c qe : ℕ) → beq d x.likely ≡ true → (qe_row x.row).qe ≡ qe → a - qe < 0x8000 → a - qe < qe
    → narrowed_interval x d a c ≡ record { range = qe; register = c; context = likely_next x; renorm = true }
unfolding narrowed_likely
narrowed-likely_lower x d a c qe e q h k = narrowed-likely x d a c e ∙ grind (arith, nat_tests)

pub narrowed-likely_upper : (x : Context) (d : Bool) (a c qe : ℕ) → beq d x.likely ≡ true → (qe_row x.row).qe ≡ qe → a - qe < 0x8000 → qe ≤ a - qe
    → narrowed_interval x d a c ≡ record { range = a - qe; register = c + qe; context = likely_next x; renorm = true }
unfolding narrowed_likely
narrowed-likely_upper x d a c qe e q h k = narrowed-likely x d a c e ∙ grind (arith, nat_tests)

pub narrowed-unlikely_upper : (x : Context) (d : Bool) (a c qe : ℕ) → beq d x.likely ≡ false → (qe_row x.row).qe ≡ qe → a - qe < qe
    → narrowed_interval x d a c ≡ record { range = a - qe; register = c + qe; context = unlikely_next x; renorm = true }
unfolding narrowed_unlikely
narrowed-unlikely_upper x d a c qe e q k = narrowed-unlikely x d a c e ∙ grind (arith, nat_tests)

pub narrowed-unlikely_lower : (x : Context) (d : Bool) (a c qe : ℕ) → beq d x.likely ≡ false → (qe_row x.row).qe ≡ qe → qe ≤ a - qe
    → narrowed_interval x d a c ≡ record { range = qe; register = c; context = unlikely_next x; renorm = true }
unfolding narrowed_unlikely
narrowed-unlikely_lower x d a c qe e q k = narrowed-unlikely x d a c e ∙ grind (arith, nat_tests)

-- RENORME
pub renormed-step : (n a : ℕ) (w : Writer) → a < 0x8000 → renorme (suc n) a w ≡ renorme n (2 * a) (shift_once w)
unfolding renorme
renormed-step n a w h = grind (arith, nat_tests)

pub renormed-stop : (n a : ℕ) (w : Writer) → 0x8000 ≤ a → renorme n a w ≡ record { range = a; writer = w }
unfolding renorme
renormed-stop zero a w h = refl
renormed-stop (suc n) a w h = grind (arith, nat_tests)

-- one shift more than enough changes nothing
renormed-enough : (n a : ℕ) (w : Writer) → 0x8000 ≤ a * 2 ^ n → renorme (suc n) a w ≡ renorme n a w
renormed-enough zero a w h = renormed-stop 1 a w (omega arith) ∙ sym (renormed-stop 0 a w (omega arith))
renormed-enough (suc n) a w h =
    let room : 0x8000 ≤ 2 * a * 2 ^ n = omega (arith, rw pow-suc at h) in
    ⊎_elim
    (λ (l : a < 0x8000).
    renormed-step (suc n) a w l ∙ renormed-enough n (2 * a) (shift_once w) room ∙ sym (renormed-step n a w l))
    (λ (l : 0x8000 ≤ a). renormed-stop (suc (suc n)) a w l ∙ sym (renormed-stop (suc n) a w l))
    (cases_lt a 0x8000)

pub renormed-turn : (a : ℕ) (w : Writer) → 1 ≤ a → a < 0x8000 → renorme 15 a w ≡ renorme 15 (2 * a) (shift_once w)
renormed-turn a w some half = renormed-step 14 a w half ∙ sym (renormed-enough 14 (2 * a) (shift_once w) (omega arith))

-- several shifts at once, if no byte goes out
shifted-once : (w : Writer) (k : ℕ) → suc k < w.wait → shift_once w ≡ record { register = 2 * w.register; wait = w.wait - 1; out = w.out }
unfolding shift_once
shifted-once w k h = grind (arith, nat_tests)

pub renormed-batch : (k n a : ℕ) (w : Writer) → k ≤ n → k < w.wait → a * 2 ^ k < 2 ^ 16 → 0x8000 ≤ a * 2 ^ k
    → renorme n a w ≡ record { range = a * 2 ^ k; writer = record { register = w.register * 2 ^ k; wait = w.wait - k; out = w.out } }
renormed-batch zero n a w few fits below normal =
    let range : a ≡ a * 2 ^ 0 = omega arith in
    let register : w.register ≡ w.register * 2 ^ 0 = omega arith in
    let wait : w.wait ≡ w.wait - 0 = omega arith in
    renormed-stop n a w (omega arith)
    ∙ (λ j. record { range = range j; writer = record { register = register j; wait = wait j; out = w.out } })
renormed-batch (suc k) zero a w few fits below normal = absurd (omega (arith, few))
renormed-batch (suc k) (suc n) a w few fits below normal =
    let v : Writer = record { register = 2 * w.register; wait = w.wait - 1; out = w.out } in
    let range : 2 * a * 2 ^ k ≡ a * 2 ^ suc k = rw (pow-suc 2 k) (omega arith) in
    let register : 2 * w.register * 2 ^ k ≡ w.register * 2 ^ suc k = rw (pow-suc 2 k) (omega arith) in
    let wait : w.wait - 1 - k ≡ w.wait - suc k = omega arith in
    renormed-step n a w (batch-room a k below)
    ∙ ap (λ (u : Writer). renorme n (2 * a) u) (shifted-once w k fits)
    ∙ renormed-batch k n (2 * a) v (omega (arith, few)) (omega (arith, fits)) (omega (arith, below, range)) (omega (arith, normal, range))
    ∙ (λ j. record { range = range j; writer = record { register = register j; wait = wait j; out = w.out } })

-- C with its interval keeps its room
pub shifted-room : (r : Registers) (k : ℕ) → k < r.code.ct → HasRoom r.a r.code → HasRoom (shifted_registers k r).a (shifted_registers k r).code
shifted-room r k few h =
    let split : 2 ^ r.code.ct ≡ 2 ^ k * 2 ^ (r.code.ct - k) = ap (λ (n : ℕ). 2 ^ n) (omega arith) ∙ pow-add 2 k (r.code.ct - k) in
    let room : (r.code.c + r.a) * (2 ^ k * 2 ^ (r.code.ct - k)) ≤ 9 * 2 ^ 24 = subst (λ (n : ℕ). (r.code.c + r.a) * n ≤ 9 * 2 ^ 24) split h.room in
    record { some = omega arith; few = omega (arith, h.few); room = omega (arith, room) }

pub shifted-fits : (r : Registers) (k : ℕ) → k < r.code.ct → HasRoom r.a r.code → r.code.c * 2 ^ k ≡ r.code.c * 2 ^ k % 2 ^ 32
shifted-fits r k few h =
    let p : 2 ^ k ≤ 2 ^ r.code.ct = pow-le-pow_right (omega arith) (omega arith) in
    let q : (r.code.c + r.a) * 2 ^ k ≤ (r.code.c + r.a) * 2 ^ r.code.ct = mul-le-mul_left (r.code.c + r.a) p in
    omega (arith, q, h.room)

-- a decision, by what it makes of A, C and its context
pub encoding-quiet : (s : EncoderState) (x y : Context) (d : Bool) (a c : ℕ)
    → narrowed_interval x d s.range s.writer.register ≡ record { range = a; register = c; context = y; renorm = false }
    → encoding x d s ≡ record { coding = record { range = a; writer = record s.writer { register = c } }; context = y }
unfolding encoding
encoding-quiet s x y d a c e = rw e refl

pub encoding-renorm : (s : EncoderState) (x y : Context) (d : Bool) (a c : ℕ)
    → narrowed_interval x d s.range s.writer.register ≡ record { range = a; register = c; context = y; renorm = true }
    → encoding x d s ≡ record { coding = renorme 15 a (record s.writer { register = c }); context = y }
unfolding encoding
encoding-renorm s x y d a c e = rw e refl

-- FLUSH
pub is_full-none : (out : List ℕ) → out ≡ [] → is_full out ≡ false
unfolding is_full
is_full-none out e = rw e refl

pub is_full-last : (last : ℕ) (out rest : List ℕ) → out ≡ last ∷ rest → is_full out ≡ eqb last 0xFF
unfolding is_full
is_full-last last out rest e = rw e refl

pub closed-full : (bytes : List ℕ) → is_full (reverse bytes) ≡ true → bytes ++ 0xAC ∷ [] ≡ with_marker (reverse bytes)
unfolding with_marker
closed-full bytes h =
    rw h (sym (reverse-append (0xAC ∷ []) (reverse bytes) ∙ ap (λ (ys : List ℕ). ys ++ 0xAC ∷ []) (reverse-reverse bytes)))

pub closed-plain : (bytes : List ℕ) → is_full (reverse bytes) ≡ false → bytes ++ 0xFF ∷ 0xAC ∷ [] ≡ with_marker (reverse bytes)
unfolding with_marker
closed-plain bytes h =
    rw h (sym (reverse-append (0xAC ∷ 0xFF ∷ []) (reverse bytes) ∙ ap (λ (ys : List ℕ). ys ++ 0xFF ∷ 0xAC ∷ []) (reverse-reverse bytes)))

pub shift-fits : (c t bound : ℕ) → bound * 2 ^ t ≤ 9 * 2 ^ 24 → c ≤ bound → c * 2 ^ t ≡ c * 2 ^ t % 2 ^ 32
shift-fits c t bound room h =
    let p : c * 2 ^ t ≤ bound * 2 ^ t = mul-le-mul_right (2 ^ t) h in
    omega (arith, p)

pub flushed-code : (s : EncoderState) (first second : CodeRegister) (bytes more : List ℕ)
    → writer_of bytes first ≡ byte_out (set_bits s.range s.writer.register * 2 ^ s.writer.wait) s.writer.out
    → writer_of more second ≡ byte_out (first.c * 2 ^ first.ct) (reverse bytes)
    → reverse more ≡ (flush_coder s).out
unfolding flush_coder
flushed-code s first second bytes more e h =
    ap (λ (w : Writer). w.out) h
    ∙ ap (λ (w : Writer). (byte_out (w.register * 2 ^ w.wait) w.out).out) e
