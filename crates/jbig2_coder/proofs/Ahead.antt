-- Bytes that are read ahead: shifts of the buffer are shifts of the code register, one byte after the other.
use Rattle.std.proofs.Common.{◌≡◌, ◌≢◌, ℕ, zero, suc, ◌+◌, ◌-◌, ◌*◌, ◌/◌, ◌%◌, ◌^◌, ◌<◌, ◌≤◌, Bool, true, max, List, length, refl, sym, ap, ◌∙◌, arith, subst, ⊎_elim}
use Rattle.std.proofs.Math.Nat.{pow-suc, mul-le-mul_left, mul-div-mul_left, mul-div-mul_right, div-div-eq-div-mul, mod-add-div, mul-le-mul, pow-le-pow_right}
use Rattle.std.proofs.lemmas.Nat.{pow_pos, pow-add, mod_below, mod-pow-add, div-mul-add, mod-mul-add, mul-mod_first}
use Rattle.std.proofs.lemmas.Bool.{cases_eq, cases_lt}
use Rattle.jbig2_coder.specs.Coder.{Context, Decision, Registers, byte_at, byte_in, choice, decision, shift_left, byte_in_if_empty, renormd}
use Rattle.jbig2_coder.specs.declared.arithmetic_decoder.registers.BufferedRegisters.{BufferedRegisters}
use Rattle.jbig2_coder.specs.declared.arithmetic_decoder.registers.CodeBuffer.{CodeBuffer}
use Rattle.jbig2_coder.specs.declared.arithmetic_decoder.registers.CodeRegister.{CodeRegister}
use Rattle.jbig2_coder.specs.inner.Ahead.{IsAhead, IsKept, ReadsAhead, seen_of, seen_registers, shift_buffer, inverted_bytes}
use Rattle.jbig2_coder.proofs.Choices.{byte_in-marker, byte_in-plain, byte_in-stuffed}
use Rattle.jbig2_coder.proofs.Decisions.{decision-renorm}
use Rattle.jbig2_coder.proofs.Renorm.{batch-room, double-room, filled-none, filled-some, renormed-enough, renormed-step}

-- ---- numbers
-- the upper part of a doubled number, cut to 64 bits and to 32
pub double-high : (c t : ℕ) → t < 16 → 2 * c % 2 ^ 64 / 2 ^ (48 - t) * 2 ^ (16 - t) ≡ 2 * (c / 2 ^ (47 - t) * 2 ^ (15 - t)) % 2 ^ 32
double-high c t few =
    let d : ℕ = 2 ^ (47 - t) in
    let e : ℕ = 2 ^ (15 - t) in
    let wide : 2 ^ (48 - t) ≡ 2 * d = (let s : 48 - t ≡ suc (47 - t) = omega arith in rw (s, pow-suc) (omega arith)) in
    let narrow : 2 ^ (16 - t) ≡ 2 * e = (let s : 16 - t ≡ suc (15 - t) = omega arith in rw (s, pow-suc) (omega arith)) in
    let all : 64 ≡ (16 + t) + (48 - t) = omega arith in
    let half : 32 ≡ (16 + t) + (16 - t) = omega arith in
    let room : 0 < 2 ^ (48 - t) = pow_pos (48 - t) in
    let cut : 2 * c % 2 ^ 64 / 2 ^ (48 - t) ≡ 2 * c / 2 ^ (48 - t) % 2 ^ (16 + t) =
    ap (λ (n : ℕ). 2 * c % 2 ^ n / 2 ^ (48 - t)) all ∙ ap (λ (n : ℕ). n / 2 ^ (48 - t)) (mod-pow-add (2 * c) (16 + t) (48 - t))
    ∙ div-mul-add (2 * c / 2 ^ (48 - t) % 2 ^ (16 + t)) (2 ^ (48 - t)) (2 * c % 2 ^ (48 - t)) (mod_below (2 * c) (2 ^ (48 - t)) room) in
    let whole : 2 * c / 2 ^ (48 - t) ≡ c / d = ap (λ (n : ℕ). 2 * c / n) wide ∙ mul-div-mul_left {m = 2} c d (omega arith) in
    let q : ℕ = c / d in
    let order : 2 * (q * e) ≡ q * 2 ^ (16 - t) + 0 = omega (arith, ap (λ (n : ℕ). q * n) narrow) in
    let other : 2 * (q * e) % 2 ^ 32 ≡ q % 2 ^ (16 + t) * 2 ^ (16 - t) =
    ap (λ (n : ℕ). 2 * (q * e) % 2 ^ n) half ∙ mod-pow-add (2 * (q * e)) (16 + t) (16 - t)
    ∙ ap (λ (n : ℕ). n / 2 ^ (16 - t) % 2 ^ (16 + t) * 2 ^ (16 - t) + n % 2 ^ (16 - t)) order
    ∙ ap (λ (n : ℕ). n % 2 ^ (16 + t) * 2 ^ (16 - t) + (q * 2 ^ (16 - t) + 0) % 2 ^ (16 - t)) (div-mul-add q (2 ^ (16 - t)) 0 (pow_pos (16 - t)))
    ∙ ap (λ (n : ℕ). q % 2 ^ (16 + t) * 2 ^ (16 - t) + n) (mod-mul-add q (2 ^ (16 - t)) 0 (pow_pos (16 - t)))
    ∙ (let none : q % 2 ^ (16 + t) * 2 ^ (16 - t) + 0 ≡ q % 2 ^ (16 + t) * 2 ^ (16 - t) = omega arith in none) in
    ap (λ (n : ℕ). n * 2 ^ (16 - t)) cut ∙ ap (λ (n : ℕ). n % 2 ^ (16 + t) * 2 ^ (16 - t)) whole ∙ sym other

-- its lower part
pub double-low : (c t : ℕ) → t < 16 → 2 * c % 2 ^ 64 % 2 ^ (48 - t) ≡ 2 * (c % 2 ^ (47 - t))
double-low c t few =
    let d : ℕ = 2 ^ (47 - t) in
    let wide : 2 ^ (48 - t) ≡ 2 * d = (let s : 48 - t ≡ suc (47 - t) = omega arith in rw (s, pow-suc) (omega arith)) in
    let all : 64 ≡ (16 + t) + (48 - t) = omega arith in
    let some : 0 < d = pow_pos (47 - t) in
    let below : c % d < d = mod_below c d some in
    let parts : 2 * c ≡ c / d * 2 ^ (48 - t) + 2 * (c % d) = omega (arith, ap (λ (n : ℕ). c / d * n) wide) in
    ap (λ (n : ℕ). 2 * c % 2 ^ n % 2 ^ (48 - t)) all ∙ ap (λ (n : ℕ). n % 2 ^ (48 - t)) (mod-pow-add (2 * c) (16 + t) (48 - t))
    ∙ mod-mul-add (2 * c / 2 ^ (48 - t) % 2 ^ (16 + t)) (2 ^ (48 - t)) (2 * c % 2 ^ (48 - t)) (mod_below (2 * c) (2 ^ (48 - t)) (pow_pos (48 - t)))
    ∙ ap (λ (n : ℕ). n % 2 ^ (48 - t)) parts
    ∙ mod-mul-add (c / d) (2 ^ (48 - t)) (2 * (c % d)) (omega (arith, wide))

-- the first byte ahead comes in
pub first-high : (c next s : ℕ) → c < 2 ^ 64 → c % 2 ^ 48 ≡ (0xFF - next) * 2 ^ 40 + s → s < 2 ^ 40 → 2 * c % 2 ^ 64 / 2 ^ 41 * 2 ^ 9 ≡ 2 * ((c / 2 ^ 48 * 2 ^ 16 + (0xFF00 - next * 2 ^ 8)) % 2 ^ 32) % 2 ^ 32
first-high c next s small is below = omega arith

pub first-low : (c next s : ℕ) → c < 2 ^ 64 → c % 2 ^ 48 ≡ (0xFF - next) * 2 ^ 40 + s → s < 2 ^ 40 → 2 * c % 2 ^ 64 % 2 ^ 41 ≡ 2 * s
first-low c next s small is below = omega arith

-- ---- bytes that are spelled
spelled-below : (bytes : List ℕ) (place n : ℕ) → inverted_bytes bytes place n < 2 ^ (8 * n)
spelled-below bytes place zero = omega arith
spelled-below bytes place (suc n) =
    let rest : inverted_bytes bytes (place + 1) n < 2 ^ (8 * n) = spelled-below bytes (place + 1) n in
    let wide : 2 ^ (8 * suc n) ≡ 2 ^ 8 * 2 ^ (8 * n) = (let s : 8 * suc n ≡ 8 + 8 * n = omega arith in ap (λ (k : ℕ). 2 ^ k) s ∙ pow-add 2 8 (8 * n)) in
    let few : 0xFF - byte_at bytes (place + 1) ≤ 255 = omega arith in
    let part : 2 ^ (8 * n) * (0xFF - byte_at bytes (place + 1)) ≤ 2 ^ (8 * n) * 255 = mul-le-mul_left (2 ^ (8 * n)) few in
    omega (arith, wide, part)

spelled-more : (bytes : List ℕ) (place n : ℕ) → inverted_bytes bytes place (suc n) ≡ inverted_bytes bytes place n * 2 ^ 8 + (0xFF - byte_at bytes (place + (n + 1)))
spelled-more bytes place zero =
    let e : place + (0 + 1) ≡ place + 1 = omega arith in
    rw e (omega arith)
spelled-more bytes place (suc n) =
    let e : place + (suc n + 1) ≡ place + 1 + (n + 1) = omega arith in
    let wide : 2 ^ (8 * suc n) ≡ 2 ^ 8 * 2 ^ (8 * n) = (let s : 8 * suc n ≡ 8 + 8 * n = omega arith in ap (λ (k : ℕ). 2 ^ k) s ∙ pow-add 2 8 (8 * n)) in
    let rest = spelled-more bytes (place + 1) n in
    let parts : (0xFF - byte_at bytes (place + 1)) * 2 ^ (8 * suc n) ≡ (0xFF - byte_at bytes (place + 1)) * 2 ^ (8 * n) * 2 ^ 8 = rw wide (omega arith) in
    ap (λ (k : ℕ). (0xFF - byte_at bytes (place + 1)) * 2 ^ (8 * suc n) + k) rest
    ∙ rw (e, parts) (omega arith)

-- ---- what the buffer is seen as
pub seen-read : (bytes : List ℕ) (ct ahead place : ℕ) (code : CodeBuffer) → ReadsAhead bytes ct ahead place code → seen_of code ≡ record { c = code.c / 2 ^ (48 - ct) * 2 ^ (16 - ct); ct = ct; place = place }
seen-read bytes ct ahead place code h =
    let bits : code.bits % 8 ≡ ct = omega (arith, h.bits, h.below) in
    let at : code.place - code.bits / 8 ≡ place = omega (arith, h.bits, h.below, h.read) in
    let high : code.c / 2 ^ (48 - code.bits % 8) * 2 ^ (16 - code.bits % 8) ≡ code.c / 2 ^ (48 - ct) * 2 ^ (16 - ct) = ap (λ (n : ℕ). code.c / 2 ^ (48 - n) * 2 ^ (16 - n)) bits in
    λ i. record { c = high i; ct = bits i; place = at i }

-- the first of some bytes ahead, and the others
first-byte : (bytes : List ℕ) (m place : ℕ) (code : CodeBuffer) → ReadsAhead bytes 0 (suc m) place code
    → (code.c % 2 ^ 48 ≡ (0xFF - byte_at bytes (place + 1)) * 2 ^ 40 + inverted_bytes bytes (place + 1) m * 2 ^ (48 - code.bits)) × (inverted_bytes bytes (place + 1) m * 2 ^ (48 - code.bits) < 2 ^ 40)
first-byte bytes m place code h =
    let u : ℕ = 2 ^ (48 - code.bits) in
    let all : 2 ^ (8 * m) * u ≡ 2 ^ 40 = sym (pow-add 2 (8 * m) (48 - code.bits)) ∙ (let e : 8 * m + (48 - code.bits) ≡ 40 = omega (arith, h.bits, h.few) in ap (λ (n : ℕ). 2 ^ n) e) in
    let part : (0xFF - byte_at bytes (place + 1)) * 2 ^ (8 * m) * u ≡ (0xFF - byte_at bytes (place + 1)) * 2 ^ 40 = omega (arith, ap (λ (n : ℕ). (0xFF - byte_at bytes (place + 1)) * n) all) in
    let small : u * (inverted_bytes bytes (place + 1) m + 1) ≤ u * 2 ^ (8 * m) = mul-le-mul_left u (let below = spelled-below bytes (place + 1) m in omega arith) in
    let some : 0 < u = pow_pos (48 - code.bits) in (
      h.spells ∙ (let order : ((0xFF - byte_at bytes (place + 1)) * 2 ^ (8 * m) + inverted_bytes bytes (place + 1) m) * u ≡ (0xFF - byte_at bytes (place + 1)) * 2 ^ (8 * m) * u + inverted_bytes bytes (place + 1) m * u = omega arith in order) ∙ ap (λ (n : ℕ). n + inverted_bytes bytes (place + 1) m * u) part,
      omega (arith, small, all),
    )

-- ---- one shift
abbrev once : CodeBuffer → CodeBuffer
once code = record { c = 2 * code.c % 2 ^ 64; bits = code.bits - 1; place = code.place }

twice-unit : (n bits : ℕ) → 1 ≤ bits → bits ≤ 48 → n * 2 ^ (48 - (bits - 1)) ≡ 2 * (n * 2 ^ (48 - bits))
twice-unit n bits some few =
    let next : 48 - (bits - 1) ≡ suc (48 - bits) = omega arith in
    rw (next, pow-suc) (omega arith)

once-small : (code : CodeBuffer) → (once code).c < 2 ^ 64
once-small code = mod_below (2 * code.c) (2 ^ 64) (pow_pos 64)

once-ahead : (bytes : List ℕ) (ct ahead place : ℕ) (code : CodeBuffer) → ReadsAhead bytes ct ahead place code → 1 ≤ code.bits → IsAhead bytes (once code)
once-ahead bytes (suc t) ahead place code h some =
    let one : 47 - t ≡ 48 - suc t = omega arith in
    record {
      ct = t;
      ahead = ahead;
      place = place;
      reads = record {
        below = omega (arith, h.below);
        bits = omega (arith, h.bits);
        few = omega (arith, h.few);
        small = once-small code;
        read = h.read;
        within = h.within;
        plain = h.plain;
        spells = double-low code.c t (omega (arith, h.below)) ∙ ap (λ (n : ℕ). 2 * (code.c % 2 ^ n)) one ∙ ap (λ (n : ℕ). 2 * n) h.spells ∙ sym (twice-unit (inverted_bytes bytes place ahead) code.bits some h.few);
      };
    }
once-ahead bytes zero zero place code h some = absurd (omega (arith, h.bits))
once-ahead bytes zero (suc m) place code h some =
    let first = first-byte bytes m place code h in
    record {
      ct = 7;
      ahead = m;
      place = place + 1;
      reads = record {
        below = omega arith;
        bits = omega (arith, h.bits);
        few = omega (arith, h.few);
        small = once-small code;
        read = omega (arith, h.read);
        within = h.within;
        plain = λ i inside. let e : place + suc i ≡ place + 1 + i = omega arith in subst (λ (n : ℕ). byte_at bytes n ≢ 0xFF) e (h.plain (suc i) (omega arith));
        spells = first-low code.c (byte_at bytes (place + 1)) (inverted_bytes bytes (place + 1) m * 2 ^ (48 - code.bits)) h.small first.0 first.1 ∙ sym (twice-unit (inverted_bytes bytes (place + 1) m) code.bits some h.few);
      };
    }

once-seen : (bytes : List ℕ) (ct ahead place : ℕ) (code : CodeBuffer) → ReadsAhead bytes ct ahead place code → 1 ≤ code.bits → shift_left (byte_in_if_empty bytes (seen_of code)) ≡ seen_of (once code)
unfolding shift_left once-ahead
once-seen bytes (suc t) ahead place code h some =
    let is = seen-read bytes (suc t) ahead place code h in
    let full : byte_in_if_empty bytes (seen_of code) ≡ record { c = code.c / 2 ^ (48 - suc t) * 2 ^ (16 - suc t); ct = suc t; place = place } = filled-some bytes (seen_of code) (omega (arith, ap (λ (r : CodeRegister). r.ct) is)) ∙ is in
    let next = once-ahead bytes (suc t) ahead place code h some in
    let one : 47 - t ≡ 48 - suc t = omega arith in
    let other : 15 - t ≡ 16 - suc t = omega arith in
    let high : 2 * (code.c / 2 ^ (48 - suc t) * 2 ^ (16 - suc t)) % 2 ^ 32 ≡ 2 * code.c % 2 ^ 64 / 2 ^ (48 - t) * 2 ^ (16 - t) =
    ap (λ (n : ℕ). 2 * (code.c / 2 ^ n * 2 ^ (16 - suc t)) % 2 ^ 32) (sym one) ∙ ap (λ (n : ℕ). 2 * (code.c / 2 ^ (47 - t) * 2 ^ n) % 2 ^ 32) (sym other) ∙ sym (double-high code.c t (omega (arith, h.below))) in
    let less : suc t - 1 ≡ t = omega arith in
    ap shift_left full ∙ (λ i. record { c = high i; ct = less i; place = place }) ∙ sym (seen-read bytes t ahead place (once code) next.reads)
once-seen bytes zero zero place code h some = absurd (omega (arith, h.bits))
once-seen bytes zero (suc m) place code h some =
    let is = seen-read bytes 0 (suc m) place code h in
    let next = once-ahead bytes 0 (suc m) place code h some in
    let first = first-byte bytes m place code h in
    let plain : byte_at bytes place ≢ 0xFF = (let e : place + 0 ≡ place = omega arith in subst (λ (n : ℕ). byte_at bytes n ≢ 0xFF) e (h.plain 0 (omega arith))) in
    let full : byte_in_if_empty bytes (seen_of code) ≡ record { c = (code.c / 2 ^ 48 * 2 ^ 16 + (0xFF00 - byte_at bytes (place + 1) * 2 ^ 8)) % 2 ^ 32; ct = 8; place = place + 1 } =
    ap (byte_in_if_empty bytes) is ∙ filled-none bytes _ refl ∙ byte_in-plain bytes (code.c / 2 ^ 48 * 2 ^ 16) place plain in
    let high = first-high code.c (byte_at bytes (place + 1)) (inverted_bytes bytes (place + 1) m * 2 ^ (48 - code.bits)) h.small first.0 first.1 in
    ap shift_left full ∙ (λ i. record { c = sym high i; ct = 7; place = place + 1 }) ∙ sym (seen-read bytes 7 m (place + 1) (once code) next.reads)

-- ---- several shifts
shifted-c : (c k : ℕ) → 2 * c % 2 ^ 64 * 2 ^ k % 2 ^ 64 ≡ c * 2 ^ suc k % 2 ^ 64
shifted-c c k = mul-mod_first (2 * c) (2 ^ k) (2 ^ 64) ∙ ap (λ (n : ℕ). n % 2 ^ 64) (rw pow-suc (omega arith))

shifted-none : (code : CodeBuffer) → code.c < 2 ^ 64 → shift_buffer 0 code ≡ code
shifted-none code small =
    let e : code.c * 2 ^ 0 % 2 ^ 64 ≡ code.c = omega arith in
    let f : code.bits - 0 ≡ code.bits = omega arith in
    λ i. record { c = e i; bits = f i; place = code.place }

shifted-once : (k : ℕ) (code : CodeBuffer) → shift_buffer k (once code) ≡ shift_buffer (suc k) code
shifted-once k code =
    let e : code.bits - 1 - k ≡ code.bits - suc k = omega arith in
    λ i. record { c = shifted-c code.c k i; bits = e i; place = code.place }

pub shifted-ahead : (bytes : List ℕ) (k : ℕ) (code : CodeBuffer) → IsAhead bytes code → k ≤ code.bits → IsAhead bytes (shift_buffer k code)
shifted-ahead bytes zero code h left = subst (λ (q : CodeBuffer). IsAhead bytes q) (sym (shifted-none code h.reads.small)) h
shifted-ahead bytes (suc k) code h left =
    let next = once-ahead bytes h.ct h.ahead h.place code h.reads (omega arith) in
    subst (λ (q : CodeBuffer). IsAhead bytes q) (shifted-once k code) (shifted-ahead bytes k (once code) next (omega arith))

renormed-buffer : (bytes : List ℕ) (k n a : ℕ) (code : CodeBuffer) → IsAhead bytes code → k ≤ code.bits → a * 2 ^ k < 2 ^ 16
    → renormd bytes (k + n) a (seen_of code) ≡ renormd bytes n (a * 2 ^ k) (seen_of (shift_buffer k code))
renormed-buffer bytes zero n a code h left room =
    let e : a * 2 ^ 0 ≡ a = omega arith in
    let f : 0 + n ≡ n = omega arith in
    ap (λ (m : ℕ). renormd bytes m a (seen_of code)) f ∙ ap (λ (m : ℕ). renormd bytes n m (seen_of code)) (sym e)
    ∙ ap (λ (q : CodeBuffer). renormd bytes n (a * 2 ^ 0) (seen_of q)) (sym (shifted-none code h.reads.small))
renormed-buffer bytes (suc k) n a code h left room =
    let some : 1 ≤ code.bits = omega arith in
    let next = once-ahead bytes h.ct h.ahead h.place code h.reads some in
    let s : renormd bytes (suc k + n) a (seen_of code) ≡ renormd bytes (suc (k + n)) a (seen_of code) =
    ap (λ m. renormd bytes m a (seen_of code)) (let e : suc k + n ≡ suc (k + n) = omega arith in e) in
    let e : 2 * a * 2 ^ k ≡ a * 2 ^ suc k = rw pow-suc (omega arith) in
    s
    ∙ renormed-step bytes (k + n) a (seen_of code) (batch-room a k room)
    ∙ ap (renormd bytes (k + n) (2 * a)) (once-seen bytes h.ct h.ahead h.place code h.reads some)
    ∙ renormed-buffer bytes k n (2 * a) (once code) next (omega arith) (double-room a k room)
    ∙ ap (λ (q : CodeBuffer). renormd bytes n (2 * a * 2 ^ k) (seen_of q)) (shifted-once k code)
    ∙ ap (λ v. renormd bytes n v (seen_of (shift_buffer (suc k) code))) e

-- as many shifts as there are bits, but not past the top bit of A
pub renormed-shifts : (bytes : List ℕ) (k a : ℕ) (code : CodeBuffer) → IsAhead bytes code → k ≤ code.bits → 1 ≤ a → k ≤ 15 → a * 2 ^ k < 2 ^ 16
    → renormd bytes 15 a (seen_of code) ≡ renormd bytes 15 (a * 2 ^ k) (seen_of (shift_buffer k code))
renormed-shifts bytes k a code h left some few room =
    let n : ℕ = 15 - k in
    let e : 15 ≡ k + n = omega arith in
    let f : n + k ≡ 15 = omega arith in
    let p : 2 ^ k * 2 ^ n ≡ 0x8000 = sym (pow-add 2 k n) ∙ ap (λ v. 2 ^ v) (sym e) in
    let enough : 0x8000 ≤ a * 2 ^ k * 2 ^ n = omega (arith, ap (λ v. a * v) p) in
    ap (λ m. renormd bytes m a (seen_of code)) e
    ∙ renormed-buffer bytes k n a code h left room
    ∙ sym (renormed-enough bytes n k (a * 2 ^ k) (seen_of (shift_buffer k code)) enough)
    ∙ ap (λ m. renormd bytes m (a * 2 ^ k) (seen_of (shift_buffer k code))) f

-- ---- bytes that come into the buffer
-- a byte that comes in leaves the bits above it
pub plain-fits : (bytes : List ℕ) (m place : ℕ) (code : CodeBuffer) → ReadsAhead bytes 0 m place code → code.bits ≤ 40
    → ((code.c + (0xFF - byte_at bytes (code.place + 1)) * 2 ^ (40 - code.bits)) / 2 ^ 48 ≡ code.c / 2 ^ 48)
    × ((code.c + (0xFF - byte_at bytes (code.place + 1)) * 2 ^ (40 - code.bits)) % 2 ^ 48 ≡ (inverted_bytes bytes place m * 2 ^ 8 + (0xFF - byte_at bytes (code.place + 1))) * 2 ^ (40 - code.bits))
plain-fits bytes m place code h room =
    let u : ℕ = 2 ^ (40 - code.bits) in
    let next : ℕ = 0xFF - byte_at bytes (code.place + 1) in
    let old : 2 ^ (48 - code.bits) ≡ 2 ^ 8 * u = (let e : 48 - code.bits ≡ 8 + (40 - code.bits) = omega arith in ap (λ (n : ℕ). 2 ^ n) e ∙ pow-add 2 8 (40 - code.bits)) in
    let all : 2 ^ (8 * m) * u ≡ 2 ^ 40 = sym (pow-add 2 (8 * m) (40 - code.bits)) ∙ (let e : 8 * m + (40 - code.bits) ≡ 40 = omega (arith, h.bits) in ap (λ (n : ℕ). 2 ^ n) e) in
    let rest : code.c % 2 ^ 48 ≡ inverted_bytes bytes place m * 2 ^ 8 * u = h.spells ∙ ap (λ (n : ℕ). inverted_bytes bytes place m * n) old ∙ (let o : inverted_bytes bytes place m * (2 ^ 8 * u) ≡ inverted_bytes bytes place m * 2 ^ 8 * u = omega arith in o) in
    let below : u * (inverted_bytes bytes place m + 1) ≤ u * 2 ^ (8 * m) = mul-le-mul_left u (let b = spelled-below bytes place m in omega arith) in
    let few : u * next ≤ u * 255 = mul-le-mul_left u (let f : next ≤ 255 = omega arith in f) in
    let parts : (inverted_bytes bytes place m * 2 ^ 8 + next) * u ≡ inverted_bytes bytes place m * 2 ^ 8 * u + next * u = omega arith in
    let small : inverted_bytes bytes place m * 2 ^ 8 * u + next * u < 2 ^ 48 = omega (arith, below, few, all, pow_pos (40 - code.bits)) in
    let whole : code.c + next * u ≡ code.c / 2 ^ 48 * 2 ^ 48 + (inverted_bytes bytes place m * 2 ^ 8 * u + next * u) = omega (arith, rest) in (
      ap (λ (n : ℕ). n / 2 ^ 48) whole ∙ div-mul-add (code.c / 2 ^ 48) (2 ^ 48) (inverted_bytes bytes place m * 2 ^ 8 * u + next * u) small,
      ap (λ (n : ℕ). n % 2 ^ 48) whole ∙ mod-mul-add (code.c / 2 ^ 48) (2 ^ 48) (inverted_bytes bytes place m * 2 ^ 8 * u + next * u) small ∙ sym parts,
    )

plain-reads : (bytes : List ℕ) (ct ahead place : ℕ) (code : CodeBuffer) → ReadsAhead bytes ct ahead place code → code.bits % 8 ≡ 0 → code.bits ≤ 40 → code.place < length bytes → byte_at bytes code.place ≢ 0xFF
    → IsAhead bytes (record { c = code.c + (0xFF - byte_at bytes (code.place + 1)) * 2 ^ (40 - code.bits); bits = code.bits + 8; place = code.place + 1 })
plain-reads bytes (suc t) ahead place code h whole room inside plain = absurd (omega (arith, h.bits, h.below))
plain-reads bytes zero m place code h whole room inside plain =
    let next : ℕ = 0xFF - byte_at bytes (code.place + 1) in
    let fits = plain-fits bytes m place code h room in
    let place_is : code.place + 1 ≡ place + (m + 1) = omega (arith, h.read) in
    let unit : 40 - code.bits ≡ 48 - (code.bits + 8) = omega arith in
    record {
      ct = 0;
      ahead = suc m;
      place = place;
      reads = record {
        below = omega arith;
        bits = omega (arith, h.bits);
        few = omega arith;
        small = omega (arith, fits.0, h.small);
        read = omega (arith, h.read);
        within = omega arith;
        plain = λ i below. ⊎_elim (λ (less : i < m). h.plain i less) (λ (last : m ≤ i). let e : code.place ≡ place + i = omega (arith, h.read) in subst (λ (n : ℕ). byte_at bytes n ≢ 0xFF) e plain) (cases_lt i m);
        spells = fits.1 ∙ ap (λ (n : ℕ). (inverted_bytes bytes place m * 2 ^ 8 + (0xFF - byte_at bytes n)) * 2 ^ (40 - code.bits)) place_is ∙ ap (λ (n : ℕ). n * 2 ^ (40 - code.bits)) (sym (spelled-more bytes place m)) ∙ ap (λ (n : ℕ). inverted_bytes bytes place (suc m) * 2 ^ n) unit;
      };
    }

-- one after a byte that is not FF
pub plain-ahead : (bytes : List ℕ) (code : CodeBuffer) → IsAhead bytes code → code.bits % 8 ≡ 0 → code.bits ≤ 40 → code.place < length bytes → byte_at bytes code.place ≢ 0xFF
    → IsAhead bytes (record { c = code.c + (0xFF - byte_at bytes (code.place + 1)) * 2 ^ (40 - code.bits); bits = code.bits + 8; place = code.place + 1 })
plain-ahead bytes code h whole room inside plain = plain-reads bytes h.ct h.ahead h.place code h.reads whole room inside plain

plain-same : (bytes : List ℕ) (ct ahead place : ℕ) (code : CodeBuffer) → ReadsAhead bytes ct ahead place code → code.bits % 8 ≡ 0 → code.bits ≤ 40
    → seen_of (record { c = code.c + (0xFF - byte_at bytes (code.place + 1)) * 2 ^ (40 - code.bits); bits = code.bits + 8; place = code.place + 1 }) ≡ seen_of code
plain-same bytes (suc t) ahead place code h whole room = absurd (omega (arith, h.bits, h.below))
plain-same bytes zero m place code h whole room =
    let fits = plain-fits bytes m place code h room in
    let more : (code.bits + 8) % 8 ≡ 0 = omega arith in
    let at : code.place + 1 - (code.bits + 8) / 8 ≡ code.place - code.bits / 8 = omega arith in
    let c : ℕ = code.c + (0xFF - byte_at bytes (code.place + 1)) * 2 ^ (40 - code.bits) in
    let high : c / 2 ^ (48 - (code.bits + 8) % 8) * 2 ^ (16 - (code.bits + 8) % 8) ≡ code.c / 2 ^ (48 - code.bits % 8) * 2 ^ (16 - code.bits % 8) =
    ap (λ (n : ℕ). c / 2 ^ (48 - n) * 2 ^ (16 - n)) more ∙ ap (λ (n : ℕ). n * 2 ^ 16) fits.0 ∙ ap (λ (n : ℕ). code.c / 2 ^ (48 - n) * 2 ^ (16 - n)) (sym whole) in
    λ i. record { c = high i; ct = (more ∙ sym whole) i; place = at i }

pub plain-seen : (bytes : List ℕ) (code : CodeBuffer) → IsAhead bytes code → code.bits % 8 ≡ 0 → code.bits ≤ 40
    → seen_of (record { c = code.c + (0xFF - byte_at bytes (code.place + 1)) * 2 ^ (40 - code.bits); bits = code.bits + 8; place = code.place + 1 }) ≡ seen_of code
plain-seen bytes code h whole room = plain-same bytes h.ct h.ahead h.place code h.reads whole room

-- the value that the code adds
pub turned-fits : (n k : ℕ) → n ≤ 255 → k ≤ 40 → n * 2 ^ k % 2 ^ 64 ≡ n * 2 ^ k
turned-fits n k small few =
    let wide : 2 ^ k ≤ 2 ^ 40 = pow-le-pow_right (omega arith) few in
    let product : n * 2 ^ k ≤ 255 * 2 ^ 40 = mul-le-mul small wide in
    omega arith

-- ---- an empty buffer
empty-whole : (bytes : List ℕ) (ct ahead place : ℕ) (code : CodeBuffer) → ReadsAhead bytes ct ahead place code → code.bits ≡ 0 → code.c / 2 ^ 32 % 2 ^ 16 ≡ 0
empty-whole bytes (suc t) ahead place code h none = absurd (omega (arith, h.bits))
empty-whole bytes zero (suc m) place code h none = absurd (omega (arith, h.bits))
empty-whole bytes zero zero place code h none =
    let low : code.c % 2 ^ 48 ≡ 0 = h.spells ∙ (let z : 0 * 2 ^ (48 - code.bits) ≡ 0 = omega arith in z) in
    omega arith

empty-read : (bytes : List ℕ) (ct ahead place : ℕ) (code : CodeBuffer) → ReadsAhead bytes ct ahead place code → code.bits ≡ 0 → seen_of code ≡ record { c = code.c / 2 ^ 32; ct = 0; place = code.place }
empty-read bytes (suc t) ahead place code h none = absurd (omega (arith, h.bits))
empty-read bytes zero (suc m) place code h none = absurd (omega (arith, h.bits))
empty-read bytes zero zero place code h none =
    let low : code.c % 2 ^ 48 ≡ 0 = h.spells ∙ (let z : 0 * 2 ^ (48 - code.bits) ≡ 0 = omega arith in z) in
    let high : code.c / 2 ^ 48 * 2 ^ 16 ≡ code.c / 2 ^ 32 = omega arith in
    let at : place ≡ code.place = omega (arith, h.read) in
    seen-read bytes 0 0 place code h ∙ (λ i. record { c = high i; ct = 0; place = at i })

pub empty-seen : (bytes : List ℕ) (code : CodeBuffer) → IsAhead bytes code → code.bits ≡ 0 → seen_of code ≡ record { c = code.c / 2 ^ 32; ct = 0; place = code.place }
empty-seen bytes code h none = empty-read bytes h.ct h.ahead h.place code h.reads none

-- a byte that is read at once, the first of its bits being shifted
abbrev pub read-in : CodeRegister → CodeBuffer
read-in r = record { c = r.c * 2 % 2 ^ 32 * 2 ^ 32; bits = r.ct - 1; place = r.place }

-- no byte is ahead, and there is nothing below the bits
none-ahead : (bytes : List ℕ) (ct : ℕ) (code : CodeBuffer) → ct < 8 → code.bits ≡ ct → code.c < 2 ^ 64 → code.place ≤ length bytes → code.c % 2 ^ (48 - ct) ≡ 0 → IsAhead bytes code
none-ahead bytes ct code few all small within whole = record {
  ct = ct;
  ahead = 0;
  place = code.place;
  reads = record {
    below = few;
    bits = omega (arith, all);
    few = omega (arith, all);
    small = small;
    read = omega arith;
    within = within;
    plain = λ i less. absurd (omega arith);
    spells = whole ∙ (let z : 0 ≡ 0 * 2 ^ (48 - code.bits) = omega arith in z);
  };
}

seven-seen : (bytes : List ℕ) (c place : ℕ) → c % 2 ^ 8 ≡ 0 → shift_left (record { c = c; ct = 8; place = place }) ≡ seen_of (read-in (record { c = c; ct = 8; place = place }))
unfolding shift_left
seven-seen bytes c place whole =
    let high : 2 * c % 2 ^ 32 ≡ c * 2 % 2 ^ 32 * 2 ^ 32 / 2 ^ 41 * 2 ^ 9 = omega arith in
    let at : place ≡ place - 0 = omega arith in
    λ i. record { c = high i; ct = 7; place = at i }

six-seen : (bytes : List ℕ) (c place : ℕ) → c % 2 ^ 9 ≡ 0 → shift_left (record { c = c; ct = 7; place = place }) ≡ seen_of (read-in (record { c = c; ct = 7; place = place }))
unfolding shift_left
six-seen bytes c place whole =
    let high : 2 * c % 2 ^ 32 ≡ c * 2 % 2 ^ 32 * 2 ^ 32 / 2 ^ 42 * 2 ^ 10 = omega arith in
    let at : place ≡ place - 0 = omega arith in
    λ i. record { c = high i; ct = 6; place = at i }

-- what BYTEIN makes of C without bits
abbrev Enters : List ℕ → CodeRegister → Type 0
Enters bytes r = IsAhead bytes (read-in r) × (shift_left r ≡ seen_of (read-in r))

eight-enters : (bytes : List ℕ) (c place : ℕ) → c % 2 ^ 8 ≡ 0 → place ≤ length bytes → Enters bytes (record { c = c; ct = 8; place = place })
eight-enters bytes c place whole within =
    (none-ahead bytes 7 (read-in (record { c = c; ct = 8; place = place })) (omega arith) refl (omega arith) within (omega arith), seven-seen bytes c place whole)

seven-enters : (bytes : List ℕ) (c place : ℕ) → c % 2 ^ 9 ≡ 0 → place ≤ length bytes → Enters bytes (record { c = c; ct = 7; place = place })
seven-enters bytes c place whole within =
    (none-ahead bytes 6 (read-in (record { c = c; ct = 7; place = place })) (omega arith) refl (omega arith) within (omega arith), six-seen bytes c place whole)

-- what holds of the paths of BYTEIN, from C without bits
byte-cases : (bytes : List ℕ) (P : CodeRegister → Type 0) (c place : ℕ) → c % 2 ^ 16 ≡ 0 → (byte_in bytes c place).place ≤ length bytes
    → ((k p : ℕ) → k % 2 ^ 8 ≡ 0 → p ≤ length bytes → P (record { c = k; ct = 8; place = p })) → ((k p : ℕ) → k % 2 ^ 9 ≡ 0 → p ≤ length bytes → P (record { c = k; ct = 7; place = p }))
    → P (byte_in bytes c place)
byte-cases bytes P c place whole within eight seven =
    let next : ℕ = byte_at bytes (place + 1) in
    ⊎_elim
    (λ (is : byte_at bytes place ≡ 0xFF).
    ⊎_elim
    (λ (stuffed : next < 0x90).
    let e = byte_in-stuffed bytes c place is (omega arith) in
    subst P (sym e) (seven ((c + (2 ^ 32 + 0xFE00 - next * 2 ^ 9)) % 2 ^ 32) (place + 1) (omega arith) (subst (λ (r : CodeRegister). r.place ≤ length bytes) e within)))
    (λ (marker : 0x90 ≤ next).
    let e = byte_in-marker bytes c place is (omega arith) in
    subst P (sym e) (eight c place (omega arith) (subst (λ (r : CodeRegister). r.place ≤ length bytes) e within)))
    (cases_lt next 0x90))
    (λ (other : byte_at bytes place ≢ 0xFF).
    let e = byte_in-plain bytes c place other in
    subst P (sym e) (eight ((c + (0xFF00 - next * 2 ^ 8)) % 2 ^ 32) (place + 1) (omega arith) (subst (λ (r : CodeRegister). r.place ≤ length bytes) e within)))
    (cases_eq (byte_at bytes place) 0xFF)

-- an empty buffer takes the next byte: one shift of RENORMD
pub empty-turn : (bytes : List ℕ) (a : ℕ) (code : CodeBuffer) (r : CodeRegister) → IsAhead bytes code → code.bits ≡ 0 → r ≡ byte_in bytes (code.c / 2 ^ 32) code.place → r.place ≤ length bytes → 1 ≤ a → a < 0x8000
    → IsAhead bytes (read-in r) × (renormd bytes 15 a (seen_of code) ≡ renormd bytes 15 (2 * a) (seen_of (read-in r)))
empty-turn bytes a code r h none is within some half =
    let seen = empty-seen bytes code h none in
    let whole : code.c / 2 ^ 32 % 2 ^ 16 ≡ 0 = empty-whole bytes h.ct h.ahead h.place code h.reads none in
    let enters : Enters bytes r = subst (λ (q : CodeRegister). Enters bytes q) (sym is) (byte-cases bytes (Enters bytes) (code.c / 2 ^ 32) code.place whole (subst (λ (q : CodeRegister). q.place ≤ length bytes) is within) (eight-enters bytes) (seven-enters bytes)) in
    let full : byte_in_if_empty bytes (seen_of code) ≡ r = ap (byte_in_if_empty bytes) seen ∙ filled-none bytes _ refl ∙ sym is in (
      enters.0,
      renormed-step bytes 14 a (seen_of code) half ∙ ap (λ (q : CodeRegister). renormd bytes 14 (2 * a) (shift_left q)) full
          ∙ ap (renormd bytes 14 (2 * a)) enters.1
          ∙ sym (renormed-enough bytes 14 1 (2 * a) (seen_of (read-in r)) (omega arith)),
    )

-- ---- the start
abbrev pub started : CodeRegister → CodeBuffer
started r = record { c = r.c * 2 ^ 7 % 2 ^ 32 * 2 ^ 32; bits = r.ct - 7; place = r.place }

abbrev Starts : List ℕ → CodeRegister → Type 0
Starts bytes r = IsAhead bytes (started r) × (seen_of (started r) ≡ record { c = r.c * 2 ^ 7 % 2 ^ 32; ct = r.ct - 7; place = r.place })

eight-starts : (bytes : List ℕ) (c place : ℕ) → c % 2 ^ 8 ≡ 0 → place ≤ length bytes → Starts bytes (record { c = c; ct = 8; place = place })
eight-starts bytes c place whole within =
    let high : c * 2 ^ 7 % 2 ^ 32 * 2 ^ 32 / 2 ^ 47 * 2 ^ 15 ≡ c * 2 ^ 7 % 2 ^ 32 = omega arith in
    let at : place - 0 ≡ place = omega arith in (
      none-ahead bytes 1 (started (record { c = c; ct = 8; place = place })) (omega arith) refl (omega arith) within (omega arith),
      λ i. record { c = high i; ct = 1; place = at i },
    )

seven-starts : (bytes : List ℕ) (c place : ℕ) → c % 2 ^ 9 ≡ 0 → place ≤ length bytes → Starts bytes (record { c = c; ct = 7; place = place })
seven-starts bytes c place whole within =
    let high : c * 2 ^ 7 % 2 ^ 32 * 2 ^ 32 / 2 ^ 48 * 2 ^ 16 ≡ c * 2 ^ 7 % 2 ^ 32 = omega arith in
    let at : place - 0 ≡ place = omega arith in (
      none-ahead bytes 0 (started (record { c = c; ct = 7; place = place })) (omega arith) refl (omega arith) within (omega arith),
      λ i. record { c = high i; ct = 0; place = at i },
    )

pub start : (bytes : List ℕ) (c : ℕ) (r : CodeRegister) → c % 2 ^ 16 ≡ 0 → r ≡ byte_in bytes c 0 → r.place ≤ length bytes → Starts bytes r
start bytes c r whole is within =
    subst (Starts bytes) (sym is) (byte-cases bytes (Starts bytes) c 0 whole (subst (λ (q : CodeRegister). q.place ≤ length bytes) is within) (eight-starts bytes) (seven-starts bytes))

-- ---- the upper half of C
pub upper-half : (code : CodeBuffer) → (seen_of code).c / 2 ^ 16 ≡ code.c / 2 ^ 48
upper-half code =
    let ct : ℕ = code.bits % 8 in
    let few : ct < 8 = mod_below code.bits 8 (omega arith) in
    let all : 2 ^ 16 ≡ 2 ^ ct * 2 ^ (16 - ct) = (let e : 16 ≡ ct + (16 - ct) = omega arith in ap (λ (n : ℕ). 2 ^ n) e ∙ pow-add 2 ct (16 - ct)) in
    let wide : 2 ^ (48 - ct) * 2 ^ ct ≡ 2 ^ 48 = sym (pow-add 2 (48 - ct) ct) ∙ (let e : 48 - ct + ct ≡ 48 = omega arith in ap (λ (n : ℕ). 2 ^ n) e) in
    ap (λ (n : ℕ). code.c / 2 ^ (48 - ct) * 2 ^ (16 - ct) / n) all
    ∙ mul-div-mul_right {m = 2 ^ (16 - ct)} (code.c / 2 ^ (48 - ct)) (2 ^ ct) (pow_pos (16 - ct))
    ∙ div-div-eq-div-mul code.c (2 ^ (48 - ct)) (2 ^ ct)
    ∙ ap (λ (n : ℕ). code.c / n) wide

-- ---- a part of the interval
abbrev pub lowered : ℕ → CodeBuffer → CodeBuffer
lowered below code = record { c = code.c - below * 2 ^ 48; bits = code.bits; place = code.place }

lowered-parts : (c below ct : ℕ) → ct < 8 → below ≤ c / 2 ^ 48 → ((c - below * 2 ^ 48) / 2 ^ (48 - ct) * 2 ^ (16 - ct) ≡ c / 2 ^ (48 - ct) * 2 ^ (16 - ct) - below * 2 ^ 16) × ((c - below * 2 ^ 48) % 2 ^ (48 - ct) ≡ c % 2 ^ (48 - ct))
lowered-parts c below ct few inside =
    let d : ℕ = 2 ^ (48 - ct) in
    let e : ℕ = 2 ^ (16 - ct) in
    let low : ℕ = c - below * 2 ^ 48 in
    let wide : 2 ^ 48 ≡ 2 ^ ct * d = (let s : 48 ≡ ct + (48 - ct) = omega arith in ap (λ (n : ℕ). 2 ^ n) s ∙ pow-add 2 ct (48 - ct)) in
    let narrow : 2 ^ 16 ≡ 2 ^ ct * e = (let s : 16 ≡ ct + (16 - ct) = omega arith in ap (λ (n : ℕ). 2 ^ n) s ∙ pow-add 2 ct (16 - ct)) in
    let some : 0 < d = pow_pos (48 - ct) in
    let fits : below * 2 ^ 48 ≤ c = omega (arith, mul-le-mul_left (2 ^ 48) inside) in
    let part : below * 2 ^ 48 ≡ below * 2 ^ ct * d = omega (arith, ap (λ (n : ℕ). below * n) wide) in
    let whole : c ≡ (below * 2 ^ ct + low / d) * d + low % d = omega (arith, fits, part, mod-add-div low d) in
    let high : c / d ≡ below * 2 ^ ct + low / d = ap (λ (n : ℕ). n / d) whole ∙ div-mul-add (below * 2 ^ ct + low / d) d (low % d) (mod_below low d some) in
    let rest : c % d ≡ low % d = ap (λ (n : ℕ). n % d) whole ∙ mod-mul-add (below * 2 ^ ct + low / d) d (low % d) (mod_below low d some) in
    let product : c / d * e ≡ below * 2 ^ ct * e + low / d * e = ap (λ (n : ℕ). n * e) high ∙ (let o : (below * 2 ^ ct + low / d) * e ≡ below * 2 ^ ct * e + low / d * e = omega arith in o) in
    let same : below * 2 ^ 16 ≡ below * 2 ^ ct * e = omega (arith, ap (λ (n : ℕ). below * n) narrow) in
    (omega (arith, product, same), sym rest)

pub lowered-seen : (below : ℕ) (code : CodeBuffer) → below ≤ code.c / 2 ^ 48 → seen_of (lowered below code) ≡ record (seen_of code) { c = (seen_of code).c - below * 2 ^ 16 }
lowered-seen below code inside =
    let parts = lowered-parts code.c below (code.bits % 8) (mod_below code.bits 8 (omega arith)) inside in
    λ i. record { c = parts.0 i; ct = code.bits % 8; place = code.place - code.bits / 8 }

pub lowered-ahead : (bytes : List ℕ) (below : ℕ) (code : CodeBuffer) → IsAhead bytes code → below ≤ code.c / 2 ^ 48 → IsAhead bytes (lowered below code)
lowered-ahead bytes below code h inside =
    let parts = lowered-parts code.c below h.ct h.reads.below inside in
    record {
      ct = h.ct;
      ahead = h.ahead;
      place = h.place;
      reads = record {
        below = h.reads.below;
        bits = h.reads.bits;
        few = h.reads.few;
        small = omega (arith, h.reads.small);
        read = h.reads.read;
        within = h.reads.within;
        plain = h.reads.plain;
        spells = parts.1 ∙ h.reads.spells;
      };
    }

-- ---- decisions that aren't quiet
seen-small : (bytes : List ℕ) (code : CodeBuffer) → IsAhead bytes code → (seen_of code).c < 2 ^ 32
seen-small bytes code h =
    let half = upper-half code in
    omega (arith, half, h.reads.small)

pub decision-part : (bytes : List ℕ) (registers : BufferedRegisters) (x y : Context) (rest qe below size : ℕ) (symbol : Bool) → IsAhead bytes registers.code → registers.a ≡ rest + qe → below ≤ registers.code.c / 2 ^ 48
    → ((c : ℕ) → c < 2 ^ 32 → c / 2 ^ 16 ≡ registers.code.c / 2 ^ 48 → choice x (rest + qe) c ≡ record { symbol = symbol; a = size; c = c - below * 2 ^ 16; context = y; renorm = true })
    → decision bytes (seen_registers registers) x ≡ record { symbol = symbol; registers = renormd bytes 15 size (seen_of (lowered below registers.code)); context = y }
decision-part bytes registers x y rest qe below size symbol h all inside chosen =
    let s : Registers = seen_registers registers in
    let t : Registers = record { a = size; code = record (seen_of registers.code) { c = (seen_of registers.code).c - below * 2 ^ 16 } } in
    let e : choice x s.a s.code.c ≡ record { symbol = symbol; a = t.a; c = t.code.c; context = y; renorm = true } =
    ap (λ (n : ℕ). choice x n s.code.c) all ∙ chosen s.code.c (seen-small bytes registers.code h) (upper-half registers.code) in
    decision-renorm bytes s x symbol t y e refl refl
    ∙ ap (λ (q : CodeRegister). let d : Decision = record { symbol = symbol; registers = renormd bytes 15 size q; context = y } in d) (sym (lowered-seen below registers.code inside))

pub kept : (bytes : List ℕ) (registers : BufferedRegisters) (floor : ℕ) → 0x8000 ≤ registers.a → registers.a < 0x10000 → IsAhead bytes registers.code → floor ≡ max (registers.code.c / 2 ^ 48 + 1) 0x8000 → IsKept bytes registers floor
kept bytes registers floor normal below h is =
    let half = upper-half registers.code in
    record {
      rest = record {
        normal = normal;
        below = below;
        few = (let few : registers.code.bits % 8 < 8 = mod_below registers.code.bits 8 (omega arith) in omega arith);
        within = (let in_all = h.reads.within in omega arith);
      };
      low = is ∙ ap (λ (n : ℕ). max (n + 1) 0x8000) (sym half);
      few = omega (arith, is, h.reads.small);
      ahead = h;
    }
