-- BYTEOUT changes no number: it moves digits from the register to the bytes.
use Rattle.std.proofs.Common.{◌≡◌, ℕ, ◌+◌, ◌-◌, ◌*◌, ◌/◌, ◌%◌, ◌^◌, ◌<◌, ◌≤◌, List, [], ◌∷◌, length, refl, sym, ◌∙◌, arith, subst, ⊎_elim, ◌⊎◌, inl, inr}
use Rattle.std.proofs.lemmas.Bool.{cases_eq, cases_lt}
use Rattle.jbig2_coder.specs.Encoder.{Writer, eight_bits_out, seven_bits_out, byte_out}
use Rattle.jbig2_coder.proofs.Encoders.{byte_out-none, byte_out-full, byte_out-below, byte_out-carry_full, byte_out-carry}
use Rattle.jbig2_coder.proofs.InverseBytes.{width, bits, value, Valid, width-full, width-other}

-- the low end of the interval, as the bytes that are out and the register name it together
abbrev pub low : Writer → ℕ
low w = value w.out * 2 ^ (27 - w.wait) + w.register

-- the shifts so far
abbrev pub time : Writer → ℕ
time w = bits w.out + (12 - w.wait)

-- What C and A may be, once they have moved on to the next BYTEOUT: no byte but the first takes a carry there
-- that it has no room for.
abbrev pub Room : ℕ → List ℕ → Type 0
Room x [] = x ≤ 2 ^ 27
Room x (b ∷ r) = (x ≤ 9 * 2 ^ 24) × (width r ≡ 7 → b * 2 ^ 27 + x ≤ 144 * 2 ^ 27)

pub Room-le : (x y : ℕ) (r : List ℕ) → x ≤ y → Room y r → Room x r
Room-le x y [] h room = omega arith
Room-le x y (b ∷ r) h room = (omega (arith, room.0), λ e. let k = room.1 e in omega (arith, k))

pub Room-most : (x : ℕ) (r : List ℕ) → Room x r → x ≤ 9 * 2 ^ 24
Room-most x [] room = omega arith
Room-most x (b ∷ r) room = room.0

pub record Bounded (a : ℕ) (w : Writer) : Type 0 where
  pub some : 1 ≤ a
  pub few : w.wait ≤ 12
  pub room : Room ((w.register + a) * 2 ^ w.wait) w.out
  pub valid : Valid w.out

-- the bytes that are out take a carry in the last one only
abbrev pub Grown : List ℕ → List ℕ → Type 0
Grown [] s = s ≡ []
Grown (b ∷ r) s = (c : ℕ) × (s ≡ c ∷ r) × (b ≤ c)

-- one more byte is out, and the ones before it may have taken a carry
pub record Longer (r s : List ℕ) : Type 0 where
  pub byte : ℕ
  pub rest : List ℕ
  pub is : s ≡ byte ∷ rest
  pub same : length rest ≡ length r
  pub grown : Grown r rest

-- What BYTEOUT makes of C, where A is a.
pub record Put (a c : ℕ) (r : List ℕ) (w : Writer) : Type 0 where
  pub number : low w ≡ value r * 2 ^ 27 + c
  pub moment : time w ≡ bits r + 12
  pub below : low w < (value w.out + 1) * 2 ^ (27 - w.wait)
  pub scale : time w + 15 ≡ bits w.out + (27 - w.wait)
  pub wait : (w.wait ≡ 7) ⊎ (w.wait ≡ 8)
  pub longer : Longer r w.out
  pub valid : Valid w.out
  pub bounded : a ≤ 2 ^ 16 → Bounded a w

-- a carry moved from C into the last byte
record Carried (a c : ℕ) (r : List ℕ) (d : ℕ) (s : List ℕ) : Type 0 where
  number : value s * 2 ^ 27 + d ≡ value r * 2 ^ 27 + c
  same_bits : bits s ≡ bits r
  same : length s ≡ length r
  grown : Grown r s
  valid : Valid s
  room : d + a ≤ 9 * 2 ^ 24

Grown_same : (r : List ℕ) → Grown r r
Grown_same [] = refl
Grown_same (b ∷ r) = (b, refl, omega arith)

uncarried : (a c : ℕ) (r : List ℕ) → Valid r → c + a ≤ 9 * 2 ^ 24 → Carried a c r c r
uncarried a c r valid room =
    record { number = refl; same_bits = refl; same = refl; grown = Grown_same r; valid = valid; room = room }

put-plain : (a c : ℕ) (r : List ℕ) (d : ℕ) (s : List ℕ) → 1 ≤ a → Carried a c r d s → width s ≡ 8 → d < 2 ^ 27
    → Put a c r (record { register = d % 2 ^ 19; wait = 8; out = (d / 2 ^ 19) ∷ s })
put-plain a c r d s some k e h =
    let number = k.number in
    let v : Valid ((d / 2 ^ 19) ∷ s) = (omega arith, (λ f. absurd (omega arith)), k.valid) in
    record {
      number = rw e (omega (arith, number));
      moment = rw e (omega (arith, k.same_bits));
      below = rw e (omega arith);
      scale = rw e (omega arith);
      wait = inr refl;
      longer = record { byte = d / 2 ^ 19; rest = s; is = refl; same = k.same; grown = k.grown };
      valid = v;
      bounded = λ small. record {
        some = some;
        few = omega arith;
        room = (omega arith, (λ f. absurd (omega arith)));
        valid = v;
      };
    }

put-stuffed : (a c : ℕ) (r : List ℕ) (d : ℕ) (s : List ℕ) → 1 ≤ a → Carried a c r d s → width s ≡ 7
    → Put a c r (record { register = d % 2 ^ 20; wait = 7; out = (d / 2 ^ 20) ∷ s })
put-stuffed a c r d s some k e =
    let number = k.number in
    let room = k.room in
    let v : Valid ((d / 2 ^ 20) ∷ s) = (omega (arith, room), (λ f. omega (arith, room)), k.valid) in
    record {
      number = rw e (omega (arith, number));
      moment = rw e (omega (arith, k.same_bits));
      below = rw e (omega arith);
      scale = rw e (omega arith);
      wait = inl refl;
      longer = record { byte = d / 2 ^ 20; rest = s; is = refl; same = k.same; grown = k.grown };
      valid = v;
      bounded = λ small. record {
        some = some;
        few = omega arith;
        room = (omega arith, (λ f. omega (arith, room)));
        valid = v;
      };
    }

-- the two forms of what goes out, by what they amount to
plain-is : (c d : ℕ) (s : List ℕ) → d % 2 ^ 19 ≡ c % 2 ^ 19 → d / 2 ^ 19 ≡ c / 2 ^ 19 % 256
    → ◌≡◌ {A = Writer} (record { register = d % 2 ^ 19; wait = 8; out = (d / 2 ^ 19) ∷ s }) (eight_bits_out c s)
unfolding eight_bits_out
plain-is c d s e f = λ i. record { register = e i; wait = 8; out = f i ∷ s }

stuffed-is : (c d : ℕ) (s : List ℕ) → d % 2 ^ 20 ≡ c % 2 ^ 20 → d / 2 ^ 20 ≡ c / 2 ^ 20
    → ◌≡◌ {A = Writer} (record { register = d % 2 ^ 20; wait = 7; out = (d / 2 ^ 20) ∷ s }) (seven_bits_out c s)
unfolding seven_bits_out
stuffed-is c d s e f = λ i. record { register = e i; wait = 7; out = f i ∷ s }

put-last : (a c b : ℕ) (r : List ℕ) → 1 ≤ a → Valid (b ∷ r) → Room (c + a) (b ∷ r) → Put a c (b ∷ r) (byte_out c (b ∷ r))
put-last a c b r some valid room =
    ⊎_elim
    (λ (full : b ≡ 255).
    subst (Put a c (b ∷ r)) (stuffed-is c c (b ∷ r) refl refl ∙ sym (byte_out-full c b (b ∷ r) r refl full))
    (put-stuffed a c (b ∷ r) c (b ∷ r) some (uncarried a c (b ∷ r) valid (room.0)) (width-full b r full)))
    (λ (free : b ≡ 255 → ⊥). ⊎_elim
    (λ (l : c < 2 ^ 27).
    let q : c / 2 ^ 19 ≡ c / 2 ^ 19 % 256 = omega arith in
    subst (Put a c (b ∷ r)) (plain-is c c (b ∷ r) refl q ∙ sym (byte_out-below c b (b ∷ r) r refl free l))
    (put-plain a c (b ∷ r) c (b ∷ r) some (uncarried a c (b ∷ r) valid (room.0)) (width-other b r free) l))
    (λ (h : 2 ^ 27 ≤ c). carry free h)
    (cases_lt c (2 ^ 27)))
    (cases_eq b 255)
  where
    carried : (b ≡ 255 → ⊥) → 2 ^ 27 ≤ c → Carried a c (b ∷ r) (c - 2 ^ 27) ((b + 1) ∷ r)
    carried free h =
        record {
          number = omega arith;
          same_bits = refl;
          same = refl;
          grown = (b + 1, refl, omega arith);
          valid = (omega (arith, valid.0), (λ e. let k = room.1 e in omega (arith, k)), valid.2);
          room = omega (arith, room.0);
        }

    carry : (b ≡ 255 → ⊥) → 2 ^ 27 ≤ c → Put a c (b ∷ r) (byte_out c (b ∷ r))
    carry free h =
        ⊎_elim
        (λ (e : b + 1 ≡ 255).
        let d : (c - 2 ^ 27) % 2 ^ 20 ≡ c % 2 ^ 27 % 2 ^ 20 = omega (arith, room.0) in
        let q : (c - 2 ^ 27) / 2 ^ 20 ≡ c % 2 ^ 27 / 2 ^ 20 = omega (arith, room.0) in
        subst (Put a c (b ∷ r)) (stuffed-is (c % 2 ^ 27) (c - 2 ^ 27) ((b + 1) ∷ r) d q ∙ sym (byte_out-carry_full c b (b ∷ r) r refl h e))
        (put-stuffed a c (b ∷ r) (c - 2 ^ 27) ((b + 1) ∷ r) some (carried free h) (width-full (b + 1) r e)))
        (λ (n : b + 1 ≡ 255 → ⊥).
        let d : (c - 2 ^ 27) % 2 ^ 19 ≡ c % 2 ^ 19 = omega (arith, room.0) in
        let q : (c - 2 ^ 27) / 2 ^ 19 ≡ c / 2 ^ 19 % 256 = omega (arith, room.0) in
        subst (Put a c (b ∷ r)) (plain-is c (c - 2 ^ 27) ((b + 1) ∷ r) d q ∙ sym (byte_out-carry c b (b ∷ r) r refl free h n))
        (put-plain a c (b ∷ r) (c - 2 ^ 27) ((b + 1) ∷ r) some (carried free h) (width-other (b + 1) r n) (omega (arith, room.0))))
        (cases_eq (b + 1) 255)

-- BYTEOUT, where C and A are in bounds
pub put : (a c : ℕ) (r : List ℕ) → 1 ≤ a → Valid r → Room (c + a) r → Put a c r (byte_out c r)
put a c [] some valid room =
    subst (Put a c []) (plain-is c c [] refl (omega arith) ∙ sym (byte_out-none c [] refl))
    (put-plain a c [] c [] some (uncarried a c [] valid (omega arith)) refl (omega arith))
put a c (b ∷ r) some valid room = put-last a c b r some valid room
