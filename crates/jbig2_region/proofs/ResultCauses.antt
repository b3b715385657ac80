-- What is known of a result: the cause of its error, and what the input says of its value. The steps of a definition
-- follow one another, each at a known place of the bytes.
use Rattle.std.proofs.Common.{◌≡◌, ℕ, ◌+◌, ◌<◌, ◌≤◌, ◌%◌, ◌/◌, Bool, true, false, cond, eqb, List, take, drop, length, Result, Ok, Err, refl, sym, ◌∙◌, ap, arith, length-drop}
use Rattle.std.specs.Prelude.{IfErr, ℤ}
use Rattle.std.specs.Int.{Width, w8, w32, byte_len, from_be_bytes}
use Rattle.std.proofs.lemmas.Bool.Decides.{nat_tests}
use Rattle.std.proofs.lemmas.Bool.{eqb-true}
use Rattle.std.proofs.lemmas.List.{drop-drop}
use Rattle.jbig2_base.specs.Results.{◌>>=◌, refuse_if}
use Rattle.jbig2_base.specs.Causes.{number_in}
use Rattle.jbig2_base.specs.Fields.{number_at, signed_at, end_of_bytes}
use Rattle.jbig2_base.specs.Combination.{operator_of}
use Rattle.jbig2_base.specs.declared.bitmap.operator.CombinationOperator.{CombinationOperator}
use Rattle.jbig2_base.specs.declared.error.DecodeError.{DecodeError}
use Rattle.jbig2_base.specs.declared.error.DecodeError.TheVariants.{Region, Unsupported}
use Rattle.jbig2_base.specs.declared.error.RegionError.TheVariants.{InvalidCombinationOperator}
use Rattle.jbig2_base.proofs.Causes.{cause-number, number-there}
use Rattle.jbig2_region.specs.RegionInfo.{region_info_at}
use Rattle.jbig2_region.specs.declared.region_info.RegionSegmentInfo.{RegionSegmentInfo}

abbrev pub IfResult : {A : Type 0} → Result A DecodeError → (DecodeError → Type 0) → (A → Type 0) → Type 0
IfResult (Ok x) P Q = Q x
IfResult (Err e) P Q = P e

pub result-of : {A : Type 0} (P : DecodeError → Type 0) (Q : A → Type 0) (r : Result A DecodeError) → IfErr r P → ((x : A) → r ≡ Ok x → Q x) → IfResult r P Q
result-of P Q (Ok x) cause value = value x refl
result-of P Q (Err e) cause value = cause

-- the next step
pub result-next : {A B : Type 0} (P : DecodeError → Type 0) (Q : A → Type 0) (R : B → Type 0) (r : Result A DecodeError) (next : A → Result B DecodeError)
    → IfResult r P Q → ((x : A) → Q x → IfResult (next x) P R) → IfResult (r >>= next) P R
result-next P Q R (Ok x) next first rest = rest x first
result-next P Q R (Err e) next first rest = first

pub cause-if : {A : Type 0} (P : DecodeError → Type 0) (b : Bool) (r s : Result A DecodeError) → (b ≡ true → IfErr r P) → (b ≡ false → IfErr s P) → IfErr (cond b r s) P
cause-if P true r s at_true at_false = at_true refl
cause-if P false r s at_true at_false = at_false refl

-- the cause alone
pub cause-of : {A : Type 0} (P : DecodeError → Type 0) (Q : A → Type 0) (r : Result A DecodeError) → IfResult r P Q → IfErr r P
cause-of P Q (Ok x) is = tt
cause-of P Q (Err e) is = is

-- what follows from a cause
pub cause-more : {A : Type 0} (P Q : DecodeError → Type 0) (r : Result A DecodeError) → IfErr r P → ((e : DecodeError) → P e → Q e) → IfErr r Q
cause-more P Q (Ok x) is more = tt
cause-more P Q (Err e) is more = more e is

-- the last step
pub cause-last : {A B : Type 0} (P : DecodeError → Type 0) (Q : A → Type 0) (r : Result A DecodeError) (next : A → Result B DecodeError)
    → IfResult r P Q → ((x : A) → Q x → IfErr (next x) P) → IfErr (r >>= next) P
cause-last P Q (Ok x) next first rest = rest x first
cause-last P Q (Err e) next first rest = first

-- a result of which only the cause is known
pub result-any : {A : Type 0} (P : DecodeError → Type 0) (r : Result A DecodeError) → IfErr r P → IfResult r P (λ x. Unit {0})
result-any P (Ok x) is = tt
result-any P (Err e) is = is

-- what follows from what is known of a value
pub result-more : {A : Type 0} (P : DecodeError → Type 0) (Q R : A → Type 0) (r : Result A DecodeError) → IfResult r P Q → ((x : A) → Q x → R x) → IfResult r P R
result-more P Q R (Ok x) is more = more x is
result-more P Q R (Err e) is more = is

pub result-if : {A : Type 0} (P : DecodeError → Type 0) (Q : A → Type 0) (b : Bool) (r s : Result A DecodeError) → (b ≡ true → IfResult r P Q) → (b ≡ false → IfResult s P Q) → IfResult (cond b r s) P Q
result-if P Q true r s at_true at_false = at_true refl
result-if P Q false r s at_true at_false = at_false refl

pub result-refused : (P : DecodeError → Type 0) (b : Bool) (e : DecodeError) → (b ≡ true → P e) → IfResult (refuse_if b e) P (λ u. b ≡ false)
result-refused P true e why = why refl
result-refused P false e why = refl

-- ---- fields at a place
-- these are the bytes from a place on, which lies within them
pub record IsAtPlace (bytes : List ℕ) (place : ℕ) (rest : List ℕ) : Type 0 where
  pub within : place ≤ length bytes
  pub rest_is : drop place bytes ≡ rest

pub at-start : (bytes : List ℕ) → IsAtPlace bytes 0 bytes
at-start bytes = record { within = omega arith; rest_is = refl }

left-after : (bytes : List ℕ) (place : ℕ) (rest : List ℕ) → IsAtPlace bytes place rest → length rest + place ≡ length bytes
left-after bytes place rest s = omega (arith, ap length s.rest_is, length-drop place bytes, s.within)

-- a number at this place, and the place after it
pub record Number (w : Width) (bytes : List ℕ) (place : ℕ) (x : ℕ × List ℕ) : Type 0 where
  pub value : number_in w place bytes ≡ x.0
  pub after : IsAtPlace bytes (place + byte_len w) x.1

number-read : (w : Width) (bytes : List ℕ) (place : ℕ) (rest : List ℕ) (x : ℕ × List ℕ) → IsAtPlace bytes place rest → number_at w rest ≡ Ok x → Number w bytes place x
number-read w bytes place rest x s is =
    let there = number-there w rest x is in
    let value : from_be_bytes w (take (byte_len w) rest) ≡ x.0 = ap (λ (n : ℕ × List ℕ). n.0) there.1 in
    let after : drop (byte_len w) rest ≡ x.1 = ap (λ (n : ℕ × List ℕ). n.1) there.1 in
    record {
      value = ap (λ (l : List ℕ). from_be_bytes w (take (byte_len w) l)) s.rest_is ∙ value;
      after = record {
        within = omega (arith, left-after bytes place rest s, there.0);
        rest_is = sym (drop-drop (byte_len w) place bytes) ∙ ap (drop (byte_len w)) s.rest_is ∙ after;
      };
    }

pub result-number : (P : DecodeError → Type 0) (w : Width) {bytes : List ℕ} {place : ℕ} {rest : List ℕ} → IsAtPlace bytes place rest → (length bytes < place + byte_len w → P end_of_bytes) → IfResult (number_at w rest) P (Number w bytes place)
result-number P w {bytes} {place} {rest} s short =
    result-of P (Number w bytes place) (number_at w rest) (cause-number P w rest (λ missing. short (omega (arith, left-after bytes place rest s, missing)))) (λ x is. number-read w bytes place rest x s is)

-- a signed number, of which only the place after it is known
pub result-signed : (P : DecodeError → Type 0) (w : Width) {bytes : List ℕ} {place : ℕ} {rest : List ℕ} → IsAtPlace bytes place rest → (length bytes < place + byte_len w → P end_of_bytes) → IfResult (signed_at w rest) P (λ (x : ℤ × List ℕ). IsAtPlace bytes (place + byte_len w) x.1)
result-signed P w {bytes} {place} {rest} s short =
    result-next P (Number w bytes place) (λ (x : ℤ × List ℕ). IsAtPlace bytes (place + byte_len w) x.1) (number_at w rest) _ (result-number P w s short) (λ x n. n.after)

-- ---- region information (7.4.1)
other-operator : (n : ℕ) → eqb n 0 ≡ false → eqb n 1 ≡ false → eqb n 2 ≡ false → eqb n 3 ≡ false → eqb n 4 ≡ false → 4 < n
other-operator n a b c d e = grind (arith, nat_tests)

pub result-operator : (P : DecodeError → Type 0) (n : ℕ) → (4 < n → P (Region InvalidCombinationOperator)) → IfResult (operator_of n) P (λ o. Unit {0})
result-operator P n why =
    let Q : CombinationOperator → Type 0 = λ o. Unit {0} in
    result-if P Q (eqb n 0) _ _ (λ is. tt) (λ a. result-if P Q (eqb n 1) _ _ (λ is. tt) (λ b. result-if P Q (eqb n 2) _ _ (λ is. tt) (λ c. result-if P Q (eqb n 3) _ _ (λ is. tt) (λ d. result-if P Q (eqb n 4) _ _ (λ is. tt) (λ e. why (other-operator n a b c d e))))))

-- its seventeen bytes: the flags are the last one
pub result-region_info : (P : DecodeError → Type 0) (bytes : List ℕ) → (length bytes < 17 → P end_of_bytes)
    → (4 < number_in w8 16 bytes % 8 → P (Region InvalidCombinationOperator)) → (number_in w8 16 bytes / 8 % 2 ≡ 1 → P Unsupported)
    → IfResult (region_info_at bytes) P (λ (x : RegionSegmentInfo × List ℕ). IsAtPlace bytes 17 x.1)
unfolding region_info_at
result-region_info P bytes short operator colour =
    let R : RegionSegmentInfo × List ℕ → Type 0 = λ x. IsAtPlace bytes 17 x.1 in
    result-next P _ R (number_at w32 bytes) _ (result-number P w32 (at-start bytes) (λ missing. short (omega (arith, missing)))) (λ width a.
    result-next P _ R (number_at w32 width.1) _ (result-number P w32 a.after (λ missing. short (omega (arith, missing)))) (λ height b.
    result-next P _ R (number_at w32 height.1) _ (result-number P w32 b.after (λ missing. short (omega (arith, missing)))) (λ x c.
    result-next P _ R (number_at w32 x.1) _ (result-number P w32 c.after (λ missing. short (omega (arith, missing)))) (λ y d.
    result-next P _ R (number_at w8 y.1) _ (result-number P w8 d.after (λ missing. short (omega (arith, missing)))) (λ flags f.
    result-next P _ R (operator_of (flags.0 % 8)) _ (result-operator P (flags.0 % 8) (λ other. operator (omega (arith, f.value, other)))) (λ o is_o.
    result-next P _ R (refuse_if (eqb (flags.0 / 8 % 2) 1) Unsupported) _ (result-refused P (eqb (flags.0 / 8 % 2) 1) Unsupported (λ is. colour (omega (arith, f.value, eqb-true (flags.0 / 8 % 2) 1 is)))) (λ plain is_plain. f.after)))))))
