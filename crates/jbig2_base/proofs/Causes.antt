-- Which rule the bytes break where a step of a parser refuses them.
use Rattle.std.proofs.Common.{◌≡◌, ℕ, ◌<◌, ◌≤◌, ltb, Bool, true, false, List, take, drop, length, Result, Ok, Err, refl}
use Rattle.std.specs.Prelude.{IfErr}
use Rattle.std.specs.Int.{Width, byte_len, from_be_bytes}
use Rattle.std.proofs.lemmas.Bool.{cond_both, ltb-true, ltb-false}
use Rattle.jbig2_base.specs.Results.{◌>>=◌, refuse_if}
use Rattle.jbig2_base.specs.Fields.{bytes_at, number_at, end_of_bytes}
use Rattle.jbig2_base.specs.declared.error.DecodeError.{DecodeError}

-- an error of the first step, or of the next one
pub cause-next : {A B E : Type 0} (P : E → Type 0) (r : Result A E) (next : A → Result B E)
    → IfErr r P → ((x : A) → r ≡ Ok x → IfErr (next x) P) → IfErr (r >>= next) P
cause-next P (Ok x) next first rest = rest x refl
cause-next P (Err e) next first rest = first

-- a step that went well, and the next one
pub went : {A B E : Type 0} (r : Result A E) (next : A → Result B E) (y : B) → (r >>= next) ≡ Ok y → (x : A) × (r ≡ Ok x) × (next x ≡ Ok y)
went (Ok x) next y is = (x, refl, is)
went {A} {B} {E} (Err e) next y is = absurd (let never : ◌≡◌ {A = Result B E} (Err e) (Ok y) = is in cc)

pub cause-refused : (P : DecodeError → Type 0) (b : Bool) (e : DecodeError) → (b ≡ true → P e) → IfErr (refuse_if b e) P
cause-refused P true e why = why refl
cause-refused P false e why = tt

pub cause-bytes : (P : DecodeError → Type 0) (n : ℕ) (bytes : List ℕ) → (length bytes < n → P end_of_bytes) → IfErr (bytes_at n bytes) P
cause-bytes P n bytes why =
    let Q : Result (List ℕ × List ℕ) DecodeError → Type 0 = λ r. IfErr r P in
    cond_both (ltb (length bytes) n) (Err end_of_bytes) (Ok (take n bytes, drop n bytes)) Q (λ short. why (ltb-true (length bytes) n short)) (λ there. tt)

pub cause-number : (P : DecodeError → Type 0) (w : Width) (bytes : List ℕ) → (length bytes < byte_len w → P end_of_bytes) → IfErr (number_at w bytes) P
cause-number P w bytes why =
    let Q : Result (ℕ × List ℕ) DecodeError → Type 0 = λ r. IfErr r P in
    cond_both (ltb (length bytes) (byte_len w)) (Err end_of_bytes) (Ok (from_be_bytes w (take (byte_len w) bytes), drop (byte_len w) bytes)) Q (λ short. why (ltb-true (length bytes) (byte_len w) short)) (λ there. tt)

pub same-ok : {A E : Type 0} (x y : A) → ◌≡◌ {A = Result A E} (Ok x) (Ok y) → x ≡ y
same-ok x y e = cc

never-err : {A : Type 0} (x : A) (e : DecodeError) → ◌≡◌ {A = Result A DecodeError} (Err e) (Ok x) → ⊥
never-err x e same = cc

-- a field that is there
pub bytes-there : (n : ℕ) (bytes : List ℕ) (x : List ℕ × List ℕ) → bytes_at n bytes ≡ Ok x → (n ≤ length bytes) × ((take n bytes, drop n bytes) ≡ x)
bytes-there n bytes x =
    let Q : Result (List ℕ × List ℕ) DecodeError → Type 0 = λ r. r ≡ Ok x → (n ≤ length bytes) × ((take n bytes, drop n bytes) ≡ x) in
    cond_both (ltb (length bytes) n) (Err end_of_bytes) (Ok (take n bytes, drop n bytes)) Q
    (λ short is. absurd (never-err x end_of_bytes is))
    (λ there is. (ltb-false (length bytes) n there, same-ok (take n bytes, drop n bytes) x is))

pub number-there : (w : Width) (bytes : List ℕ) (x : ℕ × List ℕ) → number_at w bytes ≡ Ok x → (byte_len w ≤ length bytes) × ((from_be_bytes w (take (byte_len w) bytes), drop (byte_len w) bytes) ≡ x)
number-there w bytes x =
    let n : ℕ × List ℕ = (from_be_bytes w (take (byte_len w) bytes), drop (byte_len w) bytes) in
    let Q : Result (ℕ × List ℕ) DecodeError → Type 0 = λ r. r ≡ Ok x → (byte_len w ≤ length bytes) × (n ≡ x) in
    cond_both (ltb (length bytes) (byte_len w)) (Err end_of_bytes) (Ok n) Q
    (λ short is. absurd (never-err x end_of_bytes is))
    (λ there is. (ltb-false (length bytes) (byte_len w) there, same-ok n x is))
