-- The steps of a definition over places of the bytes: what each gives, and why it refuses.
use Rattle.std.proofs.Common.{◌≡◌, ℕ, ◌+◌, ◌-◌, ◌<◌, ◌≤◌, ltb, Bool, true, false, List, take, drop, length, Result, Ok, Err, refl, sym, subst, arith, inl, inr, ⊎_elim, length-drop}
use Rattle.std.specs.Prelude.{◌⊎◌, IfErr}
use Rattle.std.specs.Int.{Width, byte_len, from_be_bytes}
use Rattle.std.proofs.lemmas.Bool.{cond_both, ltb-true, ltb-false}
use Rattle.std.proofs.lemmas.List.{drop-drop}
use Rattle.jbig2_base.specs.Results.{◌>>=◌, refuse_if, Returns, Gives}
use Rattle.jbig2_base.specs.Fields.{bytes_at, number_at, end_of_bytes}
use Rattle.jbig2_base.specs.Causes.{HasCause, HasCauseOrNoMemory, number_in}
use Rattle.jbig2_base.specs.declared.error.DecodeError.{DecodeError}
use Rattle.jbig2_base.specs.declared.error.DecodeError.TheVariants.{OutOfMemory}

-- An error of a call that gives its definition's errors has the cause that the definition's has.
pub call-cause : {X Y : Type 0} (P : DecodeError → Type 0) (meant : Result Y DecodeError) (r : Result X DecodeError) → IfErr meant P → IfErr r (λ e. meant ≡ Err e) → HasCause r P
unfolding HasCause
call-cause P meant (Ok x) all is = tt
call-cause P meant (Err e) all is = subst (λ m. IfErr m P) is all

-- the premise, where the call returns what its definition gives
pub err-same : {X : Type 0} (r meant : Result X DecodeError) → r ≡ meant → IfErr r (λ e. meant ≡ Err e)
err-same (Ok x) meant is = tt
err-same (Err e) meant is = sym is

pub err-answers : {X Y : Type 0} (view : X → Y) (r : Result X DecodeError) (meant : Result Y DecodeError) → Returns view r meant → IfErr r (λ e. meant ≡ Err e)
err-answers view (Ok x) meant is = tt
err-answers view (Err e) meant is = is

pub err-gives : {X Y : Type 0} (view : X → Y) (r : Result X DecodeError) (meant : Result Y DecodeError) → Gives view r meant → IfErr r (λ e. (e ≡ OutOfMemory) ⊎ (meant ≡ Err e))
err-gives view (Ok x) meant is = tt
err-gives view (Err e) meant is = is

pub call-cause-or-memory : {X Y : Type 0} (P : DecodeError → Type 0) (meant : Result Y DecodeError) (r : Result X DecodeError) → IfErr meant P → IfErr r (λ e. (e ≡ OutOfMemory) ⊎ (meant ≡ Err e))
    → HasCauseOrNoMemory r P
unfolding HasCauseOrNoMemory
call-cause-or-memory P meant (Ok x) all is = tt
call-cause-or-memory P meant (Err e) all is = ⊎_elim {C = (e ≡ OutOfMemory) ⊎ P e} (λ memory. inl memory) (λ same. inr (subst (λ m. IfErr m P) same all)) is

-- what is known of a value, and why an error was returned
abbrev pub IfResult : {A : Type 0} → (A → Type 0) → (DecodeError → Type 0) → Result A DecodeError → Type 0
IfResult Q P (Ok x) = Q x
IfResult Q P (Err e) = P e

pub result-cause : {A : Type 0} (Q : A → Type 0) (P : DecodeError → Type 0) (r : Result A DecodeError) → IfResult Q P r → IfErr r P
result-cause Q P (Ok x) given = tt
result-cause Q P (Err e) given = given

pub result-next : {A B : Type 0} (Q : A → Type 0) (R : B → Type 0) (P : DecodeError → Type 0) (r : Result A DecodeError) (next : A → Result B DecodeError)
    → IfResult Q P r → ((x : A) → Q x → IfResult R P (next x)) → IfResult R P (r >>= next)
result-next Q R P (Ok x) next first rest = rest x first
result-next Q R P (Err e) next first rest = first

-- a step that gives this value, where something holds
abbrev pub Steps : {A : Type 0} → A → Type 0 → (DecodeError → Type 0) → Result A DecodeError → Type 0
Steps {A} y there P r = IfResult (λ (x : A). (x ≡ y) × there) P r

pub next-steps : {A B : Type 0} (y : A) (there : Type 0) (R : B → Type 0) (P : DecodeError → Type 0) (r : Result A DecodeError) (next : A → Result B DecodeError)
    → Steps y there P r → (there → IfResult R P (next y)) → IfResult R P (r >>= next)
next-steps {A} y there R P r next first rest =
    result-next (λ (x : A). (x ≡ y) × there) R P r next first (λ x is. subst (λ (z : A). IfResult R P (next z)) (sym is.0) (rest is.1))

pub next-refusal : {B : Type 0} (R : B → Type 0) (P : DecodeError → Type 0) (b : Bool) (e : DecodeError) (next : Unit {0} → Result B DecodeError)
    → (b ≡ true → P e) → (b ≡ false → IfResult R P (next tt)) → IfResult R P (refuse_if b e >>= next)
next-refusal R P true e next why rest = why refl
next-refusal R P false e next why rest = rest refl

pub next-bytes : {B : Type 0} (R : B → Type 0) (P : DecodeError → Type 0) (n : ℕ) (bytes : List ℕ) (k : ℕ) (next : List ℕ × List ℕ → Result B DecodeError)
    → k ≤ length bytes → (length bytes < k + n → P end_of_bytes) → (k + n ≤ length bytes → IfResult R P (next (take n (drop k bytes), drop (k + n) bytes)))
    → IfResult R P (bytes_at n (drop k bytes) >>= next)
next-bytes {B} R P n bytes k next within short there =
    let rest : List ℕ = drop k bytes in
    let left : length rest ≡ length bytes - k = length-drop k bytes in
    let Q : Result (List ℕ × List ℕ) DecodeError → Type 0 = λ r. IfResult R P (r >>= next) in
    cond_both (ltb (length rest) n) (Err end_of_bytes) (Ok (take n rest, drop n rest)) Q
    (λ cut. short (omega (arith, left, ltb-true (length rest) n cut, within)))
    (λ whole. subst (λ (ys : List ℕ). IfResult R P (next (take n rest, ys))) (sym (drop-drop n k bytes)) (there (omega (arith, left, ltb-false (length rest) n whole, within))))

pub next-number : {B : Type 0} (R : B → Type 0) (P : DecodeError → Type 0) (w : Width) (bytes : List ℕ) (k : ℕ) (next : ℕ × List ℕ → Result B DecodeError)
    → k ≤ length bytes → (length bytes < k + byte_len w → P end_of_bytes) → (k + byte_len w ≤ length bytes → IfResult R P (next (number_in w k bytes, drop (k + byte_len w) bytes)))
    → IfResult R P (number_at w (drop k bytes) >>= next)
next-number {B} R P w bytes k next within short there =
    let n : ℕ = byte_len w in
    let rest : List ℕ = drop k bytes in
    let left : length rest ≡ length bytes - k = length-drop k bytes in
    let Q : Result (ℕ × List ℕ) DecodeError → Type 0 = λ r. IfResult R P (r >>= next) in
    cond_both (ltb (length rest) n) (Err end_of_bytes) (Ok (from_be_bytes w (take n rest), drop n rest)) Q
    (λ cut. short (omega (arith, left, ltb-true (length rest) n cut, within)))
    (λ whole. subst (λ (ys : List ℕ). IfResult R P (next (number_in w k bytes, ys))) (sym (drop-drop n k bytes)) (there (omega (arith, left, ltb-false (length rest) n whole, within))))

pub result-map : {A : Type 0} (Q R : A → Type 0) (P : DecodeError → Type 0) (r : Result A DecodeError) → ((x : A) → Q x → R x) → IfResult Q P r → IfResult R P r
result-map Q R P (Ok x) onward given = onward x given
result-map Q R P (Err e) onward given = given

pub last-number : (R : ℕ × List ℕ → Type 0) (P : DecodeError → Type 0) (w : Width) (bytes : List ℕ) (k : ℕ) → k ≤ length bytes → (length bytes < k + byte_len w → P end_of_bytes)
    → (k + byte_len w ≤ length bytes → R (number_in w k bytes, drop (k + byte_len w) bytes)) → IfResult R P (number_at w (drop k bytes))
last-number R P w bytes k within short there =
    let n : ℕ = byte_len w in
    let rest : List ℕ = drop k bytes in
    let left : length rest ≡ length bytes - k = length-drop k bytes in
    let Q : Result (ℕ × List ℕ) DecodeError → Type 0 = λ r. IfResult R P r in
    cond_both (ltb (length rest) n) (Err end_of_bytes) (Ok (from_be_bytes w (take n rest), drop n rest)) Q
    (λ cut. short (omega (arith, left, ltb-true (length rest) n cut, within)))
    (λ whole. subst (λ (ys : List ℕ). R (number_in w k bytes, ys)) (sym (drop-drop n k bytes)) (there (omega (arith, left, ltb-false (length rest) n whole, within))))
