-- Counting the whole instances of a text region, one after the other.
use Rattle.std.specs.Prelude.{min, if◌then◌else◌}
use Rattle.std.proofs.Common.{◌≡◌, ℕ, suc, ◌+◌, ◌-◌, ◌*◌, ◌<◌, ◌≤◌, Bool, true, false, Result, Ok, Err, refl, sym, ◌∙◌, ap, arith, inl, inr, ◌⊎◌}
use Rattle.jbig2_base.specs.Results.{Gives}
use Rattle.jbig2_base.specs.Grid.{Grid}
use Rattle.jbig2_base.specs.declared.error.DecodeError.{DecodeError}
use Rattle.jbig2_base.specs.declared.error.DecodeError.TheVariants.{OutOfMemory}
use Rattle.jbig2_text.specs.declared.cursor.Cursor.{Cursor}
use Rattle.jbig2_text.specs.Refining.{Refining}
use Rattle.jbig2_text.specs.Text.{Readings, TextState, TextParams, next_cursor, with_instance}
use Rattle.jbig2_text.specs.WholeInstances.{counted_after, first_cursor, whole_by, whole_from}
use Rattle.jbig2_text.specs.inner.FunctionResults.{CountsAt, reaching}

-- the count at an error is what was meant
pub count-ends : (result : Result ℕ DecodeError) (e : DecodeError) (n whole : ℕ) → CountsAt e n result → (e ≡ OutOfMemory) ⊎ (whole ≡ n) → Gives (λ k. k) result (Ok whole)
count-ends (Ok k) e n whole (same, other) (inl memory) = absurd (other memory)
count-ends (Ok k) e n whole (same, other) (inr is) = ap (λ (m : ℕ). Ok m) (is ∙ sym same)
count-ends (Err f) e n whole memory is = inl memory

-- ---- one instance
abbrev after_instance : {S : Type 0} → Readings S → TextParams → ℕ → TextState S → Result (Cursor × S) DecodeError → ℕ
after_instance r p n y next = suc (counted_after next (λ c. whole_from r p n (reaching y.region c.0 y.refining c.1)))

abbrev from_instance : {S : Type 0} → Readings S → TextParams → ℕ → TextState S → Bool → ℕ
from_instance r p n y within = if within then after_instance r p n y (next_cursor r p.flags y.cursor y.state) else 0

whole-step : {S : Type 0} (r : Readings S) (p : TextParams) (n : ℕ) (x : TextState S) → whole_from r p (suc n) x ≡ counted_after (with_instance r p x) (λ y. from_instance r p n y (r.is_within y.state))
unfolding whole_from
whole-step {S} r p n x = refl

refused : {S : Type 0} (r : Readings S) (p : TextParams) (n : ℕ) (x : TextState S) (e : DecodeError) → with_instance r p x ≡ Err e → whole_from r p (suc n) x ≡ 0
refused {S} r p n x e fault =
    whole-step r p n x ∙ ap (λ (z : Result (TextState S) DecodeError). counted_after z (λ y. from_instance r p n y (r.is_within y.state))) fault

drawn : {S : Type 0} (r : Readings S) (p : TextParams) (n : ℕ) (x y : TextState S) (within : Bool) → with_instance r p x ≡ Ok y → r.is_within y.state ≡ within → whole_from r p (suc n) x ≡ from_instance r p n y within
drawn {S} r p n x y within read is =
    whole-step r p n x
    ∙ ap (λ (z : Result (TextState S) DecodeError). counted_after z (λ y. from_instance r p n y (r.is_within y.state))) read
    ∙ ap (λ (b : Bool). from_instance r p n y b) is

followed : {S : Type 0} (r : Readings S) (p : TextParams) (n : ℕ) (x y : TextState S) (next : Result (Cursor × S) DecodeError) → with_instance r p x ≡ Ok y → r.is_within y.state ≡ true → next_cursor r p.flags y.cursor y.state ≡ next → whole_from r p (suc n) x ≡ after_instance r p n y next
followed {S} r p n x y next read is moved =
    drawn r p n x y true read is ∙ ap (λ (z : Result (Cursor × S) DecodeError). after_instance r p n y z) moved

-- ---- the instances so far: k of n are whole, and x is the state after them
one-more : {S : Type 0} (r : Readings S) (p : TextParams) (n k : ℕ) (x : TextState S) → k < n → whole_from r p (n - k) x ≡ whole_from r p (suc (n - (k + 1))) x
one-more r p n k x below =
    let e : n - k ≡ suc (n - (k + 1)) = omega (arith, below) in
    ap (λ (m : ℕ). whole_from r p m x) e

pub whole-fault : {S : Type 0} (r : Readings S) (p : TextParams) (n k whole : ℕ) (x : TextState S) (e : DecodeError) → k < n → whole ≡ k + whole_from r p (n - k) x → (e ≡ OutOfMemory) ⊎ (with_instance r p x ≡ Err e) → (e ≡ OutOfMemory) ⊎ (whole ≡ k)
whole-fault {S} r p n k whole x e below so_far (inl memory) = inl memory
whole-fault {S} r p n k whole x e below so_far (inr fault) =
    let none = one-more r p n k x below ∙ refused r p (n - (k + 1)) x e fault in
    inr (omega (arith, so_far, none))

pub whole-beyond : {S : Type 0} (r : Readings S) (p : TextParams) (n k whole : ℕ) (x y : TextState S) → k < n → whole ≡ k + whole_from r p (n - k) x → with_instance r p x ≡ Ok y → r.is_within y.state ≡ false → whole ≡ k
whole-beyond {S} r p n k whole x y below so_far read beyond =
    let none = one-more r p n k x below ∙ drawn r p (n - (k + 1)) x y false read beyond in
    omega (arith, so_far, none)

pub whole-last : {S : Type 0} (r : Readings S) (p : TextParams) (n k whole : ℕ) (x y : TextState S) (e : DecodeError) → k < n → whole ≡ k + whole_from r p (n - k) x → with_instance r p x ≡ Ok y → r.is_within y.state ≡ true → next_cursor r p.flags y.cursor y.state ≡ Err e → whole ≡ k + 1
whole-last {S} r p n k whole x y e below so_far read within fault =
    let one = one-more r p n k x below ∙ followed r p (n - (k + 1)) x y (Err e) read within fault in
    omega (arith, so_far, one)

pub whole-next : {S : Type 0} (r : Readings S) (p : TextParams) (n k whole : ℕ) (x y : TextState S) (c : Cursor) (s : S) → k < n → whole ≡ k + whole_from r p (n - k) x → with_instance r p x ≡ Ok y → r.is_within y.state ≡ true → next_cursor r p.flags y.cursor y.state ≡ Ok (c, s) → whole ≡ k + 1 + whole_from r p (n - (k + 1)) (reaching y.region c y.refining s)
whole-next {S} r p n k whole x y c s below so_far read within moved =
    let more = one-more r p n k x below ∙ followed r p (n - (k + 1)) x y (Ok (c, s)) read within moved in
    omega (arith, so_far, more)

pub whole-done : {S : Type 0} (r : Readings S) (p : TextParams) (n k whole : ℕ) (x : TextState S) → n ≤ k → k ≤ n → whole ≡ k + whole_from r p (n - k) x → whole ≡ n
unfolding whole_from
whole-done r p n k whole x done few so_far =
    let e : n - k ≡ 0 = omega (arith, done) in
    let none : whole_from r p (n - k) x ≡ 0 = ap (λ (m : ℕ). whole_from r p m x) e in
    omega (arith, so_far, none, done, few)

-- ---- a region
whole-by-step : {S : Type 0} (r : Readings S) (p : TextParams) (region : Grid) (f : Refining) (s : S) → whole_by r p region f s ≡ counted_after (first_cursor r p.flags s) (λ c. whole_from r p (min p.count (32 * p.data_length)) (reaching region c.0 f c.1))
unfolding whole_by
whole-by-step {S} r p region f s = refl

none-after : {X : Type 0} (first : Result X DecodeError) (count : X → ℕ) → ((x : X) → count x ≡ 0) → counted_after first count ≡ 0
none-after (Ok x) count none = none x
none-after (Err e) count none = refl

from-none : {S : Type 0} (r : Readings S) (p : TextParams) (x : TextState S) → whole_from r p 0 x ≡ 0
unfolding whole_from
from-none r p x = refl

pub whole-of-none : {S : Type 0} (r : Readings S) (p : TextParams) (most : ℕ) (region : Grid) (f : Refining) (s : S) → most ≡ min p.count (32 * p.data_length) → most ≡ 0 → whole_by r p region f s ≡ 0
whole-of-none {S} r p most region f s is none =
    let same : min p.count (32 * p.data_length) ≡ 0 = sym is ∙ none in
    whole-by-step r p region f s
    ∙ none-after (first_cursor r p.flags s) (λ c. whole_from r p (min p.count (32 * p.data_length)) (reaching region c.0 f c.1))
    (λ c. ap (λ (m : ℕ). whole_from r p m (reaching region c.0 f c.1)) same ∙ from-none r p (reaching region c.0 f c.1))

pub whole-at-fault : {S : Type 0} (r : Readings S) (p : TextParams) (region : Grid) (f : Refining) (s : S) (e : DecodeError) → first_cursor r p.flags s ≡ Err e → whole_by r p region f s ≡ 0
whole-at-fault {S} r p region f s e fault =
    whole-by-step r p region f s
    ∙ ap (λ (z : Result (Cursor × S) DecodeError). counted_after z (λ c. whole_from r p (min p.count (32 * p.data_length)) (reaching region c.0 f c.1))) fault

pub whole-of-some : {S : Type 0} (r : Readings S) (p : TextParams) (most : ℕ) (region : Grid) (f : Refining) (s after : S) (c : Cursor) → most ≡ min p.count (32 * p.data_length) → first_cursor r p.flags s ≡ Ok (c, after) → whole_from r p most (reaching region c f after) ≡ whole_by r p region f s
whole-of-some {S} r p most region f s after c is first =
    ap (λ (m : ℕ). whole_from r p m (reaching region c f after)) is
    ∙ sym (whole-by-step r p region f s ∙ ap (λ (z : Result (Cursor × S) DecodeError). counted_after z (λ c. whole_from r p (min p.count (32 * p.data_length)) (reaching region c.0 f c.1))) first)
