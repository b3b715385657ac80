-- The steps of reading the instances of a text region.
use Rattle.std.proofs.Common.{◌≡◌, ℕ, suc, ◌+◌, ◌-◌, ◌*◌, ◌<◌, ◌≤◌, Bool, false, ℤ, pos, Result, Ok, Err, refl, sym, ◌∙◌, ap, arith, inl, inr, ◌⊎◌}
use Rattle.std.specs.Prelude.{nat_lt, ◌-ℤ◌}
use Rattle.jbig2_base.specs.Results.{◌>>=◌, refuse_if}
use Rattle.jbig2_base.specs.Grid.{Grid}
use Rattle.jbig2_base.specs.declared.error.DecodeError.{DecodeError}
use Rattle.jbig2_base.specs.declared.error.DecodeError.TheVariants.{OutOfMemory, Symbol}
use Rattle.jbig2_base.specs.declared.error.SymbolError.TheVariants.{TooManyInstances}
use Rattle.jbig2_text.specs.Refining.{Refining}
use Rattle.jbig2_text.specs.Text.{Readings, TextState, TextParams, after_instances, coordinate, next_cursor, strip_start, strip_delta, text_region, with_instance}
use Rattle.jbig2_text.specs.inner.FunctionResults.{reaching, some_strips, strips, with_last, with_next_instance}
use Rattle.jbig2_text.specs.declared.cursor.Cursor.{Cursor}

-- the next step's next step
next-next : {A B C : Type 0} (r : Result A DecodeError) (f : A → Result B DecodeError) (g : B → Result C DecodeError) → (r >>= λ x. f x >>= g) ≡ (r >>= f >>= g)
next-next (Ok x) f g = refl
next-next (Err e) f g = refl

ap-next : {A B : Type 0} (r : Result A DecodeError) {f g : A → Result B DecodeError} → ((x : A) → f x ≡ g x) → (r >>= f) ≡ (r >>= g)
ap-next (Ok x) same = same x
ap-next (Err e) same = refl

inner-step : {S : Type 0} (r : Readings S) (p : TextParams) (n : ℕ) (x : TextState S) → after_instances r p (suc n) x ≡ (with_next_instance r p x >>= λ y. after_instances r p n y)
unfolding after_instances
inner-step {S} r p n x =
    ap-next (with_instance r p x) (λ y. next-next (next_cursor r p.flags y.cursor y.state) (λ c. Ok (reaching y.region c.0 y.refining c.1)) (λ z. after_instances r p n z))
    ∙ next-next (with_instance r p x) (λ y. next_cursor r p.flags y.cursor y.state >>= λ c. Ok (reaching y.region c.0 y.refining c.1)) (λ z. after_instances r p n z)

pub inner-next : {S : Type 0} (r : Readings S) (p : TextParams) (n k : ℕ) (x y : TextState S) (whole : Result (TextState S) DecodeError) → k < n → after_instances r p (n - k) x ≡ whole → with_next_instance r p x ≡ Ok y → after_instances r p (n - (k + 1)) y ≡ whole
inner-next {S} r p n k x y whole below goes read =
    let e : n - k ≡ suc (n - (k + 1)) = omega arith in
    sym (ap (λ (z : Result (TextState S) DecodeError). z >>= λ y. after_instances r p (n - (k + 1)) y) read) ∙ sym (inner-step r p (n - (k + 1)) x) ∙ ap (λ m. after_instances r p m x) (sym e) ∙ goes

pub inner-fault : {S : Type 0} (r : Readings S) (p : TextParams) (n k : ℕ) (x : TextState S) (e : DecodeError) (whole : Result (TextState S) DecodeError) → k < n → after_instances r p (n - k) x ≡ whole → (e ≡ OutOfMemory) ⊎ (with_next_instance r p x ≡ Err e) → (e ≡ OutOfMemory) ⊎ (whole ≡ Err e)
inner-fault {S} r p n k x e whole below goes (inl memory) = inl memory
inner-fault {S} r p n k x e whole below goes (inr read) =
    let f : n - k ≡ suc (n - (k + 1)) = omega arith in
    inr (sym goes ∙ ap (λ m. after_instances r p m x) f ∙ inner-step r p (n - (k + 1)) x ∙ ap (λ (z : Result (TextState S) DecodeError). z >>= λ y. after_instances r p (n - (k + 1)) y) read)

pub inner-done : {S : Type 0} (r : Readings S) (p : TextParams) (n k : ℕ) (x : TextState S) (whole : Result (TextState S) DecodeError) → n ≤ k → after_instances r p (n - k) x ≡ whole → whole ≡ Ok x
unfolding after_instances
inner-done r p n k x whole done goes =
    let e : n - k ≡ 0 = omega arith in
    sym goes ∙ ap (λ m. after_instances r p m x) e

-- the strips, where the first one begins here
pub opening-is : {S : Type 0} (r : Readings S) (p : TextParams) (region : Grid) (t : ℤ) (f : Refining) (s next : S) (c : Cursor) → strip_start r p.flags t (pos 0) s ≡ Ok (c, next) → some_strips r p region t f s ≡ (after_instances r p (p.count - 1) (reaching region c f next) >>= λ x. with_last r p x)
opening-is {S} r p region t f s next c opening =
    ap (λ (z : Result (Cursor × S) DecodeError). z >>= λ y. after_instances r p (p.count - 1) (reaching region y.0 f y.1) >>= λ x. with_last r p x) opening

-- the strips that there are, and where they begin
pub region-strips : {S : Type 0} (r : Readings S) (p : TextParams) (region : Grid) (f : Refining) (s next : S) (delta stript : ℤ) → nat_lt (32 * p.data_length) p.count ≡ false → strip_delta r p.flags s ≡ Ok (delta, next) → coordinate (pos 0 -ℤ delta) ≡ Ok stript → text_region r p region f s ≡ strips r p region stript f next
unfolding text_region
region-strips {S} r p region f s next delta stript few opening start =
    ap (λ (b : Bool). refuse_if b (Symbol TooManyInstances) >>= λ few. strip_delta r p.flags s >>= λ dt. coordinate (pos 0 -ℤ dt.0) >>= λ t. strips r p region t f dt.1) few
    ∙ ap (λ (z : Result (ℤ × S) DecodeError). z >>= λ dt. coordinate (pos 0 -ℤ dt.0) >>= λ t. strips r p region t f dt.1) opening
    ∙ ap (λ (z : Result ℤ DecodeError). z >>= λ t. strips r p region t f next) start
