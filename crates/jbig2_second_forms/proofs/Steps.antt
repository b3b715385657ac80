-- Steps of definitions that follow each other.
use Rattle.std.proofs.Common.{◌≡◌, Result, Ok, Err, refl}
use Rattle.jbig2_base.specs.Results.{◌>>=◌}

-- the next step's next step
pub next-next : {A B C E : Type 0} (r : Result A E) (f : A → Result B E) (g : B → Result C E) → ((r >>= f) >>= g) ≡ (r >>= λ x. f x >>= g)
next-next (Ok x) f g = refl
next-next (Err e) f g = refl

pub same-next : {A B E : Type 0} (r : Result A E) (f g : A → Result B E) → ((x : A) → f x ≡ g x) → (r >>= f) ≡ (r >>= g)
same-next (Ok x) f g same = same x
same-next (Err e) f g same = refl
