-- Where strict reading accepts, lenient reading gives the same: how definitions are put together.
use Rattle.std.proofs.Common.{◌≡◌, Bool, true, false, cond, Option, Some, None, Result, Ok, Err, refl, sym, subst}
use Rattle.std.specs.Prelude.{IfOk}
use Rattle.jbig2_base.specs.Results.{◌>>=◌, refuse_if}
use Rattle.jbig2_base.specs.declared.error.DecodeError.{DecodeError}

-- What strict reading gives, seen by view, lenient reading gives.
abbrev pub Agrees : {A B : Type 0} → (A → B) → Result A DecodeError → Result B DecodeError → Type 0
Agrees view strict lenient = IfOk strict (λ x. lenient ≡ Ok (view x))

abbrev pub Same : {A : Type 0} → Result A DecodeError → Result A DecodeError → Type 0
Same {A = A} strict lenient = IfOk strict (λ (x : A). lenient ≡ Ok x)

pub same-itself : {A : Type 0} (r : Result A DecodeError) → Same r r
same-itself (Ok x) = refl
same-itself (Err e) = tt

-- a step that is the same in both modes
pub agrees-then : {A B C : Type 0} (view : B → C) (r : Result A DecodeError) (next : A → Result B DecodeError) (other : A → Result C DecodeError) → ((x : A) → Agrees view (next x) (other x)) → Agrees view (r >>= next) (r >>= other)
agrees-then view (Ok x) next other each = each x
agrees-then view (Err e) next other each = tt

-- a step that agrees
pub agrees-next : {A A' B B' : Type 0} (view : A → A') (last : B → B') (r : Result A DecodeError) (s : Result A' DecodeError) (next : A → Result B DecodeError) (other : A' → Result B' DecodeError) → Agrees view r s → ((x : A) → Agrees last (next x) (other (view x))) → Agrees last (r >>= next) (s >>= other)
agrees-next view last (Ok x) s next other first each = subst (λ a. Agrees last (next x) (a >>= other)) (sym first) (each x)
agrees-next view last (Err e) s next other first each = tt

pub same-next : {A B : Type 0} (r s : Result A DecodeError) (next other : A → Result B DecodeError) → Same r s → ((x : A) → Same (next x) (other x)) → Same (r >>= next) (s >>= other)
same-next r s next other first each = agrees-next (λ x. x) (λ x. x) r s next other first each

pub same-then : {A B : Type 0} (r : Result A DecodeError) (next other : A → Result B DecodeError) → ((x : A) → Same (next x) (other x)) → Same (r >>= next) (r >>= other)
same-then r next other each = agrees-then (λ x. x) r next other each

pub same-if : {A : Type 0} (b : Bool) (r s r' s' : Result A DecodeError) → Same r s → Same r' s' → Same (cond b r r') (cond b s s')
same-if true r s r' s' at_true at_false = at_true
same-if false r s r' s' at_true at_false = at_false

-- a refusal of strict reading alone
pub same-refusal : (b : Bool) (e : DecodeError) → Same (refuse_if b e) (Ok tt)
same-refusal true e = tt
same-refusal false e = refl

pub same-unless : {A : Type 0} (b : Bool) (e : DecodeError) (r : Result A DecodeError) → Same (cond b (Err e) r) r
same-unless true e r = tt
same-unless false e r = same-itself r

-- what was read before that is the same, though it may be an error
pub same-of : {A : Type 0} (r s : Result A DecodeError) → r ≡ s → Same r s
same-of {A = A} r s is = subst (λ (t : Result A DecodeError). Same r t) is (same-itself r)

pub same-option : {A X : Type 0} (o : Option X) (none : Result A DecodeError) (one other : X → Result A DecodeError) → ((x : X) → Same (one x) (other x)) → Same (elim o [ None ↦ none | Some x ↦ one x ]) (elim o [ None ↦ none | Some x ↦ other x ])
same-option None none one other each = same-itself none
same-option (Some x) none one other each = each x

-- refused by strict reading alone, and else what agrees
pub same-guard : {A : Type 0} (b : Bool) (e : DecodeError) (r s : Result A DecodeError) → Same r s → Same (cond b (Err e) r) s
same-guard true e r s same = tt
same-guard false e r s same = same

-- Relation R is between what strict reading gives and what lenient reading gives.
abbrev pub Relates : {A B : Type 0} → (A → B → Type 0) → Result A DecodeError → Result B DecodeError → Type 0
Relates {A = A} {B = B} R strict lenient = IfOk strict (λ (x : A). (y : B) × (lenient ≡ Ok y) × R x y)

pub relates-next : {A B C : Type 0} (R : B → C → Type 0) (r s : Result A DecodeError) (next : A → Result B DecodeError) (other : A → Result C DecodeError) → Same r s → ((x : A) → Relates R (next x) (other x)) → Relates R (r >>= next) (s >>= other)
relates-next R (Ok x) s next other first each = subst (λ a. Relates R (next x) (a >>= other)) (sym first) (each x)
relates-next R (Err e) s next other first each = tt

pub relates-last : {A B C : Type 0} (R : A → B → Type 0) (r : Result A DecodeError) (s : Result B DecodeError) (next : A → Result C DecodeError) (other : B → Result C DecodeError) → Relates R r s → ((x : A) (y : B) → R x y → Same (next x) (other y)) → Same (r >>= next) (s >>= other)
relates-last R (Ok x) s next other first each = subst (λ a. Same (next x) (a >>= other)) (sym first.1) (each x first.0 first.2)
relates-last R (Err e) s next other first each = tt
