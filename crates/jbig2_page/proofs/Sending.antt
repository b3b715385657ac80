-- Calls that were made, and those that are still to be made.
use Rattle.std.proofs.Common.{◌≡◌, ℕ, ◌+◌, List, [], ◌∷◌, ◌++◌, refl, sym, subst, ◌∙◌, ap}
use Rattle.std.proofs.lemmas.List.{append_assoc, append-nil}
use Rattle.jbig2_base.specs.declared.error.DecodeError.{DecodeError}
use Rattle.jbig2_page.specs.Calls.{Call, Conduct, Makes, IsStopped, after_calls}

after_calls-append : {P : Type 0} (step : P → Call → P) (p : P) (cs ds : List Call) → after_calls step p (cs ++ ds) ≡ after_calls step (after_calls step p cs) ds
after_calls-append step p [] ds = refl
after_calls-append step p (c ∷ cs) ds = after_calls-append step (step p c) cs ds

-- Some of all calls were made, and the rest is still to be made.
pub record Half {S : Type 0} (d : Conduct S) (all rest : List Call) (old new : S) : Type 0 where
  pub made : List Call
  pub split : all ≡ made ++ rest
  pub picture : d.picture new ≡ after_calls d.step (d.picture old) made
  pub counted : d.refusals new ≡ d.refusals old

pub half_none : {S : Type 0} (d : Conduct S) (all : List Call) (old : S) → Half d all all old old
half_none d all old = record { made = []; split = refl; picture = refl; counted = refl }

-- the rest, written in another way
pub half_as : {S : Type 0} (d : Conduct S) (all rest others : List Call) (old new : S) → rest ≡ others → Half d all rest old new → Half d all others old new
half_as d all rest others old new e h = record { made = h.made; split = h.split ∙ ap (λ (cs : List Call). h.made ++ cs) e; picture = h.picture; counted = h.counted }

-- these calls were made too
pub goes_on : {S : Type 0} (d : Conduct S) {all rest others : List Call} {old mid new : S} (cs : List Call)
    → rest ≡ cs ++ others → Half d all rest old mid → Makes d cs mid new → Half d all others old new
goes_on {S} d {all} {rest} {others} {old} {mid} {new} cs is h sent = record {
  made = h.made ++ cs;
  split = h.split ∙ ap (λ (ds : List Call). h.made ++ ds) is ∙ sym (append_assoc h.made cs others);
  picture = sent.0 ∙ ap (λ (x : d.Picture). after_calls d.step x cs) h.picture ∙ sym (after_calls-append d.step (d.picture old) h.made cs);
  counted = sent.1 ∙ h.counted;
}

pub half_done : {S : Type 0} (d : Conduct S) (all : List Call) (old new : S) → Half d all [] old new → Makes d all old new
half_done d all old new h = (h.picture ∙ ap (λ (cs : List Call). after_calls d.step (d.picture old) cs) (sym (append-nil h.made) ∙ sym h.split), h.counted)

-- one of these calls was refused
pub stops_at : {S : Type 0} (d : Conduct S) {all rest cs : List Call} {e : DecodeError} {old mid new : S} (others : List Call)
    → rest ≡ cs ++ others → Half d all rest old mid → IsStopped d cs e mid new → IsStopped d all e old new
stops_at {S} d {all} {rest} {cs} {e} {old} {mid} {new} others is h stopped = record {
  made = h.made ++ stopped.made;
  refused = stopped.refused;
  others = stopped.others ++ others;
  split =
      h.split
      ∙ ap (λ (ds : List Call). h.made ++ ds) is
      ∙ ap (λ (ds : List Call). h.made ++ (ds ++ others)) stopped.split
      ∙ ap (λ (ds : List Call). h.made ++ ds) (append_assoc stopped.made (stopped.refused ∷ stopped.others) others)
      ∙ sym (append_assoc h.made stopped.made (stopped.refused ∷ (stopped.others ++ others)));
  picture = stopped.picture ∙ ap (λ (x : d.Picture). after_calls d.step x stopped.made) h.picture ∙ sym (after_calls-append d.step (d.picture old) h.made stopped.made);
  counted = stopped.counted ∙ ap (λ (x : ℕ). x + 1) h.counted;
  own = stopped.own;
}

-- one call, refused
pub one_stops : {S : Type 0} (d : Conduct S) (call : Call) (e : DecodeError) (old new : S)
    → (d.picture new ≡ d.picture old) × (d.refusals new ≡ d.refusals old + 1) × d.refuses (d.picture old) call e → IsStopped d (call ∷ []) e old new
one_stops d call e old new refused =
    let P : d.Picture → Type 0 = λ p. d.refuses p call e in
    record { made = []; refused = call; others = []; split = refl; picture = refused.0; counted = refused.1; own = subst P (sym refused.0) refused.2 }
