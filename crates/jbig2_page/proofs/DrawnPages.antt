-- Drawings, and what calls make of them.
use Rattle.std.proofs.Common.{◌≡◌, ℕ, List, Result, Ok, Err, ◌⊎◌, inl, inr, refl, sym, subst, ap, ◌∙◌}
use Rattle.std.specs.Prelude.{IfOk}
use Rattle.jbig2_base.specs.Results.{Gives, Leaves, ◌>>=◌}
use Rattle.jbig2_base.specs.Grid.{Grid}
use Rattle.jbig2_base.specs.declared.error.DecodeError.{DecodeError}
use Rattle.jbig2_base.specs.declared.error.DecodeError.TheVariants.{OutOfMemory}
use Rattle.jbig2_page.specs.Calls.{Conduct, Decodes, Sends, calls_of}
use Rattle.jbig2_page.specs.Image.{packed_of, packed_of_page}
use Rattle.jbig2_page.specs.Page.{Drawing, ReadPage, drawing_of_page, grid_of_page}
use Rattle.jbig2_page.proofs.Untouched.{pages_keep_their_size}

pub grid-is : (page : ReadPage) (d : Drawing) → drawing_of_page page ≡ Ok d → grid_of_page page ≡ Ok d.grid
unfolding grid_of_page
grid-is page d is = ap (λ (r : Result Drawing DecodeError). r >>= λ e. let g : Result Grid DecodeError = Ok e.grid in g) is

pub grid-refused : (page : ReadPage) (e : DecodeError) → (e ≡ OutOfMemory) ⊎ (drawing_of_page page ≡ Err e) → (e ≡ OutOfMemory) ⊎ (grid_of_page page ≡ Err e)
unfolding grid_of_page
grid-refused page e (inl memory) = inl memory
grid-refused page e (inr failed) = inr (ap (λ (r : Result Drawing DecodeError). r >>= λ f. let g : Result Grid DecodeError = Ok f.grid in g) failed)

pub gives-grid : (page : ReadPage) (result : Result (Unit {0}) DecodeError) (d : Drawing) → Gives (λ _. d) result (drawing_of_page page) → Gives (λ _. d.grid) result (grid_of_page page)
gives-grid page (Ok u) d is = grid-is page d is
gives-grid page (Err e) d is = grid-refused page e is

-- the packed rows of what was drawn, which has the page's size
pub packed-drawn : (page : ReadPage) (g : Grid) → grid_of_page page ≡ Ok g → packed_of_page page ≡ Ok (packed_of g.width g.height g)
packed-drawn page g is =
    let P : Result Grid DecodeError → Type 0 = λ r. IfOk r (λ q. (q.width ≡ page.initial_page.width) × (q.height ≡ page.initial_page.height)) in
    let size : (g.width ≡ page.initial_page.width) × (g.height ≡ page.initial_page.height) = subst P is (pages_keep_their_size page) in
    let rows : ℕ → ℕ → Result (List ℕ) DecodeError = λ w h. Ok (packed_of w h g) in
    ap (λ (r : Result Grid DecodeError). r >>= λ q. let made : Result (List ℕ) DecodeError = Ok (packed_of page.initial_page.width page.initial_page.height q) in made) is
    ∙ ap (λ (w : ℕ). rows w page.initial_page.height) (sym size.0) ∙ ap (λ (h : ℕ). rows g.width h) (sym size.1)

pub packed-refused : (page : ReadPage) (e : DecodeError) → (e ≡ OutOfMemory) ⊎ (grid_of_page page ≡ Err e) → (e ≡ OutOfMemory) ⊎ (packed_of_page page ≡ Err e)
packed-refused page e (inl memory) = inl memory
packed-refused page e (inr failed) = inr (ap (λ (r : Result Grid DecodeError). r >>= λ q. let made : Result (List ℕ) DecodeError = Ok (packed_of page.initial_page.width page.initial_page.height q) in made) failed)

-- what the context is left with
pub left-drawn : (meant : Result Drawing DecodeError) (d : Drawing) (result : Result (Unit {0}) DecodeError) → meant ≡ Ok d → IfOk meant (Leaves result d)
left-drawn meant d result is = subst (λ (r : Result Drawing DecodeError). IfOk r (Leaves result d)) (sym is) (by result)
  where
    by : (r : Result (Unit {0}) DecodeError) → Leaves r d d
    by (Ok u) = refl
    by (Err e) = inr refl

pub left-refused : (meant : Result Drawing DecodeError) (d : Drawing) (e : DecodeError) → (e ≡ OutOfMemory) ⊎ (meant ≡ Err e) → IfOk meant (Leaves {X = Unit {0}} (Err e) d)
left-refused (Ok x) d e (inl memory) = inl memory
left-refused (Err f) d e (inl memory) = tt
left-refused meant d e (inr failed) = subst (λ (r : Result Drawing DecodeError). IfOk r (Leaves {X = Unit {0}} (Err e) d)) (sym failed) tt

-- the calls that a drawing's grid has
pub sent : {S : Type 0} (c : Conduct S) (page : ReadPage) (d : Drawing) (b : Grid) (result : Result (Unit {0}) DecodeError) (old new : S) → drawing_of_page page ≡ Ok d → b ≡ d.grid → Sends c (calls_of b) result old new → Decodes c (grid_of_page page) result old new
sent c page d b result old new is same sends = subst (λ (r : Result Grid DecodeError). Decodes c r result old new) (sym (grid-is page d is ∙ ap (λ (g : Grid). let r : Result Grid DecodeError = Ok g in r) (sym same))) (by result sends)
  where
    by : (r : Result (Unit {0}) DecodeError) → Sends c (calls_of b) r old new → Decodes c (Ok b) r old new
    by (Ok u) made = made
    by (Err e) stopped = inl stopped

pub unsent : {S : Type 0} (c : Conduct S) (page : ReadPage) (e : DecodeError) (old : S) → (e ≡ OutOfMemory) ⊎ (drawing_of_page page ≡ Err e) → Decodes c (grid_of_page page) (Err e) old old
unsent c page e old refused = by (grid_of_page page) (grid-refused page e refused)
  where
    by : (r : Result Grid DecodeError) → (e ≡ OutOfMemory) ⊎ (r ≡ Err e) → Decodes c r (Err e) old old
    by (Ok g) (inl memory) = inr (memory, (refl, refl))
    by (Ok g) (inr failed) = absurd (let made : Result Grid DecodeError = Ok g in let never : made ≡ Err e = failed in cc)
    by (Err f) (inl memory) = (inr memory, (refl, refl))
    by (Err f) (inr failed) = (inl (sym (let both : (let a : Result Grid DecodeError = Err f in a) ≡ Err e = failed in let same : f ≡ e = cc in same)), (refl, refl))
