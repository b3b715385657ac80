-- What a context holds after a call that draws, and what it lends.
use Rattle.std.proofs.Common.{◌≡◌, ℕ, List, [], Option, Result, Ok, Err, refl, sym, ap}
use Rattle.std.specs.Prelude.{IfOk, if◌then◌else◌}
use Rattle.std.specs.Result.{is_ok}
use Rattle.jbig2_base.specs.Grid.{Grid}
use Rattle.jbig2_base.specs.Results.{Leaves, ◌>>=◌}
use Rattle.jbig2_base.specs.declared.error.DecodeError.{DecodeError}
use Rattle.jbig2_page.specs.Calls.{Conduct, Decodes}
use Rattle.jbig2_page.specs.Image.{packed_of, packed_part}
use Rattle.jbig2_page.specs.Page.{Drawing, ReadPage, drawing_of_page, empty_drawing, grid_of_page}

decoded-by : {S : Type 0} (c : Conduct S) (meant : Result Drawing DecodeError) (d : Drawing) (u : Unit {0}) (old new : S) → Decodes c (meant >>= λ e. Ok e.grid) (Ok u) old new → IfOk meant (Leaves {X = Unit {0}} (Ok u) d) → meant ≡ Ok d
decoded-by c (Ok m) d u old new decodes left = ap (λ (e : Drawing). let r : Result Drawing DecodeError = Ok e in r) (sym left)
decoded-by c (Err e) d u old new decodes left = absurd decodes

-- Where all calls were made, the page's drawing is there, and it is lent.
pub decoded : {S : Type 0} (c : Conduct S) (page : ReadPage) (result : Result (Unit {0}) DecodeError) (d : Drawing) (old new : S) → Decodes c (grid_of_page page) result old new → IfOk (drawing_of_page page) (Leaves result d) → IfOk result (λ _. drawing_of_page page ≡ Ok (if is_ok result then d else empty_drawing))
unfolding grid_of_page
decoded c page (Ok u) d old new decodes left = decoded-by c (drawing_of_page page) d u old new decodes left
decoded c page (Err e) d old new decodes left = tt

pub no_rows : (g : Grid) → packed_of 0 0 g ≡ []
unfolding packed_of packed_part
no_rows g = refl
