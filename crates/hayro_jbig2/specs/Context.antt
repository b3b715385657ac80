-- What a context keeps from one page to the next (our own rule): the drawing of the last page, whether there is one, how
-- many units of work a page may take, how many of them the last page left, and how many steps it counted. After an error
-- a context holds no page.
use Rattle.std.specs.Prelude.{◌≡◌, ◌+◌, ◌*◌, ◌≤◌, ℕ, Bool, true, false, Option, Some, None, option_map}
use Rattle.std.specs.Prelude.{Result, Ok, Err}
use Rattle.jbig2_steps.specs.Work.{sum_of_counts}
use Rattle.jbig2_steps.specs.declared.work.Work.{Work}
use Rattle.jbig2_page.specs.Page.{Drawing, empty_drawing}

pub record ContextView : Type 0 where
  pub drawing : Drawing
  pub holds_page : Bool  -- whether the drawing is that of a page
  pub work_limit : Option ℕ
  pub work_left : Option ℕ
  pub steps : ℕ  -- how many the last page counted

abbrev pub fresh_context : Option ℕ → ContextView  -- no page, and this limit, of which nothing was taken
fresh_context limit =
    record { drawing = empty_drawing; holds_page = false; work_limit = limit; work_left = limit; steps = 0 }

abbrev pub new_context : ContextView
new_context = fresh_context None

-- After a call that draws the context holds a page, and after an error none.
abbrev pub HoldsPage : {E : Type 0} → Result (Unit {0}) E → ContextView → Type 0
HoldsPage (Ok done) c = c.holds_page ≡ true
HoldsPage (Err e) c = (c.holds_page ≡ false) × (c.drawing ≡ empty_drawing)

-- ---- the limit of work
-- A page took at least this many units of a limit besides those that pay for the steps that it counted, 32 for each
-- unit. How many it left is known.
abbrev pub LeavesOf : ℕ → Option ℕ → ContextView → Type 0
LeavesOf units limit c = of limit c.work_left
  where
    of : Option ℕ → Option ℕ → Type 0
    of (Some most) (Some left) = c.steps + 32 * (left + units) ≤ 32 * most
    of None None = Unit {0}
    of _ _ = ⊥

-- The same of a page that was drawn: this many of the steps that it counted are paid for by those units.
abbrev pub LeavesDrawn : ℕ → ℕ → Option ℕ → ContextView → Type 0
LeavesDrawn counted units limit c = of limit c.work_left
  where
    of : Option ℕ → Option ℕ → Type 0
    of (Some most) (Some left) = c.steps + 32 * (left + units) ≤ 32 * most + counted
    of None None = Unit {0}
    of _ _ = ⊥

abbrev pub after_page : {L : Type 0} → Work L → ContextView → ContextView  -- after a page with this counter
after_page work c =
    record c { work_left = option_map (λ _. work.left) c.work_limit; steps = sum_of_counts work.steps }

-- The context after a page, drawn or refused. Other clauses say which drawing it has.
abbrev pub IsLeftBy : {L : Type 0} → Work L → ContextView → ContextView → Type 0
IsLeftBy work old new = new ≡ record (after_page work old) { drawing = new.drawing; holds_page = new.holds_page }
