use Rattle.std.proofs.Common.{◌≡◌, ◌∙◌, ℕ, List, Result, Ok, ap, sym, length, take, arith}
use Rattle.std.proofs.lemmas.List.{take_all}
use Rattle.std.proofs.lemmas.Result.{err_from_is_err_and}
use Rattle.jbig2_base.specs.declared.error.DecodeError.{DecodeError}
use Rattle.jbig2_page.specs.Image.{packed_of_page}
use Rattle.jbig2_page.proofs.DrawnPages.{packed-drawn, packed-refused}
use Rattle.jbig2_page.proofs.PackedRows.{page-size}
use Rattle.jbig2_page.proofs.Paying.{bytes-paid, counts-paid}
use Rattle.jbig2_steps.proofs.WorkLemmas.{paid-limit}
use Rattle.jbig2_text.proofs.PayingLemmas.{beside-worth, twice-paid}
use Rattle.jbig2_steps.specs.Work.{CountsBeside, paid_words, price_of_bitmap, sum_of_counts}
use Rattle.jbig2_page.proofs.page.PageContent.read_packed.Goals as goal

pub read_at-requires : goal.read_at-requires
read_at-requires g c =
    let is : packed_of_page c.args.self.now ≡ Ok c.drawn_rows.result =
    packed-drawn c.args.self.now _ c.in_ok-canvas.ensures.value
    ∙ ap (λ (rows : List ℕ). let r : Result (List ℕ) DecodeError = Ok rows in r) (sym c.drawn_rows.ensures) in
    omega (arith, c.requires, page-size c.args.self.now c.drawn_rows.result is)

pub returns-clause-value : goal.returns-clause-value
returns-clause-value g c =
    let drawn : List ℕ = c.drawn_rows.result in
    let is : packed_of_page c.args.self.now ≡ Ok drawn =
    packed-drawn c.args.self.now _ c.in_ok-canvas.ensures.value
    ∙ ap (λ (rows : List ℕ). let r : Result (List ℕ) DecodeError = Ok rows in r) (sym c.drawn_rows.ensures) in
    let whole : length c.args.buf.now ≡ length drawn = c.requires ∙ sym (page-size c.args.self.now drawn is) in
    is
    ∙ ap (λ (xs : List ℕ). Ok xs) (sym (c.read_at.ensures.bytes ∙ ap (λ (n : ℕ). take n drawn) whole ∙ take_all (length drawn) drawn (omega arith)))

pub returns-in_err-canvas-clause-value : goal.returns-in_err-canvas-clause-value
returns-in_err-canvas-clause-value g c =
    let e = err_from_is_err_and c.from_residual.result c.from_residual.ensures.1 in
    rw (e.1, e.2) (packed-refused c.args.self.now c.in_err-canvas.field-0.0 c.in_err-canvas.ensures.value)

pub returns-clause-paid : goal.returns-clause-paid
returns-clause-paid g c =
    let page = c.args.self.now.initial_page in
    let counts : CountsBeside (paid_words page.width page.height) (price_of_bitmap page.width page.height) c.draw_new_canvas.new.work.steps c.read_at.new.steps = bytes-paid page.width page.height (length c.args.buf.now) (sum_of_counts c.draw_new_canvas.new.work.steps) (sum_of_counts c.read_at.new.steps) c.requires c.read_at.ensures.steps in
    counts-paid c.args.work.now c.draw_new_canvas.new.work c.read_at.new.steps (price_of_bitmap page.width page.height) (omega (arith, c.in_ok-canvas.ensures.ahead, twice-paid page.width page.height)) (omega (arith, counts))

pub returns-clause-taken : goal.returns-clause-taken
returns-clause-taken g c =
    let page = c.args.self.now.initial_page in
    let counts : CountsBeside (paid_words page.width page.height) (price_of_bitmap page.width page.height) c.draw_new_canvas.new.work.steps c.read_at.new.steps = bytes-paid page.width page.height (length c.args.buf.now) (sum_of_counts c.draw_new_canvas.new.work.steps) (sum_of_counts c.read_at.new.steps) c.requires c.read_at.ensures.steps in
    let counted = beside-worth c.draw_new_canvas.new.work c.read_at.new.steps _ _ counts in
    omega (arith, c.in_ok-canvas.ensures.ahead, counted)

pub returns-clause-limit : goal.returns-clause-limit
returns-clause-limit g c = paid-limit c.args.work.now _ (returns-clause-paid g c)

pub returns-in_err-canvas-clause-limit : goal.returns-in_err-canvas-clause-limit
returns-in_err-canvas-clause-limit g c = paid-limit c.args.work.now c.draw_new_canvas.new.work c.draw_new_canvas.ensures.paid
