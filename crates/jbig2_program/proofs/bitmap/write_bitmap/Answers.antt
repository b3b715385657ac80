use Rattle.std.proofs.Common.{◌≡◌, List, ◌++◌, ℕ, ap, ◌∙◌}
use Rattle.std.proofs.lemmas.Result.{err_from_is_err_and}
use Rattle.jbig2_program.specs.Printed.{bitmap_head}
use Rattle.jbig2_program.proofs.Ending.{drawn_whole, undrawn}
use Rattle.jbig2_program.proofs.Sending.{if_ok}
use Rattle.jbig2_program.proofs.bitmap.write_bitmap.Goals as goal

pub returns-in_err-drawn : goal.returns-in_err-drawn
returns-in_err-drawn g c =
    let e = err_from_is_err_and c.from_residual-in_err-drawn.result c.from_residual-in_err-drawn.ensures.1 in
    rw (e.1, e.2) (undrawn c.args.page.now c.in_err-drawn.field-0.0 (g.O.Write.contents c.args.out.now) c.in_err-drawn.ensures.value)

pub returns : goal.returns
returns g c =
    let head : c.deref.result.now ≡ bitmap_head c.args.page.now =
    c.deref.ensures.value ∙ c.in_ok-write_head.ensures.head ∙ ap (λ (xs : List ℕ). xs ++ bitmap_head c.args.page.now) c.in_ok-head.ensures.items in
    drawn_whole c.args.page.now c.deref.result.now c.in_ok-drawn.drawn c.write_rows.result c.flush.result
    (g.O.Write.contents c.args.out.now) (g.O.Write.contents c.write_all.new.self) (g.O.Write.contents c.write_rows.new.out) (g.O.Write.contents c.flush.new.out)
    c.in_ok-drawn.ensures.value head (if_ok c.write_all.result _ c.if-is_err.ensures.negation c.write_all.ensures.bytes) c.write_rows.ensures c.if-not-write_rows.false c.flush.ensures.kept c.flush.ensures.fault
