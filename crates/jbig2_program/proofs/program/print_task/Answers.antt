use Rattle.std.proofs.Common.{[], ap}
use Rattle.std.proofs.lemmas.Result.{err_from_is_err_and}
use Rattle.jbig2_program.specs.inner.RequestViews.{task_view}
use Rattle.jbig2_program.specs.declared.request.Command.{Command}
use Rattle.jbig2_program.proofs.Ending.{bitmap_printed, bitmap_unnamed, calls_printed, calls_unnamed, pages_printed}
use Rattle.jbig2_program.proofs.program.print_task.Goals as goal

pub returns-in_err-page_at-in-Calls : goal.returns-in_err-page_at-in-Calls
returns-in_err-page_at-in-Calls g c =
    let e = err_from_is_err_and c.from_residual-in_err-page_at-in-Calls.result c.from_residual-in_err-page_at-in-Calls.ensures.1 in
    rw (e.1, e.2)
    (calls_unnamed c.args.request.strict (task_view c.args.request.command) c.in-Calls.index.now c.args.bytes.now c.in_ok-file-in-Calls.file c.in_err-page_at-in-Calls.field-0.0 (g.O.Write.contents c.args.out.now)
    (ap (λ (command : Command). task_view command) c.in-Calls.is) c.in_ok-file-in-Calls.ensures.value c.in_err-page_at-in-Calls.ensures.fault)

pub returns-in_err-page_at-in-Pbm : goal.returns-in_err-page_at-in-Pbm
returns-in_err-page_at-in-Pbm g c =
    let e = err_from_is_err_and c.from_residual-in_err-page_at-in-Pbm.result c.from_residual-in_err-page_at-in-Pbm.ensures.1 in
    rw (e.1, e.2)
    (bitmap_unnamed c.args.request.strict (task_view c.args.request.command) c.in-Pbm.index.now c.args.bytes.now c.in_ok-file-in-Pbm.file c.in_err-page_at-in-Pbm.field-0.0 (g.O.Write.contents c.args.out.now)
    (ap (λ (command : Command). task_view command) c.in-Pbm.is) c.in_ok-file-in-Pbm.ensures.value c.in_err-page_at-in-Pbm.ensures.fault)

pub returns-in_ok-file-in-Pages : goal.returns-in_ok-file-in-Pages
returns-in_ok-file-in-Pages g c =
    pages_printed c.args.request.strict (task_view c.args.request.command) [] c.args.bytes.now c.in_ok-file-in-Pages.file c.print_pages.result (g.O.Write.contents c.args.out.now) (g.O.Write.contents c.print_pages.new.out)
    (ap (λ (command : Command). task_view command) c.in-Pages.is) c.in_ok-file-in-Pages.ensures.value c.print_pages.ensures

pub returns-in_ok-page_at-in-Calls : goal.returns-in_ok-page_at-in-Calls
returns-in_ok-page_at-in-Calls g c =
    calls_printed c.args.request.strict (task_view c.args.request.command) c.in-Calls.index.now c.args.bytes.now c.in_ok-file-in-Calls.file c.print_calls-in-Calls-2.result (g.O.Write.contents c.args.out.now) (g.O.Write.contents c.print_calls-in-Calls-2.new.out)
    c.in_ok-page_at-in-Calls.field-0 (ap (λ (command : Command). task_view command) c.in-Calls.is) c.in_ok-file-in-Calls.ensures.value c.in_ok-page_at-in-Calls.ensures.page c.print_calls-in-Calls-2.ensures

pub returns-in_ok-page_at-in-Pbm : goal.returns-in_ok-page_at-in-Pbm
returns-in_ok-page_at-in-Pbm g c =
    bitmap_printed c.args.request.strict (task_view c.args.request.command) c.in-Pbm.index.now c.args.bytes.now c.in_ok-file-in-Pbm.file c.write_bitmap-in-Pbm.result (g.O.Write.contents c.args.out.now) (g.O.Write.contents c.write_bitmap-in-Pbm.new.out)
    c.in_ok-page_at-in-Pbm.field-0 (ap (λ (command : Command). task_view command) c.in-Pbm.is) c.in_ok-file-in-Pbm.ensures.value c.in_ok-page_at-in-Pbm.ensures.page c.write_bitmap-in-Pbm.ensures
