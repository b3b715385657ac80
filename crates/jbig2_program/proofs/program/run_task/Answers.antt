use Rattle.jbig2_program.specs.inner.RequestViews.{task_view}
use Rattle.jbig2_program.proofs.Ending.{starved, unread}
use Rattle.jbig2_program.proofs.program.run_task.Goals as goal

pub returns-in_default-clone : goal.returns-in_default-clone
returns-in_default-clone g c = rw c.in-Some.is (starved c.args.request.strict (task_view c.args.request.command) (g.R.Read.remaining c.in-Some.reader.now) (g.O.Write.contents c.args.out.now))

pub returns-in-Err : goal.returns-in-Err
returns-in-Err g c = rw c.in-Some.is (unread c.args.request.strict (task_view c.args.request.command) (g.R.Read.remaining c.in-Some.reader.now) (g.O.Write.contents c.args.out.now) c.in-Err.fault c.in-Err.ensures.fault)
