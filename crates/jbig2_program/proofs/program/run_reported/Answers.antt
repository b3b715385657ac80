use Rattle.std.proofs.Common.{sym}
use Rattle.jbig2_program.proofs.Numerals.{request_named}
use Rattle.jbig2_program.specs.inner.RequestViews.{request_view}
use Rattle.jbig2_program.proofs.program.run_reported.Goals as goal

pub run_task-ended-requires : goal.run_task-ended-requires
run_task-ended-requires g c = request_named _ (request_view c.in-Some.request) (sym c.in-Some.ensures)
