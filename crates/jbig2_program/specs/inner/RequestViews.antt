-- A request of the code as the definitions see it: the mode, the task and the file of Words.antt.
use Rattle.std.specs.Prelude.{ℕ, Bool, List}
use Rattle.std.specs.Str.Parse.{IsNumeral}
use Rattle.jbig2_program.specs.Words.{Task, Pages as PagesTask, Embedded as EmbeddedTask, Calls as CallsTask}
use Rattle.jbig2_program.specs.Words.{Pbm as PbmTask}
use Rattle.jbig2_program.specs.declared.request.Command.{Command}
use Rattle.jbig2_program.specs.declared.request.Command.TheVariants.{Pages, Embedded, Calls, Pbm}
use Rattle.jbig2_program.specs.declared.request.Request.{Request}

abbrev pub task_view : Command → Task
task_view Pages = PagesTask
task_view Embedded = EmbeddedTask
task_view (Calls index) = CallsTask index.now
task_view (Pbm index) = PbmTask index.now

abbrev pub request_view : Request → Bool × Task × List ℕ
request_view request = (request.strict, task_view request.command, request.file.now)

-- the index of a page is a numeral
abbrev pub HasIndex : Task → Type 0
HasIndex (CallsTask index) = IsNumeral 10 index
HasIndex (PbmTask index) = IsNumeral 10 index
HasIndex _ = Unit {0}
