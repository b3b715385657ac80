use Rattle.std.proofs.Common.{IfOk, subst}
use Rattle.jbig2_base.specs.Grid.{Grid}
use Rattle.jbig2_writer.specs.Written.{ReadsBack}
use Rattle.jbig2_writer.proofs.page.write_packed.Goals as goal

pub returns-clause-reads_back : goal.returns-clause-reads_back
returns-clause-reads_back g c =
    subst (λ (grid : Grid). IfOk c.write_page.result (λ v. ReadsBack c.args.settings.now v.items grid)) c.in-Ok.ensures.value c.write_page.ensures.reads_back
