use Rattle.std.proofs.Common.{ℕ, not, subst}
use Rattle.jbig2_base.specs.Colour.{IsFirst}
use Rattle.jbig2_base.specs.Grid.{pixel_at}
use Rattle.jbig2_page.proofs.Runs.{run-to}
use Rattle.jbig2_page.proofs.page.calls.run.Goals as goal

pub returns-clause-value : goal.returns-clause-value
returns-clause-value g c =
    run-to c.args.bitmap.now c.args.x c.args.y c.find_colour-end.result c.args.black c.requires
    (subst (λ (w : ℕ). IsFirst (λ (x : ℕ). pixel_at c.args.bitmap.now x c.args.y) (not c.args.black) c.args.x w c.find_colour-end.result) c.width-width.ensures.value c.find_colour-end.ensures.value)
