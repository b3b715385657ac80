use Rattle.std.proofs.Common.{arith}
use Rattle.jbig2_base.proofs.Prices.{combined-paid}
use Rattle.jbig2_steps.specs.Work.{price_of_bitmap}
use Rattle.jbig2_steps.proofs.WorkLemmas.{counts-worth}
use Rattle.std.specs.Prelude.{◌*◌}
use Rattle.jbig2_page.proofs.drawing.canvas.Canvas.combine.Goals as goal

pub returns-clause-paid : goal.returns-clause-paid
returns-clause-paid g c =
    let source = c.args.region.now.bitmap in
    counts-worth c.args.work.now c.combine.new.steps (32 * price_of_bitmap source.width source.height) (omega (arith, combined-paid c.self.inside.bitmap source _ _ c.args.work.now.steps c.combine.new.steps c.combine.ensures.steps))
