use Rattle.std.specs.Int.{int_shr}
use Rattle.jbig2_halftone.proofs.CellLemmas.{outside-at}
use Rattle.jbig2_halftone.proofs.DrawSteps.{draws-nothing}
use Rattle.jbig2_halftone.proofs.halftone.draw_cell.Goals as goal

pub returns-then-lies_outside-clause-value : goal.returns-then-lies_outside-clause-value
returns-then-lies_outside-clause-value g c = outside-at c.args.operator c.args.bitmap.now c.args.pattern.now (int_shr c.args.place.x 8) (int_shr c.args.place.y 8) c.width-width.result c.height-height.result c.width.result c.height.result c.lies_outside.result c.width.ensures.table c.width-width.ensures.value c.height-height.ensures.value c.width.ensures.value c.height.ensures.value c.lies_outside.ensures c.if-lies_outside.true

pub returns-then-lies_outside-clause-steps : goal.returns-then-lies_outside-clause-steps
returns-then-lies_outside-clause-steps g c = draws-nothing _ c.args.steps.now
