use Rattle.std.specs.Prelude.{false}
use Rattle.jbig2_base.specs.Causes.{BreaksSides}
use Rattle.jbig2_base.specs.Grid.{blank}
use Rattle.jbig2_base.proofs.BitmapCauses.{memory-alone}
use Rattle.jbig2_base.proofs.MadeLemmas.{made-accepted, made-refused}
use Rattle.jbig2_base.proofs.bitmap.Bitmap.reinitialize.Goals as goal

pub returns-clause-causes : goal.returns-clause-causes
returns-clause-causes g c = memory-alone (BreaksSides c.args.width c.args.height) (λ (u : Unit {0}). c.refill.new.self) c.refill.result (blank c.args.width c.args.height c.args.default_pixel) c.refill.ensures.value

pub returns-in_err-check_sides-clause-steps : goal.returns-in_err-check_sides-clause-steps
returns-in_err-check_sides-clause-steps g c = made-refused c.args.width c.args.height false c.args.steps.now _ c.in_err-check_sides.ensures

pub returns-clause-steps : goal.returns-clause-steps
returns-clause-steps g c = made-accepted c.args.width c.args.height false (blank c.args.width c.args.height false) c.args.steps.now c.refill.new.steps c.in_ok-check_sides.ensures c.refill.ensures.steps
