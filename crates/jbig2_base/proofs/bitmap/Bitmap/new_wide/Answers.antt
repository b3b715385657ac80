use Rattle.std.proofs.Common.{◌*◌, ◌<◌, ◌≤◌, arith, rules}
use Rattle.std.proofs.lemmas.Grind.{common_steps}
use Rattle.jbig2_base.proofs.MadeLemmas.{wide-here, wide-refused}
use Rattle.jbig2_base.proofs.BitmapCauses.{wide_cause}
use Rattle.jbig2_base.proofs.bitmap.Bitmap.new_wide.Goals as goal

pub returns-then-from-gt-MAX_AREA-clause-causes : goal.returns-then-from-gt-MAX_AREA-clause-causes
returns-then-from-gt-MAX_AREA-clause-causes g c = wide_cause c.args.width c.args.height _ (search rules)

pub returns-in_err-refill-clause-causes : goal.returns-in_err-refill-clause-causes
returns-in_err-refill-clause-causes g c = wide_cause c.args.width c.args.height _ (search rules)

pub returns-clause-causes : goal.returns-clause-causes
returns-clause-causes g c = wide_cause c.args.width c.args.height _ tt

pub returns-then-from-gt-MAX_AREA-clause-steps : goal.returns-then-from-gt-MAX_AREA-clause-steps
returns-then-from-gt-MAX_AREA-clause-steps g c = wide-refused c.args.width c.args.height c.args.steps.now (let large : 65535 * 65535 < c.args.width * c.args.height = first_of (search rules, omega (arith, c.if-from-gt-MAX_AREA.true), grind (arith, common_steps)) in large)

pub returns-in_err-refill-clause-steps : goal.returns-in_err-refill-clause-steps
returns-in_err-refill-clause-steps g c = wide-here c.args.width c.args.height c.args.steps.now c.refill.new.steps (let small : c.args.width * c.args.height ≤ 65535 * 65535 = first_of (search rules, omega (arith, c.if-from-gt-MAX_AREA.false), grind (arith, common_steps)) in small) c.refill.ensures.steps

pub returns-clause-steps : goal.returns-clause-steps
returns-clause-steps g c = wide-here c.args.width c.args.height c.args.steps.now c.refill.new.steps (let small : c.args.width * c.args.height ≤ 65535 * 65535 = first_of (search rules, omega (arith, c.if-from-gt-MAX_AREA.false), grind (arith, common_steps)) in small) c.refill.ensures.steps
