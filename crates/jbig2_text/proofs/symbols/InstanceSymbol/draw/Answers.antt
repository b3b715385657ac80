use Rattle.std.proofs.Common.{to_z, of_z, w32}
use Rattle.jbig2_text.proofs.PayingLemmas.{drawn-paid}
use Rattle.jbig2_text.proofs.symbols.InstanceSymbol.draw.Goals as goal

pub returns-in-Shared-clause-paid : goal.returns-in-Shared-clause-paid
returns-in-Shared-clause-paid g c = rw c.in-Shared.is (drawn-paid c.args.work.now c.args.region.now c.in-Shared.bitmap.now (to_z w32 (of_z w32 c.args.x)) (to_z w32 (of_z w32 c.args.y)) c.combine.new.steps c.combine.ensures.steps)

pub returns-in-Refined-clause-paid : goal.returns-in-Refined-clause-paid
returns-in-Refined-clause-paid g c = rw c.in-Refined.is (drawn-paid c.args.work.now c.args.region.now c.in-Refined.bitmap (to_z w32 (of_z w32 c.args.x)) (to_z w32 (of_z w32 c.args.y)) c.combine-in-Refined.new.steps c.combine-in-Refined.ensures.steps)
