use Rattle.std.proofs.Common.{arith, refl}
use Rattle.jbig2_region.proofs.CarriedLemmas.{shows-right}
use Rattle.jbig2_region.proofs.generic_kernel.words.words_after.Goals as goal

pub returns-then-width-x-le64-clause-value : goal.returns-then-width-x-le64-clause-value
returns-then-width-x-le64-clause-value g c = shows-right c.args.bitmap.now c.args.x c.args.y _ (omega (arith, c.width.ensures.value, c.if-width-x-le64.true)) refl refl
