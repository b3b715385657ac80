use Rattle.std.proofs.Common.{arith}
use Rattle.jbig2_base.proofs.MadeLemmas.{made-counted, made-paid}
use Rattle.jbig2_region.proofs.generic_refinement.decode.Goals as goal

pub returns-in_err-bitmap-clause-paid : goal.returns-in_err-bitmap-clause-paid
returns-in_err-bitmap-clause-paid g c =
    let info = c.args.header.now.region_info in
    omega (arith, made-paid info.width info.height c.args.steps.now c.new.new.steps c.new.ensures.steps)

pub returns-in_err-decode_into-clause-paid : goal.returns-in_err-decode_into-clause-paid
returns-in_err-decode_into-clause-paid g c =
    let info = c.args.header.now.region_info in
    omega (arith, made-counted info.width info.height c.args.steps.now c.new.new.steps c.new.ensures.steps, c.decode_into.ensures.paid)

pub returns-clause-paid : goal.returns-clause-paid
returns-clause-paid g c =
    let info = c.args.header.now.region_info in
    omega (arith, made-counted info.width info.height c.args.steps.now c.new.new.steps c.new.ensures.steps, c.decode_into.ensures.paid)
