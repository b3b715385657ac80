use Rattle.std.proofs.Common.{arith}
use Rattle.jbig2_mmr_writer.proofs.BitLemmas.{finish-last, finish-whole, last-fits}
use Rattle.jbig2_mmr_writer.proofs.bits.BitWriter.finish.Goals as goal

pub returns-then-count-eq0 : goal.returns-then-count-eq0
returns-then-count-eq0 g c = finish-whole c.args.self c.self.inside.bytes.items c.self.inside.count c.self.inside.rest c.if-count-eq0.true c.self.invariant.2 c.self.view_is

pub overflow_cast-rest : goal.overflow_cast-rest
overflow_cast-rest g c = omega (arith, last-fits c.self.inside.count c.self.inside.rest c.self.invariant.0 c.self.invariant.1)

pub returns : goal.returns
returns g c =
    finish-last c.args.self c.self.inside.bytes.items c.push.new.self.items c.self.inside.count c.self.inside.rest
    (omega (arith, c.if-count-eq0.false)) c.self.invariant.0 c.self.invariant.1 c.self.invariant.2 c.self.view_is c.in_ok-push.ensures.items
