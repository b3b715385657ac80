use Rattle.std.proofs.Common.{ℕ, ◌*◌, List, length, arith}
use Rattle.jbig2_framing.specs.Segment.{SegmentView}
use Rattle.jbig2_framing.specs.Sequential.{sorted_segments}
use Rattle.jbig2_steps.specs.declared.prices.TheConstants as prices
use Rattle.hayro_jbig2.proofs.Limits.{limit-taken, limit-taken-each}
use Rattle.hayro_jbig2.proofs.globals.read_counted.Goals as goal

pub returns-clause-limit : goal.returns-clause-limit
returns-clause-limit g c =
    limit-taken c.args.limit.now c.end.new.self c.counter-work.result c.read-read.new.work 0 c.end.ensures c.counter-work.ensures.steps c.counter-work.ensures.left
    (omega (arith, c.read-read.ensures.paid))

pub returns-clause-taken : goal.returns-clause-taken
returns-clause-taken g c =
    limit-taken-each (λ (segments : List SegmentView). prices.SEGMENT * length segments) (sorted_segments c.args.reading c.args.bytes.now) c.read-read.result c.args.limit.now c.end.new.self c.counter-work.result c.read-read.new.work c.end.ensures c.counter-work.ensures.steps c.counter-work.ensures.left
    c.read-read.ensures.taken
