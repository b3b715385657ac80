use Rattle.std.proofs.Common.{◌+◌, sym, ap, arith}
use Rattle.jbig2_base.specs.Counts.{Counts}
use Rattle.jbig2_base.proofs.SearchLemmas.{place-past}
use Rattle.jbig2_mmr.proofs.T6Rows.{b2-is}
use Rattle.jbig2_mmr.specs.T6.{is_change}
use Rattle.jbig2_mmr.specs.inner.T6Reading.{pixels_of_row}
use Rattle.jbig2_mmr_writer.proofs.changes.find_b2.Goals as goal

pub returns-then-b1-to-clause-value : goal.returns-then-b1-to-clause-value
returns-then-b1-to-clause-value g c = sym (place-past (is_change (pixels_of_row c.args.bitmap.now c.args.above)) (c.args.b1 + 1) c.args.to (omega (arith, c.if-b1-to.true)))

pub returns-clause-value : goal.returns-clause-value
returns-clause-value g c =
    sym (b2-is (pixels_of_row c.args.bitmap.now c.args.above) c.args.black c.args.b1 c.args.to c.find_colour.result (omega (arith, c.if-b1-to.false)) c.requires.colour c.find_colour.ensures.value)

pub returns-clause-loads : goal.returns-clause-loads
returns-clause-loads g c = omega (arith, c.find_colour.ensures.value.after, ap (λ (t : Counts). t.loads) c.find_colour.ensures.steps)
