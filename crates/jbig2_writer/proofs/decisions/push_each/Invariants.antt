use Rattle.jbig2_writer.specs.inner.Windows.{CodesGroup}
use Rattle.jbig2_writer.proofs.decisions.push_each.Given as goal

abbrev pub invariant-loop-offset : goal.invariant-loop-offset
invariant-loop-offset g l = CodesGroup l.neighbours l.windows l.offset l.initial.encoder l.encoder
