use Rattle.std.proofs.Common.{◌-◌, ◌/◌, ◌<◌, ◌≤◌}
use Rattle.jbig2_base.specs.Counts.{KeepsLanes}
use Rattle.jbig2_mmr.specs.Steps.{MovesWithin}
use Rattle.jbig2_mmr.specs.inner.T6Reading.{IsSpan}
use Rattle.jbig2_mmr.specs.inner.T6Steps.{span_words}
use Rattle.jbig2_mmr.proofs.mmr.span.fill_span.Given as goal

abbrev pub invariant-loop-x : goal.invariant-loop-x
invariant-loop-x g l = record {
  lanes : KeepsLanes l.fn.steps l.steps;
  open_work : l.x < l.to → MovesWithin (l.x / 64 - l.from / 64) l.fn.steps l.steps;
  work : MovesWithin (span_words l.from l.to) l.fn.steps l.steps;
  opening : l.from ≤ l.x;
  within : l.x ≤ l.to;
  painted : IsSpan l.fn.bitmap l.bitmap l.y l.from l.x l.black;
}

abbrev pub decreases-loop-x : goal.decreases-loop-x
decreases-loop-x g l = l.to - l.x
