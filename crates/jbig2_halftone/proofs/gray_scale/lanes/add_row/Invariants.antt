use Rattle.std.proofs.Common.{◌≡◌, ◌-◌, ◌*◌}
use Rattle.jbig2_halftone.proofs.LaneLemmas.{TakenTo, lanes_to}
use Rattle.jbig2_halftone.proofs.gray_scale.lanes.add_row.Given as goal

abbrev pub invariant-loop-group : goal.invariant-loop-group
invariant-loop-group g l = record {
  taken : TakenTo l.plane l.y (8 * l.group) l.fn.values l.values;
  counts : l.steps ≡ lanes_to l.group 0 l.fn.steps;
}

abbrev pub invariant-loop-x : goal.invariant-loop-x
invariant-loop-x g l = record {
  taken : TakenTo l.plane l.y l.x l.fn.values l.values;
  counts : l.steps ≡ lanes_to l.groups (l.x - 8 * l.groups) l.fn.steps;
}
