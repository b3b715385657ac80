use Rattle.std.proofs.Common.{◌≡◌, ◌+◌, ◌-◌, ◌++◌, length, pos, ◌-ℤ◌}
use Rattle.jbig2_region.specs.inner.Neighbours.{side_by_side}
use Rattle.jbig2_region.proofs.template.pixels.TemplatePixels.push_row.Given as goal

abbrev pub invariant-loop-index : goal.invariant-loop-index
invariant-loop-index l = record {
  count : length l.self ≡ length l.fn.self + l.index;
  rest : l.self ++ side_by_side (l.column -ℤ pos l.index) l.rows (l.count - l.index) ≡ l.fn.self ++ side_by_side l.column l.rows l.count;
}
