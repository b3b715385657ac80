use Rattle.std.proofs.Common.{◌-◌, drop, take}
use Rattle.jbig2_page.specs.Calls.{row_of_grid, singles}
use Rattle.jbig2_page.proofs.Sending.{Half}
use Rattle.jbig2_page.proofs.page.calls.push_pixels.Given as goal

abbrev pub invariant-loop-column : goal.invariant-loop-column
invariant-loop-column g l = record {
  sent : Half g.D.Decoder.conduct (singles (take (l.end - l.x) (drop l.x (row_of_grid l.bitmap l.y)))) (singles (take (l.end - l.column) (drop l.column (row_of_grid l.bitmap l.y)))) l.fn.decoder l.decoder;
}
