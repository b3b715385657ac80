use Rattle.std.proofs.Common.{◌≡◌, ◌+◌, ◌*◌, ◌/◌, ◌≤◌}
use Rattle.jbig2_base.specs.inner.GridsBefore.{grid_before}
use Rattle.jbig2_symbol.specs.SymbolBitmaps.{raw_pixel, raw_stride}
use Rattle.jbig2_steps.specs.Work.{budget}
use Rattle.jbig2_symbol.proofs.collective.read_raw_rows.Given as goal

abbrev pub invariant-loop-y : goal.invariant-loop-y
invariant-loop-y g l = record {
  filled : l.bitmap ≡ grid_before l.width l.height (raw_pixel l.bytes (raw_stride l.width)) l.y 0;
  paid : budget l.work ≤ budget l.initial.work + 3 * (l.y * ((l.width + 7) / 8));
}
