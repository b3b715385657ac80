use Rattle.std.proofs.Common.{arith, refl, ◌+◌}
use Rattle.jbig2_region.proofs.RegionLemmas.{tests-next}
use Rattle.jbig2_region.proofs.StretchLemmas.{pixels-none, pixels-then}
use Rattle.jbig2_region.proofs.raster.decode_row.Goals as goal

pub loop-x-init : goal.loop-x-init
loop-x-init g c = record {
  decoded = pixels-none (g.C.PixelCoding.coding c.args.coding.now) c.args.row.predicted 0 c.args.row.y 0 c.args.bitmap.now c.args.decoder.now c.args.contexts.now c.args.steps.now refl;
  words = omega arith;
  loads = omega arith;
}

pub loop-x-preserved : goal.loop-x-preserved
loop-x-preserved g c = record {
  decoded = pixels-then (c.loop-x.x + 1) c.loop-x.invariant.decoded c.decode_pixel.ensures.decoded (omega arith) refl;
  words = omega (arith, c.decode_pixel.ensures.words, c.loop-x.invariant.words);
  loads = tests-next c.args.steps.now.loads c.loop-x.steps.loads c.decode_pixel.new.steps.loads _ c.loop-x.x c.loop-x.invariant.loads c.decode_pixel.ensures.loads;
}
