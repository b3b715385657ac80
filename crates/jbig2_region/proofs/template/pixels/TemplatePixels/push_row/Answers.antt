use Rattle.std.proofs.Common.{length, w16, to_z, of_z, ap, arith}
use Rattle.std.proofs.lemmas.Int.{ints}
use Rattle.std.proofs.lemmas.List.{length-append}
use Rattle.jbig2_region.specs.declared.template.AdaptiveTemplatePixel.{AdaptiveTemplatePixel}
use Rattle.jbig2_region.proofs.PixelLemmas.{side-next}
use Rattle.jbig2_region.proofs.template.pixels.TemplatePixels.push_row.Goals as goal

pub loop-index-preserved : goal.loop-index-preserved
loop-index-preserved c = record {
  count = omega (arith, simp length-append at (ap length c.push.ensures));
  rest =
      side-next c.loop-index.self c.push.new.self _ (to_z w16 (of_z w16 c.args.column)) c.args.rows c.loop-index.index c.args.count c.pixel.result (omega arith)
      (omega (arith, ints, ap (λ (p : AdaptiveTemplatePixel). p.x) c.pixel.ensures))
      (omega (arith, ints, ap (λ (p : AdaptiveTemplatePixel). p.y) c.pixel.ensures))
      c.push.ensures c.loop-index.invariant.rest;
}
