use Rattle.std.proofs.Common.{not, ap, refl, ◌∙◌}
use Rattle.jbig2_region.specs.inner.PixelArrays.{four_pixels}
use Rattle.jbig2_halftone.specs.inner.GrayScaleViews.{gray_view}
use Rattle.jbig2_halftone.proofs.GrayCounts.{one-masked, one-plain, plain-counts}
use Rattle.jbig2_halftone.proofs.PlaneLemmas.{unskipped, no-mask}
use Rattle.jbig2_halftone.proofs.gray_scale.planes.decode_plane.Goals as goal

pub returns-then-is_none : goal.returns-then-is_none
returns-then-is_none g c = record {
  region = unskipped (gray_view c.args.params.now) (four_pixels c.args.params.now.template c.nominal_pixels-adaptive.result) c.args.plane.now c.args.decoder.now c.args.contexts.now c.decode_coded.new.bitmap c.decode_coded.new.decoder c.decode_coded.new.contexts (no-mask c.args.params.now.skip_mask (c.is_none.ensures ∙ ap not c.if-is_none.true)) c.nominal_pixels-adaptive.ensures.used c.decode_coded.ensures.region;
  steps =
      one-plain (gray_view c.args.params.now) c.args.params.now.skip_mask c.args.plane.now.width c.args.plane.now.height c.args.decoder.now.bytes _ c.args.steps.now c.decode_coded.new.steps refl (c.is_none.ensures ∙ ap not c.if-is_none.true)
      (plain-counts (gray_view c.args.params.now) (four_pixels c.args.params.now.template c.nominal_pixels-adaptive.result) c.args.plane.now.width c.args.plane.now.height c.args.decoder.now.bytes _ c.args.steps.now c.decode_coded.new.steps c.nominal_pixels-adaptive.ensures.used c.decode_coded.ensures.steps);
}

pub returns-clause-steps : goal.returns-clause-steps
returns-clause-steps g c =
    one-masked (gray_view c.args.params.now) c.args.params.now.skip_mask (four_pixels c.args.params.now.template c.nominal_pixels-adaptive.result) c.args.plane.now.width c.args.plane.now.height c.args.decoder.now.bytes _ c.args.steps.now c.decode_skipping.new.steps refl (c.is_none.ensures ∙ ap not c.if-is_none.false)
    c.nominal_pixels-adaptive.ensures.used c.decode_skipping.ensures.steps
