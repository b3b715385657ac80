use Rattle.jbig2_halftone.specs.inner.GrayScaleViews.{gray_view}
use Rattle.jbig2_halftone.proofs.DrawSteps.{on-any, on-err, on-ok}
use Rattle.jbig2_halftone.proofs.GrayCounts.{coded-read, coded-stops, mmr-image, mmr-stops, stops-none}
use Rattle.jbig2_halftone.proofs.gray_scale.planes.add_planes.Goals as goal

pub returns-then-params-clause-stopped : goal.returns-then-params-clause-stopped
returns-then-params-clause-stopped g c = on-err c.add_mmr_planes.result _ _ (mmr-stops (gray_view c.args.params.now) c.args.bytes.now c.args.steps.now c.add_mmr_planes.new.steps c.if-params.true) c.add_mmr_planes.ensures.stopped

pub returns-in_err-fresh_contexts-clause-stopped : goal.returns-in_err-fresh_contexts-clause-stopped
returns-in_err-fresh_contexts-clause-stopped g c = on-any c.from_residual.result _ (stops-none (gray_view c.args.params.now) c.args.bytes.now c.args.steps.now)

pub returns-clause-stopped : goal.returns-clause-stopped
returns-clause-stopped g c = on-err c.add_coded_planes.result _ _ (coded-stops (gray_view c.args.params.now) c.args.bytes.now c.args.steps.now c.add_coded_planes.new.steps c.if-params.false) c.add_coded_planes.ensures.stopped

pub returns-then-params-clause-steps : goal.returns-then-params-clause-steps
returns-then-params-clause-steps g c = on-ok c.add_mmr_planes.result _ _ (mmr-image (gray_view c.args.params.now) c.args.bytes.now c.args.steps.now c.add_mmr_planes.new.steps c.if-params.true) c.add_mmr_planes.ensures.steps

pub returns-clause-steps : goal.returns-clause-steps
returns-clause-steps g c = on-ok c.add_coded_planes.result _ _ (λ counts. coded-read (gray_view c.args.params.now) c.args.bytes.now c.args.params.now.bits_per_pixel c.args.steps.now c.add_coded_planes.new.steps c.if-params.false counts) c.add_coded_planes.ensures.steps
