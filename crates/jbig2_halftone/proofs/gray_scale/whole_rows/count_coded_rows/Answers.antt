use Rattle.std.proofs.Common.{◌≡◌, ◌-◌, ◌*◌, ℕ, false, Ok, ap, sym, ◌∙◌, arith}
use Rattle.jbig2_steps.specs.Work.{price_of_bitmap}
use Rattle.jbig2_region.specs.Raster.{no_pixels}
use Rattle.jbig2_region.specs.inner.PixelArrays.{four_pixels}
use Rattle.jbig2_halftone.specs.GrayScale.{GrayScale}
use Rattle.jbig2_halftone.specs.inner.FunctionResults.{whole_coded_rows}
use Rattle.jbig2_halftone.specs.inner.GrayScaleViews.{gray_view}
use Rattle.jbig2_region.proofs.GenericPrices.{whole-rows-paid}
use Rattle.jbig2_halftone.proofs.PatternLemmas.{blank-made}
use Rattle.jbig2_halftone.proofs.PlaneLemmas.{after-none, coded-holds, coded-next}
use Rattle.jbig2_halftone.proofs.WholeCellLemmas.{last-counted}
use Rattle.jbig2_halftone.proofs.WholeCellPrices.{last-paid, nothing-paid, plane-made-paid, plane-paid, planes-within}
use Rattle.jbig2_halftone.proofs.gray_scale.whole_rows.count_coded_rows.Goals as goal

pub loop-init : goal.loop-init
loop-init g c = record {
  after = after-none (gray_view c.args.params.now) c.args.bytes.now c.new-decoder.result c.args.contexts.now c.new-decoder.ensures.bytes c.new-decoder.ensures.registers c.requires.fresh;
  paid = nothing-paid (0 * price_of_bitmap c.args.params.now.width c.args.params.now.height) c.args.steps.now;
}

pub loop-preserved : goal.loop-preserved
loop-preserved g c =
    let p : GrayScale = gray_view c.args.params.now in
    let white = blank-made p.width p.height false c.in_ok-plane.plane c.requires.columns c.requires.rows c.in_ok-plane.ensures.value in
    let holds = coded-holds p c.args.bytes.now c.loop.counter c.in_ok-plane.plane c.decode_plane.new.plane c.loop.decoder c.decode_plane.new.decoder c.loop.contexts c.decode_plane.new.contexts white c.decode_plane.ensures.region c.loop.invariant.after in
    record {
      after = coded-next p c.args.bytes.now c.loop.counter c.decode_plane.new.plane c.decode_plane.new.decoder c.decode_plane.new.contexts holds;
      paid = plane-paid p c.loop.counter c.in_ok-plane.plane c.loop.decoder.bytes (no_pixels c.loop.decoder.registers c.loop.contexts) c.args.steps.now c.loop.steps c.new.new.steps c.decode_plane.new.steps white c.loop.invariant.paid c.new.ensures.steps c.decode_plane.ensures.steps;
    }

pub returns-in_err-clone-clause-paid : goal.returns-in_err-clone-clause-paid
returns-in_err-clone-clause-paid g c = planes-within (price_of_bitmap c.args.params.now.width c.args.params.now.height) c.loop.counter c.args.params.now.bits_per_pixel c.args.steps.now c.loop.steps (omega arith) c.loop.invariant.paid

pub returns-in_err-plane-clause-paid : goal.returns-in_err-plane-clause-paid
returns-in_err-plane-clause-paid g c = plane-made-paid c.args.params.now.width c.args.params.now.height c.loop.counter c.args.params.now.bits_per_pixel c.args.steps.now c.loop.steps c.new.new.steps (omega arith) c.loop.invariant.paid c.new.ensures.steps

pub returns-in_err-last-clause-paid : goal.returns-in_err-last-clause-paid
returns-in_err-last-clause-paid g c = plane-made-paid c.args.params.now.width c.args.params.now.height c.loop.counter c.args.params.now.bits_per_pixel c.args.steps.now c.loop.steps c.new-2.new.steps (omega arith) c.loop.invariant.paid c.new-2.ensures.steps

pub returns-clause-value : goal.returns-clause-value
returns-clause-value g c =
    let p : GrayScale = gray_view c.args.params.now in
    let white = blank-made p.width p.height false c.in_ok-last.last c.requires.columns c.requires.rows c.in_ok-last.ensures.value in
    let last : c.loop.counter ≡ p.bits_per_pixel - 1 = omega arith in
    let counted = last-counted p (four_pixels p.template c.nominal_pixels.result) c.args.bytes.now c.loop.counter c.in_ok-last.last c.loop.decoder c.loop.contexts c.count_regular_rows-rows.result white c.loop.invariant.after c.nominal_pixels.ensures.used c.count_regular_rows-rows.ensures.rows in
    ap (λ (n : ℕ). Ok n) (sym (counted ∙ ap (λ (i : ℕ). whole_coded_rows p c.args.bytes.now i) last))

pub returns-clause-paid : goal.returns-clause-paid
returns-clause-paid g c =
    let p : GrayScale = gray_view c.args.params.now in
    let white = blank-made p.width p.height false c.in_ok-last.last c.requires.columns c.requires.rows c.in_ok-last.ensures.value in
    last-paid p c.loop.counter c.in_ok-last.last c.args.steps.now c.loop.steps c.new-2.new.steps c.count_regular_rows-rows.new.steps white (omega arith) c.loop.invariant.paid c.new-2.ensures.steps
    (whole-rows-paid p.template c.in_ok-last.last.width c.in_ok-last.last.height c.loop.decoder.bytes (no_pixels c.loop.decoder.registers c.loop.contexts) c.new-2.new.steps c.count_regular_rows-rows.new.steps c.count_regular_rows-rows.ensures.steps)
