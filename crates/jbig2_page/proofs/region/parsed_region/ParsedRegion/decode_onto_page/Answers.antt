use Rattle.std.proofs.Common.{◌≡◌, ◌≤◌, inl, ap, arith}
use Rattle.std.proofs.lemmas.Result.{err_from_is_err_and}
use Rattle.jbig2_base.specs.declared.error.DecodeError.TheVariants.{OutOfMemory}
use Rattle.jbig2_region.specs.declared.region_info.RegionSegmentInfo.{RegionSegmentInfo}
use Rattle.jbig2_steps.specs.Work.{budget}
use Rattle.jbig2_text.proofs.PayingLemmas.{made-worth}
use Rattle.jbig2_page.proofs.Paying.{blank-memory, info-words, placed-paid}
use Rattle.jbig2_page.proofs.region.parsed_region.ParsedRegion.decode_onto_page.Goals as goal

pub returns-in-Ok-clause-paid : goal.returns-in-Ok-clause-paid
returns-in-Ok-clause-paid g c =
    omega (arith, placed-paid c.args.self (budget c.args.work.now) (budget c.pay_bitmaps.new.work) (budget c.decode_into.new.work) c.in_ok-pay_bitmaps.ensures.taken c.decode_into.ensures.paid)

pub returns-in_err-reinitialize-in-Err-clause-value : goal.returns-in_err-reinitialize-in-Err-clause-value
returns-in_err-reinitialize-in-Err-clause-value g c =
    let e = err_from_is_err_and c.from_residual-in_err-reinitialize-in-Err.result c.from_residual-in_err-reinitialize-in-Err.ensures.1 in
    let info = c.region_info-info.result in
    let columns : info.width ≤ 65535 = omega (arith, c.requires.whole.columns, ap (λ (i : RegionSegmentInfo). i.width) c.region_info-info.ensures) in
    let rows : info.height ≤ 65535 = omega (arith, c.requires.whole.rows, ap (λ (i : RegionSegmentInfo). i.height) c.region_info-info.ensures) in
    let memory : c.in_err-reinitialize-in-Err.field-0.0 ≡ OutOfMemory = blank-memory info.width info.height c.initial_pixel.result c.in_err-reinitialize-in-Err.field-0.0 columns rows c.in_err-reinitialize-in-Err.ensures.value in
    rw (e.1, e.2) (inl memory)

pub returns-in_err-reinitialize-in-Err-clause-paid : goal.returns-in_err-reinitialize-in-Err-clause-paid
returns-in_err-reinitialize-in-Err-clause-paid g c =
    omega (arith, placed-paid c.args.self (budget c.args.work.now) (budget c.pay_bitmaps.new.work) (budget c.decode_into.new.work) c.in_ok-pay_bitmaps.ensures.taken c.decode_into.ensures.paid, made-worth c.decode_into.new.work c.region_info-info.result.width c.region_info-info.result.height c.reinitialize.new.steps c.reinitialize.ensures.steps, info-words c.args.self c.region_info-info.result c.region_info-info.ensures)

pub returns-clause-paid : goal.returns-clause-paid
returns-clause-paid g c =
    omega (arith, placed-paid c.args.self (budget c.args.work.now) (budget c.pay_bitmaps.new.work) (budget c.decode_into.new.work) c.in_ok-pay_bitmaps.ensures.taken c.decode_into.ensures.paid, made-worth c.decode_into.new.work c.region_info-info.result.width c.region_info-info.result.height c.reinitialize.new.steps c.reinitialize.ensures.steps, info-words c.args.self c.region_info-info.result c.region_info-info.ensures)
