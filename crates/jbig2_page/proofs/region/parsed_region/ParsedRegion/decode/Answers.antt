use Rattle.std.proofs.Common.{◌≡◌, ◌+◌, ◌*◌, ◌≤◌, ap, arith}
use Rattle.jbig2_region.specs.RegionInfo.{PlacedRegion}
use Rattle.jbig2_steps.specs.Work.{price_of_bitmap, budget}
use Rattle.jbig2_page.specs.inner.RegionPrices.{price_of_info}
use Rattle.jbig2_text.proofs.PayingLemmas.{made-worth}
use Rattle.jbig2_page.proofs.Paying.{decoded-paid, info-words, made-alone, placed-price}
use Rattle.jbig2_page.proofs.region.parsed_region.ParsedRegion.decode.Goals as goal

pub returns-clause-ahead : goal.returns-clause-ahead
returns-clause-ahead g c =
    let ahead : budget c.decode_into.new.work + 32 * price_of_info c.args.self ≤ budget c.args.work.now =
    decoded-paid c.args.self (budget c.args.work.now) (budget c.pay_bitmaps.new.work) (budget (record c.pay_bitmaps.new.work { steps = c.new_with.new.steps })) (budget c.decode_into.new.work) c.in_ok-pay_bitmaps.ensures.taken (omega (arith, made-worth c.pay_bitmaps.new.work c.region_info-info.result.width c.region_info-info.result.height c.new_with.new.steps c.new_with.ensures.steps, info-words c.args.self c.region_info-info.result c.region_info-info.ensures)) c.decode_into.ensures.paid in
    let same : price_of_bitmap c.new.result.bitmap.width c.new.result.bitmap.height ≡ price_of_info c.args.self =
    placed-price c.args.self c.new.result.bitmap c.decode_into.new.bitmap c.in_ok-decode_into.ensures.value (ap (λ (p : PlacedRegion). p.grid) c.new.ensures) in
    omega (arith, ahead, same)

pub returns-clause-paid : goal.returns-clause-paid
returns-clause-paid g c =
    let ahead : budget c.decode_into.new.work + 32 * price_of_info c.args.self ≤ budget c.args.work.now =
    decoded-paid c.args.self (budget c.args.work.now) (budget c.pay_bitmaps.new.work) (budget (record c.pay_bitmaps.new.work { steps = c.new_with.new.steps })) (budget c.decode_into.new.work) c.in_ok-pay_bitmaps.ensures.taken (omega (arith, made-worth c.pay_bitmaps.new.work c.region_info-info.result.width c.region_info-info.result.height c.new_with.new.steps c.new_with.ensures.steps, info-words c.args.self c.region_info-info.result c.region_info-info.ensures)) c.decode_into.ensures.paid in
    omega (arith, ahead)

pub returns-in_err-decode_into-clause-paid : goal.returns-in_err-decode_into-clause-paid
returns-in_err-decode_into-clause-paid g c =
    let ahead : budget c.decode_into.new.work + 32 * price_of_info c.args.self ≤ budget c.args.work.now =
    decoded-paid c.args.self (budget c.args.work.now) (budget c.pay_bitmaps.new.work) (budget (record c.pay_bitmaps.new.work { steps = c.new_with.new.steps })) (budget c.decode_into.new.work) c.in_ok-pay_bitmaps.ensures.taken (omega (arith, made-worth c.pay_bitmaps.new.work c.region_info-info.result.width c.region_info-info.result.height c.new_with.new.steps c.new_with.ensures.steps, info-words c.args.self c.region_info-info.result c.region_info-info.ensures)) c.decode_into.ensures.paid in
    omega (arith, ahead)

pub returns-in_err-bitmap-clause-paid : goal.returns-in_err-bitmap-clause-paid
returns-in_err-bitmap-clause-paid g c =
    made-alone c.args.self (budget c.args.work.now) (budget c.pay_bitmaps.new.work) (budget (record c.pay_bitmaps.new.work { steps = c.new_with.new.steps })) c.in_ok-pay_bitmaps.ensures.taken (omega (arith, made-worth c.pay_bitmaps.new.work c.region_info-info.result.width c.region_info-info.result.height c.new_with.new.steps c.new_with.ensures.steps, info-words c.args.self c.region_info-info.result c.region_info-info.ensures))
