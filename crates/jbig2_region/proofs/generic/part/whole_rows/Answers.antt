use Rattle.std.proofs.Common.{◌≡◌, false, length, ap, arith}
use Rattle.jbig2_base.specs.Grid.{Grid}
use Rattle.jbig2_base.proofs.FillLemmas.{white-made}
use Rattle.jbig2_base.proofs.MadeLemmas.{made-counted, words-same, made-paid}
use Rattle.jbig2_base.proofs.Prices.{price-same}
use Rattle.jbig2_mmr.proofs.Prices.{mmr-paid}
use Rattle.jbig2_region.proofs.GenericPrices.{whole-rows-paid}
use Rattle.jbig2_region.proofs.generic.part.whole_rows.Goals as goal

pub returns-clause-paid : goal.returns-clause-paid
returns-clause-paid g c =
    let info = c.args.header.now.region_info in
    let white = (white-made info.width info.height false c.in_ok-bitmap.bitmap c.in_ok-bitmap.ensures.value).1 in
    let w : c.in_ok-bitmap.bitmap.width ≡ info.width = ap (λ (b : Grid). b.width) white in
    let h : c.in_ok-bitmap.bitmap.height ≡ info.height = ap (λ (b : Grid). b.height) white in
    let paid = whole-rows-paid c.args.header.now.template _ _ _ _ c.new.new.steps c.count_coded_rows-rows.new.steps c.count_coded_rows-rows.ensures.steps in
    omega (arith, paid, price-same c.in_ok-bitmap.bitmap.width info.width c.in_ok-bitmap.bitmap.height info.height w h, words-same c.in_ok-bitmap.bitmap.width info.width c.in_ok-bitmap.bitmap.height info.height w h, made-counted info.width info.height c.args.steps.now c.new.new.steps c.new.ensures.steps)

pub returns-then-header-clause-paid : goal.returns-then-header-clause-paid
returns-then-header-clause-paid g c =
    let info = c.args.header.now.region_info in
    let bitmap = c.in_ok-bitmap.bitmap in
    let white = (white-made info.width info.height false bitmap c.in_ok-bitmap.ensures.value).1 in
    let w : bitmap.width ≡ info.width = ap (λ (b : Grid). b.width) white in
    let h : bitmap.height ≡ info.height = ap (λ (b : Grid). b.height) white in
    let paid = mmr-paid bitmap c.args.header.now.bytes.now (length c.args.header.now.bytes.now) c.new.new.steps c.count_rows.new.steps (omega arith) c.count_rows.ensures.lanes c.count_rows.ensures.work in
    omega (arith, paid, price-same bitmap.width info.width bitmap.height info.height w h, words-same bitmap.width info.width bitmap.height info.height w h, made-counted info.width info.height c.args.steps.now c.new.new.steps c.new.ensures.steps)

pub returns-in_err-bitmap-clause-paid : goal.returns-in_err-bitmap-clause-paid
returns-in_err-bitmap-clause-paid g c =
    let info = c.args.header.now.region_info in
    omega (arith, made-paid info.width info.height c.args.steps.now c.new.new.steps c.new.ensures.steps)

pub returns-in_err-fresh_contexts-clause-paid : goal.returns-in_err-fresh_contexts-clause-paid
returns-in_err-fresh_contexts-clause-paid g c =
    let info = c.args.header.now.region_info in
    omega (arith, made-paid info.width info.height c.args.steps.now c.new.new.steps c.new.ensures.steps)
