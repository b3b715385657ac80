use Rattle.std.proofs.Common.{Ok, arith, rules}
use Rattle.jbig2_base.proofs.Prices.{price-same}
use Rattle.jbig2_base.proofs.ReaderLemmas.{bytes_read-start}
use Rattle.jbig2_mmr.proofs.Prices.{decode-paid}
use Rattle.jbig2_base.proofs.MadeLemmas.{words-same}
use Rattle.jbig2_text.proofs.PayingLemmas.{beside-worth}
use Rattle.jbig2_symbol.proofs.PayingLemmas.{bytes-many, raw-paid, wide-worth}
use Rattle.jbig2_symbol.proofs.collective.read_mmr_rows.Goals as goal

pub returns-in_err-decode-clause-paid : goal.returns-in_err-decode-clause-paid
returns-in_err-decode-clause-paid g c =
    let b = c.in_ok-bitmap.bitmap in
    let within = decode-paid c.decode.result b c.decode.new.bitmap c.args.strict c.in_ok-bytes.bytes.now c.new_wide.new.steps c.decode.new.steps c.decode.ensures.value c.decode.ensures.lanes c.decode.ensures.work in
    let more = beside-worth (record c.pay_bitmap.new.self { steps = c.new_wide.new.steps }) c.decode.new.steps _ _ within in
    let made = wide-worth c.pay_bitmap.new.self c.args.sides.width c.args.sides.height c.new_wide.new.steps c.new_wide.ensures.steps in
    omega (arith, more, c.in_ok-pay.ensures.taken, c.in_ok-pay_bitmap.ensures.taken, bytes-many c.args.size c.args.reader.now.bytes c.in_ok-bytes.bytes.now _ c.in_ok-bytes.ensures.parses.value, price-same b.width c.args.sides.width b.height c.args.sides.height (search rules) (search rules), words-same b.width c.args.sides.width b.height c.args.sides.height (search rules) (search rules), made)

pub returns-clause-paid : goal.returns-clause-paid
returns-clause-paid g c =
    let b = c.in_ok-bitmap.bitmap in
    let within = decode-paid c.decode.result b c.decode.new.bitmap c.args.strict c.in_ok-bytes.bytes.now c.new_wide.new.steps c.decode.new.steps c.decode.ensures.value c.decode.ensures.lanes c.decode.ensures.work in
    let more = beside-worth (record c.pay_bitmap.new.self { steps = c.new_wide.new.steps }) c.decode.new.steps _ _ within in
    let made = wide-worth c.pay_bitmap.new.self c.args.sides.width c.args.sides.height c.new_wide.new.steps c.new_wide.ensures.steps in
    omega (arith, more, c.in_ok-pay.ensures.taken, c.in_ok-pay_bitmap.ensures.taken, bytes-many c.args.size c.args.reader.now.bytes c.in_ok-bytes.bytes.now _ c.in_ok-bytes.ensures.parses.value, price-same b.width c.args.sides.width b.height c.args.sides.height (search rules) (search rules), words-same b.width c.args.sides.width b.height c.args.sides.height (search rules) (search rules), made)

pub returns-clause-place : goal.returns-clause-place
returns-clause-place g c = bytes_read-start (Ok c.in_ok-bytes.bytes.now) c.args.size c.args.reader.now c.bytes_field.new.reader c.in_ok-bytes.ensures.place c.in_ok-bytes.ensures.taken

pub returns-in_err-bitmap-clause-paid : goal.returns-in_err-bitmap-clause-paid
returns-in_err-bitmap-clause-paid g c = omega (arith, wide-worth c.pay_bitmap.new.self c.args.sides.width c.args.sides.height c.new_wide.new.steps c.new_wide.ensures.steps, raw-paid c.args.sides.width c.args.sides.height, c.in_ok-pay.ensures.taken, c.in_ok-pay_bitmap.ensures.taken)
