use Rattle.std.proofs.Common.{◌≡◌, ℕ, ◌+◌, ◌*◌, ◌/◌, ◌≤◌, ap, subst, arith, rules}
use Rattle.jbig2_base.specs.Counts.{WritesWithin}
use Rattle.jbig2_base.specs.Grid.{Grid}
use Rattle.jbig2_steps.specs.Work.{budget}
use Rattle.jbig2_symbol.proofs.CutLemmas.{raw-made, raw-none, wide-blank}
use Rattle.jbig2_base.proofs.FillLemmas.{blank-filled}
use Rattle.jbig2_symbol.proofs.PayingLemmas.{empty-worth, raw-paid, row-worth, wide-worth}
use Rattle.jbig2_symbol.proofs.collective.read_raw_rows.Goals as goal

pub returns-then-width-eq0-clause-value : goal.returns-then-width-eq0-clause-value
returns-then-width-eq0-clause-value g c = raw-none c.args.width c.args.height c.in_ok-empty.empty c.args.reader.now.bytes c.in_ok-bytes.bytes.now c.raw_bytes.new.reader.bytes c.if-width-eq0.true c.in_ok-bytes.ensures.value c.in_ok-empty.ensures.value

pub loop-y-init : goal.loop-y-init
loop-y-init g c = record {
  filled = blank-filled _ _ _ _ (wide-blank c.args.width c.args.height c.in_ok-bitmap.bitmap c.in_ok-bitmap.ensures.value);
  paid = omega arith;
}

pub loop-y-preserved : goal.loop-y-preserved
loop-y-preserved g c =
    let wide : c.loop-y.bitmap.width ≡ c.args.width = ap (λ (b : Grid). b.width) c.loop-y.invariant.filled in
    let written = subst (λ (n : ℕ). WritesWithin ((n + 7) / 8) c.loop-y.work.steps c.fill_row.new.steps) wide c.fill_row.ensures.steps in
    record {
      filled = search rules;
      paid = omega (arith, row-worth c.loop-y.work c.fill_row.new.steps ((c.args.width + 7) / 8) written, c.loop-y.invariant.paid);
    }

pub returns-clause-value : goal.returns-clause-value
returns-clause-value g c = raw-made c.args.width c.args.height c.loop-y.y c.loop-y.bitmap c.args.reader.now.bytes c.in_ok-bytes.bytes.now _ c.in_ok-bytes.ensures.value (omega arith) c.loop-y.invariant.filled

pub returns-clause-paid : goal.returns-clause-paid
returns-clause-paid g c =
    let all : c.loop-y.y ≡ c.args.height = omega arith in
    let rows = subst (λ (n : ℕ). budget c.loop-y.work ≤ budget (record c.pay_bitmap.new.self { steps = c.new_wide-2.new.steps }) + 3 * (n * ((c.args.width + 7) / 8))) all c.loop-y.invariant.paid in
    omega (arith, rows, wide-worth c.pay_bitmap.new.self c.args.width c.args.height c.new_wide-2.new.steps c.new_wide-2.ensures.steps, raw-paid c.args.width c.args.height, c.in_ok-pay_bitmap.ensures.taken)

pub returns-then-width-eq0-clause-paid : goal.returns-then-width-eq0-clause-paid
returns-then-width-eq0-clause-paid g c = empty-worth c.args.work.now c.args.width c.args.height c.new_wide.new.steps c.if-width-eq0.true c.new_wide.ensures.steps

pub returns-in_err-empty-clause-paid : goal.returns-in_err-empty-clause-paid
returns-in_err-empty-clause-paid g c = empty-worth c.args.work.now c.args.width c.args.height c.new_wide.new.steps c.if-width-eq0.true c.new_wide.ensures.steps

pub returns-in_err-bitmap-clause-paid : goal.returns-in_err-bitmap-clause-paid
returns-in_err-bitmap-clause-paid g c = omega (arith, wide-worth c.pay_bitmap.new.self c.args.width c.args.height c.new_wide-2.new.steps c.new_wide-2.ensures.steps, raw-paid c.args.width c.args.height, c.in_ok-pay_bitmap.ensures.taken)
