use Rattle.std.proofs.Common.{[], ◌∷◌, length, length-append, refl, sym, ap, ◌∙◌, inr, arith}
use Rattle.std.specs.Prelude.{Some, None}
use Rattle.jbig2_symbol.specs.inner.SymbolViews.{input_view}
use Rattle.jbig2_symbol.proofs.ClassLemmas.{sum-pushed, widths-done, widths-fault, widths-next}
use Rattle.jbig2_symbol.proofs.widths.read_widths.Goals as goal

pub returns-in-Ok-None-clause-value : goal.returns-in-Ok-None-clause-value
returns-in-Ok-None-clause-value g c =
    let r = g.R.ReadSymbols in
    let none = rw c.in-Ok-None.field-0-is at c.in-Ok-None.ensures in
    sym c.loop-width.invariant.reads
    ∙ widths-done r.readings (input_view c.args.input.now) c.loop-width.widths.left c.loop-width.widths.width c.loop-width.widths.total c.loop-width.each.items (r.state c.loop-width.readings) (r.state c.read_next.new.readings) None refl none.value

pub returns-in-Err-clause-value : goal.returns-in-Err-clause-value
returns-in-Err-clause-value g c =
    let r = g.R.ReadSymbols in
    inr
    (sym c.loop-width.invariant.reads
    ∙ widths-fault r.readings (input_view c.args.input.now) c.loop-width.widths.left c.loop-width.widths.width c.loop-width.widths.total c.loop-width.each.items (r.state c.loop-width.readings) c.in-Err.error c.in-Err.ensures.value)

pub invariant_of-result : goal.invariant_of-result
invariant_of-result g c =
    let none = rw c.in-Ok-None.field-0-is at c.in-Ok-None.ensures in
    record { summed = rw none.next_width c.loop-width.invariant.total }

pub loop-width-preserved : goal.loop-width-preserved
loop-width-preserved g c =
    let r = g.R.ReadSymbols in
    let some = rw c.in-Ok-Some.field-0-is at c.in-Ok-Some.ensures in
    let after = c.read_next.new.self in
    record {
      total = sum-pushed c.loop-width.each.items c.push.new.self.items c.loop-width.widths.total c.in-Ok-Some.width after.total c.loop-width.invariant.total c.in_ok-push.ensures.items some.next_width.2;
      reads =
          rw some.next_width.1
          (sym (widths-next r.readings (input_view c.args.input.now) c.loop-width.widths.left after.left c.loop-width.widths.width c.loop-width.widths.total c.loop-width.each.items c.push.new.self.items (r.state c.loop-width.readings) (r.state c.read_next.new.readings) (Some (c.in-Ok-Some.width, after.total)) (c.in-Ok-Some.width, after.total) (let more = some.next_width.0 in omega arith) refl c.in_ok-push.ensures.items some.value)
          ∙ c.loop-width.invariant.reads);
      all = omega (arith, some.next_width.0, length-append c.loop-width.each.items (c.in-Ok-Some.width ∷ []), ap length c.in_ok-push.ensures.items, c.loop-width.invariant.all);
      paid = omega (arith, c.read_next.ensures.paid, length-append c.loop-width.each.items (c.in-Ok-Some.width ∷ []), ap length c.in_ok-push.ensures.items, c.loop-width.invariant.paid);
    }
