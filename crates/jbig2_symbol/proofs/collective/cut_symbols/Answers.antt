use Rattle.std.proofs.Common.{◌+◌, List, [], ◌∷◌, drop, get_or, length, length-append, refl, sym, ap, ◌∙◌, arith}
use Rattle.jbig2_base.specs.Grid.{Grid, part_of}
use Rattle.jbig2_symbol.specs.SymbolBitmaps.{symbol_cut, symbols_cut}
use Rattle.jbig2_symbol.proofs.PayingLemmas.{copy-paid, unmade-paid}
use Rattle.jbig2_symbol.proofs.CutLemmas.{cut-all, cut-fault, cut-next, sum-next}
use Rattle.jbig2_symbol.specs.inner.FunctionResults.{symbols_after}
use Rattle.jbig2_symbol.proofs.collective.cut_symbols.Goals as goal

pub returns-clause-value : goal.returns-clause-value
returns-clause-value g c = cut-all c.args.collective.now c.args.height c.loop-width.left c.args.widths.now c.loop-width.width-index c.loop-width.symbols.items _ (omega arith) c.loop-width.invariant.cut

pub returns-in-Err-clause-value : goal.returns-in-Err-clause-value
unfolding symbol_cut
returns-in-Err-clause-value g c =
    cut-fault c.args.collective.now c.args.height c.loop-width.left c.args.widths.now c.loop-width.width-index c.loop-width.symbols.items c.in-Err.error _ (omega arith) c.loop-width.invariant.cut c.in-Err.ensures.value

pub loop-width-preserved : goal.loop-width-preserved
unfolding symbol_cut
loop-width-preserved g c = record {
  place = sum-next c.args.widths.now c.loop-width.width-index c.loop-width.left 4294967295 (omega arith) c.loop-width.invariant.place;
  cut =
      ap (λ (symbols : List Grid). symbols_after symbols (symbols_cut c.args.collective.now c.args.height (c.loop-width.left + get_or c.args.widths.now c.loop-width.width-index 0) (drop (c.loop-width.width-index + 1) c.args.widths.now))) c.in_ok-push.ensures.items
      ∙ sym (cut-next c.args.collective.now c.args.height c.loop-width.left c.args.widths.now c.loop-width.width-index c.loop-width.symbols.items c.in-Ok.symbol (omega arith) c.in-Ok.ensures.value)
      ∙ c.loop-width.invariant.cut;
  count = omega (arith, length-append c.loop-width.symbols.items (c.in-Ok.symbol ∷ []), ap length c.in_ok-push.ensures.items, c.loop-width.invariant.count);
  paid = omega (arith, copy-paid c.loop-width.work c.pay_bitmap.new.self c.part.new.steps (part_of c.args.collective.now (record { left = c.loop-width.left; top = 0; width = get_or c.args.widths.now c.loop-width.width-index 0; height = c.args.height })) _ _ refl refl c.in_ok-pay_bitmap.ensures.taken c.in-Ok.ensures.steps, c.loop-width.invariant.paid);
}

pub returns-in-Err-clause-paid : goal.returns-in-Err-clause-paid
returns-in-Err-clause-paid g c = omega (arith, unmade-paid c.loop-width.work c.pay_bitmap.new.self c.part.new.steps (get_or c.args.widths.now c.loop-width.width-index 0) c.args.height c.in_ok-pay_bitmap.ensures.taken c.in-Err.ensures.refused, c.loop-width.invariant.paid)

pub returns-in_err-push-clause-paid : goal.returns-in_err-push-clause-paid
returns-in_err-push-clause-paid g c = omega (arith, copy-paid c.loop-width.work c.pay_bitmap.new.self c.part.new.steps (part_of c.args.collective.now (record { left = c.loop-width.left; top = 0; width = get_or c.args.widths.now c.loop-width.width-index 0; height = c.args.height })) _ _ refl refl c.in_ok-pay_bitmap.ensures.taken c.in-Ok.ensures.steps, c.loop-width.invariant.paid)

pub overflow_add-left : goal.overflow_add-left
overflow_add-left g c =
    let next = sum-next c.args.widths.now c.loop-width.width-index c.loop-width.left 4294967295 (omega arith) c.loop-width.invariant.place in
    omega (arith, next)
