use Rattle.std.proofs.Common.{[], ◌∷◌, length, length-append, refl, sym, ap, ◌∙◌, inr, arith}
use Rattle.std.specs.Prelude.{ℕ, Some, None}
use Rattle.jbig2_symbol.specs.inner.SymbolViews.{input_view}
use Rattle.jbig2_symbol.proofs.ClassLemmas.{symbols-done, symbols-fault, symbols-next, symbols-undrawn}
use Rattle.jbig2_symbol.proofs.classes.read_symbols.Goals as goal

pub returns-in-Ok-None-clause-value : goal.returns-in-Ok-None-clause-value
returns-in-Ok-None-clause-value g c =
    let r = g.R.ReadSymbols in
    let none = rw c.in-Ok-None.field-0-is at c.in-Ok-None.ensures in
    sym c.loop-width.invariant.reads
    ∙ symbols-done r.readings (input_view c.args.input.now) c.loop-width.widths.left c.args.height c.loop-width.widths.width c.loop-width.widths.total c.loop-width.bitmaps.items (r.state c.loop-width.readings) (r.state c.read_next.new.readings) None refl none.value

pub returns-in-Err-clause-value : goal.returns-in-Err-clause-value
returns-in-Err-clause-value g c =
    let r = g.R.ReadSymbols in
    inr
    (sym c.loop-width.invariant.reads
    ∙ symbols-fault r.readings (input_view c.args.input.now) c.loop-width.widths.left c.args.height c.loop-width.widths.width c.loop-width.widths.total c.loop-width.bitmaps.items (r.state c.loop-width.readings) c.in-Err.error c.in-Err.ensures.value)

pub returns-in-Ok-None-clause-exact : goal.returns-in-Ok-None-clause-exact
returns-in-Ok-None-clause-exact g c = record {
  few = omega (arith, c.loop-width.invariant.all);
  paid = omega (arith, c.read_next.ensures.paid, c.loop-width.invariant.paid);
}

pub returns-in-Err-symbol_bitmap-clause-value : goal.returns-in-Err-symbol_bitmap-clause-value
returns-in-Err-symbol_bitmap-clause-value g c =
    let r = g.R.ReadSymbols in
    let some = rw c.in-Ok-Some.field-0-is at c.in-Ok-Some.ensures in
    let after = c.read_next.new.self in
    let pair : ℕ × ℕ = (c.in-Ok-Some.width, after.total) in
    symbols-undrawn r.readings (input_view c.args.input.now) c.loop-width.widths.left after.left c.args.height c.loop-width.widths.width c.loop-width.widths.total c.loop-width.bitmaps.items (r.state c.loop-width.readings) (r.state c.read_next.new.readings) (Some pair) pair c.in-Err-symbol_bitmap.error _ (let more = some.next_width.0 in omega arith) refl some.value c.loop-width.invariant.reads (rw c.deref.ensures.value at c.in-Err-symbol_bitmap.ensures.value)

pub loop-width-preserved : goal.loop-width-preserved
loop-width-preserved g c =
    let r = g.R.ReadSymbols in
    let some = rw c.in-Ok-Some.field-0-is at c.in-Ok-Some.ensures in
    let after = c.read_next.new.self in
    let pair : ℕ × ℕ = (c.in-Ok-Some.width, after.total) in
    record {
      reads =
          rw some.next_width.1
          (sym (symbols-next r.readings (input_view c.args.input.now) c.loop-width.widths.left after.left c.args.height c.loop-width.widths.width c.loop-width.widths.total c.loop-width.bitmaps.items c.push.new.self.items c.in-Ok.symbol (r.state c.loop-width.readings) (r.state c.read_next.new.readings) (r.state c.symbol_bitmap.new.self) (Some pair) pair (let more = some.next_width.0 in omega arith) refl c.in_ok-push.ensures.items some.value (rw c.deref.ensures.value at c.in-Ok.ensures.value))
          ∙ c.loop-width.invariant.reads);
      all = omega (arith, some.next_width.0, length-append c.loop-width.bitmaps.items (c.in-Ok.symbol ∷ []), ap length c.in_ok-push.ensures.items, c.loop-width.invariant.all);
      paid = omega (arith, c.read_next.ensures.paid, c.symbol_bitmap.ensures.paid, length-append c.loop-width.bitmaps.items (c.in-Ok.symbol ∷ []), ap length c.in_ok-push.ensures.items, c.loop-width.invariant.paid);
    }
