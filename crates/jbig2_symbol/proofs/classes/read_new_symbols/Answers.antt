use Rattle.std.proofs.Common.{◌+◌, ◌-◌, sym, ◌∙◌, arith}
use Rattle.jbig2_symbol.specs.inner.SymbolViews.{input_view}
use Rattle.jbig2_symbol.proofs.ClassLemmas.{classes-done, classes-fault, classes-next, classes-none}
use Rattle.jbig2_symbol.proofs.classes.read_new_symbols.Goals as goal
use Rattle.jbig2_symbol.proofs.classes.read_new_symbols.Goals.{else-loop-test, then-loop-test+then-len-input}

pub returns-in-Err-clause-value : goal.returns-in-Err-clause-value
returns-in-Err-clause-value g c =
    let r = g.R.ReadClasses in
    classes-fault r.readings (input_view c.args.input.now) _ (c.args.input.now.header.now.num_new_symbols + 1048576 - (c.loop.counter + 1)) c.loop.symbols.height c.loop.symbols.empty c.loop.symbols.bitmaps.items (r.state c.loop.readings) c.in-Err.error _ (omega arith) c.loop.invariant.reads (omega arith) c.in-Err.ensures.value

pub loop-preserved : goal.loop-preserved
loop-preserved g c =
    let r = g.R.ReadClasses in
    record {
      few = omega (arith, c.in-Ok.ensures.few, c.loop.invariant.few);
      some = c.in-Ok.ensures.exact.few;
      paid = omega (arith, c.in-Ok.ensures.exact.paid, c.loop.invariant.paid);
      reads =
          sym (classes-next r.readings (input_view c.args.input.now) _ (c.args.input.now.header.now.num_new_symbols + 1048576 - (c.loop.counter + 1)) c.loop.symbols.height c.loop.symbols.empty c.read_height_class.new.symbols.height c.read_height_class.new.symbols.empty c.loop.symbols.bitmaps.items c.read_height_class.new.symbols.bitmaps.items (r.state c.loop.readings) _ (omega arith) (omega arith) c.in-Ok.ensures.value)
          ∙ c.loop.invariant.reads;
    }

pub returns-clause-value : goal.returns-clause-value
returns-clause-value g c =
    let r = g.R.ReadClasses in
    sym c.loop.invariant.reads
    ∙ elim c.loop-test.branch [
      | else-loop-test w ↦ classes-none r.readings (input_view c.args.input.now) (c.args.input.now.header.now.num_new_symbols + 1048576 - c.loop.counter) c.loop.symbols.height c.loop.symbols.empty c.loop.symbols.bitmaps.items (r.state c.loop.readings) (omega arith)
      | then-loop-test+then-len-input w ↦ classes-done r.readings (input_view c.args.input.now) (c.args.input.now.header.now.num_new_symbols + 1048576 - c.loop.counter) c.loop.symbols.height c.loop.symbols.empty c.loop.symbols.bitmaps.items (r.state c.loop.readings) (omega arith)
    ]
