use Rattle.std.proofs.Common.{◌<◌, length, rules}
use Rattle.jbig2_symbol.specs.inner.SymbolViews.{input_view, prefixed_view}
use Rattle.jbig2_symbol.proofs.TallClasses.{tall-refused}
use Rattle.jbig2_symbol.proofs.prefixed.PrefixedSymbols.read_collective_class.Goals as goal

pub returns-then-not-is_empty-clause-value : goal.returns-then-not-is_empty-clause-value
returns-then-not-is_empty-clause-value g c =
    let w = c.in_ok-widths.widths in
    let before = c.args.bitmaps.now.items in
    let some : 0 < length w.each.items = search rules in
    tall-refused (input_view c.args.input.now) c.args.class.height c.args.class.empty w.total before before w.each.items (prefixed_view c.args.self.now) (prefixed_view c.read_widths.new.readings) (prefixed_view c.refuse_tall_class.new.self) c.refuse_tall_class.result (search rules) (search rules) (search rules) (search rules) some c.refuse_tall_class.ensures.value
