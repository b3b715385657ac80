use Rattle.std.proofs.Common.{rules}
use Rattle.jbig2_symbol.specs.SymbolBitmaps.{collective_bitmap}
use Rattle.jbig2_symbol.specs.inner.SymbolViews.{input_view, prefixed_view}
use Rattle.jbig2_symbol.proofs.ClassCauses.{tall_class_cause}
use Rattle.jbig2_symbol.proofs.prefixed.PrefixedSymbols.refuse_tall_class.Goals as goal

pub returns-in_err-size-clause-causes : goal.returns-in_err-size-clause-causes
unfolding collective_bitmap
returns-in_err-size-clause-causes g c =
    tall_class_cause (input_view c.args.input.now) c.args.width c.args.height (prefixed_view c.args.self.now) _ c.requires (search rules)

pub returns-in_err-check_rows-clause-causes : goal.returns-in_err-check_rows-clause-causes
unfolding collective_bitmap
returns-in_err-check_rows-clause-causes g c =
    tall_class_cause (input_view c.args.input.now) c.args.width c.args.height (prefixed_view c.args.self.now) _ c.requires (search rules)

pub returns-clause-causes : goal.returns-clause-causes
unfolding collective_bitmap
returns-clause-causes g c =
    tall_class_cause (input_view c.args.input.now) c.args.width c.args.height (prefixed_view c.args.self.now) _ c.requires (search rules)
