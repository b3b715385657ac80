use Rattle.std.proofs.Common.{rules}
use Rattle.jbig2_symbol.specs.SymbolBitmaps.{collective_bitmap}
use Rattle.jbig2_symbol.specs.inner.SymbolViews.{input_view, prefixed_view}
use Rattle.jbig2_symbol.proofs.ClassCauses.{collective_cause}
use Rattle.jbig2_symbol.proofs.prefixed.PrefixedSymbols.read_collective.Goals as goal

pub returns-in_err-size-clause-causes : goal.returns-in_err-size-clause-causes
unfolding collective_bitmap
returns-in_err-size-clause-causes g c =
    collective_cause (input_view c.args.input.now) c.args.width c.args.height (prefixed_view c.args.self.now) _ (search rules)

pub returns-clause-causes : goal.returns-clause-causes
unfolding collective_bitmap
returns-clause-causes g c =
    collective_cause (input_view c.args.input.now) c.args.width c.args.height (prefixed_view c.args.self.now) _ (search rules)
