use Rattle.std.proofs.Common.{rules}
use Rattle.jbig2_symbol.specs.SymbolBitmaps.{instance_count, prefixed_aggregate}
use Rattle.jbig2_symbol.specs.inner.SymbolViews.{input_view, prefixed_view}
use Rattle.jbig2_symbol.proofs.SymbolCauses.{prefixed_aggregate_cause}
use Rattle.jbig2_symbol.proofs.prefixed.PrefixedSymbols.read_aggregate.Goals as goal

pub returns-in_err-number-clause-causes : goal.returns-in_err-number-clause-causes
unfolding prefixed_aggregate instance_count
returns-in_err-number-clause-causes g c =
    prefixed_aggregate_cause (input_view c.args.input.now) c.args.new.now c.args.size.width c.args.size.height (prefixed_view c.args.self.now) _ (search rules)

pub returns-in_err-count-clause-causes : goal.returns-in_err-count-clause-causes
unfolding prefixed_aggregate instance_count
returns-in_err-count-clause-causes g c =
    prefixed_aggregate_cause (input_view c.args.input.now) c.args.new.now c.args.size.width c.args.size.height (prefixed_view c.args.self.now) _ (search rules)

pub returns-clause-causes : goal.returns-clause-causes
unfolding prefixed_aggregate instance_count
returns-clause-causes g c =
    prefixed_aggregate_cause (input_view c.args.input.now) c.args.new.now c.args.size.width c.args.size.height (prefixed_view c.args.self.now) _ (search rules)
