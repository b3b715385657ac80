use Rattle.std.proofs.Common.{rules}
use Rattle.jbig2_symbol.specs.HeightClasses.{next_width}
use Rattle.jbig2_symbol.specs.inner.SymbolViews.{input_view}
use Rattle.jbig2_symbol.proofs.ReadingCauses.{widths_cause}
use Rattle.jbig2_symbol.proofs.widths.RunningWidths.read_next.Goals as goal

pub returns-in_err-difference-clause-causes : goal.returns-in_err-difference-clause-causes
unfolding next_width
returns-in_err-difference-clause-causes g c =
    let r = g.R.ReadSymbols in
    λ law. widths_cause r.causes r.readings law (input_view c.args.input.now) c.args.self.now.left c.args.self.now.width c.args.self.now.total (r.state c.args.readings.now) _ (search rules)

pub returns-clause-causes : goal.returns-clause-causes
unfolding next_width
returns-clause-causes g c =
    let r = g.R.ReadSymbols in
    λ law. widths_cause r.causes r.readings law (input_view c.args.input.now) c.args.self.now.left c.args.self.now.width c.args.self.now.total (r.state c.args.readings.now) _ (search rules)
