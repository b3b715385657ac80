use Rattle.std.proofs.Common.{rules}
use Rattle.jbig2_coder.specs.inner.TableViews.{customs_view}
use Rattle.jbig2_symbol.specs.SymbolReading.{symbol_tables}
use Rattle.jbig2_symbol.proofs.ReadingCauses.{symbol_tables_cause}
use Rattle.jbig2_symbol.proofs.tables.symbol_tables.Goals as goal

pub returns-in_err-heights-clause-causes : goal.returns-in_err-heights-clause-causes
unfolding symbol_tables
returns-in_err-heights-clause-causes g c = symbol_tables_cause c.args.flags.now (customs_view c.args.referred.now) _ (search rules)

pub returns-in_err-widths-clause-causes : goal.returns-in_err-widths-clause-causes
unfolding symbol_tables
returns-in_err-widths-clause-causes g c = symbol_tables_cause c.args.flags.now (customs_view c.args.referred.now) _ (search rules)

pub returns-in_err-sizes-clause-causes : goal.returns-in_err-sizes-clause-causes
unfolding symbol_tables
returns-in_err-sizes-clause-causes g c = symbol_tables_cause c.args.flags.now (customs_view c.args.referred.now) _ (search rules)

pub returns-in_err-counts-clause-causes : goal.returns-in_err-counts-clause-causes
unfolding symbol_tables
returns-in_err-counts-clause-causes g c = symbol_tables_cause c.args.flags.now (customs_view c.args.referred.now) _ (search rules)

pub returns-clause-causes : goal.returns-clause-causes
returns-clause-causes g c = symbol_tables_cause c.args.flags.now (customs_view c.args.referred.now) _ tt
