use Rattle.std.proofs.Common.{rules, List}
use Rattle.jbig2_base.proofs.CauseSteps.{err-gives}
use Rattle.jbig2_coder.specs.PrefixCode.{Member}
use Rattle.jbig2_symbol.specs.SymbolBitmaps.{id_codes}
use Rattle.jbig2_symbol.specs.inner.HeaderViews.{header_view}
use Rattle.jbig2_symbol.proofs.IdCodes.{id_codes_cause}
use Rattle.jbig2_symbol.proofs.aggregates.id_codes.Goals as goal

pub returns-clause-causes : goal.returns-clause-causes
returns-clause-causes g c =
    let meant = id_codes (header_view c.args.header.now) c.args.symbols in
    id_codes_cause (header_view c.args.header.now) c.args.symbols _ (err-gives (λ (t : List Member). t) c.build_uniform.result meant (search rules))
