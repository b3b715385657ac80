use Rattle.jbig2_page.proofs.KeptLemmas.{found-named}
use Rattle.jbig2_page.specs.inner.KeptViews.{kept_symbols_view}
use Rattle.jbig2_page.proofs.kept.names.Lookup.symbols.Goals as goal

pub returns : goal.returns
returns g c =
    found-named kept_symbols_view _ c.args.number _ _ _ _ c.symbols-own.ensures c.symbols-globals.ensures c.kept_of.ensures
