use Rattle.jbig2_page.proofs.KeptLemmas.{found-named}
use Rattle.jbig2_page.specs.inner.KeptViews.{patterns_view}
use Rattle.jbig2_page.proofs.kept.names.Lookup.patterns.Goals as goal

pub returns : goal.returns
returns g c =
    found-named patterns_view _ c.args.number _ _ _ _ c.patterns-own.ensures c.patterns-globals.ensures c.kept_of.ensures
