use Rattle.jbig2_region.specs.inner.RegionViews.{region_view}
use Rattle.jbig2_page.proofs.KeptLemmas.{found-first}
use Rattle.jbig2_page.proofs.region.refinement.region_named.Goals as goal

pub returns : goal.returns
returns g c = found-first region_view _ c.args.number c.args.regions.now c.first_under.ensures
