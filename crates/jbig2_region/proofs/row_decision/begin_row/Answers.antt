use Rattle.std.proofs.Common.{rules, subst, sym, ℕ, Option}
use Rattle.jbig2_region.specs.inner.RegionStates.{BeginsRow, region_state}
use Rattle.jbig2_region.proofs.RasterLemmas.{opening-plainly}
use Rattle.jbig2_region.proofs.row_decision.begin_row.Goals as goal

pub returns-in_default-clause-row : goal.returns-in_default-clause-row
returns-in_default-clause-row g c = λ w h grid r predicted has_decoded. opening-plainly w h _ r _ grid c.args.decoder.now c.args.contexts.now (search rules) predicted has_decoded

pub returns-clause-row : goal.returns-clause-row
returns-clause-row g c = λ w h grid r predicted has_decoded.
    subst (λ (o : Option ℕ). BeginsRow w h o r c.decide_row.result c.args.decoder.now (region_state grid c.decide_row.new.decoder c.decide_row.new.contexts)) (sym c.in-Some.is) (c.decide_row.ensures.row w h grid r predicted has_decoded)
