use Rattle.std.proofs.Common.{◌∙◌, ap, arith, subst, sym}
use Rattle.jbig2_region.specs.inner.RegionViews.{region_view}
use Rattle.jbig2_page.specs.Page.{with_drawn_region}
use Rattle.jbig2_page.specs.declared.region.parsed_region.ParsedRegion.{ParsedRegion}
use Rattle.jbig2_page.specs.inner.ParsedRegions.{IsDecodable, placed_region}
use Rattle.jbig2_page.proofs.SeenRows.{generic-shown, refined-shown}
use Rattle.jbig2_page.proofs.region.parsed_region.ParsedRegion.above_end.Goals as goal

pub returns-else-header-clause-same_page : goal.returns-else-header-clause-same_page
returns-else-header-clause-same_page g c = λ d height.
    let rows = c.rows_above_end-header in
    let parsed = subst (λ (r : ParsedRegion _). IsDecodable r) c.in-Generic.is c.requires in
    generic-shown g.row.A.Denot c.in-Generic.header rows.result d parsed c.if-header.false rows.ensures.fewer
    (λ j n row is less. rows.ensures.others j n (omega (arith, row, height)) is less)
    ∙ ap (λ (r : ParsedRegion _). with_drawn_region d (placed_region r)) (sym c.in-Generic.is)

pub returns-else-height-header-clause-same_page : goal.returns-else-height-header-clause-same_page
returns-else-height-header-clause-same_page g c = λ d height.
    let header = c.in-Refinement.header in
    let rows = c.rows_above_end-header-in-Refinement in
    let parsed = subst (λ (r : ParsedRegion _). IsDecodable r) c.in-Refinement.is c.requires in
    refined-shown header (region_view c.in-Refinement.reference.now) rows.result d parsed rows.ensures.fewer (omega (arith, c.if-height-header.false, c.height.ensures.value))
    (λ j n row is less. rows.ensures.others j n (omega (arith, row, height)) is less)
    ∙ ap (λ (r : ParsedRegion _). with_drawn_region d (placed_region r)) (sym c.in-Refinement.is)

pub returns-else-height-header-2-clause-same_page : goal.returns-else-height-header-2-clause-same_page
returns-else-height-header-2-clause-same_page g c = λ d height.
    let header = c.in-PageRefinement.header in
    let rows = c.rows_above_end-header-in-PageRefinement in
    let parsed = subst (λ (r : ParsedRegion _). IsDecodable r) c.in-PageRefinement.is c.requires in
    refined-shown header (region_view c.in-PageRefinement.area) rows.result d parsed rows.ensures.fewer (omega (arith, c.if-height-header-2.false, c.height-in-PageRefinement.ensures.value))
    (λ j n row is less. rows.ensures.others j n (omega (arith, row, height)) is less)
    ∙ ap (λ (r : ParsedRegion _). with_drawn_region d (placed_region r)) (sym c.in-PageRefinement.is)
