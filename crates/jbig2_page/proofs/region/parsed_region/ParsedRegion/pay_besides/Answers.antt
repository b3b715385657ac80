use Rattle.jbig2_page.proofs.region.parsed_region.ParsedRegion.pay_besides.Goals as goal

pub returns-in-Halftone-clause-taken : goal.returns-in-Halftone-clause-taken
returns-in-Halftone-clause-taken g c = rw c.in-Halftone.is c.pay_cells.ensures.taken
