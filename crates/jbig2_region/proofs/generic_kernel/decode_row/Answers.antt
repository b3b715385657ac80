use Rattle.std.proofs.Common.{rules, ◌≡◌, Bool, None, sym, subst}
use Rattle.jbig2_region.specs.inner.Neighbours.{DecodesPixels}
use Rattle.jbig2_region.proofs.CountLemmas.{row-nominal, row-mixed}
use Rattle.jbig2_region.proofs.generic_kernel.decode_row.Goals as goal
use Rattle.jbig2_region.specs.inner.RegionStates.{region_state}
use Rattle.jbig2_region.specs.inner.Layouts.{layout_pixels}

pub returns-then-predicted-clause-pixels : goal.returns-then-predicted-clause-pixels
returns-then-predicted-clause-pixels g c =
    subst (λ (b : Bool). DecodesPixels (layout_pixels c.args.layout.now) b 0 c.args.y c.args.bitmap.now.width (region_state c.args.bitmap.now c.args.decoder.now c.args.contexts.now) (region_state c.copy_row.new.bitmap c.args.decoder.now c.args.contexts.now)) (sym c.if-predicted.true)
    (c.copy_row.ensures.pixels (layout_pixels c.args.layout.now) c.args.decoder.now c.args.contexts.now)

pub returns-in_default-clause-decisions : goal.returns-in_default-clause-decisions
returns-in_default-clause-decisions g c =
    let none : c.args.layout.now.adaptive ≡ None = search rules in
    row-nominal c.args.layout.now.neighbours c.args.layout.now.adaptive c.args.predicted c.args.y c.args.bitmap.now c.args.decoder.now c.args.contexts.now c.args.steps.now.decisions c.decode_nominal_row.new.steps.decisions none c.if-predicted.false c.decode_nominal_row.ensures.decisions

pub returns-clause-decisions : goal.returns-clause-decisions
returns-clause-decisions g c =
    row-mixed c.args.layout.now.neighbours c.args.layout.now.adaptive c.in-Some.adaptive c.args.predicted c.args.y c.args.bitmap.now c.args.decoder.now c.args.contexts.now c.args.steps.now.decisions c.decode_row_by_pixels.new.steps.decisions (search rules) c.if-predicted.false c.decode_row_by_pixels.ensures.decisions
