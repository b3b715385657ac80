use Rattle.std.proofs.Common.{◌≡◌, true, Result, refl, ◌∙◌, subst}
use Rattle.std.proofs.lemmas.Result.{err_from_is_err_and}
use Rattle.jbig2_base.specs.Results.{Gives}
use Rattle.jbig2_framing.specs.Reading.{is_strict}
use Rattle.jbig2_framing.specs.inner.SegmentViews.{segment_view}
use Rattle.jbig2_base.specs.declared.error.DecodeError.{DecodeError}
use Rattle.jbig2_region.specs.RegionInfo.{PlacedRegion}
use Rattle.jbig2_region.specs.inner.RegionViews.{region_view}
use Rattle.jbig2_page.specs.Page.{Drawing, intermediate, region_at}
use Rattle.jbig2_page.specs.inner.KeptViews.{kept_values}
use Rattle.jbig2_page.specs.inner.ParsedRegions.{placed_region, drawing_of}
use Rattle.jbig2_page.proofs.Direct.{kept-refused, led, led-to, refused-too, stored}
use Rattle.jbig2_page.proofs.drawing.Drawer.keep_region.Goals as goal

pub returns-clause-value : goal.returns-clause-value
unfolding intermediate
returns-clause-value g c =
    let d : Drawing = c.args.canvas.now in
    let inside : Drawing = record { grid = c.canvas.inside.bitmap; regions = kept_values region_view c.canvas.inside.regions.items; names = c.canvas.inside.names; untouched = c.canvas.inside.untouched; passed_over = c.canvas.inside.passed_over } in
    let meant : Result PlacedRegion DecodeError = region_at (is_strict c.args.self.now.reading) c.args.self.now.globals.now c.args.kind true (segment_view c.args.segment.now) d in
    let leads : meant ≡ placed_region c.in_ok-parsed.parsed = led c.references-references.result (is_strict c.args.self.now.reading) c.args.self.now.globals.now c.args.kind true (segment_view c.args.segment.now) c.canvas.inside.bitmap c.deref.result.now c.canvas.inside.regions.items c.canvas.inside.names c.canvas.inside.untouched c.canvas.inside.passed_over d (placed_region c.in_ok-parsed.parsed) c.references-references.ensures.strict c.references-references.ensures.globals c.references-references.ensures.drawing c.deref.ensures.value c.canvas.view_is c.in_ok-parsed.ensures.value in
    subst (λ (a : Result Drawing DecodeError). Gives (λ _. c.store.new.self) c.store.result a)
    (stored c.args.segment.now.header.segment_number inside d meant (region_view c.in_ok-region.region) c.canvas.view_is (leads ∙ c.in_ok-region.ensures.value)) c.store.ensures

pub returns-in_err-region-clause-value : goal.returns-in_err-region-clause-value
unfolding intermediate
returns-in_err-region-clause-value g c =
    let d : Drawing = c.args.canvas.now in
    let e = err_from_is_err_and c.from_residual-in_err-region.result c.from_residual-in_err-region.ensures.1 in
    let meant : Result PlacedRegion DecodeError = region_at (is_strict c.args.self.now.reading) c.args.self.now.globals.now c.args.kind true (segment_view c.args.segment.now) d in
    let leads : meant ≡ placed_region c.in_ok-parsed.parsed = led c.references-references.result (is_strict c.args.self.now.reading) c.args.self.now.globals.now c.args.kind true (segment_view c.args.segment.now) c.canvas.inside.bitmap c.deref.result.now c.canvas.inside.regions.items c.canvas.inside.names c.canvas.inside.untouched c.canvas.inside.passed_over d (placed_region c.in_ok-parsed.parsed) c.references-references.ensures.strict c.references-references.ensures.globals c.references-references.ensures.drawing c.deref.ensures.value c.canvas.view_is c.in_ok-parsed.ensures.value in
    rw (e.1, e.2) (kept-refused c.args.segment.now.header.segment_number d meant c.in_err-region.field-0.0 (led-to c.in_ok-parsed.parsed meant c.in_err-region.field-0.0 leads c.in_err-region.ensures.value))

pub returns-in_err-parsed-clause-value : goal.returns-in_err-parsed-clause-value
unfolding intermediate
returns-in_err-parsed-clause-value g c =
    let d : Drawing = c.args.canvas.now in
    let e = err_from_is_err_and c.from_residual.result c.from_residual.ensures.1 in
    let r = c.references-references.result in
    let meant : Result PlacedRegion DecodeError = region_at (is_strict c.args.self.now.reading) c.args.self.now.globals.now c.args.kind true (segment_view c.args.segment.now) d in
    let other : Result PlacedRegion DecodeError = region_at r.names.strict r.names.globals.now c.args.kind true (segment_view c.args.segment.now) (drawing_of r) in
    let same : meant ≡ other = led r (is_strict c.args.self.now.reading) c.args.self.now.globals.now c.args.kind true (segment_view c.args.segment.now) c.canvas.inside.bitmap c.deref.result.now c.canvas.inside.regions.items c.canvas.inside.names c.canvas.inside.untouched c.canvas.inside.passed_over d other c.references-references.ensures.strict c.references-references.ensures.globals c.references-references.ensures.drawing c.deref.ensures.value c.canvas.view_is refl in
    rw (e.1, e.2) (kept-refused c.args.segment.now.header.segment_number d meant c.in_err-parsed.field-0.0 (refused-too meant other c.in_err-parsed.field-0.0 same c.in_err-parsed.ensures.value))
