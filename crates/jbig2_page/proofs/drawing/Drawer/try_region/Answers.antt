use Rattle.std.proofs.Common.{◌≡◌, ◌⊎◌, Bool, true, false, not, Ok, Result, inl, inr, refl, sym, ap, ◌∙◌, subst}
use Rattle.std.proofs.lemmas.Result.{err_from_is_err_and}
use Rattle.jbig2_base.specs.Results.{Gives}
use Rattle.jbig2_base.specs.Grid.{Grid}
use Rattle.jbig2_framing.specs.Reading.{is_strict}
use Rattle.jbig2_framing.specs.inner.SegmentViews.{segment_view}
use Rattle.jbig2_region.specs.RegionInfo.{PlacedRegion}
use Rattle.jbig2_region.specs.inner.RegionViews.{region_view}
use Rattle.jbig2_base.specs.declared.error.DecodeError.{DecodeError}
use Rattle.jbig2_base.specs.declared.error.DecodeError.TheVariants.{OutOfMemory}
use Rattle.jbig2_page.specs.Page.{Drawing, region_at, with_drawn_region}
use Rattle.jbig2_page.specs.inner.KeptViews.{kept_values}
use Rattle.jbig2_page.specs.inner.ParsedRegions.{placed_region, drawing_of, info_of, initial_of}
use Rattle.jbig2_page.specs.inner.WholePages.{IsBlankPage, IsWhole}
use Rattle.jbig2_page.proofs.Direct.{led, refused-too, shown-refused, whole-gives}
use Rattle.jbig2_page.proofs.SeenRows.{cut-refused, cut-shown}
use Rattle.jbig2_page.proofs.drawing.Drawer.try_region.Goals as goal
use Rattle.jbig2_page.proofs.drawing.Drawer.try_region.Goals.{in-OutOfMemory, in_default}

pub returns-in_err-region-clause-value : goal.returns-in_err-region-clause-value
returns-in_err-region-clause-value g c =
    let d : Drawing = c.args.canvas.now in
    let e = err_from_is_err_and c.from_residual-in_err-region.result c.from_residual-in_err-region.ensures.1 in
    let meant : Result PlacedRegion DecodeError = region_at (is_strict c.args.self.now.reading) c.args.self.now.globals.now c.args.kind false (segment_view c.args.segment.now) d in
    let leads : meant ≡ placed_region c.in_ok-parsed.parsed = led c.references-references.result (is_strict c.args.self.now.reading) c.args.self.now.globals.now c.args.kind false (segment_view c.args.segment.now) c.canvas.inside.bitmap c.deref.result.now c.canvas.inside.regions.items c.canvas.inside.names c.canvas.inside.untouched c.canvas.inside.passed_over d (placed_region c.in_ok-parsed.parsed) c.references-references.ensures.strict c.references-references.ensures.globals c.references-references.ensures.drawing c.deref.ensures.value c.canvas.view_is c.in_ok-parsed.ensures.value in
    let height : d.grid.height ≡ c.height.result = sym (c.height.ensures.value ∙ ap (λ (b : Drawing). b.grid.height) c.canvas.view_is) in
    rw (e.1, e.2) (cut-refused d meant (placed_region c.in_ok-parsed.parsed) (placed_region c.above_end-seen.result) c.in_err-region.field-0.0 leads (c.above_end-seen.ensures.same_page d height) c.in_err-region.ensures.value)

pub returns-in_err-region-clause-err : goal.returns-in_err-region-clause-err
returns-in_err-region-clause-err g c =
    let e = err_from_is_err_and c.from_residual-in_err-region.result c.from_residual-in_err-region.ensures.1 in
    rw (e.1) (inr c.canvas.view_is)

pub returns-clause-value : goal.returns-clause-value
returns-clause-value g c =
    let d : Drawing = c.args.canvas.now in
    let meant : Result PlacedRegion DecodeError = region_at (is_strict c.args.self.now.reading) c.args.self.now.globals.now c.args.kind false (segment_view c.args.segment.now) d in
    let leads : meant ≡ placed_region c.in_ok-parsed.parsed = led c.references-references.result (is_strict c.args.self.now.reading) c.args.self.now.globals.now c.args.kind false (segment_view c.args.segment.now) c.canvas.inside.bitmap c.deref.result.now c.canvas.inside.regions.items c.canvas.inside.names c.canvas.inside.untouched c.canvas.inside.passed_over d (placed_region c.in_ok-parsed.parsed) c.references-references.ensures.strict c.references-references.ensures.globals c.references-references.ensures.drawing c.deref.ensures.value c.canvas.view_is c.in_ok-parsed.ensures.value in
    let drawn : Ok c.combine.new.self ≡ with_drawn_region d (Ok (region_view c.in_ok-region.region)) = c.combine.ensures.value ∙ ap (λ (b : Drawing). with_drawn_region b (Ok (region_view c.in_ok-region.region))) c.canvas.view_is in
    let height : d.grid.height ≡ c.height.result = sym (c.height.ensures.value ∙ ap (λ (b : Drawing). b.grid.height) c.canvas.view_is) in
    cut-shown d c.combine.new.self meant (placed_region c.in_ok-parsed.parsed) (placed_region c.above_end-seen.result) (region_view c.in_ok-region.region) leads (c.above_end-seen.ensures.same_page d height) c.in_ok-region.ensures.value drawn

pub returns-in-Ok-clause-value : goal.returns-in-Ok-clause-value
returns-in-Ok-clause-value g c =
    let d : Drawing = c.args.canvas.now in
    let inside : Drawing = record { grid = c.canvas.inside.bitmap; regions = kept_values region_view c.canvas.inside.regions.items; names = c.canvas.inside.names; untouched = c.canvas.inside.untouched; passed_over = c.canvas.inside.passed_over } in
    let meant : Result PlacedRegion DecodeError = region_at (is_strict c.args.self.now.reading) c.args.self.now.globals.now c.args.kind false (segment_view c.args.segment.now) d in
    let leads : meant ≡ placed_region c.in_ok-parsed.parsed = led c.references-references.result (is_strict c.args.self.now.reading) c.args.self.now.globals.now c.args.kind false (segment_view c.args.segment.now) c.canvas.inside.bitmap c.deref.result.now c.canvas.inside.regions.items c.canvas.inside.names c.canvas.inside.untouched c.canvas.inside.passed_over d (placed_region c.in_ok-parsed.parsed) c.references-references.ensures.strict c.references-references.ensures.globals c.references-references.ensures.drawing c.deref.ensures.value c.canvas.view_is c.in_ok-parsed.ensures.value in
    let is_blank : IsBlankPage false c.canvas.inside.bitmap = subst (λ (p : Grid). IsBlankPage false p) (sym (ap (λ (b : Drawing). b.grid) c.canvas.view_is)) (c.is_white-is_white.ensures.blank c.if-is_white.true) in
    let whole : IsWhole (info_of c.in_ok-parsed.parsed) (initial_of c.in_ok-parsed.parsed) c.canvas.inside.bitmap = c.makes_up.ensures c.if-makes_up.true is_blank in
    subst (λ (r : Result (Unit {0}) DecodeError). Gives (λ _. record inside { grid = c.decode_onto_page.new.page; untouched = false }) r (with_drawn_region d meant)) c.in-Ok.is
    (subst (λ (b : Drawing). Gives (λ _. record inside { grid = c.decode_onto_page.new.page; untouched = false }) c.decode_onto_page.result (with_drawn_region b meant)) c.canvas.view_is
    (whole-gives c.in_ok-parsed.parsed meant inside c.decode_onto_page.new.page c.decode_onto_page.result whole leads c.decode_onto_page.ensures.value))

pub returns-in-Err-clause-value : goal.returns-in-Err-clause-value
returns-in-Err-clause-value g c =
    let d : Drawing = c.args.canvas.now in
    let inside : Drawing = record { grid = c.canvas.inside.bitmap; regions = kept_values region_view c.canvas.inside.regions.items; names = c.canvas.inside.names; untouched = c.canvas.inside.untouched; passed_over = c.canvas.inside.passed_over } in
    let meant : Result PlacedRegion DecodeError = region_at (is_strict c.args.self.now.reading) c.args.self.now.globals.now c.args.kind false (segment_view c.args.segment.now) d in
    let leads : meant ≡ placed_region c.in_ok-parsed.parsed = led c.references-references.result (is_strict c.args.self.now.reading) c.args.self.now.globals.now c.args.kind false (segment_view c.args.segment.now) c.canvas.inside.bitmap c.deref.result.now c.canvas.inside.regions.items c.canvas.inside.names c.canvas.inside.untouched c.canvas.inside.passed_over d (placed_region c.in_ok-parsed.parsed) c.references-references.ensures.strict c.references-references.ensures.globals c.references-references.ensures.drawing c.deref.ensures.value c.canvas.view_is c.in_ok-parsed.ensures.value in
    let is_blank : IsBlankPage false c.canvas.inside.bitmap = subst (λ (p : Grid). IsBlankPage false p) (sym (ap (λ (b : Drawing). b.grid) c.canvas.view_is)) (c.is_white-is_white.ensures.blank c.if-is_white.true) in
    let whole : IsWhole (info_of c.in_ok-parsed.parsed) (initial_of c.in_ok-parsed.parsed) c.canvas.inside.bitmap = c.makes_up.ensures c.if-makes_up.true is_blank in
    subst (λ (r : Result (Unit {0}) DecodeError). Gives (λ _. record inside { grid = c.decode_onto_page.new.page; untouched = false }) r (with_drawn_region d meant)) c.in-Err.is
    (subst (λ (b : Drawing). Gives (λ _. record inside { grid = c.decode_onto_page.new.page; untouched = false }) c.decode_onto_page.result (with_drawn_region b meant)) c.canvas.view_is
    (whole-gives c.in_ok-parsed.parsed meant inside c.decode_onto_page.new.page c.decode_onto_page.result whole leads c.decode_onto_page.ensures.value))

-- after an error the page is as it was, and so it is untouched
as-was : (inside d : Drawing) (page : Grid) (matches : Bool) (error : DecodeError) → inside ≡ d → d.untouched ≡ true → (error ≡ OutOfMemory) ⊎ (page ≡ inside.grid) → (error ≡ OutOfMemory → ⊥) → matches ≡ false → record inside { grid = page; untouched = not matches } ≡ d
as-was inside d page matches error view untouched (inl memory) other default = absurd (other memory)
as-was inside d page matches error view untouched (inr same) other default =
    ap (λ (q : Grid). let r : Drawing = record inside { grid = q; untouched = not matches } in r) same
    ∙ ap (λ (b : Bool). let r : Drawing = record inside { untouched = b } in r) (ap not default ∙ sym untouched ∙ sym (ap (λ (x : Drawing). x.untouched) view))
    ∙ view

pub returns-in-Err-clause-err : goal.returns-in-Err-clause-err
returns-in-Err-clause-err g c = elim c.match-matches.branch [
  | in-OutOfMemory w ↦ inl w.in-OutOfMemory.is
  | in_default w ↦
      let inside : Drawing = record { grid = c.canvas.inside.bitmap; regions = kept_values region_view c.canvas.inside.regions.items; names = c.canvas.inside.names; untouched = c.canvas.inside.untouched; passed_over = c.canvas.inside.passed_over } in
      inr (as-was inside c.args.canvas.now c.decode_onto_page.new.page c.match-matches.matches c.in-Err.error c.canvas.view_is (c.is_white-is_white.ensures.untouched c.if-is_white.true) c.in-Err.ensures.err w.in_default.not-OutOfMemory w.matches-is)
]

-- and blank
blank-still : (black matches untouched : Bool) (old page : Grid) (error : DecodeError) → (untouched ≡ true → IsBlankPage black old) → untouched ≡ true → (error ≡ OutOfMemory) ⊎ (page ≡ old) → (error ≡ OutOfMemory → ⊥) → IsBlankPage black page
blank-still black matches untouched old page error blank is (inl memory) other = absurd (other memory)
blank-still black matches untouched old page error blank is (inr same) other = subst (λ (q : Grid). IsBlankPage black q) (sym same) (blank is)

never-kept : {A : Type 0} (matches : Bool) → matches ≡ true → not matches ≡ true → A
never-kept matches is kept = absurd (let never : false ≡ true = sym (ap not is) ∙ kept in cc)

pub invariant_of-canvas-in-Err : goal.invariant_of-canvas-in-Err
invariant_of-canvas-in-Err g c = elim c.match-matches.branch [
  | in-OutOfMemory w ↦ λ kept. never-kept c.match-matches.matches w.matches-is kept
  | in_default w ↦ λ kept.
      blank-still c.canvas.inside.default_pixel c.match-matches.matches c.canvas.inside.untouched c.canvas.inside.bitmap c.decode_onto_page.new.page c.in-Err.error c.canvas.invariant
      (ap (λ (d : Drawing). d.untouched) c.canvas.view_is ∙ c.is_white-is_white.ensures.untouched c.if-is_white.true) c.in-Err.ensures.err w.in_default.not-OutOfMemory
]

pub returns-in_err-parsed-clause-value : goal.returns-in_err-parsed-clause-value
returns-in_err-parsed-clause-value g c =
    let d : Drawing = c.args.canvas.now in
    let e = err_from_is_err_and c.from_residual.result c.from_residual.ensures.1 in
    let r = c.references-references.result in
    let meant : Result PlacedRegion DecodeError = region_at (is_strict c.args.self.now.reading) c.args.self.now.globals.now c.args.kind false (segment_view c.args.segment.now) d in
    let other : Result PlacedRegion DecodeError = region_at r.names.strict r.names.globals.now c.args.kind false (segment_view c.args.segment.now) (drawing_of r) in
    let same : meant ≡ other = led r (is_strict c.args.self.now.reading) c.args.self.now.globals.now c.args.kind false (segment_view c.args.segment.now) c.canvas.inside.bitmap c.deref.result.now c.canvas.inside.regions.items c.canvas.inside.names c.canvas.inside.untouched c.canvas.inside.passed_over d other c.references-references.ensures.strict c.references-references.ensures.globals c.references-references.ensures.drawing c.deref.ensures.value c.canvas.view_is refl in
    rw (e.1, e.2) (shown-refused d meant c.in_err-parsed.field-0.0 (refused-too meant other c.in_err-parsed.field-0.0 same c.in_err-parsed.ensures.value))
