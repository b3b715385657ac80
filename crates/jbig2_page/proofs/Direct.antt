-- A region over a whole page of one colour.
use Rattle.std.proofs.Common.{◌≡◌, ℕ, List, ◌<◌, ◌≤◌, Bool, true, false, ◌&&◌, ◌||◌, if◌then◌else◌, nat_lt, cond, ℤ, ◌⊎◌, inl, inr, subst, Result, Ok, Err, refl, sym, ◌∙◌, ap, arith}
use Rattle.std.specs.Int.{w32, cast_signed}
use Rattle.std.specs.Prelude.{pos, ◌-ℤ◌}
use Rattle.std.proofs.lemmas.Bool.{cond-true, and_from, le-ltb, lt-ltb, ltb-false}
use Rattle.std.proofs.lemmas.Int.{ints}
use Rattle.jbig2_base.specs.Results.{Gives, ◌>>=◌, refuse_if}
use Rattle.jbig2_base.specs.Combination.{combined_grid, drawn_pixel, is_below, combined_pixel}
use Rattle.jbig2_base.specs.Grid.{Grid, pixel_at, pixel, blank, check_sides, grid_of, IsTable}
use Rattle.jbig2_framing.specs.Segment.{SegmentView}
use Rattle.jbig2_base.specs.declared.bitmap.operator.CombinationOperator.{CombinationOperator}
use Rattle.jbig2_base.specs.declared.bitmap.operator.CombinationOperator.TheVariants.{Or, And, Xor, Xnor, Replace}
use Rattle.jbig2_base.specs.declared.error.DecodeError.{DecodeError}
use Rattle.jbig2_base.specs.declared.error.DecodeError.TheVariants.{OutOfMemory}
use Rattle.jbig2_base.specs.declared.error.OverflowError.TheVariants.{BitmapDimension}
use Rattle.jbig2_base.specs.declared.error.DecodeError.TheVariants as errors
use Rattle.jbig2_base.proofs.GridLemmas.{grid_of-ext, pixel_at-grid_of, table-at}
use Rattle.jbig2_halftone.specs.inner.HalftoneHeaderViews as halftones
use Rattle.jbig2_halftone.specs.inner.DictionaryViews.{dictionary_view}
use Rattle.jbig2_region.specs.RegionInfo.{PlacedRegion, at_location}
use Rattle.jbig2_region.specs.inner.RegionViews.{region_view}
use Rattle.jbig2_region.specs.inner.GenericHeaderViews as generics
use Rattle.jbig2_region.specs.inner.RefinementHeaderViews as refinements
use Rattle.jbig2_region.specs.Refinement.{refined_decoded}
use Rattle.jbig2_region.specs.declared.generic_refinement.header.GenericRefinementRegionHeader.{GenericRefinementRegionHeader}
use Rattle.jbig2_region.specs.declared.decoded_region.DecodedRegion.{DecodedRegion}
use Rattle.jbig2_region.specs.declared.region_info.RegionSegmentInfo.{RegionSegmentInfo}
use Rattle.jbig2_text.specs.inner.TextViews as texts
use Rattle.jbig2_page.specs.Names.{Names}
use Rattle.jbig2_page.specs.Page.{Drawing, draws_over, or_passed_over, region_at, with_drawn_region, with_region}
use Rattle.jbig2_page.specs.declared.passed_over.PassedOver.{PassedOver}
use Rattle.jbig2_page.specs.declared.region.parsed_region.ParsedRegion.{ParsedRegion}
use Rattle.jbig2_page.specs.declared.region.parsed_region.ParsedRegion.TheVariants.{Text, Halftone, Generic, Refinement, PageRefinement, Part}
use Rattle.jbig2_page.specs.declared.region.references.References.{References}
use Rattle.jbig2_page.specs.declared.region.RegionKind.{RegionKind}
use Rattle.jbig2_page.specs.declared.region.RegionKind.TheVariants as kinds
use Rattle.jbig2_page.specs.Regions.{page_area}
use Rattle.jbig2_page.specs.declared.kept.Kept.{Kept}
use Rattle.jbig2_page.specs.inner.KeptViews.{kept_values}
use Rattle.jbig2_page.specs.inner.PageViews.{near_area}
use Rattle.jbig2_page.specs.inner.ParsedRegions.{placed_region, drawing_of, region_grid, info_of, initial_of}
use Rattle.jbig2_page.specs.inner.WholePages.{IsBlankPage, IsWhole}
use Rattle.jbig2_base.proofs.Causes.{same-ok}
use Rattle.jbig2_page.specs.Page.{passing}
use Rattle.jbig2_page.proofs.PageArea.{area-near}
use Rattle.jbig2_page.proofs.RegionSizes.{Made, generic-made, halftone-made, refined-made, text-made}
use Rattle.jbig2_page.specs.PassedOver.{nothing_passed}
use Rattle.jbig2_region.specs.RefinementHeader.{IsRefinement}

over_pixel : (op : CombinationOperator) (black s : Bool) → draws_over op black ≡ true → combined_pixel op black s ≡ s
over_pixel Replace black s h = refl
over_pixel Or false s h = refl
over_pixel Or true s h = absurd (let never : false ≡ true = h in cc)
over_pixel Xor false s h = refl
over_pixel Xor true s h = absurd (let never : false ≡ true = h in cc)
over_pixel And true s h = refl
over_pixel And false s h = absurd (let never : false ≡ true = h in cc)
over_pixel Xnor true s h = refl
over_pixel Xnor false s h = absurd (let never : false ≡ true = h in cc)

drawn_pixel-zero : (op : CombinationOperator) (page source : Grid) (i j : ℕ) → i < source.width → j < source.height → drawn_pixel op page source (pos 0) (pos 0) i j ≡ combined_pixel op (pixel_at page i j) (pixel_at source i j)
unfolding drawn_pixel
drawn_pixel-zero op page source i j column row =
    let at_i : pos i -ℤ pos 0 ≡ pos i = omega (arith, ints) in
    let at_j : pos j -ℤ pos 0 ≡ pos j = omega (arith, ints) in
    ap (λ (x : ℤ). cond (is_below source.width x && is_below source.height (pos j -ℤ pos 0)) (combined_pixel op (pixel_at page i j) (pixel source x (pos j -ℤ pos 0))) (pixel_at page i j)) at_i
    ∙ ap (λ (y : ℤ). cond (nat_lt i source.width && is_below source.height y) (combined_pixel op (pixel_at page i j) (pixel source (pos i) y)) (pixel_at page i j)) at_j
    ∙ cond-true (nat_lt i source.width && nat_lt j source.height) (combined_pixel op (pixel_at page i j) (pixel_at source i j)) (pixel_at page i j) (and_from (nat_lt i source.width) (nat_lt j source.height) (lt-ltb i source.width column) (lt-ltb j source.height row))

-- the region's own pixels
pub combined-pixels : (op : CombinationOperator) (black : Bool) (region : Grid) → draws_over op black ≡ true → combined_grid op (blank region.width region.height black) region (pos 0) (pos 0) ≡ grid_of region.width region.height (pixel_at region)
combined-pixels op black region over =
    let page : Grid = blank region.width region.height black in
    grid_of-ext region.width region.height (drawn_pixel op page region (pos 0) (pos 0)) (pixel_at region)
    (λ i j column row.
    drawn_pixel-zero op page region i j column row
    ∙ ap (λ (b : Bool). combined_pixel op b (pixel_at region i j)) (pixel_at-grid_of region.width region.height (λ _ _. black) i j column row)
    ∙ over_pixel op black (pixel_at region i j) over)

pub combined-over : (op : CombinationOperator) (black : Bool) (region : Grid) → IsTable region → draws_over op black ≡ true → combined_grid op (blank region.width region.height black) region (pos 0) (pos 0) ≡ region
combined-over op black region table over = combined-pixels op black region over ∙ sym table

-- ---- a region that is the whole page
pub whole-page : (info : RegionSegmentInfo) (page : Grid) (black : Bool) → IsBlankPage black page → info.x_location ≡ 0 → info.y_location ≡ 0 → info.width ≡ page.width → info.height ≡ page.height → draws_over info.combination_operator black ≡ true → IsWhole info black page
whole-page info page black is_blank x y wide high over = record {
  columns = subst (λ (n : ℕ). n ≤ 65535) (sym wide) is_blank.columns;
  rows = subst (λ (n : ℕ). n ≤ 65535) (sym high) is_blank.rows;
  coloured = is_blank.blank ∙ ap (λ (n : ℕ). blank n page.height black) (sym wide) ∙ ap (λ (n : ℕ). blank info.width n black) (sym high);
  over = λ g table columns rows.
      let op : CombinationOperator = info.combination_operator in
      let start : Grid = blank g.width g.height black in
      let across : page.width ≡ g.width = sym wide ∙ sym columns in
      let down : page.height ≡ g.height = sym high ∙ sym rows in
      let same : page ≡ start = is_blank.blank ∙ ap (λ (n : ℕ). blank n page.height black) across ∙ ap (λ (n : ℕ). blank g.width n black) down in
      ap (λ (q : Grid). combined_grid op q g (cast_signed w32 info.x_location) (cast_signed w32 info.y_location)) same
      ∙ ap (λ (n : ℕ). combined_grid op start g (cast_signed w32 n) (cast_signed w32 info.y_location)) x
      ∙ ap (λ (n : ℕ). combined_grid op start g (cast_signed w32 0) (cast_signed w32 n)) y
      ∙ combined-over op black g table over;
}

-- what is decoded is a table of its size
pub drawn-made : {A : Type 0} (r : ParsedRegion A) (g : Grid) → region_grid r ≡ Ok g → Made (info_of r).width (info_of r).height g
drawn-made (Text header referred) g is = text-made (texts.header_view header) referred.symbols referred.codes g is
drawn-made (Halftone header patterns) g is = halftone-made (halftones.header_view header) (dictionary_view patterns.now) g is
drawn-made (Generic header) g is = generic-made (generics.header_view header) g is
drawn-made (Refinement header reference) g is = refined-made (refinements.header_view header) (region_view reference.now) g is
drawn-made (PageRefinement header area) g is = refined-made (refinements.header_view header) (region_view area) g is
drawn-made (Part region) g is = (pixel_at region.bitmap, sym (same-ok _ _ is))

-- no side of a page is too long
pub placed-within : {A : Type 0} (r : ParsedRegion A) → (info_of r).width ≤ 65535 → (info_of r).height ≤ 65535 → placed_region r ≡ (region_grid r >>= λ g. Ok (at_location (info_of r) g))
placed-within r columns rows = rw (le-ltb 65535 (info_of r).width columns, le-ltb 65535 (info_of r).height rows) refl

-- what is there of a region whose data is cut off, at its place
fits-within : (w h : ℕ) → check_sides w h ≡ Ok tt → (w ≤ 65535) × (h ≤ 65535)
fits-within w h is = by (nat_lt 65535 w) (nat_lt 65535 h) refl refl is
  where
    by : (a b : Bool) → nat_lt 65535 w ≡ a → nat_lt 65535 h ≡ b → refuse_if (a || b) (errors.Overflow BitmapDimension) ≡ Ok tt → (w ≤ 65535) × (h ≤ 65535)
    by false false wide high fits = (ltb-false 65535 w wide, ltb-false 65535 h high)
    by false true wide high fits = absurd (cc)
    by true b wide high fits = absurd (cc)

pub part-placed : {A : Type 0} (region : DecodedRegion A) (w h : ℕ) → Made w h (region_view region).grid → w ≤ 65535 → h ≤ 65535 → ◌≡◌ {A = Result PlacedRegion DecodeError} (Ok (region_view region)) (placed_region (Part region))
part-placed region w h made columns rows =
    let g : Grid = (region_view region).grid in
    let wide : g.width ≡ w = ap (λ (q : Grid). q.width) made.1 in
    let high : g.height ≡ h = ap (λ (q : Grid). q.height) made.1 in
    let table : IsTable g = table-at g w h made.0 made.1 in
    ap (λ (q : Grid). let r : Result PlacedRegion DecodeError = Ok (at_location (info_of (Part region)) q) in r) table
    ∙ sym (placed-within (Part region) (subst (λ (n : ℕ). n ≤ 65535) (sym wide) columns) (subst (λ (n : ℕ). n ≤ 65535) (sym high) rows))

pub part-fits-placed : {A : Type 0} (region : DecodedRegion A) (w h : ℕ) → Made w h (region_view region).grid → check_sides w h ≡ Ok tt → ◌≡◌ {A = Result PlacedRegion DecodeError} (Ok (region_view region)) (placed_region (Part region))
part-fits-placed region w h made fits = part-placed region w h made (fits-within w h fits).0 (fits-within w h fits).1

whole-shown : {A : Type 0} (r : ParsedRegion A) (meant : Result PlacedRegion DecodeError) (d : Drawing) (g : Grid) → IsWhole (info_of r) (initial_of r) d.grid → meant ≡ placed_region r → region_grid r ≡ Ok g → with_drawn_region d meant ≡ Ok (record d { grid = g; untouched = false })
whole-shown r meant d g whole leads is =
    let info : RegionSegmentInfo = info_of r in
    let made = drawn-made r g is in
    let wide : g.width ≡ info.width = ap (λ (q : Grid). q.width) made.1 in
    let high : g.height ≡ info.height = ap (λ (q : Grid). q.height) made.1 in
    ap (λ (a : Result PlacedRegion DecodeError). with_drawn_region d a) (leads ∙ placed-within r whole.columns whole.rows)
    ∙ ap (λ (a : Result Grid DecodeError). with_drawn_region d (a >>= λ q. Ok (at_location info q))) is
    ∙ ap (λ (q : Grid). let e : Result Drawing DecodeError = Ok (record d { grid = q; untouched = false }) in e) (whole.over g (table-at g info.width info.height made.0 made.1) wide high)

whole-failed : {A : Type 0} (r : ParsedRegion A) (meant : Result PlacedRegion DecodeError) (d : Drawing) (e : DecodeError) → (info_of r).width ≤ 65535 → (info_of r).height ≤ 65535 → meant ≡ placed_region r → region_grid r ≡ Err e → with_drawn_region d meant ≡ Err e
whole-failed r meant d e columns rows leads is =
    ap (λ (a : Result PlacedRegion DecodeError). with_drawn_region d a) (leads ∙ placed-within r columns rows)
    ∙ ap (λ (a : Result Grid DecodeError). with_drawn_region d (a >>= λ q. Ok (at_location (info_of r) q))) is

-- the page's area is refined
pub page-refined : {A : Type 0} (header : GenericRefinementRegionHeader) (page : Grid) (area : DecodedRegion A) → IsRefinement (refinements.header_view header) → near_area page header.region_info ≡ Ok (region_view area) → refined_decoded (refinements.header_view header) (page_area page header.region_info) ≡ placed_region (PageRefinement header area)
page-refined header page area parsed near =
    ap (λ (from : PlacedRegion). refined_decoded (refinements.header_view header) from) (area-near page header.region_info (region_view area) near)
    ∙ sym (placed-within (PageRefinement header area) parsed.columns parsed.rows)

-- drawn directly
pub whole-gives : {A : Type 0} (r : ParsedRegion A) (meant : Result PlacedRegion DecodeError) (d : Drawing) (g : Grid) (result : Result (Unit {0}) DecodeError) → IsWhole (info_of r) (initial_of r) d.grid → meant ≡ placed_region r → Gives (λ _. g) result (region_grid r) → Gives (λ _. record d { grid = g; untouched = false }) result (with_drawn_region d meant)
whole-gives r meant d g (Ok u) whole leads is = whole-shown r meant d g whole leads is
whole-gives r meant d g (Err e) whole leads (inl memory) = inl memory
whole-gives r meant d g (Err e) whole leads (inr failed) = inr (whole-failed r meant d e whole.columns whole.rows leads failed)

-- refused
pub shown-refused : (d : Drawing) (meant : Result PlacedRegion DecodeError) (e : DecodeError) → (e ≡ OutOfMemory) ⊎ (meant ≡ Err e) → (e ≡ OutOfMemory) ⊎ (with_drawn_region d meant ≡ Err e)
shown-refused d meant e (inl memory) = inl memory
shown-refused d meant e (inr failed) = inr (ap (λ (a : Result PlacedRegion DecodeError). with_drawn_region d a) failed)

pub kept-refused : (number : ℕ) (d : Drawing) (meant : Result PlacedRegion DecodeError) (e : DecodeError) → (e ≡ OutOfMemory) ⊎ (meant ≡ Err e) → (e ≡ OutOfMemory) ⊎ ((meant >>= λ r. Ok (with_region number d r)) ≡ Err e)
kept-refused number d meant e (inl memory) = inl memory
kept-refused number d meant e (inr failed) = inr (ap (λ (a : Result PlacedRegion DecodeError). a >>= λ r. let kept : Result Drawing DecodeError = Ok (with_region number d r) in kept) failed)

pub led-to : {A : Type 0} (r : ParsedRegion A) (meant : Result PlacedRegion DecodeError) (e : DecodeError) → meant ≡ placed_region r → (e ≡ OutOfMemory) ⊎ (placed_region r ≡ Err e) → (e ≡ OutOfMemory) ⊎ (meant ≡ Err e)
led-to r meant e leads (inl memory) = inl memory
led-to r meant e leads (inr failed) = inr (leads ∙ failed)

pub refused-too : (meant other : Result PlacedRegion DecodeError) (e : DecodeError) → meant ≡ other → (e ≡ OutOfMemory) ⊎ (other ≡ Err e) → (e ≡ OutOfMemory) ⊎ (meant ≡ Err e)
refused-too meant other e same (inl memory) = inl memory
refused-too meant other e same (inr failed) = inr (same ∙ failed)

-- whether a page was touched changes no region, nor does what was passed over
pub region-touched : (strict : Bool) (globals : Names) (kind : RegionKind) (is_intermediate : Bool) (p : SegmentView) (d : Drawing) → region_at strict globals kind is_intermediate p (record d { untouched = false; passed_over = nothing_passed }) ≡ region_at strict globals kind is_intermediate p d
region-touched strict globals kinds.Text is_intermediate p d = refl
region-touched strict globals kinds.Halftone is_intermediate p d = refl
region-touched strict globals kinds.Generic is_intermediate p d = refl
region-touched strict globals kinds.GenericRefinement is_intermediate p d = refl

-- what references over the parts of a page lead to
pub led : {A : Type 0} (r : References A) (strict : Bool) (globals : Names) (kind : RegionKind) (is_intermediate : Bool) (p : SegmentView) (page : Grid) (regions items : List (Kept (DecodedRegion A))) (names : Names) (untouched : Bool) (passed : PassedOver) (d : Drawing) (meant : Result PlacedRegion DecodeError)
    → r.names.strict ≡ strict → r.names.globals.now ≡ globals → drawing_of r ≡ record { grid = page; regions = kept_values region_view regions; names = names; untouched = false; passed_over = nothing_passed } → regions ≡ items → record { grid = page; regions = kept_values region_view items; names = names; untouched = untouched; passed_over = passed } ≡ d → region_at r.names.strict r.names.globals.now kind is_intermediate p (drawing_of r) ≡ meant → region_at strict globals kind is_intermediate p d ≡ meant
led {A = A} r strict globals kind is_intermediate p page regions items names untouched passed d meant strictly shared parts same view leads =
    let inside : Drawing = record { grid = page; regions = kept_values region_view items; names = names; untouched = untouched; passed_over = passed } in
    ap (λ (b : Drawing). region_at strict globals kind is_intermediate p b) (sym view)
    ∙ sym (region-touched strict globals kind is_intermediate p inside)
    ∙ ap (λ (xs : List (Kept (DecodedRegion A))). region_at strict globals kind is_intermediate p (record { grid = page; regions = kept_values region_view xs; names = names; untouched = false; passed_over = nothing_passed })) (sym same)
    ∙ ap (λ (b : Drawing). region_at strict globals kind is_intermediate p b) (sym parts)
    ∙ ap (λ (mode : Bool). region_at mode globals kind is_intermediate p (drawing_of r)) (sym strictly)
    ∙ ap (λ (given : Names). region_at r.names.strict given kind is_intermediate p (drawing_of r)) (sym shared)
    ∙ leads

-- a page that is as it was
-- an intermediate region is kept
pub stored : (number : ℕ) (inside d : Drawing) (meant : Result PlacedRegion DecodeError) (region : PlacedRegion) → inside ≡ d → meant ≡ Ok region → Ok (with_region number inside region) ≡ (meant >>= λ r. Ok (with_region number d r))
stored number inside d meant region view is =
    ap (λ (b : Drawing). let e : Result Drawing DecodeError = Ok (with_region number b region) in e) view
    ∙ sym (ap (λ (a : Result PlacedRegion DecodeError). a >>= λ r. let e : Result Drawing DecodeError = Ok (with_region number d r) in e) is)

-- ---- in either mode
pub drawn-either : (strict : Bool) (p : SegmentView) (d d' : Drawing) (meant : Result Drawing DecodeError) → meant ≡ Ok d' → or_passed_over strict p d meant ≡ Ok d'
drawn-either strict p d d' meant is = ap (λ (r : Result Drawing DecodeError). or_passed_over strict p d r) is

-- a region that failed is passed over
pub passed : (strict : Bool) (p : SegmentView) (d d1 d' : Drawing) (meant : Result Drawing DecodeError) (e : DecodeError) (result : Result (Unit {0}) DecodeError)
    → (e ≡ OutOfMemory) ⊎ (meant ≡ Err e) → (e ≡ OutOfMemory) ⊎ (d1 ≡ d) → (e ≡ OutOfMemory → result ≡ Err OutOfMemory) → Gives (λ _. d') result (or_passed_over strict p d1 (Err e)) → Gives (λ _. d') result (or_passed_over strict p d meant)
passed strict p d d1 d' meant e result (inl memory) left refused gives = subst (λ (a : Result (Unit {0}) DecodeError). Gives (λ _. d') a (or_passed_over strict p d meant)) (sym (refused memory)) (inl refl)
passed strict p d d1 d' meant e result (inr failed) (inl memory) refused gives = subst (λ (a : Result (Unit {0}) DecodeError). Gives (λ _. d') a (or_passed_over strict p d meant)) (sym (refused memory)) (inl refl)
passed strict p d d1 d' meant e result (inr failed) (inr same) refused gives =
    subst (λ (r : Result Drawing DecodeError). Gives (λ _. d') result (or_passed_over strict p d r)) (sym failed)
    (subst (λ (b : Drawing). Gives (λ _. d') result (if strict then Err e else Ok (passing p e b))) same gives)
