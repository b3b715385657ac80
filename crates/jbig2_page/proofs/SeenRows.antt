-- Rows of a region that lie below the page: without them the rows above are the same, and so is the page.
use Rattle.std.proofs.Common.{◌≡◌, ℕ, zero, suc, ◌+◌, ◌-◌, ◌*◌, ◌/◌, ◌%◌, ◌<◌, ◌≤◌, Bool, true, false, ◌&&◌, cond, nat_lt, eqb, List, [], ◌∷◌, ◌++◌, map, length, get_or, Option, Some, None, Result, Ok, Err, ℤ, ◌⊎◌, inl, inr, refl, sym, subst, ap, ◌∙◌, ⊎_elim, arith}
use Rattle.std.specs.Int.{w32, cast_signed}
use Rattle.std.specs.Prelude.{◌||◌, pos, negsuc, ◌-ℤ◌, ◌+ℤ◌}
use Rattle.std.proofs.Math.Nat.{mul-le-mul_left}
use Rattle.std.proofs.lemmas.Bool.{cases_lt, lt-ltb, le-ltb}
use Rattle.std.proofs.lemmas.List.{get_or_append_left, get_or_past}
use Rattle.std.proofs.lemmas.Nat.{mul-add-lt}
use Rattle.jbig2_base.specs.Results.{◌>>=◌, refuse_if}
use Rattle.jbig2_base.specs.Combination.{combined_grid, drawn_pixel, is_below, combined_pixel}
use Rattle.jbig2_base.specs.Grid.{Grid, grid_of, pixel, pixel_at}
use Rattle.jbig2_base.specs.declared.bitmap.operator.CombinationOperator.{CombinationOperator}
use Rattle.jbig2_base.specs.declared.error.DecodeError.{DecodeError}
use Rattle.jbig2_base.specs.declared.error.DecodeError.TheVariants.{OutOfMemory, Overflow}
use Rattle.jbig2_base.specs.declared.error.OverflowError.TheVariants.{BitmapDimension}
use Rattle.jbig2_base.proofs.GridLemmas.{grid_of-ext, pixel_at-below, pixel_at-grid_of, pixel_at-right}
use Rattle.jbig2_region.specs.Generic.{context_at, generic_result, generic_coding, generic_grid, generic_region, known_colour, region_pixel}
use Rattle.jbig2_base.specs.Bits.{number_of}
use Rattle.jbig2_region.specs.GenericHeader.{GenericHeader, IsParsed}
use Rattle.jbig2_region.specs.Raster.{Coding, Region, after_pixel, at_next, decoded_region, first_pixels, after_ltp, so_far, with_next}
use Rattle.jbig2_region.specs.RegionInfo.{PlacedRegion, at_location}
use Rattle.jbig2_region.specs.Refinement.{Reference, offset, reference_of, reference_pixel, refined_context, refined_grid, refined_region, refinement_coding, refined_result}
use Rattle.jbig2_region.specs.RefinementTemplates.{reference_pixels, region_pixels}
use Rattle.jbig2_region.specs.RefinementHeader.{IsRefinement, RefinementHeader}
use Rattle.jbig2_region.specs.inner.GenericHeaderViews as generics
use Rattle.jbig2_region.specs.inner.RefinementHeaderViews as refinements
use Rattle.jbig2_region.specs.declared.generic.header.GenericRegionHeader.{GenericRegionHeader}
use Rattle.jbig2_region.specs.declared.generic_refinement.header.GenericRefinementRegionHeader.{GenericRefinementRegionHeader}
use Rattle.jbig2_region.specs.declared.region_info.RegionSegmentInfo.{RegionSegmentInfo}
use Rattle.jbig2_region.specs.declared.template.AdaptiveTemplatePixel.{AdaptiveTemplatePixel}
use Rattle.jbig2_region.proofs.PlaceLemmas.{first_pixels-length}
use Rattle.jbig2_region.proofs.RasterLemmas.{after_ltp-pixels}
use Rattle.jbig2_page.specs.Page.{Drawing, with_drawn_region}
use Rattle.jbig2_page.specs.declared.region.parsed_region.ParsedRegion.TheVariants.{Generic}
use Rattle.jbig2_page.specs.inner.ParsedRegions.{placed_region}

-- ---- the pixels so far, seen in a grid of h rows and in one of k
abbrev bit_at : ℕ → List Bool → ℕ → ℕ → Bool
bit_at w bits x y = get_or bits (y * w + x) false

none-there : (w k : ℕ) (bits : List Bool) (i j : ℕ) → length bits ≤ w * k → k ≤ j → get_or bits (j * w + i) false ≡ false
none-there w k bits i j short below =
    let rows : w * k ≤ w * j = mul-le-mul_left w below in
    get_or_past bits (j * w + i) false (omega (arith, short, rows))

below-both : (w h k : ℕ) (bits : List Bool) (i j : ℕ) → length bits ≤ w * k → i < w → k ≤ j → pixel_at (grid_of w h (bit_at w bits)) i j ≡ false
below-both w h k bits i j short left below =
    ⊎_elim
    (λ (inside : j < h). pixel_at-grid_of w h (bit_at w bits) i j left inside ∙ none-there w k bits i j short below)
    (λ (under : h ≤ j). pixel_at-below (grid_of w h (bit_at w bits)) i j under)
    (cases_lt j h)

same-pixel : (w h k : ℕ) (bits : List Bool) (i j : ℕ) → length bits ≤ w * k → k ≤ h → pixel_at (so_far w h bits) i j ≡ pixel_at (so_far w k bits) i j
unfolding so_far
same-pixel w h k bits i j short fewer =
    ⊎_elim
    (λ (left : i < w).
    ⊎_elim
    (λ (above : j < k). pixel_at-grid_of w h (bit_at w bits) i j left (omega arith) ∙ sym (pixel_at-grid_of w k (bit_at w bits) i j left above))
    (λ (below : k ≤ j). below-both w h k bits i j short left below ∙ sym (below-both w k k bits i j short left below))
    (cases_lt j k))
    (λ (right : w ≤ i). pixel_at-right (grid_of w h (bit_at w bits)) i j right ∙ sym (pixel_at-right (grid_of w k (bit_at w bits)) i j right))
    (cases_lt i w)

abbrev LooksAs : Grid → Grid → Type 0
LooksAs g q = (a b : ℤ) → pixel g a b ≡ pixel q a b

looks-same : (w h k : ℕ) (bits : List Bool) → length bits ≤ w * k → k ≤ h → LooksAs (so_far w h bits) (so_far w k bits)
looks-same w h k bits short fewer (pos i) (pos j) = same-pixel w h k bits i j short fewer
looks-same w h k bits short fewer (pos i) (negsuc j) = refl
looks-same w h k bits short fewer (negsuc i) b = refl

-- ---- a coding that looks at the region by its pixels alone
pub record ByPixels (coding : Coding) : Type 0 where
  context : (g q : Grid) (x y : ℕ) → LooksAs g q → coding.context g x y ≡ coding.context q x y
  known : (p : Bool) (g q : Grid) (x y : ℕ) → LooksAs g q → coding.known p g x y ≡ coding.known p q x y

same-pixels : (ps : List AdaptiveTemplatePixel) (g q : Grid) (x y : ℕ) → LooksAs g q → map (region_pixel g x y) ps ≡ map (region_pixel q x y) ps
same-pixels [] g q x y same = refl
same-pixels (p ∷ ps) g q x y same =
    ap (λ (b : Bool). b ∷ map (region_pixel g x y) ps) (same (pos x +ℤ p.x) (pos y +ℤ p.y))
    ∙ ap (λ (bits : List Bool). region_pixel q x y p ∷ bits) (same-pixels ps g q x y same)

generic-context : (ps : List AdaptiveTemplatePixel) (g q : Grid) (x y : ℕ) → LooksAs g q → context_at ps g x y ≡ context_at ps q x y
unfolding context_at
generic-context ps g q x y same = ap number_of (same-pixels ps g q x y same)

generic-known : (p : Bool) (g q : Grid) (x y : ℕ) → LooksAs g q → known_colour None p g x y ≡ known_colour None p q x y
generic-known true g q x y same = ap (λ (b : Bool). Some b) (same (pos x) (pos y +ℤ negsuc 0))
generic-known false g q x y same = refl

generic-by : (h : GenericHeader) → ByPixels (generic_coding h)
generic-by h = record { context = λ g q x y same. generic-context _ g q x y same; known = λ p g q x y same. generic-known p g q x y same }

-- ---- fewer rows are decoded the same
next-same : (coding : Coding) → ByPixels coding → (w h k : ℕ) (input : List ℕ) (r : Region) → length r.pixels ≤ w * k → k ≤ h → after_pixel coding w h input r ≡ after_pixel coding w k input r
unfolding after_pixel
next-same coding by w h k input r short fewer =
    let n : ℕ = length r.pixels in
    let g : Grid = so_far w h r.pixels in
    let q : Grid = so_far w k r.pixels in
    let same : LooksAs g q = looks-same w h k r.pixels short fewer in
    ap (λ (c : ℕ). with_next input r c (coding.known r.predicted g (n % w) (n / w))) (by.context g q (n % w) (n / w) same)
    ∙ ap (λ (c : Option Bool). with_next input r (coding.context q (n % w) (n / w)) c) (by.known r.predicted g q (n % w) (n / w) same)

next-pixels : (coding : Coding) (w : ℕ) (input : List ℕ) (r : Region) → (at_next coding w input r).pixels ≡ r.pixels
unfolding at_next
next-pixels coding w input r = either (eqb (length r.pixels % w) 0)
  where
    either : (b : Bool) → (cond b (after_ltp coding.row_context input r) r).pixels ≡ r.pixels
    either true = after_ltp-pixels coding.row_context input r
    either false = refl

first-same : (coding : Coding) → ByPixels coding → (w h k : ℕ) (input : List ℕ) (start : Region) → length start.pixels ≡ 0 → k ≤ h → (n : ℕ) → n ≤ w * k → first_pixels coding w h input start n ≡ first_pixels coding w k input start n
unfolding first_pixels
first-same coding by w h k input start none fewer zero within = refl
first-same coding by w h k input start none fewer (suc n) within =
    let before : Region = first_pixels coding w k input start n in
    let long : length (at_next coding w input before).pixels ≡ n = ap length (next-pixels coding w input before) ∙ first_pixels-length coding w k input start n none in
    ap (λ (r : Region). after_pixel coding w h input (at_next coding w input r)) (first-same coding by w h k input start none fewer n (omega arith))
    ∙ next-same coding by w h k input (at_next coding w input before) (omega (arith, long, within)) fewer

-- ---- what is decoded later leaves the pixels before it
next-kept : (input : List ℕ) (r : Region) (k : ℕ) (c : Option Bool) (i : ℕ) → i < length r.pixels → get_or (with_next input r k c).pixels i false ≡ get_or r.pixels i false
unfolding with_next
next-kept input r k (Some colour) i inside = get_or_append_left r.pixels (colour ∷ []) false i inside
next-kept input r k None i inside = get_or_append_left r.pixels (_ ∷ []) false i inside

one-kept : (coding : Coding) (w h : ℕ) (input : List ℕ) (r : Region) (i : ℕ) → i < length r.pixels → get_or (after_pixel coding w h input (at_next coding w input r)).pixels i false ≡ get_or r.pixels i false
unfolding after_pixel
one-kept coding w h input r i inside =
    let next : Region = at_next coding w input r in
    let same : next.pixels ≡ r.pixels = next-pixels coding w input r in
    next-kept input next _ _ i (subst (λ (bits : List Bool). i < length bits) (sym same) inside) ∙ ap (λ (bits : List Bool). get_or bits i false) same

first-kept : (coding : Coding) (w h : ℕ) (input : List ℕ) (start : Region) → length start.pixels ≡ 0 → (n d : ℕ) (i : ℕ) → i < n → get_or (first_pixels coding w h input start (n + d)).pixels i false ≡ get_or (first_pixels coding w h input start n).pixels i false
unfolding first_pixels
first-kept coding w h input start none n zero i inside =
    ap (λ (t : ℕ). get_or (first_pixels coding w h input start t).pixels i false) (let same : n + zero ≡ n = omega arith in same)
first-kept coding w h input start none n (suc d) i inside =
    let more : n + suc d ≡ suc (n + d) = omega arith in
    let long : length (first_pixels coding w h input start (n + d)).pixels ≡ n + d = first_pixels-length coding w h input start (n + d) none in
    ap (λ (t : ℕ). get_or (first_pixels coding w h input start t).pixels i false) more
    ∙ one-kept coding w h input (first_pixels coding w h input start (n + d)) i (omega (arith, long, inside))
    ∙ first-kept coding w h input start none n d i inside

-- ---- the region
pub region-same : (coding : Coding) → ByPixels coding → (w h k : ℕ) (input : List ℕ) (start : Region) → length start.pixels ≡ 0 → k ≤ h → (i j : ℕ) → i < w → j < k → pixel_at (so_far w h (decoded_region coding w h input start).pixels) i j ≡ pixel_at (so_far w k (decoded_region coding w k input start).pixels) i j
unfolding so_far decoded_region
region-same coding by w h k input start none fewer i j left above =
    let place : j * w + i < w * k = mul-add-lt j w i k above left in
    let rows : w * k ≤ w * h = mul-le-mul_left w fewer in
    let all : w * h ≡ w * k + (w * h - w * k) = omega (arith, rows) in
    let whole : List Bool = (first_pixels coding w h input start (w * h)).pixels in
    pixel_at-grid_of w h (bit_at w whole) i j left (omega (arith, above, fewer))
    ∙ ap (λ (n : ℕ). get_or (first_pixels coding w h input start n).pixels (j * w + i) false) all
    ∙ first-kept coding w h input start none (w * k) (w * h - w * k) (j * w + i) place
    ∙ ap (λ (r : Region). get_or r.pixels (j * w + i) false) (first-same coding by w h k input start none fewer (w * k) (omega arith))
    ∙ sym (pixel_at-grid_of w k (bit_at w (first_pixels coding w k input start (w * k)).pixels) i j left above)

-- ---- the page
-- the pixels of g are those of q, which has fewer rows
pub record Begins (g q : Grid) : Type 0 where
  width : g.width ≡ q.width
  fewer : q.height ≤ g.height
  pixels : (i j : ℕ) → i < q.width → j < q.height → pixel_at g i j ≡ pixel_at q i j

branches : (c d : Bool) (x y p : Bool) → c ≡ d → (d ≡ true → x ≡ y) → cond c x p ≡ cond d y p
branches true true x y p e same = same refl
branches false false x y p e same = refl
branches true false x y p e same = absurd (cc)
branches false true x y p e same = absurd (cc)

below-true : (m n : ℕ) → nat_lt m n ≡ true → m < n
below-true m n is = ⊎_elim (λ (less : m < n). less) (λ (more : n ≤ m). absurd (let never : false ≡ true = sym (le-ltb m n more) ∙ is in cc)) (cases_lt m n)

rows-same : (g q : Grid) (n : ℕ) → q.height ≤ g.height → (n < g.height → n < q.height) → nat_lt n g.height ≡ nat_lt n q.height
rows-same g q n fewer seen =
    ⊎_elim
    (λ (less : n < g.height). lt-ltb n g.height less ∙ sym (lt-ltb n q.height (seen less)))
    (λ (more : g.height ≤ n). le-ltb n g.height more ∙ sym (le-ltb n q.height (omega (arith, more, fewer))))
    (cases_lt n g.height)

both-true : (a b : Bool) → (a && b) ≡ true → (a ≡ true) × (b ≡ true)
both-true true true e = (refl, refl)
both-true true false e = absurd (cc)
both-true false b e = absurd (cc)

joined-same : (op : CombinationOperator) (p : Bool) (g q : Grid) → Begins g q → (a b : ℤ) → ((n : ℕ) → b ≡ pos n → n < g.height → n < q.height)
    → cond (is_below g.width a && is_below g.height b) (combined_pixel op p (pixel g a b)) p ≡ cond (is_below q.width a && is_below q.height b) (combined_pixel op p (pixel q a b)) p
joined-same op p g q begins (negsuc m) b seen = refl
joined-same op p g q begins (pos m) (negsuc n) seen =
    branches (nat_lt m g.width && false) (nat_lt m q.width && false) (combined_pixel op p false) (combined_pixel op p false) p (ap (λ (w : ℕ). nat_lt m w && false) begins.width) (λ is. refl)
joined-same op p g q begins (pos m) (pos n) seen =
    branches (nat_lt m g.width && nat_lt n g.height) (nat_lt m q.width && nat_lt n q.height) (combined_pixel op p (pixel_at g m n)) (combined_pixel op p (pixel_at q m n)) p
    (ap (λ (w : ℕ). nat_lt m w && nat_lt n g.height) begins.width ∙ ap (λ (b : Bool). nat_lt m q.width && b) (rows-same g q n begins.fewer (seen n refl)))
    (λ is.
    let inside = both-true (nat_lt m q.width) (nat_lt n q.height) is in
    ap (λ (s : Bool). combined_pixel op p s) (begins.pixels m n (below-true m q.width inside.0) (below-true n q.height inside.1)))

pub combined-same : (op : CombinationOperator) (page g q : Grid) (x y : ℤ) → Begins g q → ((j n : ℕ) → j < page.height → pos j -ℤ y ≡ pos n → n < g.height → n < q.height) → combined_grid op page g x y ≡ combined_grid op page q x y
unfolding drawn_pixel
combined-same op page g q x y begins seen =
    grid_of-ext page.width page.height _ _ (λ i j column row. joined-same op (pixel_at page i j) g q begins (pos i -ℤ x) (pos j -ℤ y) (λ n is. seen j n row is))

-- ---- a generic region of fewer rows
abbrev pub with_rows : ℕ → GenericHeader → GenericHeader
with_rows k h = record h { region_info = record h.region_info { height = k } }

pub generic-begins : (h : GenericHeader) (k : ℕ) → k ≤ h.region_info.height → Begins (generic_grid h) (generic_grid (with_rows k h))
unfolding generic_grid generic_region so_far
generic-begins h k fewer = record {
  width = refl;
  fewer = fewer;
  pixels = λ i j left above. region-same (generic_coding h) (generic-by h) h.region_info.width h.region_info.height k h.bytes _ refl fewer i j left above;
}

-- ---- a refinement of fewer rows
refined-by : (h : RefinementHeader) (r : Reference) → ByPixels (refinement_coding h.template h.tpgron h.adaptive_template_pixels r)
unfolding refined_context
refined-by h r = record {
  context = λ g q x y same.
      ap (λ (bits : List Bool). number_of (map (reference_pixel r x y) (reference_pixels h.template h.adaptive_template_pixels) ++ bits))
      (same-pixels (region_pixels h.template h.adaptive_template_pixels) g q x y same);
  known = λ p g q x y same. refl;
}

abbrev pub refined_rows : ℕ → RefinementHeader → RefinementHeader
refined_rows k h = record h { region_info = record h.region_info { height = k } }

pub refined-begins : (h : RefinementHeader) (from : PlacedRegion) (k : ℕ) → k ≤ h.region_info.height → Begins (refined_grid h from) (refined_grid (refined_rows k h) from)
unfolding refined_grid refined_region so_far
refined-begins h from k fewer = record {
  width = refl;
  fewer = fewer;
  pixels = λ i j left above. region-same (refinement_coding h.template h.tpgron h.adaptive_template_pixels (reference_of h from)) (refined-by h (reference_of h from)) h.region_info.width h.region_info.height k h.bytes _ refl fewer i j left above;
}

-- a reference as high as the region is refused for its width alone, however few rows are refined
pub offset-same : (h : RefinementHeader) (from : PlacedRegion) (k : ℕ) → k ≤ h.region_info.height → h.region_info.height ≤ from.grid.height → offset from h.region_info ≡ offset from (refined_rows k h).region_info
unfolding offset
offset-same h from k fewer covers = rw (le-ltb from.grid.height h.region_info.height covers, le-ltb from.grid.height k (omega (arith, fewer, covers))) refl

-- ---- a region that is parsed, drawn onto the page
generic-height : (h : GenericHeader) → (generic_grid h).height ≡ h.region_info.height
unfolding generic_grid so_far
generic-height h = refl

refined-height : (h : RefinementHeader) (from : PlacedRegion) → (refined_grid h from).height ≡ h.region_info.height
unfolding refined_grid so_far
refined-height h from = refl

fits : (w h : ℕ) → w ≤ 65535 → h ≤ 65535 → (nat_lt 65535 w || nat_lt 65535 h) ≡ false
fits w h columns rows = rw (le-ltb 65535 w columns, le-ltb 65535 h rows) refl

abbrev info_rows : ℕ → RegionSegmentInfo → RegionSegmentInfo
info_rows k info = record info { height = k }

-- which rows of a region a page of this height shows
abbrev SeenBy : ℕ → RegionSegmentInfo → ℕ → Type 0
SeenBy height info k = (j n : ℕ) → j < height → pos j -ℤ cast_signed w32 info.y_location ≡ pos n → n < info.height → n < k

shown-same : (d : Drawing) (info : RegionSegmentInfo) (k : ℕ) (g q : Grid) → Begins g q → g.height ≡ info.height → q.height ≡ k → SeenBy d.grid.height info k → with_drawn_region d (Ok (at_location (info_rows k info) q)) ≡ with_drawn_region d (Ok (at_location info g))
shown-same d info k g q begins high low seen =
    let within : (j n : ℕ) → j < d.grid.height → pos j -ℤ cast_signed w32 info.y_location ≡ pos n → n < g.height → n < q.height = λ j n row is less.
    let there : n < k = seen j n row is (omega (arith, less, high)) in omega (arith, there, low) in
    ap (λ (page : Grid). let r : Result Drawing DecodeError = Ok (record d { grid = page; untouched = false }) in r)
    (sym (combined-same info.combination_operator d.grid g q (cast_signed w32 info.x_location) (cast_signed w32 info.y_location) begins within))

unplaced : (info : RegionSegmentInfo) (r : Result Grid DecodeError) → info.width ≤ 65535 → info.height ≤ 65535 → (refuse_if (nat_lt 65535 info.width || nat_lt 65535 info.height) (Overflow BitmapDimension) >>= λ fits. r >>= λ g. Ok (at_location info g)) ≡ (r >>= λ g. Ok (at_location info g))
unplaced info r columns rows = ap (λ (b : Bool). refuse_if b (Overflow BitmapDimension) >>= λ fits. r >>= λ g. Ok (at_location info g)) (fits info.width info.height columns rows)

pub generic-shown : (A : Type 0) (header : GenericRegionHeader) (k : ℕ) (d : Drawing) → IsParsed (generics.header_view header) → header.mmr ≡ false → k ≤ header.region_info.height → SeenBy d.grid.height header.region_info k
    → with_drawn_region d (placed_region {A = A} (Generic (record header { region_info = info_rows k header.region_info }))) ≡ with_drawn_region d (placed_region {A = A} (Generic header))
generic-shown A header k d parsed coded fewer seen =
    let h : GenericHeader = generics.header_view header in
    let info : RegionSegmentInfo = header.region_info in
    let plain : (g : GenericHeader) → g.mmr ≡ false → generic_result g ≡ Ok (generic_grid g) = λ g is. rw is refl in
    ap (λ (r : Result PlacedRegion DecodeError). with_drawn_region d r) (unplaced (info_rows k info) (generic_result (with_rows k h)) parsed.columns (omega (arith, fewer, parsed.rows)) ∙ ap (λ (r : Result Grid DecodeError). r >>= λ g. Ok (at_location (info_rows k info) g)) (plain (with_rows k h) coded))
    ∙ shown-same d info k (generic_grid h) (generic_grid (with_rows k h)) (generic-begins h k fewer) (generic-height h) (generic-height (with_rows k h)) seen
    ∙ sym (ap (λ (r : Result PlacedRegion DecodeError). with_drawn_region d r) (unplaced info (generic_result h) parsed.columns parsed.rows ∙ ap (λ (r : Result Grid DecodeError). r >>= λ g. Ok (at_location info g)) (plain h coded)))

refined-drawn : (h : RefinementHeader) (from : PlacedRegion) (k : ℕ) (d : Drawing) → IsRefinement h → k ≤ h.region_info.height → h.region_info.height ≤ from.grid.height → SeenBy d.grid.height h.region_info k
    → with_drawn_region d (refined_result (refined_rows k h) from >>= λ g. Ok (at_location (info_rows k h.region_info) g)) ≡ with_drawn_region d (refined_result h from >>= λ g. Ok (at_location h.region_info g))
refined-drawn h from k d parsed fewer covers seen =
    ap (λ (o : Result (ℤ × ℤ) DecodeError). with_drawn_region d (o >>= (λ _. Ok (refined_grid (refined_rows k h) from)) >>= λ g. Ok (at_location (info_rows k h.region_info) g))) (sym (offset-same h from k fewer covers))
    ∙ by (offset from h.region_info)
  where
    by : (o : Result (ℤ × ℤ) DecodeError) → with_drawn_region d (o >>= (λ _. Ok (refined_grid (refined_rows k h) from)) >>= λ g. Ok (at_location (info_rows k h.region_info) g)) ≡ with_drawn_region d (o >>= (λ _. Ok (refined_grid h from)) >>= λ g. Ok (at_location h.region_info g))
    by (Ok near) = shown-same d h.region_info k (refined_grid h from) (refined_grid (refined_rows k h) from) (refined-begins h from k fewer) (refined-height h from) (refined-height (refined_rows k h) from) seen
    by (Err e) = refl

-- how a refinement is drawn, by what it refines
abbrev refined-apart : GenericRefinementRegionHeader → PlacedRegion → Result PlacedRegion DecodeError
refined-apart header from =
    refuse_if (nat_lt 65535 header.region_info.width || nat_lt 65535 header.region_info.height) (Overflow BitmapDimension)
    >>= λ fits. refined_result (refinements.header_view header) from >>= λ g. Ok (at_location header.region_info g)

pub refined-shown : (header : GenericRefinementRegionHeader) (from : PlacedRegion) (k : ℕ) (d : Drawing) → IsRefinement (refinements.header_view header) → k ≤ header.region_info.height → header.region_info.height ≤ from.grid.height → SeenBy d.grid.height header.region_info k
    → with_drawn_region d (refined-apart (record header { region_info = info_rows k header.region_info }) from) ≡ with_drawn_region d (refined-apart header from)
refined-shown header from k d parsed fewer covers seen =
    let h : RefinementHeader = refinements.header_view header in
    let info : RegionSegmentInfo = header.region_info in
    ap (λ (r : Result PlacedRegion DecodeError). with_drawn_region d r) (unplaced (info_rows k info) (refined_result (refined_rows k h) from) parsed.columns (omega (arith, fewer, parsed.rows)))
    ∙ refined-drawn h from k d parsed fewer covers seen
    ∙ sym (ap (λ (r : Result PlacedRegion DecodeError). with_drawn_region d r) (unplaced info (refined_result h from) parsed.columns parsed.rows))

-- ---- what is decoded without these rows is drawn as the whole region is
pub cut-refused : (d : Drawing) (meant whole cut : Result PlacedRegion DecodeError) (e : DecodeError) → meant ≡ whole → with_drawn_region d cut ≡ with_drawn_region d whole → (e ≡ OutOfMemory) ⊎ (cut ≡ Err e) → (e ≡ OutOfMemory) ⊎ (with_drawn_region d meant ≡ Err e)
cut-refused d meant whole cut e leads same (inl memory) = inl memory
cut-refused d meant whole cut e leads same (inr refused) =
    inr (ap (λ (r : Result PlacedRegion DecodeError). with_drawn_region d r) leads ∙ sym same ∙ ap (λ (r : Result PlacedRegion DecodeError). with_drawn_region d r) refused)

pub cut-shown : (d new : Drawing) (meant whole cut : Result PlacedRegion DecodeError) (region : PlacedRegion) → meant ≡ whole → with_drawn_region d cut ≡ with_drawn_region d whole → cut ≡ Ok region → Ok new ≡ with_drawn_region d (Ok region) → with_drawn_region d meant ≡ Ok new
cut-shown d new meant whole cut region leads same decoded drawn =
    ap (λ (r : Result PlacedRegion DecodeError). with_drawn_region d r) leads ∙ sym same ∙ ap (λ (r : Result PlacedRegion DecodeError). with_drawn_region d r) decoded ∙ sym drawn
