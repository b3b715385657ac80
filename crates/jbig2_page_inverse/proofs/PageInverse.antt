-- Pages are read back.
use Rattle.std.proofs.Common.{◌≤◌, ◌≡◌, ℕ, ◌+◌, ◌<◌, eqb, ltb, Bool, true, false, ◌&&◌, ◌||◌, List, [], ◌∷◌, length, pos, Option, None, Some, Result, Ok, Err, refl, sym, ◌∙◌, ap, subst, arith, ne_eqb, lt-ltb, le-ltb, append-nil, ◌++◌, ◌*◌, ⊎_elim, length-append}
use Rattle.std.specs.List.{flat_map}
use Rattle.std.proofs.lemmas.Bool.{cond-true, cond-false, or_from, and_from, and_right, cases_Bool}
use Rattle.std.proofs.lemmas.Nat.{mul-le}
use Rattle.jbig2_base.specs.Results.{◌>>=◌, refuse_if}
use Rattle.jbig2_base.specs.Combination.{combined_grid, combined_pixel, drawn_pixel}
use Rattle.jbig2_base.specs.Grid.{Grid, grid_of, blank, pixel_at, check_sides, max_side}
use Rattle.std.specs.Prelude.{IfOk}
use Rattle.jbig2_framing.specs.CutOff.{sequence_cut_off, sequence_partial}
use Rattle.jbig2_framing.specs.PageInfo.{height_of, information_at, initial_page_with}
use Rattle.jbig2_framing.specs.Reading.{is_strict}
use Rattle.jbig2_framing.specs.Segment.{SegmentView, is_reserved}
use Rattle.jbig2_framing.specs.Sequential.{by_number, sequential}
use Rattle.jbig2_base.specs.declared.bitmap.operator.CombinationOperator.{CombinationOperator}
use Rattle.jbig2_base.specs.declared.bitmap.operator.CombinationOperator.TheVariants.{Or, Replace}
use Rattle.jbig2_base.specs.declared.error.DecodeError.{DecodeError}
use Rattle.jbig2_base.specs.declared.error.DecodeError.TheVariants.{Format}
use Rattle.jbig2_base.specs.declared.error.FormatError.TheVariants.{EmptyPage, UnknownPageHeight}
use Rattle.jbig2_framing.specs.declared.cut_off.CutOff.{CutOff}
use Rattle.jbig2_framing.specs.declared.page_info.InitialPage.{InitialPage}
use Rattle.jbig2_framing.specs.declared.page_info.PageInformation.{PageInformation}
use Rattle.jbig2_framing.specs.declared.reading.Reading.{Reading}
use Rattle.jbig2_framing.specs.declared.reading.Reading.TheVariants.{Strict, Lenient, Salvage}
use Rattle.jbig2_framing.specs.declared.segment.SegmentType.TheVariants as types
use Rattle.jbig2_framing.proofs.AgreeingCutOffs.{sequence-cut-same, sequence-never-cut}
use Rattle.jbig2_base.proofs.GridLemmas.{grid_of-ext, pixel_at-grid_of}
use Rattle.jbig2_coder.specs.Encoder.{encoded_bytes}
use Rattle.jbig2_region.specs.Generic.{generic_coding, generic_decoded, generic_result}
use Rattle.jbig2_region.specs.GenericHeader.{GenericHeader, generic_header_at}
use Rattle.jbig2_region.specs.Templates.{adaptive_pixel_count}
use Rattle.jbig2_region.specs.declared.template.Template.{Template}
use Rattle.jbig2_region.specs.declared.template.Template.TheVariants.{Template0, Template1, Template2, Template3}
use Rattle.jbig2_region.specs.declared.template.AdaptiveTemplatePixel.{AdaptiveTemplatePixel}
use Rattle.jbig2_region.specs.RegionInfo.{PlacedRegion, at_location}
use Rattle.jbig2_framing.specs.declared.segment.SegmentType.{SegmentType}
use Rattle.jbig2_page.specs.Names.{Names}
use Rattle.jbig2_page.proofs.AgreeingPages.{no-part, segment-any}
use Rattle.jbig2_page.specs.Regions.{generic_at, with_whole_rows}
use Rattle.jbig2_framing.specs.Segment.{is_partial}
use Rattle.jbig2_page.specs.Page.{Drawing, IsSide, ReadPage, beginning_of, blank_page, known_height, page_from, part_of_list, grid_of_page, immediate, or_passed_over, segment_by, segment_on, with_cut_off, with_drawn_region, segments_drawn}
use Rattle.jbig2_inverses.specs.MmrWriter.{mmr_bytes}
use Rattle.jbig2_inverses.specs.GenericSegmentWriter.{adaptive_bytes, IsHeader, generic_bytes, info_bytes}
use Rattle.jbig2_inverses.specs.RegionWriter.{is_typical, generic_entries}
use Rattle.jbig2_inverses.specs.SegmentWriter.{IsSegment, information_bytes}
use Rattle.jbig2_inverses.proofs.BitmapInverse.{bitmaps_are_short}
use Rattle.jbig2_inverses.proofs.CodedLength.{coded_data_is_short}
use Rattle.jbig2_inverses.proofs.RegionInverse.{entries-few}
use Rattle.jbig2_inverses.proofs.GenericInverse.{generic_regions_read_back}
use Rattle.jbig2_inverses.proofs.GenericSegmentInverse.{generic_segments_read_back, sides-fit}
use Rattle.jbig2_inverses.proofs.SegmentInverse.{page_information_reads_back, segments_read_back}
use Rattle.jbig2_page_inverse.specs.PageWriter.{PageChoice, IsChoice, region_of_bytes, coded_bytes, region_bytes, information, resolution_of, segment, page_bytes, PagesReadBack}

-- where the bytes were cut off changes no pixel
grid-with-cut : (c : Option CutOff) (r : Result Drawing DecodeError) → ((r >>= λ d. Ok (with_cut_off c d)) >>= λ d. Ok d.grid) ≡ (r >>= λ d. Ok d.grid)
grid-with-cut c (Err e) = refl
grid-with-cut None (Ok d) = refl
grid-with-cut (Some at) (Ok d) = refl

-- bytes whose list of segments doesn't end early have no part of one
pub no-part-of : (reading : Reading) (bytes : List ℕ) → sequence_cut_off Lenient bytes ≡ None → part_of_list reading (sequence_partial reading bytes) ≡ []
no-part-of Strict bytes whole = refl
no-part-of Lenient bytes whole = refl
no-part-of Salvage bytes whole = ap (λ (o : Option SegmentView). part_of_list Salvage o) (no-part bytes whole)

pub never-cut : (bytes : List ℕ) (ps : List SegmentView) → sequential Strict bytes ≡ Ok ps → sequence_cut_off Lenient bytes ≡ None
never-cut bytes ps read = by (sequential Strict bytes) read (sequence-never-cut bytes) (sequence-cut-same bytes)
  where
    by : (r : Result (List SegmentView) DecodeError) → r ≡ Ok ps → IfOk r (λ qs. sequence_cut_off Strict bytes ≡ None) → IfOk r (λ qs. sequence_cut_off Strict bytes ≡ sequence_cut_off Lenient bytes) → sequence_cut_off Lenient bytes ≡ None
    by (Ok qs) e never same = sym same ∙ never
    by (Err error) e never same = absurd (cc)

-- a region of the page's size, on a white page
pixel-drawn : (w h : ℕ) (pixels : ℕ → ℕ → Bool) (i j : ℕ) → i < w → j < h → drawn_pixel Or (blank w h false) (grid_of w h pixels) (pos 0) (pos 0) i j ≡ pixels i j
unfolding drawn_pixel
pixel-drawn w h pixels i j left above =
    let page : Grid = blank w h false in
    let source : Grid = grid_of w h pixels in
    let here : Bool = combined_pixel Or (pixel_at page i j) (pixel_at source i j) in
    let same : (n : ℕ) → n + 0 ≡ n = λ n. omega arith in
    let both : (ltb (i + 0) w && ltb (j + 0) h) ≡ true = and_from (ltb (i + 0) w) (ltb (j + 0) h) (lt-ltb (i + 0) w (omega (arith, left))) (lt-ltb (j + 0) h (omega (arith, above))) in
    cond-true (ltb (i + 0) w && ltb (j + 0) h) (combined_pixel Or (pixel_at page i j) (pixel_at source (i + 0) (j + 0))) (pixel_at page i j) both
    ∙ ap (λ (a : ℕ). combined_pixel Or (pixel_at page i j) (pixel_at source a (j + 0))) (same i)
    ∙ ap (λ (b : ℕ). combined_pixel Or (pixel_at page i j) (pixel_at source i b)) (same j)
    ∙ ap (λ (p : Bool). p || pixel_at source i j) (pixel_at-grid_of w h (λ a b. false) i j left above)
    ∙ pixel_at-grid_of w h pixels i j left above

drawn : (w h : ℕ) (pixels : ℕ → ℕ → Bool) → combined_grid Or (blank w h false) (grid_of w h pixels) (pos 0) (pos 0) ≡ grid_of w h pixels
drawn w h pixels = grid_of-ext w h (drawn_pixel Or (blank w h false) (grid_of w h pixels) (pos 0) (pos 0)) pixels (λ i j left above. pixel-drawn w h pixels i j left above)

length-information : (i : PageInformation) → length (information_bytes i) ≡ 19
unfolding information_bytes
length-information i = refl

-- a segment whose length is known, and which refers to no other, can be written
pub segment-written : (strict : Bool) (number page : ℕ) (kind : SegmentType) (bytes : List ℕ) → number < 4294967296 → page < 4294967296 → is_reserved kind ≡ false → length bytes < 4294967295
    → IsSegment strict (segment number page kind bytes)
segment-written strict number page kind bytes few small known short = record {
  number = few;
  page = small;
  known = and_right strict (is_reserved kind) known;
  no_references = refl;
  data_length = refl;
  short = short;
}

entries-same : (c : PageChoice) (w h : ℕ) (pixels : ℕ → ℕ → Bool) (strict : Bool) (bytes : List ℕ)
    → generic_entries (region_of_bytes c w h pixels strict bytes) pixels ≡ generic_entries (region_of_bytes c w h pixels false []) pixels
unfolding generic_entries
entries-same c w h pixels strict bytes = refl

bytes-same : (c : PageChoice) (w h : ℕ) (pixels : ℕ → ℕ → Bool) (strict : Bool) (bytes : List ℕ)
    → generic_bytes (region_of_bytes c w h pixels strict bytes) ≡ generic_bytes (region_of_bytes c w h pixels false bytes)
unfolding generic_bytes
bytes-same c w h pixels strict bytes = refl

module _ (reading : Reading) (globals : Names) (c : PageChoice) (w h : ℕ) (pixels : ℕ → ℕ → Bool) (is : IsChoice c) (columns : IsSide w) (rows : IsSide h) where
  abbrev pub strict : Bool
  strict = is_strict reading

  abbrev coded : List ℕ
  coded = coded_bytes c w h pixels

  abbrev header : GenericHeader
  header = region_of_bytes c w h pixels strict coded

  abbrev pub info : PageInformation
  info = information c w h pixels

  abbrev pub first : SegmentView
  first = segment 0 1 types.PageInformation (information_bytes info)

  abbrev pub second : SegmentView
  second = segment 1 1 types.ImmediateGenericRegion (region_bytes c w h pixels)

  -- the region
  result-is : generic_result header ≡ Ok (grid_of w h pixels)
  unfolding coded_bytes
  result-is = by c.mmr refl
    where
      by : (m : Bool) → c.mmr ≡ m → generic_result header ≡ Ok (grid_of w h pixels)
      by true e = generic_regions_read_back.mmr header pixels c.end_of_block e columns.0 rows.0 (cond-true c.mmr (mmr_bytes c.end_of_block w h pixels) (encoded_bytes (generic_entries (region_of_bytes c w h pixels false []) pixels)) e)
      by false e = generic_regions_read_back.coded header pixels is.template e
          (cond-false c.mmr (mmr_bytes c.end_of_block w h pixels) (encoded_bytes (generic_entries (region_of_bytes c w h pixels false []) pixels)) e ∙ ap encoded_bytes (sym (entries-same c w h pixels strict coded)))

  header-is : IsHeader header
  header-is = record {
    columns = columns.1;
    rows = rows.1;
    left = omega arith;
    top = omega arith;
    extended = is.extended;
    count = is.count;
    pixels = is.pixels;
  }

  region-is : generic_at strict false second ≡ Ok (at_location header.region_info (grid_of w h pixels))
  unfolding generic_at
  region-is =
      let placed : Result Grid DecodeError → Result PlacedRegion DecodeError = λ r. r >>= λ g. Ok (at_location header.region_info g) in
      let whole : is_partial second ≡ false = le-ltb (length second.bytes) (length second.bytes) (omega arith) in
      ap (λ (b : Bool). generic_header_at false strict second.bytes >>= λ x. generic_decoded (with_whole_rows b x.0)) whole
      ∙ ap (λ (b : List ℕ). generic_header_at false strict b >>= λ x. generic_decoded x.0) (sym (bytes-same c w h pixels strict coded))
      ∙ ap (λ (r : Result (GenericHeader × List ℕ) DecodeError). r >>= λ x. generic_decoded x.0) (generic_segments_read_back header header-is)
      ∙ ap placed result-is

  -- the page
  abbrev pub initial : InitialPage
  initial = record { number = 1; width = w; height = h; default_pixel = false }

  information-is : information_at (information_bytes info) ≡ Ok (info, [])
  information-is =
      ap (λ (b : List ℕ). information_at b) (sym (append-nil (information_bytes info))) ∙ page_information_reads_back info (record {
        width = omega (arith, columns.1);
        height = omega (arith, rows.1);
        x_resolution = is.x_resolution;
        y_resolution = is.y_resolution;
        operator = or-replace;
        stripes = omega arith;
      }) []
    where
      IsOr : CombinationOperator → Type 0
      IsOr Or = Unit {0}
      IsOr _ = ⊥

      or-replace : Or ≡ Replace → ⊥
      or-replace e = subst IsOr e tt

  pub beginning-is : (more : List SegmentView) → beginning_of reading (first ∷ second ∷ more) ≡ Ok initial
  unfolding beginning_of
  beginning-is more =
      let known = known_height reading (first ∷ second ∷ more) in
      let unknown : Result ℕ DecodeError = refuse_if (eqb known 0) (Format UnknownPageHeight) >>= λ k. Ok known in
      let stated : Result ℕ DecodeError = Ok h in
      let made : Result InitialPage DecodeError = Ok initial in
      ap (λ (r : Result (PageInformation × List ℕ) DecodeError). r >>= λ i. height_of i.0.height known >>= λ height. initial_page_with 1 i.0 height) information-is
      ∙ ap (λ (r : Result ℕ DecodeError). r >>= λ height. initial_page_with 1 info height) (cond-false (eqb h 4294967295) unknown stated (ne_eqb h 4294967295 (λ e. omega (arith, e, rows.1))))
      ∙ ap (λ (t : Bool). refuse_if t (Format EmptyPage) >>= λ some. check_sides w h >>= λ fits. made) (or_from (eqb w 0) (eqb h 0) (ne_eqb w 0 (λ e. omega (arith, e, columns.0))) (ne_eqb h 0 (λ e. omega (arith, e, rows.0))))
      ∙ ap (λ (r : Result (Unit {0}) DecodeError). r >>= λ fits. made) (sides-fit w h columns.1 rows.1)

  pub resolution-is : (more : List SegmentView) → resolution_of (first ∷ second ∷ more) ≡ Ok (c.x_resolution, c.y_resolution)
  resolution-is more =
      ap (λ (r : Result (PageInformation × List ℕ) DecodeError). let stated : Result (PageInformation × List ℕ) DecodeError → Result (Option ℕ × Option ℕ) DecodeError = λ q. q >>= λ i. Ok (i.0.x_resolution, i.0.y_resolution) in stated r) information-is

  pub first-written : IsSegment strict first
  first-written = segment-written strict 0 1 types.PageInformation (information_bytes info) (omega arith) (omega arith) refl (omega (arith, length-information info))

  pub second-written : length (region_bytes c w h pixels) < 4294967295 → IsSegment strict second
  second-written short = segment-written strict 1 1 types.ImmediateGenericRegion (region_bytes c w h pixels) (omega arith) (omega arith) refl short

  segments-are : length (region_bytes c w h pixels) < 4294967295 → sequential reading (page_bytes c w h pixels) ≡ Ok (first ∷ second ∷ [])
  unfolding page_bytes
  segments-are short = segments_read_back reading (first ∷ second ∷ []) (first-written, refl, second-written short)

  -- a page of these two segments and more
  abbrev pub page-with : List SegmentView → Option CutOff → ReadPage
  page-with more cut = record {
    reading = reading;
    initial_page = initial;
    segments = first ∷ second ∷ more;
    globals = Ok globals;
    cut_off = cut;
  }

  abbrev page : ReadPage
  page = page-with [] (sequence_cut_off reading (page_bytes c w h pixels))

  page-is : length (region_bytes c w h pixels) < 4294967295 → sequence_cut_off Lenient (page_bytes c w h pixels) ≡ None → page_from reading globals (page_bytes c w h pixels) ≡ Ok page
  unfolding page_from
  page-is short whole =
      let made : InitialPage → ReadPage = λ i. record { reading = reading; initial_page = i; segments = first ∷ second ∷ []; globals = Ok globals; cut_off = sequence_cut_off reading (page_bytes c w h pixels) } in
      let next : List SegmentView → Result ReadPage DecodeError = λ ps. beginning_of reading ps >>= λ i. Ok (record { reading = reading; initial_page = i; segments = ps; globals = Ok globals; cut_off = sequence_cut_off reading (page_bytes c w h pixels) }) in
      ap (λ (more : List SegmentView). (sequential reading (page_bytes c w h pixels) >>= λ ps. Ok (by_number (ps ++ more))) >>= next) (no-part-of reading (page_bytes c w h pixels) whole)
      ∙ ap (λ (r : Result (List SegmentView) DecodeError). (r >>= λ ps. Ok (by_number (ps ++ []))) >>= next) (segments-are short)
      ∙ ap (λ (r : Result InitialPage DecodeError). r >>= λ i. Ok (made i)) (beginning-is [])

-- its drawing: page information draws nothing, and the region is drawn without a fault
whole-segment : (number page : ℕ) (kind : SegmentType) (bytes : List ℕ) → is_partial (segment number page kind bytes) ≡ false
whole-segment number page kind bytes = le-ltb (length bytes) (length bytes) (omega arith)

without-fault : (reading : Reading) (globals : Names) (p : SegmentView) (d e : Drawing) → is_partial p ≡ false → segment_by true globals p d ≡ Ok e → segment_on reading globals p d ≡ Ok e
without-fault reading globals p d e whole is = rw (whole, is, segment-any (is_strict reading) globals p d e is) refl

-- segments after these two that draw nothing
abbrev pub DrawNothing : Reading → Names → List SegmentView → Type 0
DrawNothing reading globals more = (d : Drawing) → segments_drawn reading globals more d ≡ Ok d

pub grid-is : (reading : Reading) (globals : Names) (c : PageChoice) (w h : ℕ) (pixels : ℕ → ℕ → Bool) (is : IsChoice c) (columns : IsSide w) (rows : IsSide h) (more : List SegmentView) (cut : Option CutOff) → DrawNothing reading globals more
    → grid_of_page (page-with reading globals c w h pixels is columns rows more cut) ≡ Ok (grid_of w h pixels)
unfolding grid_of_page immediate
grid-is reading globals c w h pixels is columns rows more cut nothing =
    let whole = page-with reading globals c w h pixels is columns rows more cut in
    let d : Drawing = blank_page whole.initial_page in
    let one : SegmentView = segment 0 1 types.PageInformation (information_bytes (information c w h pixels)) in
    let two : SegmentView = segment 1 1 types.ImmediateGenericRegion (region_bytes c w h pixels) in
    let e : Drawing = record d { grid = combined_grid Or d.grid (grid_of w h pixels) (pos 0) (pos 0); untouched = false } in
    let first : segment_on reading globals one d ≡ Ok d = without-fault reading globals one d d (whole-segment 0 1 types.PageInformation (information_bytes (information c w h pixels))) refl in
    let strictly : segment_by true globals two d ≡ Ok e = ap (λ (r : Result PlacedRegion DecodeError). or_passed_over true two d (with_drawn_region d r)) (region-is Strict globals c w h pixels is columns rows) in
    let second : segment_on reading globals two d ≡ Ok e = without-fault reading globals two d e (whole-segment 1 1 types.ImmediateGenericRegion (region_bytes c w h pixels)) strictly in
    grid-with-cut whole.cut_off (segments_drawn reading globals whole.segments d)
    ∙ ap (λ (r : Result Drawing DecodeError). (r >>= λ x. segments_drawn reading globals (two ∷ more) x) >>= λ x. Ok x.grid) first
    ∙ ap (λ (r : Result Drawing DecodeError). (r >>= λ x. segments_drawn reading globals more x) >>= λ x. Ok x.grid) second
    ∙ ap (λ (r : Result Drawing DecodeError). r >>= λ x. Ok x.grid) (nothing e)
    ∙ ap (λ (g : Grid). let r : Result Grid DecodeError = Ok g in r) (drawn w h pixels)

-- ---- a segment can state the length
bits-short : (w h : ℕ) → w ≤ max_side → h ≤ max_side → h * (7 * w + 60) ≤ 65535 * 458805
bits-short w h columns rows = mul-le h (7 * w + 60) 65535 458805 rows (omega (arith, columns))

length-adaptive : (ps : List AdaptiveTemplatePixel) → length (flat_map adaptive_bytes ps) ≡ 2 * length ps
length-adaptive [] = refl
length-adaptive (p ∷ ps) = let e = length-adaptive ps in omega (arith, e)

length-region : (c : PageChoice) (w h : ℕ) (pixels : ℕ → ℕ → Bool) → length (region_bytes c w h pixels) ≡ 18 + 2 * length c.adaptive + length (coded_bytes c w h pixels)
unfolding generic_bytes info_bytes
length-region c w h pixels =
    let size = length-append (flat_map adaptive_bytes c.adaptive) (coded_bytes c w h pixels) in
    let more = length-adaptive c.adaptive in
    omega (arith, size, more)

pub by-mmr-short : (c : PageChoice) (w h : ℕ) (pixels : ℕ → ℕ → Bool) → c.mmr ≡ true → w ≤ max_side → h ≤ max_side → 8 * length (coded_bytes c w h pixels) ≤ 65535 * 458805 + 31
unfolding coded_bytes
by-mmr-short c w h pixels e columns rows =
    let is = ap length (cond-true c.mmr (mmr_bytes c.end_of_block w h pixels) (encoded_bytes (generic_entries (region_of_bytes c w h pixels false []) pixels)) e) in
    let few = bitmaps_are_short c.end_of_block w h pixels in
    let most = bits-short w h columns rows in
    omega (arith, is, few, most)

area-few : (w h : ℕ) → w ≤ max_side → h ≤ max_side → w * h + h ≤ 65535 * 65536
area-few w h columns rows = let most = mul-le h (w + 1) 65535 65536 rows (omega (arith, columns)) in omega (arith, most)

pub by-coder-short : (c : PageChoice) (w h : ℕ) (pixels : ℕ → ℕ → Bool) → c.mmr ≡ false → w ≤ max_side → h ≤ max_side → 7 * length (coded_bytes c w h pixels) ≤ 6 * (65535 * 65536) + 40
unfolding coded_bytes generic_entries
by-coder-short c w h pixels e columns rows =
    let header = region_of_bytes c w h pixels false [] in
    let entries = generic_entries header pixels in
    let is = ap length (cond-false c.mmr (mmr_bytes c.end_of_block w h pixels) (encoded_bytes entries) e) in
    let few = coded_data_is_short entries in
    let most = entries-few (generic_coding header) w h pixels (is_typical c.typical w pixels) 0 (w * h) h (omega arith) in
    let area = area-few w h columns rows in
    omega (arith, is, few, most, area)

adaptive-few : (mmr extended : Bool) (template : Template) → adaptive_pixel_count mmr extended template ≤ 12
adaptive-few true extended template = omega arith
adaptive-few false true Template0 = omega arith
adaptive-few false false Template0 = omega arith
adaptive-few false true Template1 = omega arith
adaptive-few false false Template1 = omega arith
adaptive-few false true Template2 = omega arith
adaptive-few false false Template2 = omega arith
adaptive-few false true Template3 = omega arith
adaptive-few false false Template3 = omega arith

pub data-short : (c : PageChoice) (w h : ℕ) (pixels : ℕ → ℕ → Bool) → IsChoice c → w ≤ max_side → h ≤ max_side → length (region_bytes c w h pixels) < 4294967295
data-short c w h pixels is columns rows =
    let size = length-region c w h pixels in
    let count = is.count in
    let twelve = adaptive-few c.mmr c.extended c.template in
    ⊎_elim
    (λ (e : c.mmr ≡ true). let few = by-mmr-short c w h pixels e columns rows in omega (arith, size, count, twelve, few))
    (λ (e : c.mmr ≡ false). let few = by-coder-short c w h pixels e columns rows in omega (arith, size, count, twelve, few))
    (cases_Bool c.mmr)

pub pages_read_back : PagesReadBack
pages_read_back reading globals c w h pixels is columns rows =
    let short = data-short c w h pixels is columns.1 rows.1 in
    let whole = never-cut (page_bytes c w h pixels) _ (segments-are Strict globals c w h pixels is columns rows short) in
    let cut = sequence_cut_off reading (page_bytes c w h pixels) in (
      page reading globals c w h pixels is columns rows,
      page-is reading globals c w h pixels is columns rows short whole,
      record {
        drawn = grid-is reading globals c w h pixels is columns rows [] cut (λ d. refl);
        resolution = resolution-is reading globals c w h pixels is columns rows [];
      },
    )
