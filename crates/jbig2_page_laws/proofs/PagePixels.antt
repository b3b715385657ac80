-- A page's grid is made of the folds of its pixels.
use Rattle.std.proofs.Common.{◌≡◌, ℕ, eqb, Bool, true, false, List, [], ◌∷◌, ◌++◌, Option, None, Some, Result, Ok, Err, refl, sym, ◌∙◌, ap, subst}
use Rattle.std.specs.Prelude.{IfOk, if◌then◌else◌}
use Rattle.std.specs.Int.{w32, cast_signed}
use Rattle.std.proofs.lemmas.Bool.{cond_both}
use Rattle.jbig2_base.specs.Results.{◌>>=◌}
use Rattle.jbig2_base.specs.Combination.{combined_grid, drawn_pixel}
use Rattle.jbig2_base.specs.Grid.{Grid, grid_of}
use Rattle.jbig2_base.proofs.GridLemmas.{grid_of-ext, pixel_at-grid_of}
use Rattle.jbig2_base.specs.declared.error.DecodeError.{DecodeError}
use Rattle.jbig2_framing.specs.Reading.{is_salvaged, is_strict}
use Rattle.jbig2_framing.specs.Segment.{SegmentView}
use Rattle.jbig2_framing.specs.declared.cut_off.CutOff.{CutOff}
use Rattle.jbig2_framing.specs.declared.reading.Reading.{Reading}
use Rattle.jbig2_region.specs.RegionInfo.{PlacedRegion}
use Rattle.jbig2_page.specs.Names.{Names, kept_by}
use Rattle.jbig2_page.specs.Page.{Drawing, ReadPage, blank_page, drawing_with, ends_page, grid_of_page, or_left_out, or_told, passing, segment_by, segment_on, segments_drawn, strict_fault, with_cut_off, with_names}
use Rattle.jbig2_page.specs.PassedOver.{with_passed}
use Rattle.jbig2_page_laws.specs.PagePixels.{pixel_after, pixel_under, list_of_region, if_immediate, drawn_by, after_ok, regions_of, PixelsAreFolds}
use Rattle.jbig2_page_laws.proofs.SegmentTypes.{of-segment-type, shown, stored}

-- ---- grids
-- a page after one more region, and after all of these
abbrev grid_after : PlacedRegion → Grid → Grid
grid_after r g = combined_grid r.combination_operator g r.grid (cast_signed w32 r.x_location) (cast_signed w32 r.y_location)

abbrev grid_under : List PlacedRegion → Grid → Grid
grid_under [] g = g
grid_under (r ∷ regions) g = grid_under regions (grid_after r g)

under-append : (rs others : List PlacedRegion) (g : Grid) → grid_under (rs ++ others) g ≡ grid_under others (grid_under rs g)
under-append [] others g = refl
under-append (r ∷ rs) others g = under-append rs others (grid_after r g)

-- pixel by pixel
folds : (regions : List PlacedRegion) (w h : ℕ) (f : ℕ → ℕ → Bool) → grid_under regions (grid_of w h f) ≡ grid_of w h (λ x y. pixel_under regions x y (f x y))
unfolding drawn_pixel
folds [] w h f = refl
folds (r ∷ regions) w h f =
    let g : Grid = grid_of w h f in
    folds regions w h (drawn_pixel r.combination_operator g r.grid (cast_signed w32 r.x_location) (cast_signed w32 r.y_location))
    ∙ grid_of-ext w h _ _ (λ x y left above. ap (λ (below : Bool). pixel_under regions x y (pixel_after r x y below)) (pixel_at-grid_of w h f x y left above))

-- ---- a segment
-- it draws these regions; where it fails it draws none
abbrev Shows : Drawing → List PlacedRegion → Result Drawing DecodeError → Type 0
Shows d rs (Ok e) = e.grid ≡ grid_under rs d.grid
Shows d rs (Err e) = rs ≡ []

draws : (strict : Bool) (p : SegmentView) (d : Drawing) (r : Result PlacedRegion DecodeError) → Shows d (list_of_region r) (shown strict p d r)
draws strict p d (Ok region) = refl
draws true p d (Err e) = refl
draws false p d (Err e) = refl

stores : (p : SegmentView) (d : Drawing) (r : Result PlacedRegion DecodeError) → Shows d [] (stored p d r)
stores p d (Ok region) = refl
stores p d (Err e) = refl

names : (d : Drawing) (r : Result Names DecodeError) → Shows d [] (with_names d r)
names d (Ok kept) = refl
names d (Err e) = refl

by-segment : (strict : Bool) (globals : Names) (p : SegmentView) (d : Drawing) → Shows d (drawn_by strict globals p d) (segment_by strict globals p d)
by-segment strict globals p d =
    of-segment-type strict globals d (λ region r. Shows d (if_immediate region) r)
    (record {
      kept = λ q r. stores q d r;
      drawn = λ q r. draws strict q d r;
      nothing = λ q. names d (kept_by strict globals q d.names);
    })
    p

left-out : (reading : Reading) (p : SegmentView) (d : Drawing) (rs : List PlacedRegion) (r : Result Drawing DecodeError) → Shows d rs r → Shows d rs (or_left_out reading p d r)
left-out reading p d rs (Ok e) shows = shows
left-out reading p d rs (Err e) shows =
    cond_both (is_salvaged reading e) (Ok (passing p e d)) (Err e) (Shows d rs) (λ left. ap (λ (q : List PlacedRegion). grid_under q d.grid) (sym shows)) (λ kept. shows)

told : (fault : Option DecodeError) (number : ℕ) (d : Drawing) (rs : List PlacedRegion) (r : Result Drawing DecodeError) → Shows d rs r → Shows d rs (or_told fault number d r)
told None number d rs r shows = shows
told (Some fault) number d rs (Ok e) shows =
    cond_both (eqb e.passed_over.count d.passed_over.count) (Ok (record e { passed_over = with_passed (Some number) fault e.passed_over })) (Ok e) (Shows d rs) (λ same. shows) (λ other. shows)
told (Some fault) number d rs (Err e) shows = shows

on-segment : (reading : Reading) (globals : Names) (p : SegmentView) (d : Drawing) → Shows d (drawn_by (is_strict reading) globals p d) (segment_on reading globals p d)
on-segment reading globals p d =
    let strict = is_strict reading in
    let rs = drawn_by strict globals p d in
    let r = segment_by strict globals p d in
    told (strict_fault globals p d) p.header.segment_number d rs (or_left_out reading p d r) (left-out reading p d rs r (by-segment strict globals p d))

-- ---- all segments
ok-map : {A : Type 0} (P Q : A → Type 0) (r : Result A DecodeError) → IfOk r P → ((x : A) → P x → Q x) → IfOk r Q
ok-map P Q (Ok x) holds each = each x holds
ok-map P Q (Err e) holds each = tt

abbrev GridIs : List PlacedRegion → Grid → Drawing → Type 0
GridIs rs g e = e.grid ≡ grid_under rs g

module _ (reading : Reading) (globals : Names) where
  abbrev Follows : List SegmentView → Drawing → Type 0
  Follows ps d = IfOk (segments_drawn reading globals ps d) (GridIs (regions_of reading globals ps d) d.grid)

  and-then : (ps : List SegmentView) (d : Drawing) (rs : List PlacedRegion) (r : Result Drawing DecodeError) → Shows d rs r → ((e : Drawing) → Follows ps e)
      → IfOk (r >>= λ e. segments_drawn reading globals ps e) (GridIs (rs ++ after_ok r (λ e. regions_of reading globals ps e)) d.grid)
  and-then ps d rs (Ok e) shows each =
      let others = regions_of reading globals ps e in
      ok-map (GridIs others e.grid) (GridIs (rs ++ others) d.grid) (segments_drawn reading globals ps e) (each e) (λ f is.
      is ∙ ap (λ (g : Grid). grid_under others g) shows ∙ sym (under-append rs others d.grid))
  and-then ps d rs (Err e) shows each = tt

  all-segments : (ps : List SegmentView) (d : Drawing) → Follows ps d
  all-segments [] d = refl
  all-segments (p ∷ ps) d =
      by (ends_page p.header.segment_type) (and-then ps d (drawn_by (is_strict reading) globals p d) (segment_on reading globals p d) (on-segment reading globals p d) (λ e. all-segments ps e))
    where
      by : (ends : Bool)
          → IfOk (segment_on reading globals p d >>= λ e. segments_drawn reading globals ps e) (GridIs (drawn_by (is_strict reading) globals p d ++ after_ok (segment_on reading globals p d) (λ e. regions_of reading globals ps e)) d.grid)
          → IfOk (if ends then Ok d else (segment_on reading globals p d >>= λ e. segments_drawn reading globals ps e))
          (GridIs (if ends then [] else drawn_by (is_strict reading) globals p d ++ after_ok (segment_on reading globals p d) (λ e. regions_of reading globals ps e)) d.grid)
      by true follows = refl
      by false follows = follows

-- ---- a page
module _ (page : ReadPage) (globals : Names) where
  abbrev start : Drawing
  start = blank_page page.initial_page

  abbrev regions : List PlacedRegion
  regions = regions_of page.reading globals page.segments start

  abbrev IsFold : Grid → Type 0
  IsFold g = g ≡ grid_of page.initial_page.width page.initial_page.height (λ x y. pixel_under regions x y page.initial_page.default_pixel)

  cut : (c : Option CutOff) (d : Drawing) → (with_cut_off c d).grid ≡ d.grid
  cut None d = refl
  cut (Some c) d = refl

  seen : (r : Result Drawing DecodeError) → IfOk r (GridIs regions start.grid) → IfOk ((r >>= λ d. Ok (with_cut_off page.cut_off d)) >>= λ d. Ok d.grid) IsFold
  seen (Ok d) is = cut page.cut_off d ∙ is ∙ folds regions page.initial_page.width page.initial_page.height (λ x y. page.initial_page.default_pixel)
  seen (Err e) is = tt

pub pixels_are_folds : PixelsAreFolds
unfolding grid_of_page
pixels_are_folds page globals known =
    subst (λ (r : Result Names DecodeError). IfOk ((r >>= λ names. drawing_with names page) >>= λ d. Ok d.grid) (IsFold page globals)) (sym known)
    (seen page globals (segments_drawn page.reading globals page.segments (start page globals)) (all-segments page.reading globals page.segments (start page globals)))
