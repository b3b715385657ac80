-- A page on which no region was drawn is as it began; one that is drawn keeps its size; strict reading passes over nothing.
use Rattle.std.proofs.Common.{◌≡◌, ℕ, Bool, true, false, List, length, Option, None, Some, Result, Ok, Err, refl, sym, subst}
use Rattle.std.specs.Prelude.{◌&&◌, ◌++◌, IfOk, IsTrue}
use Rattle.jbig2_base.specs.Results.{◌>>=◌, refuse_if}
use Rattle.jbig2_base.specs.Grid.{Grid}
use Rattle.jbig2_base.specs.declared.error.DecodeError.TheVariants.{Format}
use Rattle.jbig2_base.specs.declared.error.FormatError.TheVariants.{PageCountMismatch}
use Rattle.jbig2_framing.specs.CutOff.{file_cut_off, sequence_cut_off, sequence_partial}
use Rattle.jbig2_framing.specs.File.{file_at}
use Rattle.jbig2_framing.specs.Reading.{is_strict}
use Rattle.jbig2_framing.specs.Segment.{SegmentView}
use Rattle.jbig2_framing.specs.Sequential.{by_number, sequential}
use Rattle.jbig2_framing.specs.declared.cut_off.CutOff.{CutOff}
use Rattle.jbig2_framing.specs.declared.file_header.FileHeader.{FileHeader}
use Rattle.jbig2_framing.specs.declared.reading.Reading.TheVariants.{Strict}
use Rattle.jbig2_framing.proofs.AgreeingCutOffs.{file-never-cut, sequence-never-cut}
use Rattle.jbig2_base.specs.declared.error.DecodeError.{DecodeError}
use Rattle.jbig2_framing.specs.declared.page_info.InitialPage.{InitialPage}
use Rattle.jbig2_page.specs.Files.{association_check, book_at, by_pages, miscounts, pages_in_file, part_of_file, segments_at, with_part}
use Rattle.jbig2_page.specs.Lenient.{StrictPassesNothing}
use Rattle.jbig2_page.specs.Names.{Names}
use Rattle.jbig2_page.specs.Page.{PagesKeepTheirSize, UntouchedIsBlank, Drawing, ReadPage, drawing_of_page, drawing_with, grid_of_page, beginning_of, blank_page, page_from, page_segments, part_of_list, segments_drawn, with_cut_off}
use Rattle.jbig2_page.proofs.DrawingSteps.{StepsBy, drawn-keeps}
use Rattle.jbig2_page.specs.PassedOver.{nothing_passed}

-- ---- untouched
-- either touched, or with the grid g
abbrev IsStill : Grid → Drawing → Type 0
IsStill g d = d.untouched ≡ true → d.grid ≡ g

still-steps : (strict : Bool) (g : Grid) → StepsBy strict (λ d e. IsStill g d → IsStill g e)
still-steps strict g = record {
  keeps = λ d names still. still;
  stores = λ d number region still. still;
  shows = λ d region still never. absurd (let no : false ≡ true = never in cc);
  passes = λ lenient d p e still never. absurd (let no : false ≡ true = never in cc);
  tells = λ lenient d e number fault same step still. step still;
}

pub untouched-blank : UntouchedIsBlank
untouched-blank reading names segments initial_page d is untouched =
    let g : Grid = (blank_page initial_page).grid in
    let P : Result Drawing DecodeError → Type 0 = λ r. IfOk r (IsStill g) in
    subst P is (drawn-keeps reading (IsStill g) (still-steps (is_strict reading) g) names segments (blank_page initial_page) (λ is. refl)) untouched

-- ---- a page as a whole
-- what holds of the drawing that its segments leave, where its globals gave names
of-page : (Q : Drawing → Type 0) (page : ReadPage) → ((d : Drawing) → Q d → Q (with_cut_off page.cut_off d)) → ((names : Names) → IfOk (segments_drawn page.reading names page.segments (blank_page page.initial_page)) Q) → IfOk (drawing_of_page page) Q
of-page Q page told each = by page.globals
  where
    tells : (drawn : Result Drawing DecodeError) → IfOk drawn Q → IfOk (drawn >>= λ d. Ok (with_cut_off page.cut_off d)) Q
    tells (Ok d) holds = told d holds
    tells (Err e) holds = tt

    by : (globals : Result Names DecodeError) → IfOk (globals >>= λ names. drawing_with names page) Q
    by (Ok names) = tells (segments_drawn page.reading names page.segments (blank_page page.initial_page)) (each names)
    by (Err e) = tt

-- ---- its size
abbrev HasSize : InitialPage → Grid → Type 0
HasSize initial_page g = (g.width ≡ initial_page.width) × (g.height ≡ initial_page.height)

size-steps : (strict : Bool) (initial_page : InitialPage) → StepsBy strict (λ d e. HasSize initial_page d.grid → HasSize initial_page e.grid)
size-steps strict initial_page = record {
  keeps = λ d names has. has;
  stores = λ d number region has. has;
  shows = λ d region has. has;
  passes = λ lenient d p e has. has;
  tells = λ lenient d e number fault same step has. step has;
}

of-grid : (P : Grid → Type 0) (drawn : Result Drawing DecodeError) → IfOk drawn (λ d. P d.grid) → IfOk (drawn >>= λ d. Ok d.grid) P
of-grid P (Ok d) holds = holds
of-grid P (Err e) holds = tt

pub pages_keep_their_size : PagesKeepTheirSize
unfolding grid_of_page
pages_keep_their_size page =
    let Q : Drawing → Type 0 = λ d. HasSize page.initial_page d.grid in
    of-grid (HasSize page.initial_page) (drawing_of_page page) (of-page Q page (told page.cut_off) (λ names. drawn-keeps page.reading Q (size-steps (is_strict page.reading) page.initial_page) names page.segments (blank_page page.initial_page) (refl, refl)))
  where
    told : (c : Option CutOff) (d : Drawing) → HasSize page.initial_page d.grid → HasSize page.initial_page (with_cut_off c d).grid
    told None d has = has
    told (Some c) d has = has

-- ---- strict reading
abbrev PassesNothing : Drawing → Type 0
PassesNothing d = d.passed_over ≡ nothing_passed

strict-steps : (strict : Bool) → IsTrue strict → StepsBy strict (λ d e. PassesNothing d → PassesNothing e)
strict-steps strict is = record {
  keeps = λ d names none. none;
  stores = λ d number region none. none;
  shows = λ d region none. none;
  passes = λ lenient d p e none. absurd (let strictly : strict ≡ true = is in cc);
  tells = λ lenient d e number fault same step none. absurd (let strictly : strict ≡ true = is in cc);
}

strict-drawing : (page : ReadPage) → IsTrue (is_strict page.reading) → page.cut_off ≡ None → IfOk (drawing_of_page page) PassesNothing
strict-drawing page is whole =
    of-page PassesNothing page
    (λ d none. subst (λ (c : Option CutOff). PassesNothing (with_cut_off c d)) (sym whole) none)
    (λ names. drawn-keeps page.reading PassesNothing (strict-steps (is_strict page.reading) is) names page.segments (blank_page page.initial_page) refl)

-- what is known of a list, or of a file, in a page that is read from it
of-read : {X Y : Type 0} (P : Y → Type 0) (C : Type 0) (r : Result X DecodeError) (next : X → Result Y DecodeError) → IfOk r (λ x. C) → (C → (x : X) → IfOk (next x) P) → IfOk (r >>= next) P
of-read P C (Ok x) next is each = each is x
of-read P C (Err e) next is each = tt

any-result : {X : Type 0} (r : Result X DecodeError) → IfOk r (λ x. Unit {0})
any-result (Ok x) = tt
any-result (Err e) = tt

strict-page : (names : Names) (bytes : List ℕ) → IfOk (page_from Strict names bytes) (λ page. page.cut_off ≡ None)
unfolding page_from
strict-page names bytes =
    of-read (λ page. page.cut_off ≡ None) (sequence_cut_off Strict bytes ≡ None) (page_segments Strict bytes) _ (sorted (sequential Strict bytes) (part_of_list Strict (sequence_partial Strict bytes)) (sequence-never-cut bytes)) (λ whole ps.
    of-read (λ page. page.cut_off ≡ None) (Unit {0}) (beginning_of Strict ps) _ (any-result (beginning_of Strict ps)) (λ _ initial_page. whole))
  where
    sorted : (r : Result (List SegmentView) DecodeError) (more : List SegmentView) → IfOk r (λ ps. sequence_cut_off Strict bytes ≡ None) → IfOk (r >>= λ ps. Ok (by_number (ps ++ more))) (λ ps. sequence_cut_off Strict bytes ≡ None)
    sorted (Ok ps) more whole = whole
    sorted (Err e) more whole = tt

-- a file's segments with one more
abbrev parted : List SegmentView → FileHeader × List SegmentView → Result (FileHeader × List SegmentView) DecodeError
parted more file = Ok (file.0, with_part more file.1)

strict-file : (bytes : List ℕ) → IfOk (book_at Strict bytes) (λ book. book.cut_off ≡ None)
unfolding book_at segments_at
strict-file bytes =
    of-read (λ book. book.cut_off ≡ None) (file_cut_off Strict bytes ≡ None) (segments_at Strict bytes) _ (read (file_at Strict bytes) (part_of_file Strict bytes) (file-never-cut bytes)) (λ whole file.
    of-read (λ book. book.cut_off ≡ None) (Unit {0}) (association_check true file.1) _ (any-result (association_check true file.1)) (λ _ known.
    of-read (λ book. book.cut_off ≡ None) (Unit {0}) (refuse_if (true && miscounts file.0.number_of_pages (length (by_pages file.1))) (Format PageCountMismatch)) _ (any-result (refuse_if (true && miscounts file.0.number_of_pages (length (by_pages file.1))) (Format PageCountMismatch))) (λ _ counted.
    of-read (λ book. book.cut_off ≡ None) (Unit {0}) (pages_in_file Strict (by_pages file.1)) _ (any-result (pages_in_file Strict (by_pages file.1))) (λ _ pages. whole))))
  where
    read : (r : Result (FileHeader × List SegmentView) DecodeError) (more : List SegmentView) → IfOk r (λ file. file_cut_off Strict bytes ≡ None) → IfOk (r >>= parted more) (λ file. file_cut_off Strict bytes ≡ None)
    read (Ok file) more whole = whole
    read (Err e) more whole = tt

pub strict_passes_nothing : StrictPassesNothing
strict_passes_nothing = record { drawing = strict-drawing; page = strict-page; file = strict-file }
