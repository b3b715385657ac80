-- The pages of a file (T.88, 7.2.6 and 7.4.8), and what they share. `book_at` takes a file's bytes and gives its pages,
-- each with the segments whose page association is its number, and the names that segments of association 0 keep.
use Rattle.std.specs.Prelude.{◌≡◌, ℕ, ◌+◌, ◌==◌, Bool, true, false, not, ◌&&◌, ◌||◌, List, [], ◌∷◌, ◌++◌, length}
use Rattle.std.specs.Prelude.{filter, map, slice_get, option_map, is_some, Option, Some, None, Result, Ok, Err}
use Rattle.std.specs.Prelude.{if◌then◌else◌}
use Rattle.std.specs.List.{flat_map, list_any}
use Rattle.jbig2_base.specs.Results.{◌>>=◌, refuse_if}
use Rattle.jbig2_framing.specs.File.{file_at}
use Rattle.jbig2_framing.specs.CutOff.{file_cut_off, file_partial}
use Rattle.jbig2_framing.specs.Reading.{is_salvaged, is_strict}
use Rattle.jbig2_framing.specs.Segment.{Header, SegmentView}
use Rattle.jbig2_framing.specs.Sequential.{by_number}
use Rattle.jbig2_base.specs.declared.error.DecodeError.{DecodeError}
use Rattle.jbig2_base.specs.declared.error.DecodeError.TheVariants.{Format, Segment}
use Rattle.jbig2_base.specs.declared.error.FormatError.TheVariants.{PageCountMismatch, InvalidEndOfPage}
use Rattle.jbig2_base.specs.declared.error.SegmentError.TheVariants.{MissingPageAssociation}
use Rattle.jbig2_framing.specs.declared.file_header.FileHeader.{FileHeader}
use Rattle.jbig2_framing.specs.declared.page_info.InitialPage.{InitialPage}
use Rattle.jbig2_framing.specs.declared.reading.Reading.{Reading}
use Rattle.jbig2_framing.specs.declared.cut_off.CutOff.{CutOff}
use Rattle.jbig2_framing.specs.declared.file_header.FileOrganization.{FileOrganization}
use Rattle.jbig2_framing.specs.declared.file_header.FileOrganization.TheVariants.{Sequential, RandomAccess}
use Rattle.jbig2_framing.specs.declared.segment.SegmentType.{SegmentType}
use Rattle.jbig2_page.specs.Page.{ReadPage, beginning_of, part_of_list, region_type}
use Rattle.jbig2_page.specs.Globals.{KeptGlobals, names_of, nothing_shared, shared_from}
use Rattle.jbig2_framing.specs.declared.segment.SegmentType.TheVariants as types

pub record PageInFile : Type 0 where
  pub initial_page : InitialPage
  pub segments : List SegmentView

-- A file: how strictly it is read, its organization, its pages, and what its globals keep or their error. In salvage
-- also an error for each page that was left out. At last the segment at which the list of segments ended early, if it
-- did.
pub record ReadFile : Type 0 where
  pub reading : Reading
  pub organization : FileOrganization
  pub pages : List PageInFile
  pub globals : Result KeptGlobals DecodeError
  pub left_out : List DecodeError
  pub cut_off : Option CutOff

-- What needs a page: regions, page information, and the ends of pages and stripes (7.3.2).
abbrev pub needs_page : SegmentType → Bool
needs_page types.PageInformation = true
needs_page types.EndOfPage = true
needs_page types.EndOfStripe = true
needs_page kind = is_some (region_type kind)

-- Association 0 means no page (7.2.6). Strict reading refuses it where a page is needed.
abbrev pub lacks_page : Bool → Header → Bool
lacks_page strict h = strict && h.page_association == 0 && needs_page h.segment_type

abbrev pub association_check : Bool → List SegmentView → Result (Unit {0}) DecodeError
association_check strict [] = Ok tt
association_check strict (p ∷ ps) =
    if lacks_page strict p.header then Err (Segment MissingPageAssociation) else association_check strict ps

-- These numbers, and after them the other numbers of pages in the order in which they first occur. 0 is no page.
abbrev pub numbers_after : List ℕ → List SegmentView → List ℕ
numbers_after ns [] = ns
numbers_after ns (p ∷ ps) =
    let n = p.header.page_association in
    numbers_after (if n == 0 || list_any (λ m. m == n) ns then ns else ns ++ n ∷ []) ps

abbrev pub of_page : ℕ → List SegmentView → List SegmentView
of_page n ps = filter (λ p. p.header.page_association == n) ps

abbrev pub by_pages : List SegmentView → List (List SegmentView)
by_pages ps = map (λ n. of_page n ps) (numbers_after [] ps)

abbrev pub is_end_of_page : SegmentType → Bool
is_end_of_page types.EndOfPage = true
is_end_of_page _ = false

abbrev pub ends_of : List SegmentView → ℕ
ends_of [] = 0
ends_of (p ∷ ps) = (if is_end_of_page p.header.segment_type then 1 else 0) + ends_of ps

abbrev pub error_of : {A : Type 0} → Result A DecodeError → List DecodeError
error_of (Ok x) = []
error_of (Err e) = e ∷ []

abbrev pub miscounts : Option ℕ → ℕ → Bool  -- the file's header gives another number of pages (D.4.3)
miscounts None n = false
miscounts (Some count) n = not (count == n)

-- sorted segments with one more, at its place
abbrev pub with_part : List SegmentView → List SegmentView → List SegmentView
with_part [] segments = segments
with_part part segments = by_number (segments ++ part)

module _ (reading : Reading) where
  -- The page that these segments make up. Strict reading requires exactly one end of page (7.4.9).
  unfoldable pub page_in_file : List SegmentView → Result PageInFile DecodeError
  page_in_file own = do
    ended ← refuse_if (is_strict reading && not (ends_of own == 1)) (Format InvalidEndOfPage)
    initial_page ← beginning_of reading own
    Ok (record { initial_page = initial_page; segments = own })

  -- A page before the others. Salvage leaves out one whose beginning fails.
  abbrev pub before_pages : Result PageInFile DecodeError → Result (List PageInFile) DecodeError
      → Result (List PageInFile) DecodeError
  before_pages (Ok page) others = others >>= λ pages. Ok (page ∷ pages)
  before_pages (Err e) others = if is_salvaged reading e then others else Err e

  abbrev pub pages_in_file : List (List SegmentView) → Result (List PageInFile) DecodeError
  pages_in_file [] = Ok []
  pages_in_file (own ∷ others) = before_pages (page_in_file own) (pages_in_file others)

  -- why pages are left out: an error for each
  abbrev pub left_out_of : List (List SegmentView) → List DecodeError
  left_out_of all = flat_map (λ own. error_of (page_in_file own)) all

  -- What these pages share: the names that segments of no page keep. It is empty without pages, since nothing shows it.
  abbrev pub shared_by : List PageInFile → List SegmentView → Result KeptGlobals DecodeError
  shared_by [] shared = Ok (nothing_shared None)
  shared_by (page ∷ pages) shared = shared_from reading shared (nothing_shared None)

  abbrev pub part_of_file : List ℕ → List SegmentView
  part_of_file bytes = part_of_list reading (file_partial reading bytes)

  -- The header of a file, and its segments in the order of their numbers. In salvage what is there of the segment at
  -- which their list ends early is among them, if it is drawn.
  unfoldable pub segments_at : List ℕ → Result (FileHeader × List SegmentView) DecodeError
  segments_at bytes = do
    (header, segments) ← file_at reading bytes
    Ok (header, with_part (part_of_file bytes) segments)

  -- A file's pages, and what they share.
  unfoldable pub book_at : List ℕ → Result ReadFile DecodeError
  book_at bytes = do
    (header, segments) ← segments_at bytes
    known ← association_check (is_strict reading) segments
    let own = by_pages segments
    counted ← refuse_if (is_strict reading && miscounts header.number_of_pages (length own)) (Format PageCountMismatch)
    pages ← pages_in_file own
    Ok (record {
      reading = reading;
      organization = header.organization;
      pages = pages;
      globals = shared_by pages (of_page 0 segments);
      left_out = left_out_of own;
      cut_off = file_cut_off reading bytes;
    })

-- The cut-off that a page has from its file (our own rule). A page whose end is there lacks nothing. In random access
-- the data of all pages comes last, so each page may lack some.
abbrev pub may_lack : FileOrganization → PageInFile → Bool
may_lack RandomAccess page = true
may_lack Sequential page = ends_of page.segments == 0

abbrev pub cut_off_of : FileOrganization → PageInFile → Option CutOff → Option CutOff
cut_off_of organization page None = None
cut_off_of organization page (Some c) = if may_lack organization page then Some c else None

abbrev pub page_in : ReadFile → PageInFile → ReadPage
page_in book page = record {
  reading = book.reading;
  initial_page = page.initial_page;
  segments = page.segments;
  globals = names_of book.globals;
  cut_off = cut_off_of book.organization page book.cut_off;
}

abbrev pub page_of : ReadFile → ℕ → Option ReadPage
page_of book index = option_map (page_in book) (slice_get book.pages index)

abbrev pub pages_of : ReadFile → List ReadPage
pages_of book = map (page_in book) book.pages

-- Each page of a file depends only on the segments whose association is its number or 0, the reading, and where the
-- file's list of segments ends early.
abbrev pub PagesStandAlone : Type 0
PagesStandAlone = (reading : Reading) (bytes : List ℕ) (file : FileHeader × List SegmentView) (book : ReadFile)
    (index : ℕ) (page : ReadPage)
    → segments_at reading bytes ≡ Ok file → book_at reading bytes ≡ Ok book → page_of book index ≡ Some page
    → let segments = file.1 in
    let own = of_page page.initial_page.number segments in
    let cut_off = file_cut_off reading bytes in
    (beginning_of reading own >>= λ initial_page. Ok (record {
      reading = reading;
      initial_page = initial_page;
      segments = own;
      globals = names_of (shared_from reading (of_page 0 segments) (nothing_shared None));
      cut_off = cut_off_of file.0.organization (record { initial_page = initial_page; segments = own }) cut_off;
    })) ≡ Ok page
