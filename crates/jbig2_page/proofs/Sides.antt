-- The sides of pages.
use Rattle.std.proofs.Common.{◌≡◌, ℕ, zero, suc, eqb, Bool, true, false, ◌||◌, nat_lt, List, [], ◌∷◌, length, Option, Some, None, Result, Ok, Err, refl, subst, arith}
use Rattle.std.specs.Prelude.{IfOk, IfSome, slice_get, option_map, not, ◌&&◌}
use Rattle.std.specs.List.{AllByRecursion}
use Rattle.std.proofs.lemmas.Bool.{cond_both}
use Rattle.std.proofs.lemmas.Bool.Decides.{nat_tests}
use Rattle.jbig2_base.specs.Results.{◌>>=◌, refuse_if, some_or}
use Rattle.jbig2_framing.specs.PageInfo.{first_information, height_of, information_at, initial_page_with}
use Rattle.jbig2_framing.specs.CutOff.{file_cut_off}
use Rattle.jbig2_framing.specs.declared.cut_off.CutOff.{CutOff}
use Rattle.jbig2_framing.specs.declared.file_header.FileOrganization.{FileOrganization}
use Rattle.jbig2_framing.specs.Reading.{is_salvaged, is_strict}
use Rattle.jbig2_framing.specs.Segment.{SegmentView}
use Rattle.jbig2_base.specs.declared.error.DecodeError.{DecodeError}
use Rattle.jbig2_base.specs.declared.error.DecodeError.TheVariants.{Format, Overflow}
use Rattle.jbig2_base.specs.declared.error.FormatError.TheVariants.{EmptyPage, InvalidEndOfPage, MissingPageInfo, PageCountMismatch}
use Rattle.jbig2_base.specs.declared.error.OverflowError.TheVariants.{BitmapDimension}
use Rattle.jbig2_framing.specs.declared.page_info.InitialPage.{InitialPage}
use Rattle.jbig2_framing.specs.declared.page_info.PageInformation.{PageInformation}
use Rattle.jbig2_framing.specs.declared.reading.Reading.{Reading}
use Rattle.jbig2_framing.specs.declared.reading.Reading.TheVariants.{Lenient}
use Rattle.jbig2_page.specs.Files.{PageInFile, ReadFile, association_check, book_at, by_pages, ends_of, before_pages, pages_in_file, page_in_file, left_out_of, miscounts, of_page, page_in, page_of, shared_by, segments_at}
use Rattle.jbig2_page.specs.Page.{HasSides, IsSide, ReadPage, beginning_of, known_height}
use Rattle.jbig2_page.specs.Globals.{KeptGlobals}
use Rattle.jbig2_page.specs.FirstPage.{first_page, first_size}

-- what holds of the last step's value
last-has : {A B : Type 0} (P : B → Type 0) (r : Result A DecodeError) (next : A → Result B DecodeError) → ((x : A) → IfOk (next x) P) → IfOk (r >>= next) P
last-has P (Ok x) next each = each x
last-has P (Err e) next each = tt

unless-has : {B : Type 0} (P : B → Type 0) (b : Bool) (e : DecodeError) (next : Unit {0} → Result B DecodeError) → (b ≡ false → IfOk (next tt) P) → IfOk (refuse_if b e >>= next) P
unless-has P true e next each = tt
unless-has P false e next each = each refl

sides-with : (number : ℕ) (info : PageInformation) (height : ℕ) → IfOk (initial_page_with number info height) HasSides
sides-with number info height =
    unless-has HasSides (eqb info.width 0 || eqb height 0) (Format EmptyPage) _ (λ some.
    unless-has HasSides (nat_lt 65535 info.width || nat_lt 65535 height) (Overflow BitmapDimension) _ (λ fits. record {
      some_columns = grind (arith, nat_tests);
      columns = grind (arith, nat_tests);
      some_rows = grind (arith, nat_tests);
      rows = grind (arith, nat_tests);
    }))

sides-have : (reading : Reading) (ps : List SegmentView) → IfOk (beginning_of reading ps) HasSides
unfolding beginning_of
sides-have reading ps =
    last-has HasSides (first_information ps) _ (λ first. last-has HasSides (information_at first.bytes) _ (λ info. last-has HasSides (height_of info.0.height (known_height reading ps)) _ (λ height.
    sides-with first.header.page_association info.0 height)))

-- what a page begins as
pub blank_sides : (reading : Reading) (ps : List SegmentView) (p : InitialPage) → beginning_of reading ps ≡ Ok p → HasSides p
blank_sides reading ps p is = let P : Result InitialPage DecodeError → Type 0 = λ r. IfOk r HasSides in subst P is (sides-have reading ps)

-- ---- the first page of a file
abbrev FileSides : PageInFile → Type 0
FileSides page = HasSides page.initial_page

filed-sides : (reading : Reading) (own : List SegmentView) → IfOk (page_in_file reading own) FileSides
unfolding page_in_file
filed-sides reading own =
    last-has FileSides (refuse_if (is_strict reading && not (eqb (ends_of own) 1)) (Format InvalidEndOfPage)) _ (λ ended. page-has (beginning_of reading own) (sides-have reading own))
  where
    page-has : (r : Result InitialPage DecodeError) → IfOk r HasSides → IfOk (r >>= λ initial_page. let made : Result PageInFile DecodeError = Ok (record { initial_page = initial_page; segments = own }) in made) FileSides
    page-has (Ok p) has = has
    page-has (Err e) has = tt

each-sides : (reading : Reading) (all : List (List SegmentView)) → IfOk (pages_in_file reading all) (AllByRecursion FileSides)
each-sides reading [] = tt
each-sides reading (own ∷ others) = first (page_in_file reading own) (filed-sides reading own) (pages_in_file reading others) (each-sides reading others)
  where
    first : (r : Result PageInFile DecodeError) → IfOk r FileSides → (rest : Result (List PageInFile) DecodeError) → IfOk rest (AllByRecursion FileSides) → IfOk (before_pages reading r rest) (AllByRecursion FileSides)
    first (Ok page) has (Ok pages) others_have = (has, others_have)
    first (Ok page) has (Err e) others_have = tt
    first (Err e) has rest others_have = cond_both (is_salvaged reading e) rest (Err e) (λ (r : Result (List PageInFile) DecodeError). IfOk r (AllByRecursion FileSides)) (λ left. others_have) (λ kept. tt)

page-sides : (pages : List PageInFile) (index : ℕ) → AllByRecursion FileSides pages → IfSome (slice_get pages index) FileSides
page-sides [] index all = tt
page-sides (p ∷ ps) zero all = all.0
page-sides (p ∷ ps) (suc index) all = page-sides ps index all.1

abbrev AllSides : ReadFile → Type 0
AllSides book = AllByRecursion FileSides book.pages

filed-all : (reading : Reading) (organization : FileOrganization) (left_out : List DecodeError) (cut_off : Option CutOff) (pages : Result (List PageInFile) DecodeError) (globals : List PageInFile → Result KeptGlobals DecodeError) → IfOk pages (AllByRecursion FileSides)
    → IfOk (pages >>= λ ps. let made : Result ReadFile DecodeError = Ok (record { reading = reading; organization = organization; pages = ps; globals = globals ps; left_out = left_out; cut_off = cut_off }) in made) AllSides
filed-all reading organization left_out cut_off (Ok ps) globals all = all
filed-all reading organization left_out cut_off (Err e) globals all = tt

book-sides : (reading : Reading) (bytes : List ℕ) → IfOk (book_at reading bytes) AllSides
unfolding book_at
book-sides reading bytes =
    last-has AllSides (segments_at reading bytes) _ (λ file. last-has AllSides (association_check (is_strict reading) file.1) _ (λ known.
    last-has AllSides (refuse_if (is_strict reading && miscounts file.0.number_of_pages (length (by_pages file.1))) (Format PageCountMismatch)) _ (λ counted.
    filed-all reading file.0.organization (left_out_of reading (by_pages file.1)) (file_cut_off reading bytes) (pages_in_file reading (by_pages file.1)) (λ pages. shared_by reading pages (of_page 0 file.1)) (each-sides reading (by_pages file.1)))))

abbrev PageSides : ReadPage → Type 0
PageSides page = HasSides page.initial_page

found-sides : (book : ReadFile) (page : Option PageInFile) → IfSome page FileSides → IfOk (some_or (Format MissingPageInfo) (option_map (page_in book) page)) PageSides
found-sides book (Some page) has = has
found-sides book None has = tt

book-first : (book : Result ReadFile DecodeError) → IfOk book AllSides → IfOk (book >>= λ b. some_or (Format MissingPageInfo) (page_of b 0)) PageSides
book-first (Ok book) all = found-sides book (slice_get book.pages 0) (page-sides book.pages 0 all)
book-first (Err e) all = tt

abbrev TwoSides : ℕ × ℕ → Type 0
TwoSides size = IsSide size.0 × IsSide size.1

sized-sides : (page : Result ReadPage DecodeError) → IfOk page PageSides → IfOk (page >>= λ p. Ok (p.initial_page.width, p.initial_page.height)) TwoSides
sized-sides (Ok page) has = ((has.some_columns, has.columns), (has.some_rows, has.rows))
sized-sides (Err e) has = tt

pub first-sides : (bytes : List ℕ) (width height : ℕ) → first_size bytes ≡ Ok (width, height) → IsSide width × IsSide height
unfolding first_page
first-sides bytes width height is =
    let P : Result (ℕ × ℕ) DecodeError → Type 0 = λ r. IfOk r TwoSides in
    subst P is (sized-sides (first_page bytes) (book-first (book_at Lenient bytes) (book-sides Lenient bytes)))
