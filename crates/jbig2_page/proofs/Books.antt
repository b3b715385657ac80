-- The pages of a file one by one, and what each is made of.
use Rattle.std.proofs.Common.{◌≡◌, ℕ, suc, zero, ◌+◌, ◌==◌, ◌<◌, Bool, true, false, not, ◌&&◌, ◌||◌, cond, nat_lt, List, [], ◌∷◌, ◌++◌, length, drop, map, Option, Some, None, Result, Ok, Err, refl, sym, ap, subst, ◌∙◌, arith}
use Rattle.std.proofs.lemmas.Bool.{cond-false, cond-true, eqb-true}
use Rattle.std.proofs.lemmas.List.{append_assoc}
use Rattle.std.specs.Map.Iter.{TakesFirst}
use Rattle.std.specs.Prelude.{slice_get, option_map}
use Rattle.jbig2_base.proofs.Causes.{went}
use Rattle.jbig2_base.specs.Results.{◌>>=◌, refuse_if}
use Rattle.jbig2_framing.specs.PageInfo.{initial_page_with, first_information, information_at, is_page_information, height_of}
use Rattle.jbig2_framing.specs.CutOff.{file_cut_off}
use Rattle.jbig2_framing.specs.Reading.{is_salvaged, is_strict}
use Rattle.jbig2_framing.specs.declared.cut_off.CutOff.{CutOff}
use Rattle.jbig2_framing.specs.declared.file_header.FileOrganization.{FileOrganization}
use Rattle.jbig2_framing.specs.Segment.{SegmentView}
use Rattle.jbig2_base.specs.declared.error.DecodeError.{DecodeError}
use Rattle.jbig2_base.specs.declared.error.DecodeError.TheVariants.{Format, Overflow}
use Rattle.jbig2_base.specs.declared.error.FormatError.TheVariants.{EmptyPage, InvalidEndOfPage, PageCountMismatch}
use Rattle.jbig2_base.specs.declared.error.OverflowError.TheVariants.{BitmapDimension}
use Rattle.jbig2_framing.specs.declared.file_header.FileHeader.{FileHeader}
use Rattle.jbig2_framing.specs.declared.page_info.PageInformation.{PageInformation}
use Rattle.jbig2_framing.specs.declared.page_info.InitialPage.{InitialPage}
use Rattle.jbig2_framing.specs.declared.reading.Reading.{Reading}
use Rattle.jbig2_page.specs.Files.{PageInFile, ReadFile, of_page, by_pages, ends_of, error_of, before_pages, cut_off_of, page_in_file, pages_in_file, left_out_of, numbers_after, miscounts, association_check, book_at, page_in, segments_at, shared_by, PagesStandAlone}
use Rattle.jbig2_page.specs.Page.{ReadPage, beginning_of, known_height}
use Rattle.jbig2_page.specs.SharedWork.{shared_count}
use Rattle.jbig2_page.specs.Globals.{names_of, nothing_shared, shared_from}

from_front : {X Y : Type 0} (f : X → Y) (xs : List X) (i : ℕ) → i < length xs → TakesFirst (λ (y : Y). y) (map f (drop i xs)) (option_map f (slice_get xs i)) (map f (drop (suc i) xs))
from_front f [] i h = absurd (omega arith)
from_front f (x ∷ xs) zero h = refl
from_front f (x ∷ xs) (suc i) h = from_front f xs i (omega arith)

-- An index moves on by one as its item is taken.
pub taken_at : {X Y : Type 0} (f : X → Y) (xs : List X) (i j : ℕ) → i < length xs → j ≡ i + 1 → TakesFirst (λ (y : Y). y) (map f (drop i xs)) (option_map f (slice_get xs i)) (map f (drop j xs))
taken_at {X} {Y} f xs i j h e =
    let P : ℕ → Type 0 = λ n. TakesFirst (λ (y : Y). y) (map f (drop i xs)) (option_map f (slice_get xs i)) (map f (drop n xs)) in
    let on : suc i ≡ j = omega arith in
    subst P on (from_front f xs i h)

-- The first page information among the segments of one association has that association.
information-of : (b : Bool) (n : ℕ) (q p : SegmentView) (others : Result SegmentView DecodeError) → q.header.page_association ≡ n → (others ≡ Ok p → p.header.page_association ≡ n) → cond b (Ok q) others ≡ Ok p → p.header.page_association ≡ n
information-of true n q p others e later h =
    let same : q ≡ p = cc in
    ap (λ (r : SegmentView). r.header.page_association) (sym same) ∙ e
information-of false n q p others e later h = later h

first-of : (b : Bool) (n : ℕ) (q p : SegmentView) (qs : List SegmentView) → (q.header.page_association == n) ≡ b → (first_information qs ≡ Ok p → p.header.page_association ≡ n) → first_information (cond b (q ∷ qs) qs) ≡ Ok p → p.header.page_association ≡ n
first-of true n q p qs e later h = information-of (is_page_information q.header.segment_type) n q p (first_information qs) (eqb-true q.header.page_association n e) later h
first-of false n q p qs e later h = later h

first-of_page : (n : ℕ) (ps : List SegmentView) (p : SegmentView) → first_information (of_page n ps) ≡ Ok p → p.header.page_association ≡ n
first-of_page n [] p h = absurd (cc)
first-of_page n (q ∷ qs) p h = first-of (q.header.page_association == n) n q p (of_page n qs) refl (first-of_page n qs p) h

-- a page's number is its segments' association
abbrev initial_page_of_first : ℕ → SegmentView → Result InitialPage DecodeError
initial_page_of_first known first = information_at first.bytes >>= λ info. height_of info.0.height known >>= λ height. initial_page_with first.header.page_association info.0 height

number-of_initial_page : (number : ℕ) (info : PageInformation) (height : ℕ) (initial_page : InitialPage) → initial_page_with number info height ≡ Ok initial_page → initial_page.number ≡ number
number-of_initial_page number info height initial_page h =
    let some = went (refuse_if (info.width == 0 || height == 0) (Format EmptyPage)) (λ some. refuse_if (nat_lt 65535 info.width || nat_lt 65535 height) (Overflow BitmapDimension) >>= λ fits. Ok (record { number = number; width = info.width; height = height; default_pixel = info.flags.default_pixel })) initial_page h in
    let fits = went (refuse_if (nat_lt 65535 info.width || nat_lt 65535 height) (Overflow BitmapDimension)) (λ fits. Ok (record { number = number; width = info.width; height = height; default_pixel = info.flags.default_pixel })) initial_page some.2 in
    let sized : InitialPage = record { number = number; width = info.width; height = height; default_pixel = info.flags.default_pixel } in
    let same : sized ≡ initial_page = let is = fits.2 in cc in
    ap (λ (t : InitialPage). t.number) (sym same)

number-of_page : (reading : Reading) (n : ℕ) (ps : List SegmentView) (initial_page : InitialPage) → beginning_of reading (of_page n ps) ≡ Ok initial_page → initial_page.number ≡ n
unfolding beginning_of
number-of_page reading n ps initial_page h =
    let known : ℕ = known_height reading (of_page n ps) in
    let first = went (first_information (of_page n ps)) (initial_page_of_first known) initial_page h in
    let info = went (information_at first.0.bytes) (λ info. height_of info.0.height known >>= λ height. initial_page_with first.0.header.page_association info.0 height) initial_page first.2 in
    let height = went (height_of info.0.0.height known) (λ height. initial_page_with first.0.header.page_association info.0.0 height) initial_page info.2 in
    number-of_initial_page first.0.header.page_association info.0.0 height.0 initial_page height.2 ∙ first-of_page n ps first.0 first.1

-- A filed page is made of the segments of its own number.
pub record IsOwn (reading : Reading) (ps : List SegmentView) (page : PageInFile) : Type 0 where
  pub initial_page : beginning_of reading (of_page page.initial_page.number ps) ≡ Ok page.initial_page
  pub segments : page.segments ≡ of_page page.initial_page.number ps

-- what a page that is filed is made of
filed-with : (reading : Reading) (own : List SegmentView) (page : PageInFile) → page_in_file reading own ≡ Ok page → (initial_page : InitialPage) × (beginning_of reading own ≡ Ok initial_page) × (◌≡◌ {A = PageInFile} (record { initial_page = initial_page; segments = own }) page)
unfolding page_in_file
filed-with reading own page h =
    let ended = went (refuse_if (is_strict reading && not (ends_of own == 1)) (Format InvalidEndOfPage)) (λ ended. beginning_of reading own >>= λ initial_page. Ok (record { initial_page = initial_page; segments = own })) page h in
    let initial_page = went (beginning_of reading own) (λ initial_page. Ok (record { initial_page = initial_page; segments = own })) page ended.2 in
    (initial_page.0, initial_page.1, let is = initial_page.2 in cc)

pub number-of_filed : (reading : Reading) (n : ℕ) (ps : List SegmentView) (page : PageInFile) → page_in_file reading (of_page n ps) ≡ Ok page → page.initial_page.number ≡ n
number-of_filed reading n ps page h =
    let made = filed-with reading (of_page n ps) page h in
    ap (λ (p : PageInFile). p.initial_page.number) (sym made.2) ∙ number-of_page reading n ps made.0 made.1

own-filed : (reading : Reading) (ps : List SegmentView) (n : ℕ) (page : PageInFile) → page_in_file reading (of_page n ps) ≡ Ok page → IsOwn reading ps page
own-filed reading ps n page h =
    let own : List SegmentView = of_page n ps in
    let initial_page = filed-with reading own page h in
    let made : PageInFile = record { initial_page = initial_page.0; segments = own } in
    let same : made ≡ page = initial_page.2 in
    let number : n ≡ initial_page.0.number = sym (number-of_page reading n ps initial_page.0 initial_page.1) in
    let Own : ℕ → Type 0 = λ m. (beginning_of reading (of_page m ps) ≡ Ok initial_page.0) × (own ≡ of_page m ps) in
    let both = subst Own number (initial_page.1, refl) in
    let is : IsOwn reading ps made = record { initial_page = both.0; segments = both.1 } in
    subst (λ (p : PageInFile). IsOwn reading ps p) same is

abbrev pub AllOwn : Reading → List SegmentView → List PageInFile → Type 0
AllOwn reading ps [] = Unit {0}
AllOwn reading ps (page ∷ pages) = IsOwn reading ps page × AllOwn reading ps pages

-- a page before the others, or one that was left out
own-before : (reading : Reading) (ps : List SegmentView) (r : Result PageInFile DecodeError) (others : Result (List PageInFile) DecodeError) (pages : List PageInFile)
    → ((page : PageInFile) → r ≡ Ok page → IsOwn reading ps page) → ((rest : List PageInFile) → others ≡ Ok rest → AllOwn reading ps rest) → before_pages reading r others ≡ Ok pages → AllOwn reading ps pages
own-before reading ps (Ok page) others pages own rest h =
    let after = went others (λ others. Ok (page ∷ others)) pages h in
    let same : page ∷ after.0 ≡ pages = let is = after.2 in cc in
    subst (AllOwn reading ps) same (own page refl, rest after.0 after.1)
own-before reading ps (Err e) others pages own rest h = by (is_salvaged reading e) h
  where
    by : (b : Bool) → cond b others (Err e) ≡ Ok pages → AllOwn reading ps pages
    by true is = rest pages is
    by false is = absurd (cc)

own-each : (reading : Reading) (ps : List SegmentView) (ns : List ℕ) (pages : List PageInFile) → pages_in_file reading (map (λ n. of_page n ps) ns) ≡ Ok pages → AllOwn reading ps pages
own-each reading ps [] pages h =
    let same : [] ≡ pages = cc in
    subst (AllOwn reading ps) same tt
own-each reading ps (n ∷ ns) pages h =
    own-before reading ps (page_in_file reading (of_page n ps)) (pages_in_file reading (map (λ m. of_page m ps) ns)) pages (own-filed reading ps n) (own-each reading ps ns) h

own-at : (reading : Reading) (ps : List SegmentView) (pages : List PageInFile) (index : ℕ) (page : PageInFile) → AllOwn reading ps pages → slice_get pages index ≡ Some page → IsOwn reading ps page
own-at reading ps [] index page all h = absurd (cc)
own-at reading ps (p ∷ pages) zero page all h =
    let same : p ≡ page = cc in
    subst (IsOwn reading ps) same all.0
own-at reading ps (p ∷ pages) (suc index) page all h = own-at reading ps pages index page all.1 h

-- a file's book, from its header and its segments
abbrev book_of : Reading → Option CutOff → FileHeader × List SegmentView → List PageInFile → ReadFile
book_of reading cut_off file pages = record { reading = reading; organization = file.0.organization; pages = pages; globals = shared_by reading pages (of_page 0 file.1); left_out = left_out_of reading (by_pages file.1); cut_off = cut_off }

abbrev pages_with : Reading → Option CutOff → FileHeader × List SegmentView → Result ReadFile DecodeError
pages_with reading cut_off file = pages_in_file reading (by_pages file.1) >>= λ pages. Ok (book_of reading cut_off file pages)

abbrev counted_with : Reading → Option CutOff → FileHeader × List SegmentView → Result ReadFile DecodeError
counted_with reading cut_off file = refuse_if (is_strict reading && miscounts file.0.number_of_pages (length (by_pages file.1))) (Format PageCountMismatch) >>= λ counted. pages_with reading cut_off file

abbrev book_with : Reading → Option CutOff → FileHeader × List SegmentView → Result ReadFile DecodeError
book_with reading cut_off file = association_check (is_strict reading) file.1 >>= λ known. counted_with reading cut_off file

pub record Filled (reading : Reading) (cut_off : Option CutOff) (file : FileHeader × List SegmentView) (book : ReadFile) : Type 0 where
  pub organized : book.organization ≡ file.0.organization
  pub filed : pages_in_file reading (by_pages file.1) ≡ Ok book.pages
  pub own : AllOwn reading file.1 book.pages
  pub mode : book.reading ≡ reading
  pub shared : book.globals ≡ shared_by reading book.pages (of_page 0 file.1)
  pub ended : book.cut_off ≡ cut_off

filled : (reading : Reading) (cut_off : Option CutOff) (file : FileHeader × List SegmentView) (book : ReadFile) → book_with reading cut_off file ≡ Ok book → Filled reading cut_off file book
filled reading cut_off file book h =
    let known = went (association_check (is_strict reading) file.1) (λ known. counted_with reading cut_off file) book h in
    let counted = went (refuse_if (is_strict reading && miscounts file.0.number_of_pages (length (by_pages file.1))) (Format PageCountMismatch)) (λ counted. pages_with reading cut_off file) book known.2 in
    let pages = went (pages_in_file reading (by_pages file.1)) (λ pages. Ok (book_of reading cut_off file pages)) book counted.2 in
    let made : ReadFile = book_of reading cut_off file pages.0 in
    let same : made ≡ book = let is = pages.2 in cc in
    let own : AllOwn reading file.1 pages.0 = own-each reading file.1 (numbers_after [] file.1) pages.0 pages.1 in
    let is : Filled reading cut_off file made = record { organized = refl; filed = pages.1; own = own; mode = refl; shared = refl; ended = refl } in
    subst (λ (b : ReadFile). Filled reading cut_off file b) same is

-- a book of these bytes
pub filled_from : (reading : Reading) (bytes : List ℕ) (file : FileHeader × List SegmentView) (book : ReadFile) → segments_at reading bytes ≡ Ok file → book_at reading bytes ≡ Ok book → Filled reading (file_cut_off reading bytes) file book
unfolding book_at
filled_from reading bytes file book read h =
    let cut_off : Option CutOff = file_cut_off reading bytes in
    let with_file : book_with reading cut_off file ≡ Ok book = sym (ap (λ (r : Result (FileHeader × List SegmentView) DecodeError). r >>= book_with reading cut_off) read) ∙ h in
    filled reading cut_off file book with_file

-- a book was read from a file
pub file-of_book : (reading : Reading) (bytes : List ℕ) (book : ReadFile) → book_at reading bytes ≡ Ok book → (file : FileHeader × List SegmentView) × (segments_at reading bytes ≡ Ok file)
unfolding book_at
file-of_book reading bytes book h =
    let file = went (segments_at reading bytes) (book_with reading (file_cut_off reading bytes)) book h in
    (file.0, file.1)

-- a file with a page shares its globals
shares-at : (reading : Reading) (pages : List PageInFile) (shared : List SegmentView) (index : ℕ) (page : PageInFile) → slice_get pages index ≡ Some page → shared_by reading pages shared ≡ shared_from reading shared (nothing_shared None)
shares-at reading [] shared index page h = absurd (cc)
shares-at reading (p ∷ pages) shared index page h = refl

-- what code asks of the pages
pub shares_none : (reading : Reading) (pages : List PageInFile) (shared : List SegmentView) → (length pages == 0) ≡ true → shared_by reading pages shared ≡ Ok (nothing_shared None)
shares_none reading [] shared none = refl
shares_none reading (p ∷ pages) shared none = absurd (let long : length (p ∷ pages) ≡ 0 = eqb-true (length (p ∷ pages)) 0 none in omega arith)

pub shares_some : (reading : Reading) (pages : List PageInFile) (shared : List SegmentView) → (length pages == 0) ≡ false → shared_by reading pages shared ≡ shared_from reading shared (nothing_shared None)
shares_some reading [] shared some = absurd (cc)
shares_some reading (p ∷ pages) shared some = refl

-- how many segments are decoded for what the pages share
pub counts_none : (pages : List PageInFile) (shared : List SegmentView) → (length pages == 0) ≡ true → shared_count pages shared ≡ 0
counts_none [] shared none = refl
counts_none (p ∷ pages) shared none = absurd (let long : length (p ∷ pages) ≡ 0 = eqb-true (length (p ∷ pages)) 0 none in omega arith)

pub counts_some : (pages : List PageInFile) (shared : List SegmentView) → (length pages == 0) ≡ false → shared_count pages shared ≡ length shared
counts_some [] shared some = absurd (cc)
counts_some (p ∷ pages) shared some = refl

pub record Mapped {X Y : Type 0} (f : X → Y) (o : Option X) (y : Y) : Type 0 where
  pub from : X
  pub was : o ≡ Some from
  pub is : f from ≡ y

pub mapped : {X Y : Type 0} (f : X → Y) (o : Option X) (y : Y) → option_map f o ≡ Some y → Mapped f o y
mapped f None y h = absurd (cc)
mapped f (Some x) y h = record { from = x; was = refl; is = cc }

abbrev page_from : Reading → FileOrganization → Option CutOff → List SegmentView → List SegmentView → Result ReadPage DecodeError
page_from reading organization cut_off own shared =
    beginning_of reading own >>= λ initial_page. Ok (record {
      reading = reading;
      initial_page = initial_page;
      segments = own;
      globals = names_of (shared_from reading shared (nothing_shared None));
      cut_off = cut_off_of organization (record { initial_page = initial_page; segments = own }) cut_off;
    })

own-leaf : (reading : Reading) (cut_off : Option CutOff) (file : FileHeader × List SegmentView) (book : ReadFile) (page : PageInFile) → Filled reading cut_off file book → book.globals ≡ shared_from reading (of_page 0 file.1) (nothing_shared None) → IsOwn reading file.1 page
    → page_from reading file.0.organization cut_off (of_page page.initial_page.number file.1) (of_page 0 file.1) ≡ Ok (page_in book page)
own-leaf reading cut_off file book page filled shared own = rw (own.initial_page, filled.mode, filled.organized, filled.ended, own.segments, shared) refl

pub pages_stand_alone : PagesStandAlone
pages_stand_alone reading bytes file book index page read h at =
    let cut_off : Option CutOff = file_cut_off reading bytes in
    let all = filled_from reading bytes file book read h in
    let leaf = mapped (page_in book) (slice_get book.pages index) page at in
    let own = own-at reading file.1 book.pages index leaf.from all.own leaf.was in
    let Alone : ReadPage → Type 0 = λ l. page_from reading file.0.organization cut_off (of_page l.initial_page.number file.1) (of_page 0 file.1) ≡ Ok l in
    let shared = all.shared ∙ shares-at reading book.pages (of_page 0 file.1) index leaf.from leaf.was in
    subst Alone leaf.is (own-leaf reading cut_off file book leaf.from all shared own)

-- the pages that are made, and those that follow them
abbrev pub with_pages : List PageInFile → Result (List PageInFile) DecodeError → Result (List PageInFile) DecodeError
with_pages front r = r >>= λ pages. Ok (front ++ pages)

pub pages-begin : (r : Result (List PageInFile) DecodeError) → with_pages [] r ≡ r
pages-begin (Ok pages) = refl
pages-begin (Err e) = refl

pages-next : (front : List PageInFile) (page : PageInFile) (r : Result (List PageInFile) DecodeError) → with_pages (front ++ page ∷ []) r ≡ with_pages front (r >>= λ pages. Ok (page ∷ pages))
pages-next front page (Ok pages) = ap (λ (all : List PageInFile). Ok all) (append_assoc front (page ∷ []) pages)
pages-next front page (Err e) = refl

pub page-made : (front next : List PageInFile) (reading : Reading) (own : List SegmentView) (before others : List (List SegmentView)) (meant : Result (List PageInFile) DecodeError) (page : PageInFile) → next ≡ front ++ page ∷ [] → before ≡ own ∷ others → with_pages front (pages_in_file reading before) ≡ meant → page_in_file reading own ≡ Ok page → with_pages next (pages_in_file reading others) ≡ meant
page-made front next reading own before others meant page pushed is so_far made =
    ap (λ (pages : List PageInFile). with_pages pages (pages_in_file reading others)) pushed
    ∙ pages-next front page (pages_in_file reading others)
    ∙ ap (λ (r : Result PageInFile DecodeError). with_pages front (before_pages reading r (pages_in_file reading others))) (sym made)
    ∙ ap (λ (rest : List (List SegmentView)). with_pages front (pages_in_file reading rest)) (sym is)
    ∙ so_far

-- what is meant, where a page is refused
page-without : (front : List PageInFile) (reading : Reading) (own : List SegmentView) (before others : List (List SegmentView)) (meant : Result (List PageInFile) DecodeError) (e : DecodeError) → before ≡ own ∷ others → with_pages front (pages_in_file reading before) ≡ meant → page_in_file reading own ≡ Err e → meant ≡ with_pages front (cond (is_salvaged reading e) (pages_in_file reading others) (Err e))
page-without front reading own before others meant e is so_far refused =
    sym so_far
    ∙ ap (λ (rest : List (List SegmentView)). with_pages front (pages_in_file reading rest)) is
    ∙ ap (λ (r : Result PageInFile DecodeError). with_pages front (before_pages reading r (pages_in_file reading others))) refused

pub page-refused : (front : List PageInFile) (reading : Reading) (own : List SegmentView) (before others : List (List SegmentView)) (meant : Result (List PageInFile) DecodeError) (e : DecodeError) → before ≡ own ∷ others → with_pages front (pages_in_file reading before) ≡ meant → page_in_file reading own ≡ Err e → is_salvaged reading e ≡ false → meant ≡ Err e
page-refused front reading own before others meant e is so_far refused kept =
    page-without front reading own before others meant e is so_far refused
    ∙ ap (λ (r : Result (List PageInFile) DecodeError). with_pages front r) (cond-false (is_salvaged reading e) (pages_in_file reading others) (Err e) kept)

pub page-left-out : (front : List PageInFile) (reading : Reading) (own : List SegmentView) (before others : List (List SegmentView)) (meant : Result (List PageInFile) DecodeError) (e : DecodeError) → before ≡ own ∷ others → with_pages front (pages_in_file reading before) ≡ meant → page_in_file reading own ≡ Err e → is_salvaged reading e ≡ true → with_pages front (pages_in_file reading others) ≡ meant
page-left-out front reading own before others meant e is so_far refused left =
    sym (page-without front reading own before others meant e is so_far refused
    ∙ ap (λ (r : Result (List PageInFile) DecodeError). with_pages front r) (cond-true (is_salvaged reading e) (pages_in_file reading others) (Err e) left))

-- the errors of the pages that are left out
pub left-made : (front : List DecodeError) (reading : Reading) (own : List SegmentView) (before others : List (List SegmentView)) (meant : List DecodeError) (page : PageInFile) → before ≡ own ∷ others → page_in_file reading own ≡ Ok page → front ++ left_out_of reading before ≡ meant → front ++ left_out_of reading others ≡ meant
left-made front reading own before others meant page is made so_far =
    ap (λ (r : Result PageInFile DecodeError). front ++ (error_of r ++ left_out_of reading others)) (sym made)
    ∙ ap (λ (rest : List (List SegmentView)). front ++ left_out_of reading rest) (sym is)
    ∙ so_far

pub left-more : (front next : List DecodeError) (reading : Reading) (own : List SegmentView) (before others : List (List SegmentView)) (meant : List DecodeError) (e : DecodeError) → next ≡ front ++ e ∷ [] → before ≡ own ∷ others → page_in_file reading own ≡ Err e → front ++ left_out_of reading before ≡ meant → next ++ left_out_of reading others ≡ meant
left-more front next reading own before others meant e pushed is refused so_far =
    ap (λ (errors : List DecodeError). errors ++ left_out_of reading others) pushed
    ∙ append_assoc front (e ∷ []) (left_out_of reading others)
    ∙ ap (λ (r : Result PageInFile DecodeError). front ++ (error_of r ++ left_out_of reading others)) (sym refused)
    ∙ ap (λ (rest : List (List SegmentView)). front ++ left_out_of reading rest) (sym is)
    ∙ so_far
