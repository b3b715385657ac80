-- Laws (our own rule). Where strict reading accepts, lenient reading gives the same. Where lenient reading accepts,
-- salvage gives the same. And salvage refuses little.
use Rattle.std.specs.Prelude.{◌≡◌, ◌≤◌, ℕ, Any, not, IsTrue, List, None, Some, Result, Ok, IfOk}
use Rattle.std.specs.List.{list_all}
use Rattle.std.specs.Result.{is_ok}
use Rattle.jbig2_base.specs.Results.{◌>>=◌, some_or}
use Rattle.jbig2_framing.specs.CutOff.{file_cut_off, sequence_cut_off}
use Rattle.jbig2_framing.specs.File.{file_header_at}
use Rattle.jbig2_framing.specs.PageInfo.{first_information, height_of, information_at}
use Rattle.jbig2_framing.specs.Segment.{SegmentView}
use Rattle.jbig2_framing.specs.Reading.{is_strict}
use Rattle.jbig2_base.specs.declared.error.DecodeError.{DecodeError}
use Rattle.jbig2_base.specs.declared.error.DecodeError.TheVariants.{Format}
use Rattle.jbig2_base.specs.declared.error.FormatError.TheVariants.{MissingPageInfo}
use Rattle.jbig2_framing.specs.declared.file_header.FileHeader.{FileHeader}
use Rattle.jbig2_framing.specs.declared.page_info.InitialPage.{InitialPage}
use Rattle.jbig2_framing.specs.declared.page_info.PageInformation.{PageInformation}
use Rattle.jbig2_framing.specs.declared.reading.Reading.{Reading}
use Rattle.jbig2_framing.specs.declared.reading.Reading.TheVariants.{Strict, Lenient, Salvage}
use Rattle.jbig2_page.specs.Files.{ReadFile, book_at, of_page, page_of, segments_at}
use Rattle.jbig2_page.specs.Names.{Names}
use Rattle.jbig2_page.specs.Page.{Drawing, IsSide, ReadPage, blank_page, drawing_of_page, page_from, page_segments, known_height}
use Rattle.jbig2_page.specs.Page.{segments_drawn}
use Rattle.jbig2_page.specs.PassedOver.{nothing_passed}
use Rattle.jbig2_page.specs.Globals.{globals_at}
use Rattle.jbig2_framing.specs.Segment.{is_partial}

-- Strict reading passes over nothing: its lists of segments never end early, and no segment of them is passed over.
pub record StrictPassesNothing : Type 0 where
  pub page : (names : Names) (bytes : List ℕ) → IfOk (page_from Strict names bytes) (λ page. page.cut_off ≡ None)
  pub file : (bytes : List ℕ) → IfOk (book_at Strict bytes) (λ book. book.cut_off ≡ None)
  pub drawing : (page : ReadPage) → IsTrue (is_strict page.reading) → page.cut_off ≡ None
      → IfOk (drawing_of_page page) (λ d. d.passed_over ≡ nothing_passed)

-- Where nothing was passed over, strict reading draws the same: the whole of a page's segments, none of which is cut off,
-- from the same beginning. So what lenient reading and salvage forgive always counts.
abbrev pub CompletePagesAreStrict : Type 0
CompletePagesAreStrict = (reading : Reading) (globals : Names) (segments : List SegmentView)
    (initial_page : InitialPage) (d : Drawing)
    → IsTrue (list_all (λ p. not (is_partial p)) segments)
    → segments_drawn reading globals segments (blank_page initial_page) ≡ Ok d → d.passed_over ≡ nothing_passed
    → segments_drawn Strict globals segments (blank_page initial_page) ≡ Ok d

-- Where the one reading succeeds, the other gives the same value.
abbrev pub IsSameUnder : {A : Type 0} → Reading → Reading → (Reading → Result A DecodeError) → Type 0
IsSameUnder {A = A} one other read = IfOk (read one) (λ (x : A). read other ≡ Ok x)

-- The laws hold for globals; for the beginning of an embedded page in bytes of which `IsPage` holds, and for its drawing;
-- for the pages of a file in bytes of which `IsFile` holds, and for the drawing of each. Drawings are equal as a whole:
-- their grids, and what was passed over.
pub record ReadingsAgree (one other : Reading) (IsPage IsFile : List ℕ → Type 0) : Type 0 where
  pub globals : (bytes : List ℕ) → IsSameUnder one other (λ reading. globals_at reading bytes)
  pub page : (names : Names) (bytes : List ℕ) → IsPage bytes → IsSameUnder one other (λ reading.
      page_from reading names bytes >>= λ page. Ok page.initial_page)
  pub drawing : (names : Names) (bytes : List ℕ) → IsPage bytes → IsSameUnder one other (λ reading.
      page_from reading names bytes >>= λ page. drawing_of_page page)
  pub pages : (bytes : List ℕ) → IsFile bytes → IsSameUnder one other (λ reading.
      book_at reading bytes >>= λ book. Ok book.pages)
  pub drawings : (bytes : List ℕ) (index : ℕ) → IsFile bytes → IsSameUnder one other (λ reading.
      book_at reading bytes >>= λ book.
      some_or (Format MissingPageInfo) (page_of book index) >>= λ page. drawing_of_page page)

abbrev pub LenientReadingAgrees : Type 0
LenientReadingAgrees = ReadingsAgree Strict Lenient (λ bytes. Unit {0}) (λ bytes. Unit {0})

-- Salvage also draws a part of a segment that lenient reading drops, if the list of segments ends early.
abbrev pub SalvageAgrees : Type 0
SalvageAgrees =
    ReadingsAgree Lenient Salvage (λ bytes. sequence_cut_off Lenient bytes ≡ None) (λ bytes. file_cut_off Lenient bytes ≡ None)

-- The first page information of a page can be read, and its width and height are those of a page (`IsSide`). Where it
-- leaves the height open, the stripes or else the regions give it.
pub record HasBeginning (ps : List SegmentView) : Type 0 where
  pub information : SegmentView
  pub fields : PageInformation × List ℕ
  pub height : ℕ
  pub first : first_information ps ≡ Ok information
  pub read : information_at information.bytes ≡ Ok fields
  pub height_is : height_of fields.0.height (known_height Salvage ps) ≡ Ok height
  pub columns : IsSide fields.0.width
  pub rows : IsSide height

-- Salvage refuses no globals, no file with a header, and no page that has a beginning, embedded or in a file. It draws
-- each page whose globals weren't refused; the globals of a file never are.
pub record SalvageRefusesLittle : Type 0 where
  pub globals : (bytes : List ℕ) → IsTrue (is_ok (globals_at Salvage bytes))
  pub drawing : (page : ReadPage)
      → page.reading ≡ Salvage → IsTrue (is_ok page.globals) → IsTrue (is_ok (drawing_of_page page))
  pub page : (names : Names) (bytes : List ℕ) (ps : List SegmentView)
      → page_segments Salvage bytes ≡ Ok ps → HasBeginning ps
      → IsTrue (is_ok (page_from Salvage names bytes >>= λ page. drawing_of_page page))
  pub file : (bytes : List ℕ) → IsTrue (is_ok (file_header_at bytes)) → IsTrue (is_ok (book_at Salvage bytes))
  pub pages : (bytes : List ℕ) (file : FileHeader × List SegmentView) (book : ReadFile) (n : ℕ)
      → segments_at Salvage bytes ≡ Ok file → book_at Salvage bytes ≡ Ok book → 1 ≤ n → HasBeginning (of_page n file.1)
      → Any (λ page. page.initial_page.number ≡ n) book.pages
  pub drawings : (bytes : List ℕ) (book : ReadFile) (index : ℕ) (page : ReadPage)
      → book_at Salvage bytes ≡ Ok book → page_of book index ≡ Some page → IsTrue (is_ok (drawing_of_page page))
