-- A file of one page in sequential organisation (T.88, D.1) as it is written: the file header, the two segments of the
-- page, the end of the page (7.4.9) and the end of the file (7.4.11). Then the law that the file is read as this page.
use Rattle.std.specs.Prelude.{◌≡◌, ℕ, Bool, false, List, [], ◌∷◌, ◌++◌, Some, Ok}
use Rattle.jbig2_framing.specs.Segment.{SegmentView}
use Rattle.jbig2_framing.specs.declared.file_header.FileHeader.{FileHeader}
use Rattle.jbig2_framing.specs.declared.file_header.FileOrganization.TheVariants.{Sequential}
use Rattle.jbig2_framing.specs.declared.reading.Reading.{Reading}
use Rattle.jbig2_framing.specs.declared.segment.SegmentType.TheVariants as types
use Rattle.jbig2_page.specs.Files.{ReadFile, book_at, pages_of}
use Rattle.jbig2_page.specs.Page.{IsSide, ReadPage}
use Rattle.jbig2_inverses.specs.FileWriter.{file_bytes}
use Rattle.jbig2_page_inverse.specs.PageWriter.{PageChoice, IsChoice, ShowsBitmap, two_segments, segment}

abbrev pub file_header : Bool → FileHeader  -- of one page, whose region may have twelve adaptive pixels
file_header extended = record {
  organization = Sequential;
  number_of_pages = Some 1;
  uses_extended_templates = extended;
  contains_coloured_regions = false;
}

abbrev pub end_segments : List SegmentView  -- the end of the file is of no page
end_segments = segment 2 1 types.EndOfPage [] ∷ segment 3 0 types.EndOfFile [] ∷ []

module _ (c : PageChoice) (w h : ℕ) (pixels : ℕ → ℕ → Bool) where
  abbrev pub file_segments : List SegmentView
  file_segments = two_segments c w h pixels ++ end_segments

  unfoldable pub page_file : List ℕ
  page_file = file_bytes (file_header c.extended) file_segments

  -- These bytes are read as a file of one page, which shows the bitmap.
  pub record IsFileOf (reading : Reading) (bytes : List ℕ) : Type 0 where
    pub book : ReadFile
    pub page : ReadPage
    pub read : book_at reading bytes ≡ Ok book
    pub only : pages_of book ≡ page ∷ []
    pub shows : ShowsBitmap c w h pixels page

-- Each bitmap is a file, in each mode.
abbrev pub PageFilesReadBack : Type 0
PageFilesReadBack = (reading : Reading) (c : PageChoice) (w h : ℕ) (pixels : ℕ → ℕ → Bool)
    → IsChoice c → IsSide w → IsSide h → IsFileOf c w h pixels reading (page_file c w h pixels)
