-- Files of one page are read back.
use Rattle.std.proofs.Common.{◌≡◌, ℕ, eqb, Bool, not, ◌&&◌, List, [], ◌∷◌, length, Option, None, Some, Result, Ok, Err, refl, ◌∙◌, ap, arith}
use Rattle.std.specs.List.{flat_map}
use Rattle.jbig2_base.specs.Results.{◌>>=◌, refuse_if}
use Rattle.jbig2_base.specs.declared.error.DecodeError.{DecodeError}
use Rattle.jbig2_base.specs.declared.error.DecodeError.TheVariants.{Format}
use Rattle.jbig2_base.specs.declared.error.FormatError.TheVariants.{InvalidEndOfPage, PageCountMismatch}
use Rattle.jbig2_framing.specs.CutOff.{file_cut_off, file_partial, partial_by}
use Rattle.jbig2_framing.specs.File.{file_at}
use Rattle.jbig2_framing.specs.Reading.{is_strict}
use Rattle.jbig2_framing.specs.Segment.{SegmentView}
use Rattle.jbig2_framing.specs.declared.cut_off.CutOff.{CutOff}
use Rattle.jbig2_framing.specs.declared.file_header.FileHeader.{FileHeader}
use Rattle.jbig2_framing.specs.declared.page_info.InitialPage.{InitialPage}
use Rattle.jbig2_framing.specs.declared.reading.Reading.{Reading}
use Rattle.jbig2_framing.specs.declared.reading.Reading.TheVariants.{Strict, Lenient, Salvage}
use Rattle.jbig2_framing.specs.declared.segment.SegmentType.TheVariants as types
use Rattle.jbig2_page.specs.Files.{PageInFile, ReadFile, association_check, before_pages, book_at, by_pages, cut_off_of, ends_of, left_out_of, miscounts, of_page, page_in_file, pages_in_file, part_of_file, segments_at, shared_by, with_part}
use Rattle.jbig2_page.specs.Names.{no_names}
use Rattle.jbig2_page.specs.Page.{IsSide, beginning_of, part_of_list}
use Rattle.jbig2_inverses.specs.SegmentWriter.{AreSegments, information_bytes, segment_bytes}
use Rattle.jbig2_inverses.proofs.FileInverse.{files_read_back, header-read}
use Rattle.jbig2_inverses.proofs.SegmentInverse.{segments_read_back}
use Rattle.jbig2_page_inverse.specs.PageWriter.{PageChoice, IsChoice, region_bytes, information, segment}
use Rattle.jbig2_page_inverse.specs.PageFile.{IsFileOf, PageFilesReadBack, file_header, file_segments, page_file}
use Rattle.jbig2_page_inverse.proofs.PageInverse.{beginning-is, data-short, first-written, grid-is, initial, never-cut, no-part-of, page-with, resolution-is, second-written, segment-written}

module _ (reading : Reading) (c : PageChoice) (w h : ℕ) (pixels : ℕ → ℕ → Bool) (is : IsChoice c) (columns : IsSide w) (rows : IsSide h) where
  abbrev segments : List SegmentView
  segments = file_segments c w h pixels

  abbrev bytes : List ℕ
  bytes = page_file c w h pixels

  abbrev own : List SegmentView  -- those of the page
  own =
      segment 0 1 types.PageInformation (information_bytes (information c w h pixels))
      ∷ segment 1 1 types.ImmediateGenericRegion (region_bytes c w h pixels) ∷ segment 2 1 types.EndOfPage [] ∷ []

  abbrev end : SegmentView
  end = segment 3 0 types.EndOfFile []

  written : (mode : Reading) → AreSegments (is_strict mode) segments
  written mode =
      let short = data-short c w h pixels is columns.1 rows.1 in
      let page_end = segment-written (is_strict mode) 2 1 types.EndOfPage [] (omega arith) (omega arith) refl (omega arith) in
      let file_end = segment-written (is_strict mode) 3 0 types.EndOfFile [] (omega arith) (omega arith) refl (omega arith) in
      (first-written mode no_names c w h pixels is columns rows, refl, (second-written mode no_names c w h pixels is columns rows short, refl, (page_end, refl, file_end)))

  file-is : file_at reading bytes ≡ Ok (file_header c.extended, segments)
  unfolding page_file
  file-is = files_read_back reading (file_header c.extended) segments refl (omega arith) (written reading)

  abbrev partial_in : Result (FileHeader × List ℕ) DecodeError → Option SegmentView
  partial_in (Ok header) = partial_by header.0.organization reading header.1
  partial_in (Err e) = None

  part-is : part_of_file reading bytes ≡ []
  unfolding page_file file_partial
  part-is =
      let after = flat_map segment_bytes segments in
      ap (λ (r : Result (FileHeader × List ℕ) DecodeError). part_of_list reading (partial_in r)) (header-read (file_header c.extended) after (omega arith))
      ∙ no-part-of reading after (never-cut after segments (segments_read_back Strict segments (written Strict)))

  segments-are : segments_at reading bytes ≡ Ok (file_header c.extended, segments)
  unfolding segments_at
  segments-are =
      ap (λ (r : Result (FileHeader × List SegmentView) DecodeError). r >>= λ x. Ok (x.0, with_part (part_of_file reading bytes) x.1)) file-is
      ∙ ap (λ (part : List SegmentView). let made : Result (FileHeader × List SegmentView) DecodeError = Ok (file_header c.extended, with_part part segments) in made) part-is

  abbrev in_file : PageInFile
  in_file = record { initial_page = initial reading no_names c w h pixels is columns rows; segments = own }

  -- strict reading finds one end of page
  one-end : (mode : Reading) → refuse_if (is_strict mode && not (eqb (ends_of own) 1)) (Format InvalidEndOfPage) ≡ Ok tt
  one-end Strict = refl
  one-end Lenient = refl
  one-end Salvage = refl

  page-found : page_in_file reading own ≡ Ok in_file
  unfolding page_in_file
  page-found =
      let made : Result InitialPage DecodeError → Result PageInFile DecodeError = λ r. r >>= λ i. Ok (record { initial_page = i; segments = own }) in
      ap (λ (r : Result (Unit {0}) DecodeError). r >>= λ ended. made (beginning_of reading own)) (one-end reading)
      ∙ ap made (beginning-is reading no_names c w h pixels is columns rows (segment 2 1 types.EndOfPage [] ∷ []))

  associated : (mode : Reading) → association_check (is_strict mode) segments ≡ Ok tt
  associated Strict = refl
  associated Lenient = refl
  associated Salvage = refl

  counted : (mode : Reading) → refuse_if (is_strict mode && miscounts (Some 1) 1) (Format PageCountMismatch) ≡ Ok tt
  counted Strict = refl
  counted Lenient = refl
  counted Salvage = refl

  abbrev book_with : FileHeader → List SegmentView → List PageInFile → ReadFile
  book_with header all pages = record {
    reading = reading;
    organization = header.organization;
    pages = pages;
    globals = shared_by reading pages (of_page 0 all);
    left_out = left_out_of reading (by_pages all);
    cut_off = file_cut_off reading bytes;
  }

  abbrev book : ReadFile
  book = book_with (file_header c.extended) segments (in_file ∷ [])

  book-is : book_at reading bytes ≡ Ok book
  unfolding book_at
  book-is =
      let found : Result (List PageInFile) DecodeError → Result ReadFile DecodeError = λ r. r >>= λ pages. Ok (book_with (file_header c.extended) segments pages) in
      let more : Result (List PageInFile) DecodeError = Ok [] in
      ap (λ (r : Result (FileHeader × List SegmentView) DecodeError). r >>= λ x. association_check (is_strict reading) x.1 >>= λ known. refuse_if (is_strict reading && miscounts x.0.number_of_pages (length (by_pages x.1))) (Format PageCountMismatch) >>= λ counted. pages_in_file reading (by_pages x.1) >>= λ pages. Ok (book_with x.0 x.1 pages)) segments-are
      ∙ ap (λ (r : Result (Unit {0}) DecodeError). r >>= λ known. refuse_if (is_strict reading && miscounts (Some 1) 1) (Format PageCountMismatch) >>= λ counted. found (pages_in_file reading (own ∷ []))) (associated reading)
      ∙ ap (λ (r : Result (Unit {0}) DecodeError). r >>= λ counted. found (pages_in_file reading (own ∷ []))) (counted reading)
      ∙ ap (λ (r : Result PageInFile DecodeError). found (before_pages reading r more)) page-found

  abbrev cut : Option CutOff
  cut = cut_off_of book.organization in_file book.cut_off

  is-file : IsFileOf c w h pixels reading bytes
  is-file = record {
    book = book;
    page = page-with reading no_names c w h pixels is columns rows (segment 2 1 types.EndOfPage [] ∷ []) cut;
    read = book-is;
    only = refl;
    shows = record {
      drawn = grid-is reading no_names c w h pixels is columns rows (segment 2 1 types.EndOfPage [] ∷ []) cut (λ d. refl);
      resolution = resolution-is reading no_names c w h pixels is columns rows (segment 2 1 types.EndOfPage [] ∷ []);
    };
  }

pub page_files_read_back : PageFilesReadBack
page_files_read_back = is-file
