-- What the errors of globals, pages and files mean (docs/FORMAT.md). Most are said of one segment: its bytes break the
-- rule that names the error, where they are read, or the segment itself does, where it is drawn or kept. A file's header
-- may break a rule too, and so may all segments together, where a page or a file begins. A segment's number is in its
-- header, the first four of its bytes.
use Rattle.std.specs.Prelude.{◌≡◌, ◌⊎◌, ℕ, IsFalse, List, [], ◌∷◌, ◌++◌, All, None, Ok, Err, IfErr}
use Rattle.std.specs.Prelude.{IfOk}
use Rattle.jbig2_base.specs.declared.error.DecodeError.{DecodeError}
use Rattle.jbig2_framing.specs.Causes.{BreaksInitialPageBy}
use Rattle.jbig2_framing.specs.CutOff.{sequence_cut_off}
use Rattle.jbig2_framing.specs.Reading.{is_strict}
use Rattle.jbig2_framing.specs.Segment.{SegmentView}
use Rattle.jbig2_framing.specs.Sequential.{sorted_segments}
use Rattle.jbig2_framing.specs.declared.reading.Reading.{Reading}
use Rattle.jbig2_framing.specs.ByteCauses.{BreaksSequence}
use Rattle.jbig2_page.specs.Causes.{BreaksBook}
use Rattle.jbig2_page.specs.Files.{book_at, of_page, segments_at}
use Rattle.jbig2_page.specs.Names.{Names, no_names}
use Rattle.jbig2_page.specs.Page.{Drawing, ReadPage, blank_page, drawing_of_page, ends_page, known_height, page_from}
use Rattle.jbig2_page.specs.Page.{page_segments, segments_drawn}
use Rattle.jbig2_page.specs.Globals.{globals_at, KeptGlobals, nothing_shared, shared_from}
use Rattle.jbig2_page_laws.specs.SegmentErrors.{BreaksKept, BreaksSegment}
use Rattle.jbig2_base.specs.Causes.{After}

-- ---- segments as they are drawn or kept
-- One of a page's segments breaks a rule, where those before it are drawn. None of them, nor this one, ends the page.
pub record FaultySegment (reading : Reading) (globals : Names) (ps : List SegmentView) (start : Drawing)
    (e : DecodeError) : Type 0 where
  pub before : List SegmentView
  pub segment : SegmentView
  pub after : List SegmentView
  pub drawing : Drawing
  pub in_order : ps ≡ before ++ segment ∷ after
  pub within_page : All (λ p. IsFalse (ends_page p.header.segment_type)) (before ++ segment ∷ [])
  pub drawn : segments_drawn reading globals before start ≡ Ok drawing
  pub breaks : BreaksSegment (is_strict reading) globals segment drawing e

-- One of the globals breaks a rule, where those before it are kept.
pub record FaultyShared (reading : Reading) (ps : List SegmentView) (start : KeptGlobals)
    (e : DecodeError) : Type 0 where
  pub before : List SegmentView
  pub segment : SegmentView
  pub after : List SegmentView
  pub shared : KeptGlobals
  pub in_order : ps ≡ before ++ segment ∷ after
  pub kept : shared_from reading before start ≡ Ok shared
  pub breaks : BreaksKept (is_strict reading) shared.names no_names segment e

-- ---- the law
-- Each error has its cause, whatever the bytes are: that of globals, of an embedded page's beginning, of a file, of a
-- file's globals, and of a page that is drawn. A page's own error is that of its globals, or of one of its segments.
pub record ErrorsHaveCauses : Type 0 where
  pub globals : (reading : Reading) (bytes : List ℕ) → IfErr (globals_at reading bytes) (λ e.
      ((k : ℕ) × BreaksSequence k reading bytes e)
      ⊎ After (sorted_segments reading bytes) (λ ps.
      FaultyShared reading ps (nothing_shared (sequence_cut_off reading bytes)) e))
  pub page : (reading : Reading) (globals : Names) (bytes : List ℕ) → IfErr (page_from reading globals bytes) (λ e.
      ((k : ℕ) × BreaksSequence k reading bytes e)
      ⊎ After (page_segments reading bytes) (λ ps. BreaksInitialPageBy (known_height reading ps) ps e))
  pub file : (reading : Reading) (bytes : List ℕ) → IfErr (book_at reading bytes) (BreaksBook reading bytes)
  pub file_globals : (reading : Reading) (bytes : List ℕ) → IfOk (book_at reading bytes) (λ book.
      IfErr book.globals (λ e. After (segments_at reading bytes) (λ (h, ps).
      FaultyShared reading (of_page 0 ps) (nothing_shared None) e)))
  pub drawing : (page : ReadPage) → IfErr (drawing_of_page page) (λ e.
      (page.globals ≡ Err e)
      ⊎ After page.globals (λ globals.
      FaultySegment page.reading globals page.segments (blank_page page.initial_page) e))
