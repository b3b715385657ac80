-- Laws (our own rule): the order of segments with different numbers changes nothing, and segments after the end of a
-- page change nothing.
use Rattle.std.specs.Prelude.{◌≡◌, ◌≢◌, ℕ, IsTrue, List, ◌∷◌, ◌++◌, Ok}
use Rattle.jbig2_framing.specs.Segment.{SegmentView}
use Rattle.jbig2_framing.specs.Sequential.{sequential}
use Rattle.jbig2_framing.specs.CutOff.{sequence_cut_off, sequence_partial}
use Rattle.jbig2_framing.specs.declared.reading.Reading.{Reading}
use Rattle.jbig2_page.specs.Names.{Names}
use Rattle.jbig2_page.specs.Page.{ReadPage, drawing_of_page, page_from, ends_page}
use Rattle.jbig2_page.specs.Globals.{globals_at}

-- The second list comes from the first one: neighbours with different numbers change places, any number of times.
pub data IsReordered : List SegmentView → List SegmentView → Type 0 where
  Unchanged : (ps : List SegmentView) → IsReordered ps ps
  After : (p : SegmentView) (ps qs : List SegmentView) → IsReordered ps qs → IsReordered (p ∷ ps) (p ∷ qs)
  Exchanged : (p q : SegmentView) (ps : List SegmentView)
      → p.header.segment_number ≢ q.header.segment_number → IsReordered (p ∷ q ∷ ps) (q ∷ p ∷ ps)
  Then : (ps qs rs : List SegmentView) → IsReordered ps qs → IsReordered qs rs → IsReordered ps rs

-- The lists of segments in these bytes end early at the same segment, or not at all. In strict reading that is always so.
abbrev pub HaveOneCutOff : Reading → List ℕ → List ℕ → Type 0
HaveOneCutOff reading bytes others = sequence_cut_off reading bytes ≡ sequence_cut_off reading others

-- What is there of the segment at which they end early is the same.
abbrev pub HaveOnePart : Reading → List ℕ → List ℕ → Type 0
HaveOnePart reading bytes others = sequence_partial reading bytes ≡ sequence_partial reading others

-- Bytes with the same segments in another order give the same embedded page, and the same globals.
pub record OrderChangesNothing : Type 0 where
  pub page : (reading : Reading) (globals : Names) (bytes others : List ℕ) (ps qs : List SegmentView)
      → sequential reading bytes ≡ Ok ps → sequential reading others ≡ Ok qs → IsReordered ps qs
      → HaveOneCutOff reading bytes others → HaveOnePart reading bytes others
      → page_from reading globals bytes ≡ page_from reading globals others
  pub globals : (reading : Reading) (bytes others : List ℕ) (ps qs : List SegmentView)
      → sequential reading bytes ≡ Ok ps → sequential reading others ≡ Ok qs → IsReordered ps qs
      → HaveOneCutOff reading bytes others → globals_at reading bytes ≡ globals_at reading others

-- The drawing of a page depends only on its size and its segments before the first end of page or end of file.
abbrev pub EndOfPageEnds : Type 0
EndOfPageEnds = (page : ReadPage) (ps others : List SegmentView) (end : SegmentView)
    → page.segments ≡ ps ++ end ∷ others → IsTrue (ends_page end.header.segment_type)
    → drawing_of_page page ≡ drawing_of_page (record page { segments = ps })
