-- The segments of a file by their pages, as the code keeps them.
use Rattle.std.specs.Prelude.{◌≡◌, ℕ, suc, ◌==◌, List, [], ◌∷◌, map, option_map, Option, Some, None, if◌then◌else◌}
use Rattle.std.specs.BTreeMap.{get}
use Rattle.std.specs.Ordering.{nat_cmp}
use Rattle.std.specs.declared.vec.Vec.{Vec}
use Rattle.jbig2_framing.specs.Segment.{SegmentView}
use Rattle.jbig2_framing.specs.inner.SegmentViews.{segment_views}
use Rattle.jbig2_framing.specs.declared.segment.Segment.{Segment}
use Rattle.jbig2_page.specs.Files.{of_page, numbers_after, by_pages}
use Rattle.jbig2_page.specs.declared.file.segments_by_page.SegmentsByPage.{SegmentsByPage}

abbrev pub pages_view : {A : Type 0} → List (Vec (Segment A) A) → List (List SegmentView)
pages_view pages = map (λ own. segment_views own.items) pages

-- the segments of no page, and those of each page
abbrev pub by_page_view : {A : Type 0} → SegmentsByPage A → List SegmentView × List (List SegmentView)
by_page_view s = (segment_views s.shared.items, pages_view s.pages.items)

-- the first place of a number in a list
abbrev pub first_place_of : ℕ → List ℕ → Option ℕ
first_place_of n [] = None
first_place_of n (m ∷ ms) = if m == n then Some 0 else option_map suc (first_place_of n ms)

-- It has the segments ps by their pages. Each page is found by its number.
pub record HasSegments {A : Type 0} (s : SegmentsByPage A) (ps : List SegmentView) : Type 0 where
  pub shared : segment_views s.shared.items ≡ of_page 0 ps
  pub pages : pages_view s.pages.items ≡ by_pages ps
  pub found : (n : ℕ) → get nat_cmp s.places n ≡ first_place_of n (numbers_after [] ps)
