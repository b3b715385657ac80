-- The segments of a page: its own, or those that its file holds.
use Rattle.std.specs.Prelude.{List}
use Rattle.jbig2_framing.specs.declared.segment.Segment.{Segment}
use Rattle.jbig2_page.specs.declared.page.page_segments.PageSegments.{PageSegments}
use Rattle.jbig2_page.specs.declared.page.page_segments.PageSegments.TheVariants.{Owned, Borrowed}

abbrev pub segment_list : {A : Type 0} → PageSegments A → List (Segment A)
segment_list (Owned segments) = segments.items
segment_list (Borrowed segments) = segments.now.items
