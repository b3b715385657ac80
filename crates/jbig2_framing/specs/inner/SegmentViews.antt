-- Segments of the code, as segments of the definitions.
use Rattle.std.specs.Prelude.{List, map, Option, option_map}
use Rattle.jbig2_framing.specs.Segment.{Header, SegmentView}
use Rattle.jbig2_framing.specs.declared.file.File.{File}
use Rattle.jbig2_framing.specs.declared.file_header.FileHeader.{FileHeader}
use Rattle.jbig2_framing.specs.declared.segment.SegmentHeader.{SegmentHeader}
use Rattle.jbig2_framing.specs.declared.segment.Segment.{Segment}

abbrev pub header_view : {A : Type 0} → SegmentHeader A → Header
header_view h = record {
  segment_number = h.segment_number;
  segment_type = h.segment_type;
  retain_flag = h.retain_flag;
  page_association = h.page_association;
  referred_to_segments = h.referred_to_segments.items;
  data_length = h.data_length;
}

abbrev pub segment_view : {A : Type 0} → Segment A → SegmentView
segment_view s = record { header = header_view s.header; bytes = s.bytes.now }

abbrev pub partial_view : {A : Type 0} → Option (Segment A) → Option SegmentView
partial_view segment = option_map (λ s. segment_view s) segment

abbrev pub segment_views : {A : Type 0} → List (Segment A) → List SegmentView
segment_views segments = map (λ s. segment_view s) segments

abbrev pub header_views : {A : Type 0} → List (SegmentHeader A) → List Header
header_views headers = map (λ h. header_view h) headers

abbrev pub file_view : {A : Type 0} → File A → FileHeader × List SegmentView
file_view f = (f.header, segment_views f.segments.items)
