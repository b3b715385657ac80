use Rattle.std.proofs.Common.{length}
use Rattle.jbig2_framing.specs.CutOff.{first_refused}
use Rattle.jbig2_framing.specs.Reading.{is_strict}
use Rattle.jbig2_framing.specs.Segment.{SegmentView, segment_at}
use Rattle.jbig2_framing.specs.inner.SegmentViews.{segment_views}
use Rattle.jbig2_framing.specs.Sequential.{is_end_of_file, sequential}
use Rattle.jbig2_framing.proofs.Sequential.{Reads, Refuses}
use Rattle.jbig2_framing.proofs.segment_list.parse_segments_sequential.Given as goal

abbrev pub invariant-loop-reader : goal.invariant-loop-reader
invariant-loop-reader g l = record {
  reads : Reads (segment_views l.segments.items) l.reading l.reader.bytes (sequential l.reading l.bytes);
  refuses : let ends = λ (p : SegmentView). is_end_of_file p.header.segment_type in
      Refuses (segment_at (is_strict l.reading)) ends l.reader.bytes (first_refused (segment_at (is_strict l.reading)) ends (length l.bytes) l.bytes);
}

abbrev pub decreases-loop-reader : goal.decreases-loop-reader
decreases-loop-reader g l = length l.reader.bytes
