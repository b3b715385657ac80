use Rattle.std.proofs.Common.{length}
use Rattle.jbig2_framing.specs.CutOff.{first_refused}
use Rattle.jbig2_framing.specs.Reading.{is_strict}
use Rattle.jbig2_framing.specs.Segment.{Header, header_at}
use Rattle.jbig2_framing.specs.Sequential.{is_end_of_file}
use Rattle.jbig2_framing.proofs.Sequential.{Refuses}
use Rattle.jbig2_framing.specs.File.{headers_in}
use Rattle.jbig2_framing.specs.inner.SegmentViews.{header_views}
use Rattle.jbig2_framing.proofs.RandomAccess.{ReadsHeaders}
use Rattle.jbig2_framing.proofs.file.parse_segment_headers.Given as goal

abbrev pub invariant-loop-reading : goal.invariant-loop-reading
invariant-loop-reading g l = record {
  reads : ReadsHeaders (header_views l.headers.items) l.reading l.reader.bytes (headers_in (length l.fn.reader.bytes) l.reading l.fn.reader.bytes);
  refuses : let ends = λ (h : Header). is_end_of_file h.segment_type in
      Refuses (header_at (is_strict l.reading)) ends l.reader.bytes (first_refused (header_at (is_strict l.reading)) ends (length l.fn.reader.bytes) l.fn.reader.bytes);
}

abbrev pub decreases-loop-reading : goal.decreases-loop-reading
decreases-loop-reading g l = length l.reader.bytes
