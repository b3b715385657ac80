use Rattle.std.proofs.Common.{◌≡◌, length}
use Rattle.std.specs.Vec.Iter.{into_iter_items, into_iter_len}
use Rattle.jbig2_framing.specs.CutOff.{data_cut_off}
use Rattle.jbig2_framing.specs.File.{with_data}
use Rattle.jbig2_framing.specs.inner.SegmentViews.{header_views, segment_views}
use Rattle.jbig2_framing.proofs.Sequential.{with_front}
use Rattle.jbig2_framing.proofs.file.gather_segments.Given as goal

abbrev pub invariant-loop-header : goal.invariant-loop-header
invariant-loop-header g l = record {
  counted : into_iter_len l.header-iterator ≡ length (into_iter_items l.header-iterator);
  gathers : with_front (segment_views l.segments.items) (with_data l.reading (header_views (into_iter_items l.header-iterator)) l.reader.bytes) ≡ with_data l.reading (header_views l.fn.headers.items) l.fn.reader.bytes;
  missing : data_cut_off (header_views (into_iter_items l.header-iterator)) l.reader.bytes ≡ data_cut_off (header_views l.fn.headers.items) l.fn.reader.bytes;
}
