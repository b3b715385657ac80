use Rattle.std.proofs.Common.{refl}
use Rattle.jbig2_writer.proofs.SegmentLemmas.{segment-added}
use Rattle.jbig2_writer.proofs.segments.push_segment.Goals as goal

pub returns : goal.returns
returns g c =
    segment-added c.args.bytes.now.items c.extend_from_slice.new.self.items c.extend_from_slice-2.new.self.items c.extend_from_slice-3.new.self.items c.extend_from_slice-4.new.self.items c.extend_from_slice-5.new.self.items c.to_be_bytes.result c.to_be_bytes-2.result c.to_be_bytes-3.result c.args.segment_data.now c.args.number c.args.kind c.args.page _
    c.to_be_bytes.ensures c.to_be_bytes-2.ensures c.to_be_bytes-3.ensures refl
    c.in_ok-extend_from_slice.ensures.items c.in_ok-extend_from_slice-2.ensures.items c.in_ok-extend_from_slice-3.ensures.items c.in_ok-extend_from_slice-4.ensures.items c.in_ok-extend_from_slice-5.ensures.items
