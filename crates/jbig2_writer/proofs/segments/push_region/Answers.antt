use Rattle.jbig2_writer.proofs.SegmentLemmas.{region-added}
use Rattle.jbig2_writer.proofs.segments.push_region.Goals as goal

pub returns : goal.returns
returns g c =
    region-added c.args.bytes.now.items c.extend_from_slice.new.self.items c.extend_from_slice-2.new.self.items c.extend_from_slice-3.new.self.items c.push.new.self.items c.extend_from_slice-4.new.self.items c.extend_from_slice-5.new.self.items c.to_be_bytes.result c.to_be_bytes-2.result c.adaptive_bytes_of.result.now c.args.coded.now c.args.settings.now c.args.width c.args.height c.region_flags.result
    c.to_be_bytes.ensures c.to_be_bytes-2.ensures c.region_flags.ensures c.adaptive_bytes_of.ensures
    c.in_ok-extend_from_slice.ensures.items c.in_ok-extend_from_slice-2.ensures.items c.in_ok-extend_from_slice-3.ensures.items c.in_ok-push.ensures.items c.in_ok-extend_from_slice-4.ensures.items c.in_ok-extend_from_slice-5.ensures.items
