use Rattle.jbig2_writer.proofs.PageLemmas.{information-short, region-short, segments-added}
use Rattle.jbig2_writer.proofs.container.push_page.Goals as goal

pub push_segment-requires-clause-short : goal.push_segment-requires-clause-short
push_segment-requires-clause-short g c =
    information-short c.new-information.result.items c.push_information.new.bytes.items c.deref.result.now c.args.width c.args.height c.resolution_number-x_resolution.result c.resolution_number-y_resolution.result c.new-information.ensures.items c.in_ok-push_information.ensures c.deref.ensures.value

pub push_segment-requires-2-clause-short : goal.push_segment-requires-2-clause-short
push_segment-requires-2-clause-short g c =
    region-short c.args.settings.now c.args.width c.args.height c.new-region.result.items c.push_region.new.bytes.items c.args.coded.now c.deref-2.result.now c.new-region.ensures.items c.in_ok-push_region.ensures c.requires c.deref-2.ensures.value

pub returns-clause-bytes : goal.returns-clause-bytes
returns-clause-bytes g c =
    segments-added c.args.settings.now c.args.width c.args.height c.resolution_number-x_resolution.result c.resolution_number-y_resolution.result c.args.bytes.now.items c.push_segment.new.bytes.items c.push_segment-2.new.bytes.items
    c.new-information.result.items c.push_information.new.bytes.items c.deref.result.now c.new-region.result.items c.push_region.new.bytes.items c.deref-2.result.now c.args.coded.now
    c.resolution_number-x_resolution.ensures.value c.resolution_number-y_resolution.ensures.value c.new-information.ensures.items c.new-region.ensures.items c.in_ok-push_information.ensures c.deref.ensures.value c.in_ok-push_region.ensures c.deref-2.ensures.value c.in_ok-push_segment.ensures c.in_ok-push_segment-2.ensures
