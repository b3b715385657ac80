use Rattle.jbig2_writer.proofs.PageLemmas.{file-added}
use Rattle.jbig2_writer.proofs.container.push_file.Goals as goal

pub returns-clause-bytes : goal.returns-clause-bytes
returns-clause-bytes g c =
    file-added c.args.settings.now c.args.width c.args.height c.args.bytes.now.items c.push_file_header.new.bytes.items c.push_page.new.bytes.items c.push_segment.new.bytes.items c.push_segment-2.new.bytes.items c.args.coded.now
    c.in_ok-push_file_header.ensures c.in_ok-push_page.ensures.bytes c.in_ok-push_segment.ensures c.in_ok-push_segment-2.ensures
