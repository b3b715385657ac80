use Rattle.jbig2_base.specs.Grid.{pixel_at}
use Rattle.jbig2_writer.specs.Written.{bytes_in, choice_of}
use Rattle.jbig2_writer.proofs.PageLemmas.{allowed, coded-fits, given, page-made, reads-back}
use Rattle.jbig2_writer.proofs.page.write_page.Goals as goal

pub bytes_of_page-requires : goal.bytes_of_page-requires
bytes_of_page-requires g c =
    coded-fits c.args.settings.now c.args.bitmap.now c.width-width.result c.height-height.result c.in_ok-coded.coded.items c.deref.result.now c.width-width.ensures.value c.height-height.ensures.value
    (allowed c.width-width.result c.height-height.result c.check_size.result c.in_ok-check_size.field-0 c.check_size.ensures c.in_ok-check_size.was) c.deref.ensures.value c.in_ok-coded.ensures.coded

pub returns-clause-bytes : goal.returns-clause-bytes
returns-clause-bytes g c =
    given c.args.settings.now c.args.bitmap.now c.width-width.result c.height-height.result (bytes_in c.args.settings.now.container (choice_of c.args.settings.now) c.args.bitmap.now.width c.args.bitmap.now.height (pixel_at c.args.bitmap.now)) c.in_ok-bytes.bytes.items c.check_size.result c.in_ok-check_size.field-0 c.width-width.ensures.value c.height-height.ensures.value c.check_size.ensures c.in_ok-check_size.was
    (page-made c.args.settings.now c.args.bitmap.now c.width-width.result c.height-height.result c.in_ok-bytes.bytes.items c.in_ok-coded.coded.items c.deref.result.now c.width-width.ensures.value c.height-height.ensures.value c.in_ok-bytes.ensures.bytes c.deref.ensures.value c.in_ok-coded.ensures.coded)

pub returns-clause-reads_back : goal.returns-clause-reads_back
returns-clause-reads_back g c =
    reads-back c.args.settings.now c.args.bitmap.now c.width-width.result c.height-height.result c.in_ok-bytes.bytes.items c.width-width.ensures.table c.width-width.ensures.value c.height-height.ensures.value
    (allowed c.width-width.result c.height-height.result c.check_size.result c.in_ok-check_size.field-0 c.check_size.ensures c.in_ok-check_size.was) c.in_ok-bytes.ensures.resolution
    (page-made c.args.settings.now c.args.bitmap.now c.width-width.result c.height-height.result c.in_ok-bytes.bytes.items c.in_ok-coded.coded.items c.deref.result.now c.width-width.ensures.value c.height-height.ensures.value c.in_ok-bytes.ensures.bytes c.deref.ensures.value c.in_ok-coded.ensures.coded)
