use Rattle.jbig2_page.specs.FirstPage.{first_page}
use Rattle.hayro_jbig2.proofs.jbig2_decoder.first_packed.Goals as goal

pub returns-clause-value : goal.returns-clause-value
unfolding first_page
returns-clause-value g c = rw (c.in_ok-file.ensures.value, c.in_ok-page.ensures.value) c.read_packed_within.ensures.value
