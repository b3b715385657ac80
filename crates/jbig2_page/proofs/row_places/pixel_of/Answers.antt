use Rattle.jbig2_base.specs.Bits.{bit}
use Rattle.jbig2_base.proofs.BitLemmas.{shr-and_one}
use Rattle.jbig2_page.proofs.Runs.{bit-test}
use Rattle.jbig2_page.proofs.row_places.pixel_of.Goals as goal

pub returns : goal.returns
returns c = bit-test (bit c.args.pixels c.args.place) _ (shr-and_one c.args.pixels c.args.place)
