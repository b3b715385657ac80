use Rattle.jbig2_page.proofs.PackedBits.{packed_bits_are_bytes as law}
use Rattle.jbig2_page.proofs.laws.packed_bits_are_bytes.Goals as goal

pub returns : goal.returns
returns c = law
