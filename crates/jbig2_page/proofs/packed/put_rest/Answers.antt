use Rattle.std.proofs.Common.{◌∙◌, arith}
use Rattle.jbig2_page.proofs.PackedRows.{byte-pixels}
use Rattle.jbig2_page.proofs.packed.put_rest.Goals as goal

pub returns-clause-bytes : goal.returns-clause-bytes
returns-clause-bytes g c = record {
  sized = c.put_bytes.ensures.sized;
  before = c.put_bytes.ensures.before;
  bytes = λ i below. c.put_bytes.ensures.bytes i below ∙ byte-pixels c.args.bitmap.now c.load_pixels-word.result c.args.column i c.args.y (omega (arith, below)) c.load_pixels-word.ensures.bits;
}
