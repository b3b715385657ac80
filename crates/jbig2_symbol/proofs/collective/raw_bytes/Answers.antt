use Rattle.jbig2_base.proofs.ReaderLemmas.{bytes_read-start}
use Rattle.jbig2_symbol.proofs.collective.raw_bytes.Goals as goal

pub returns-clause-place : goal.returns-clause-place
returns-clause-place c = bytes_read-start c.bytes_field.result _ c.args.reader.now c.bytes_field.new.reader c.bytes_field.ensures.place c.bytes_field.ensures.taken
