use Rattle.std.proofs.Common.{rules}
use Rattle.jbig2_base.proofs.ReaderLemmas.{bytes_read-start}
use Rattle.jbig2_text.proofs.RefiningLemmas.{sized-read}
use Rattle.jbig2_text.proofs.prefixed.sized_bytes.Goals as goal

pub returns : goal.returns
returns c =
    let start = bytes_read-start c.bytes_field.result _ c.align.new.self c.bytes_field.new.reader c.bytes_field.ensures.place c.bytes_field.ensures.taken in
    sized-read c.bytes_field.result (λ bytes. bytes.now) _ c.args.size c.args.reader.now c.align.new.self c.bytes_field.new.reader (search rules) c.align.ensures c.bytes_field.ensures.parses.value start
