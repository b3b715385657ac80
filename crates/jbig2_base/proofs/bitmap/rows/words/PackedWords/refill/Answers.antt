use Rattle.std.proofs.Common.{◌≡◌, ◌*◌, ap, sym, ◌∙◌, Ok, length, arith}
use Rattle.jbig2_base.specs.inner.Packed.{stride_of}
use Rattle.jbig2_base.proofs.PackedLemmas.{blank_words-made}
use Rattle.jbig2_base.proofs.bitmap.rows.words.PackedWords.refill.Goals as goal

pub returns-clause-value : goal.returns-clause-value
returns-clause-value g c =
    let stride : c.div_ceil.result ≡ stride_of c.args.width = omega (arith, c.div_ceil.ensures) in
    let size : length c.fill_rows.new.words.items ≡ c.div_ceil.result * c.args.height = c.fill_rows.ensures.size ∙ omega (arith, c.in_ok-resize.ensures.len) in
    ap (λ v. Ok v) (sym (blank_words-made c.args.width c.args.height c.args.black c.fill_rows.new.words.items (rw stride at size) c.fill_rows.ensures.value))
