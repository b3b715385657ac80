use Rattle.std.proofs.Common.{◌≡◌, ◌*◌, length, ap, arith}
use Rattle.jbig2_base.specs.inner.Packed.{blank_words, stride_of}
use Rattle.jbig2_base.proofs.PackedLemmas.{blank_words-grid, blank_words-made, blank_words-packed}
use Rattle.jbig2_base.proofs.bitmap.rows.PackedRows.fill.Goals as goal

pub invariant_of-self : goal.invariant_of-self
invariant_of-self g c =
    let rows = c.self.inside in
    let size : length c.fill.new.self ≡ stride_of rows.width * rows.height = omega (arith, c.fill.ensures.size, c.self.invariant.sized, ap (λ n. n * rows.height) c.self.invariant.strided) in
    let made : c.fill.new.self ≡ blank_words rows.width rows.height c.args.black = blank_words-made rows.width rows.height c.args.black c.fill.new.self size c.fill.ensures.value in
    blank_words-packed rows.width rows.height rows.stride c.args.black c.fill.new.self c.self.invariant.strided made

pub returns-clause-value : goal.returns-clause-value
returns-clause-value g c =
    let rows = c.self.inside in
    let size : length c.fill.new.self ≡ stride_of rows.width * rows.height = omega (arith, c.fill.ensures.size, c.self.invariant.sized, ap (λ n. n * rows.height) c.self.invariant.strided) in
    let made : c.fill.new.self ≡ blank_words rows.width rows.height c.args.black = blank_words-made rows.width rows.height c.args.black c.fill.new.self size c.fill.ensures.value in
    rw (← c.self.view_is) (blank_words-grid rows.width rows.height rows.stride c.args.black c.fill.new.self c.self.invariant.strided made)
