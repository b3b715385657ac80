use Rattle.std.proofs.Common.{◌-◌}
use Rattle.jbig2_base.specs.Bits.{bit}
use Rattle.jbig2_page.specs.Image.{shade}
use Rattle.jbig2_page.specs.inner.BufferBytes.{Fills}
use Rattle.jbig2_page.proofs.page.image.put_shades.Given as goal

abbrev pub invariant-loop-i : goal.invariant-loop-i
invariant-loop-i l = Fills (λ i. shade (bit l.word (63 - i))) l.place l.i l.initial.buf l.buf
