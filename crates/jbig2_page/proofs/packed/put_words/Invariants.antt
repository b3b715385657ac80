use Rattle.std.proofs.Common.{◌≡◌, ◌+◌, ◌*◌}
use Rattle.jbig2_base.specs.Counts.{words_loaded}
use Rattle.jbig2_page.specs.Image.{packed_byte}
use Rattle.jbig2_page.specs.inner.BufferBytes.{Fills}
use Rattle.jbig2_page.proofs.packed.put_words.Given as goal

abbrev pub invariant-loop-index : goal.invariant-loop-index
invariant-loop-index g l = record {
  puts : Fills (λ i. packed_byte l.bitmap (l.column + i) l.y) l.place (8 * l.index) l.initial.buf l.buf;
  steps : l.steps ≡ words_loaded l.index l.fn.steps;
}
