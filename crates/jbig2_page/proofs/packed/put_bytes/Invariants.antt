use Rattle.std.proofs.Common.{◌≡◌, ◌-◌, ◌*◌, ◌<◌, ◌≤◌, ℕ}
use Rattle.jbig2_base.specs.Bits.{bit}
use Rattle.jbig2_page.specs.inner.BufferBytes.{word_byte, Fills}
use Rattle.jbig2_page.proofs.packed.put_bytes.Given as goal

abbrev pub invariant-loop-i : goal.invariant-loop-i
invariant-loop-i l = record {
  puts : Fills (word_byte (bit l.word)) l.place l.i l.initial.buf l.buf;
  rest : (k : ℕ) → 8 * l.i ≤ k → k < 64 → bit l.rest k ≡ bit l.word (k - 8 * l.i);
}
