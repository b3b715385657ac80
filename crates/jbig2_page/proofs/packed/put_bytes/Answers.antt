use Rattle.std.proofs.Common.{◌≡◌, ◌+◌, ◌-◌, ◌*◌, ◌<◌, ℕ, ◌∙◌, ap, refl, arith}
use Rattle.jbig2_base.specs.Bits.{bit}
use Rattle.jbig2_page.specs.inner.BufferBytes.{word_byte}
use Rattle.jbig2_page.proofs.PackedRows.{byte-of-rest}
use Rattle.jbig2_page.proofs.PutLemmas.{puts-none, puts-next, puts-all}
use Rattle.jbig2_page.proofs.packed.put_bytes.Goals as goal

pub loop-i-init : goal.loop-i-init
loop-i-init c = record {
  puts = puts-none (word_byte (bit c.args.word)) c.args.place 0 c.args.buf.now refl;
  rest = λ k above below. let same : k ≡ k - 8 * 0 = omega arith in ap (λ (n : ℕ). bit c.args.word n) same;
}

pub loop-i-preserved : goal.loop-i-preserved
loop-i-preserved c =
    let kept = c.loop-i.invariant in
    let i = c.loop-i.i in
    let small : i < 8 = grind (arith) in
    let byte : c.take_byte.result ≡ word_byte (bit c.args.word) i = c.take_byte.ensures.value ∙ byte-of-rest c.loop-i.rest c.args.word i small kept.rest in
    record {
      puts = puts-next (word_byte (bit c.args.word)) c.args.place i c.args.buf.now c.loop-i.buf c.take_byte.result (grind (arith)) byte kept.puts;
      rest = λ k above below.
          let index : k - 8 - 8 * i ≡ k - 8 * (i + 1) = omega arith in
          c.take_byte.ensures.rest k (omega (arith, above)) below ∙ kept.rest (k - 8) (omega (arith, above)) (omega (arith, below)) ∙ ap (λ (n : ℕ). bit c.args.word n) index;
    }

pub returns : goal.returns
returns c = puts-all (word_byte (bit c.args.word)) c.args.place c.loop-i.i c.args.count c.args.buf.now c.loop-i.buf (omega arith) c.loop-i.invariant.puts
