use Rattle.std.proofs.Common.{◌≡◌, ℕ, ◌+◌, ◌-◌, ◌*◌, ◌/◌, ◌<◌, arith, rules, ap, subst}
use Rattle.jbig2_base.specs.Bits.{bit}
use Rattle.jbig2_base.specs.Counts.{Counts}
use Rattle.jbig2_base.proofs.FillLemmas.{row-filled}
use Rattle.jbig2_writer.proofs.PackedLemmas.{bits_from, word-written}
use Rattle.jbig2_writer.proofs.packed.write_row.Goals as goal

pub loop-word-preserved : goal.loop-word-preserved
loop-word-preserved g c =
    let stride : c.div_ceil.result ≡ (c.args.bitmap.now.width + 7) / 8 = omega (arith, c.div_ceil.ensures, c.width-width.ensures.value) in
    record {
      bitmap =
          word-written c.args.rows.now c.args.bitmap.now.width c.args.bitmap.now.height c.args.y c.loop-word.word c.min-count.result c.pixels_at-pixels.result c.loop-word.bitmap c.store_pixels.new.self
          c.requires.row (omega (arith, c.width-width.ensures.value)) (omega (arith, c.width-width.ensures.value, c.min-count.ensures))
          (subst (λ (n : ℕ). (k : ℕ) → k < c.min-count.result → bit c.pixels_at-pixels.result (c.min-count.result - 1 - k) ≡ bits_from c.args.rows.now (c.args.y * n + 8 * c.loop-word.word) k) stride c.pixels_at-pixels.ensures)
          c.loop-word.invariant.bitmap c.store_pixels.ensures.value;
      words = omega (arith, c.loop-word.invariant.words, ap (λ (t : Counts). t.words) c.store_pixels.ensures.steps);
      steps = search rules;
    }

pub returns-clause-value : goal.returns-clause-value
returns-clause-value g c = row-filled c.loop-word.bitmap _ _ _ c.args.y (64 * c.loop-word.word) (omega arith) c.loop-word.invariant.bitmap
