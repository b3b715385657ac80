use Rattle.std.proofs.Common.{pos, ◌-ℤ◌}
use Rattle.jbig2_region.proofs.WindowLemmas.{window-word}
use Rattle.jbig2_region.proofs.generic_kernel.words.words_at.Goals as goal

pub returns-clause-value : goal.returns-clause-value
returns-clause-value g c = record {
  above = window-word c.args.bitmap.now c.args.x c.pixels_above-above.result (pos c.args.y -ℤ pos 1) c.pixels_above-above.ensures.bits;
  top = window-word c.args.bitmap.now c.args.x c.pixels_above-top.result (pos c.args.y -ℤ pos 2) c.pixels_above-top.ensures.bits;
}
