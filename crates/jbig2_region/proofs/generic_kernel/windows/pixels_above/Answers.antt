use Rattle.std.proofs.Common.{arith, ◌≡◌, ◌+◌, ◌-◌, pos, ◌-ℤ◌, refl, sym, ◌∙◌}
use Rattle.std.proofs.lemmas.Int.{ints}
use Rattle.jbig2_base.proofs.BitLemmas.{bit-zero}
use Rattle.jbig2_region.proofs.WindowLemmas.{pixel-above_all, pixel-inside}
use Rattle.jbig2_region.proofs.generic_kernel.windows.pixels_above.Goals as goal

pub returns-then-y-back-clause-bits : goal.returns-then-y-back-clause-bits
returns-then-y-back-clause-bits g c = λ k inside. bit-zero (c.args.count - 1 - k) ∙ sym (pixel-above_all c.args.bitmap.now (pos (c.args.x + k)) c.args.y c.args.back c.if-y-back.true)

pub returns-clause-bits : goal.returns-clause-bits
returns-clause-bits g c = λ k inside.
    let row : pos c.args.y -ℤ pos c.args.back ≡ pos (c.args.y - c.args.back) = omega (arith, ints, c.if-y-back.false) in
    c.load_pixels.ensures.bits k inside ∙ sym (pixel-inside c.args.bitmap.now (pos (c.args.x + k)) (pos c.args.y -ℤ pos c.args.back) (c.args.x + k) (c.args.y - c.args.back) refl row)
