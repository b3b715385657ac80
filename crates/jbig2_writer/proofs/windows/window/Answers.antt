use Rattle.std.proofs.Common.{◌≡◌, ℕ, ◌+◌, ◌-◌, pos, ◌-ℤ◌, arith, refl, sym, subst, ◌∙◌}
use Rattle.std.proofs.lemmas.Int.{ints}
use Rattle.jbig2_region.proofs.WindowLemmas.{pixel-inside, window-first, window-none, window-word}
use Rattle.jbig2_region.specs.inner.Windows.{IsWindow}
use Rattle.jbig2_writer.proofs.windows.window.Goals as goal

pub returns-then-y-back-clause-value : goal.returns-then-y-back-clause-value
returns-then-y-back-clause-value g c = window-none c.args.bitmap.now c.args.x c.args.y c.args.back 64 c.if-y-back.true

pub returns-then-x-eq0-clause-value : goal.returns-then-x-eq0-clause-value
returns-then-x-eq0-clause-value g c =
    let row : pos c.args.y -ℤ pos c.args.back ≡ pos (c.args.y - c.args.back) = omega (arith, ints, c.if-y-back.false) in
    subst (λ (n : ℕ). IsWindow c.args.bitmap.now n (pos c.args.y -ℤ pos c.args.back) 64 c.load_pixels.result) (sym c.if-x-eq0.true)
    (window-first c.args.bitmap.now c.load_pixels.result (pos c.args.y -ℤ pos c.args.back)
    (λ k inside. c.load_pixels.ensures.bits k inside ∙ sym (pixel-inside c.args.bitmap.now (pos (0 + k)) (pos c.args.y -ℤ pos c.args.back) (0 + k) (c.args.y - c.args.back) refl row))
    c.load_pixels.ensures.bound)

pub returns-clause-value : goal.returns-clause-value
returns-clause-value g c =
    let row : pos c.args.y -ℤ pos c.args.back ≡ pos (c.args.y - c.args.back) = omega (arith, ints, c.if-y-back.false) in
    let column : c.args.x - 8 + 8 ≡ c.args.x = omega (arith, c.requires, c.if-x-eq0.false) in
    subst (λ (n : ℕ). IsWindow c.args.bitmap.now n (pos c.args.y -ℤ pos c.args.back) 64 c.load_pixels-2.result) column
    (window-word c.args.bitmap.now (c.args.x - 8) c.load_pixels-2.result (pos c.args.y -ℤ pos c.args.back)
    (λ k inside. c.load_pixels-2.ensures.bits k inside ∙ sym (pixel-inside c.args.bitmap.now (pos (c.args.x - 8 + k)) (pos c.args.y -ℤ pos c.args.back) (c.args.x - 8 + k) (c.args.y - c.args.back) refl row)))
