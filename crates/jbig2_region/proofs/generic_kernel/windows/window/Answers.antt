use Rattle.std.proofs.Common.{arith, ◌≡◌, ◌+◌, ◌-◌, ℕ, pos, ◌-ℤ◌, subst}
use Rattle.jbig2_region.proofs.WindowLemmas.{window-first, window-word}
use Rattle.jbig2_region.specs.inner.Windows.{IsWindow}
use Rattle.jbig2_region.proofs.generic_kernel.windows.window.Goals as goal

pub returns-then-x-eq0-clause-value : goal.returns-then-x-eq0-clause-value
returns-then-x-eq0-clause-value g c =
    rw c.if-x-eq0.true (window-first c.args.bitmap.now c.pixels_above.result (pos c.args.y -ℤ pos c.args.back) c.pixels_above.ensures.bits c.pixels_above.ensures.bound)

pub returns-clause-value : goal.returns-clause-value
returns-clause-value g c =
    let column : c.args.x - 8 + 8 ≡ c.args.x = omega (arith, c.requires, c.if-x-eq0.false) in
    subst (λ (n : ℕ). IsWindow c.args.bitmap.now n (pos c.args.y -ℤ pos c.args.back) 64 c.pixels_above-2.result) column
    (window-word c.args.bitmap.now (c.args.x - 8) c.pixels_above-2.result (pos c.args.y -ℤ pos c.args.back) c.pixels_above-2.ensures.bits)
