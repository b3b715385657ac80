use Rattle.std.proofs.Common.{◌≡◌, ◌-◌, ℕ, ◌∙◌, ap, refl, arith}
use Rattle.jbig2_base.specs.Bits.{bit}
use Rattle.jbig2_page.specs.Image.{shade}
use Rattle.jbig2_page.proofs.PutLemmas.{puts-none, puts-next, puts-all}
use Rattle.jbig2_page.proofs.page.image.put_shades.Goals as goal

pub loop-i-init : goal.loop-i-init
loop-i-init c = puts-none (λ (i : ℕ). shade (bit c.args.word (63 - i))) c.args.place 0 c.args.buf.now refl

pub loop-i-preserved : goal.loop-i-preserved
loop-i-preserved c =
    let byte : c.shade.result ≡ shade (bit c.args.word (63 - c.loop-i.i)) = c.shade.ensures ∙ ap (λ b. shade b) c.pixel_of.ensures in
    puts-next (λ (i : ℕ). shade (bit c.args.word (63 - i))) c.args.place c.loop-i.i c.args.buf.now c.loop-i.buf c.shade.result (grind (arith)) byte c.loop-i.invariant

pub returns : goal.returns
returns c = puts-all (λ (i : ℕ). shade (bit c.args.word (63 - i))) c.args.place c.loop-i.i c.args.count c.args.buf.now c.loop-i.buf (omega arith) c.loop-i.invariant
