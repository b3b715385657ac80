use Rattle.std.proofs.Common.{Ok, ◌*◌, List, ℕ, sym, ap, ◌∙◌, arith}
use Rattle.jbig2_halftone.proofs.GrayLemmas.{values-none, zeros-filled, zeros-next}
use Rattle.jbig2_halftone.proofs.gray_scale.zeros.Goals as goal

pub loop-preserved : goal.loop-preserved
loop-preserved g c = record { zeros = zeros-next c.loop.counter c.loop.values.items _ c.loop.invariant.zeros c.in_ok-extend_from_slice.ensures.items }

pub returns : goal.returns
returns g c =
    ap (λ (vs : List ℕ). Ok vs)
    (values-none c.args.width c.args.height
    ∙ sym (zeros-filled (c.args.width * c.args.height) c.loop.counter c.loop.values.len c.loop.values.items _ c.loop.invariant.zeros (omega arith) c.loop.values.ok.0 c.in_ok-resize.ensures.items))
