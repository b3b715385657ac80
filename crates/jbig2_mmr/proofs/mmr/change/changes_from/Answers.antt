use Rattle.std.proofs.Common.{Bool, ◌&&◌, sym, ap, ◌∙◌}
use Rattle.jbig2_base.specs.Bits.{bit}
use Rattle.jbig2_base.specs.Grid.{differ}
use Rattle.jbig2_mmr.proofs.T6Changes.{white-bits, black-bits}
use Rattle.jbig2_mmr.proofs.mmr.change.changes_from.Goals as goal

pub returns-then-black : goal.returns-then-black
returns-then-black c = λ k.
    white-bits c.args.pixels c.args.left k
    ∙ ap (λ (b : Bool). differ (bit c.args.pixels k) (bit c.args.left k) && differ (bit c.args.pixels k) b) (sym c.if-black.true)

pub returns-else-black : goal.returns-else-black
returns-else-black c = λ k.
    black-bits c.args.pixels c.args.left k
    ∙ ap (λ (b : Bool). differ (bit c.args.pixels k) (bit c.args.left k) && differ (bit c.args.pixels k) b) (sym c.if-black.false)
