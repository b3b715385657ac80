use Rattle.std.proofs.Common.{ℕ, ◌+◌, ◌-◌, sym, ap, ◌∙◌}
use Rattle.jbig2_base.specs.Grid.{pixel_at}
use Rattle.jbig2_base.proofs.BitLemmas.{bit-zero}
use Rattle.jbig2_inverses.specs.RegionWriter.{row_above}
use Rattle.jbig2_writer.proofs.decisions.pixels_above.Goals as goal

pub returns-then-y-eq0-clause-bits : goal.returns-then-y-eq0-clause-bits
returns-then-y-eq0-clause-bits g c = λ k inside.
    bit-zero (63 - k) ∙ sym (ap (λ (y : ℕ). row_above (pixel_at c.args.bitmap.now) y (c.args.x + k)) c.if-y-eq0.true)
