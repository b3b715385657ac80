use Rattle.std.proofs.Common.{ℕ, sym, ap, ◌∙◌}
use Rattle.jbig2_mmr.specs.inner.T6Reading.{row_above}
use Rattle.jbig2_mmr.proofs.T6Rows.{above-none}
use Rattle.jbig2_mmr_writer.proofs.row.reference_row.Goals as goal

pub returns-then-y-eq0 : goal.returns-then-y-eq0
returns-then-y-eq0 g c = λ x. above-none c.args.bitmap.now c.height.result x c.height.ensures.value ∙ ap (λ (y : ℕ). row_above c.args.bitmap.now y x) (sym c.if-y-eq0.true)
