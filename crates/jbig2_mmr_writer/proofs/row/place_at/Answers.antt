use Rattle.std.proofs.Common.{refl, ap, arith}
use Rattle.jbig2_base.specs.Counts.{Counts}
use Rattle.jbig2_mmr_writer.proofs.ModeLemmas.{place-after_mode}
use Rattle.jbig2_mmr_writer.proofs.row.place_at.Goals as goal

pub returns-clause-place : goal.returns-clause-place
returns-clause-place g c = place-after_mode c.args.bitmap.now c.args.y c.width.result _ c.width.ensures.value refl c.find_colour-a1.ensures.value

pub returns-clause-loads : goal.returns-clause-loads
returns-clause-loads g c = omega (arith, ap (λ (t : Counts). t.loads) c.find_colour-a1.ensures.steps)
