use Rattle.std.proofs.Common.{ℕ, true, refl, ap, subst, arith}
use Rattle.jbig2_base.specs.Colour.{IsFirst}
use Rattle.jbig2_base.specs.Counts.{Counts}
use Rattle.jbig2_mmr.specs.inner.T6Reading.{pixels_of_row}
use Rattle.jbig2_mmr_writer.proofs.row.first_place.Goals as goal

pub returns-clause-place : goal.returns-clause-place
returns-clause-place g c = record {
  a1 = subst (λ (n : ℕ). IsFirst (pixels_of_row c.args.bitmap.now c.args.y) true 0 n c.find_colour-a1.result) c.width.ensures.value c.find_colour-a1.ensures.value;
  first = λ start. (refl, refl);
}

pub returns-clause-loads : goal.returns-clause-loads
returns-clause-loads g c = omega (arith, ap (λ (t : Counts). t.loads) c.find_colour-a1.ensures.steps)
