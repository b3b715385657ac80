use Rattle.std.proofs.Common.{ap, arith, rules}
use Rattle.jbig2_base.specs.Counts.{Counts}
use Rattle.jbig2_base.proofs.FillLemmas.{all-filled, blank-filled}
use Rattle.jbig2_writer.specs.Packed.{packed_pixel}
use Rattle.jbig2_writer.proofs.PackedLemmas.{made-few, made-white}
use Rattle.jbig2_writer.proofs.packed.bitmap_of_rows.Goals as goal

pub loop-y-init : goal.loop-y-init
loop-y-init g c = record {
  bitmap = blank-filled c.in_ok-bitmap.bitmap c.args.width c.args.height (packed_pixel c.args.width c.args.rows.now) (made-white (λ b. b) c.new.result c.in_ok-bitmap.bitmap c.args.width c.args.height c.in_ok-bitmap.was c.new.ensures.value);
  words = omega arith;
  steps = search rules;
}

pub returns-clause-value : goal.returns-clause-value
returns-clause-value g c = all-filled c.loop-y.bitmap c.args.width c.args.height (packed_pixel c.args.width c.args.rows.now) c.loop-y.y (omega arith) c.loop-y.invariant.bitmap

pub returns-in_err-bitmap-clause-cleared : goal.returns-in_err-bitmap-clause-cleared
returns-in_err-bitmap-clause-cleared g c = omega (arith, ap (λ (t : Counts). t.cleared) c.new.ensures.steps, made-few c.args.width c.args.height)

pub returns-clause-cleared : goal.returns-clause-cleared
returns-clause-cleared g c = omega (arith, ap (λ (t : Counts). t.cleared) c.loop-y.invariant.steps, ap (λ (t : Counts). t.cleared) c.new.ensures.steps, made-few c.args.width c.args.height)
