use Rattle.std.proofs.Common.{◌*◌, arith, rules, refl, ap}
use Rattle.jbig2_base.specs.Counts.{Counts}
use Rattle.jbig2_writer.proofs.RowLemmas.{row-like, row-same, row-unlike}
use Rattle.jbig2_writer.proofs.decisions.is_as_above.Goals as goal

pub loop-index-init : goal.loop-index-init
loop-index-init g c = record {
  same = λ i inside. absurd (omega (arith, inside));
  loads = omega arith;
  steps = search rules;
}

pub loop-index-preserved : goal.loop-index-preserved
loop-index-preserved g c = record {
  same =
      row-like c.args.bitmap.now c.args.y (c.loop-index.index * 64) c.load_pixels.result c.pixels_above-above.result c.load_pixels.ensures.bits c.pixels_above-above.ensures.bits
      c.if-load_pixels-above.false c.loop-index.index refl c.loop-index.invariant.same;
  loads = omega (arith, c.loop-index.invariant.loads, c.pixels_above-above.ensures.loads, ap (λ (t : Counts). t.loads) c.load_pixels.ensures.steps);
  steps = search rules;
}

pub returns-then-load_pixels-above-clause-value : goal.returns-then-load_pixels-above-clause-value
returns-then-load_pixels-above-clause-value g c =
    row-unlike c.args.bitmap.now c.args.y (c.loop-index.index * 64) c.load_pixels.result c.pixels_above-above.result c.load_pixels.ensures.bits c.pixels_above-above.ensures.bits
    c.load_pixels.ensures.bound c.pixels_above-above.ensures.bound c.if-load_pixels-above.true

pub returns-clause-value : goal.returns-clause-value
returns-clause-value g c =
    row-same c.args.bitmap.now c.args.y (c.loop-index.index * 64) (omega (arith, c.width-width.ensures.value, c.div_ceil-index-end.ensures)) c.loop-index.invariant.same
