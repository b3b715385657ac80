use Rattle.std.proofs.Common.{◌-◌, ◌/◌, arith}
use Rattle.jbig2_steps.proofs.LaneCounts.{lanes-then}
use Rattle.jbig2_mmr.proofs.T6Spans.{span-more, lanes-word}
use Rattle.jbig2_mmr.proofs.T6Steps.{moves-then, moves-word}
use Rattle.jbig2_mmr.proofs.mmr.span.fill_span.Goals as goal

pub loop-x-preserved : goal.loop-x-preserved
loop-x-preserved g c = record {
  lanes = lanes-then c.args.steps.now c.loop-x.steps c.store_pixels.new.steps c.loop-x.invariant.lanes (lanes-word c.loop-x.steps c.store_pixels.new.steps c.store_pixels.ensures.steps);
  open_work = λ more. moves-then (c.loop-x.x / 64 - c.args.from / 64) 1 _ c.args.steps.now c.loop-x.steps c.store_pixels.new.steps (c.loop-x.invariant.open_work c.loop-x-test.true) (moves-word c.loop-x.steps c.store_pixels.new.steps c.store_pixels.ensures.steps) (omega (arith, more, c.min-count.ensures, c.loop-x.invariant.opening));
  work = moves-then (c.loop-x.x / 64 - c.args.from / 64) 1 _ c.args.steps.now c.loop-x.steps c.store_pixels.new.steps (c.loop-x.invariant.open_work c.loop-x-test.true) (moves-word c.loop-x.steps c.store_pixels.new.steps c.store_pixels.ensures.steps) (omega (arith, c.loop-x-test.true, c.loop-x.invariant.opening));
  opening = omega arith;
  within = omega (arith, c.min-count.ensures);
  painted = span-more c.args.bitmap.now c.loop-x.bitmap c.store_pixels.new.self c.args.y c.args.from c.loop-x.x c.min-count.result c.word_of.result c.args.black c.loop-x.invariant.painted c.loop-x.invariant.opening (omega (arith, c.min-count.ensures, c.requires.columns)) c.requires.row c.word_of.ensures c.store_pixels.ensures.value;
}
