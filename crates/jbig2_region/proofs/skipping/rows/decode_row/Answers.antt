use Rattle.std.proofs.Common.{arith, false, min, subst, ◌≡◌, ◌+◌, ◌*◌, ℕ}
use Rattle.jbig2_steps.proofs.LaneCounts.{lanes-none, lanes-then}
use Rattle.jbig2_region.specs.Raster.{Coding}
use Rattle.jbig2_region.specs.{inner.RegionViews.{skip_of}, Generic.{skipping_coding}}
use Rattle.jbig2_region.specs.inner.Neighbours.{nominal_pixels}
use Rattle.jbig2_region.proofs.StoreLemmas.{left-none}
use Rattle.jbig2_region.proofs.StretchLemmas.{pixels-none, pixels-then}
use Rattle.jbig2_region.specs.inner.Windows.{IsLeft}
use Rattle.jbig2_region.proofs.skipping.rows.decode_row.Goals as goal

pub loop-index-init : goal.loop-index-init
loop-index-init g c =
    let none : 0 ≡ min 0 c.args.bitmap.now.width = omega arith in
    let coding : Coding = skipping_coding (nominal_pixels c.args.neighbours) (skip_of c.args.skip) in
    record {
      decoded = pixels-none coding false 0 c.args.y (min 0 c.args.bitmap.now.width) c.args.bitmap.now c.args.decoder.now c.args.contexts.now c.args.steps.now none;
      few = omega arith;
      left = subst (λ (n : ℕ). IsLeft c.args.bitmap.now n c.args.y 0) none (left-none c.args.bitmap.now c.args.y);
      loads = omega arith;
      words = omega arith;
      lanes = lanes-none c.args.steps.now;
    }

pub loop-index-preserved : goal.loop-index-preserved
loop-index-preserved g c =
    let coding : Coding = skipping_coding (nominal_pixels c.args.neighbours) (skip_of c.args.skip) in
    let here : min (c.loop-index.index * 32) c.args.bitmap.now.width ≡ c.loop-index.index * 32 = omega (arith, c.width-width.ensures.value, c.div_ceil-index-end.ensures) in
    let next : min ((c.loop-index.index + 1) * 32) c.args.bitmap.now.width ≡ min (c.loop-index.index * 32) c.args.bitmap.now.width + c.min-count.result = omega (arith, c.width-width.ensures.value, c.div_ceil-index-end.ensures, c.min-count.ensures) in
    let place : c.loop-index.index * 32 + c.min-count.result ≡ min ((c.loop-index.index + 1) * 32) c.args.bitmap.now.width = omega arith in
    record {
      decoded = pixels-then (min ((c.loop-index.index + 1) * 32) c.args.bitmap.now.width) c.loop-index.invariant.decoded c.decode_block-left.ensures.decoded (omega arith) next;
      few = c.decode_block-left.ensures.small;
      left = subst (λ (n : ℕ). IsLeft c.decode_block-left.new.bitmap n c.args.y c.decode_block-left.result) place c.decode_block-left.ensures.left;
      loads = omega (arith, c.decode_block-left.ensures.loads, c.loop-index.invariant.loads);
      words = omega (arith, c.decode_block-left.ensures.words, c.loop-index.invariant.words);
      lanes = lanes-then c.args.steps.now c.loop-index.steps c.decode_block-left.new.steps c.loop-index.invariant.lanes c.decode_block-left.ensures.lanes;
    }
