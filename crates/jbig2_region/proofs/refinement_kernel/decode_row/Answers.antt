use Rattle.std.proofs.Common.{arith, min, subst, ap, ◌≡◌, ◌+◌, ◌*◌, ◌%◌, ℕ}
use Rattle.jbig2_base.specs.Counts.{Counts}
use Rattle.jbig2_region.specs.inner.RefinementWindows.{windowed_coding}
use Rattle.jbig2_region.proofs.StoreLemmas.{left-none}
use Rattle.jbig2_region.proofs.StretchLemmas.{pixels-none, pixels-since, pixels-then}
use Rattle.jbig2_region.specs.inner.DecodedPixels.{rest_of}
use Rattle.jbig2_region.specs.inner.Windows.{IsLeft}
use Rattle.jbig2_region.proofs.refinement_kernel.decode_row.Goals as goal

pub loop-index-init : goal.loop-index-init
loop-index-init g c =
    let none : 0 ≡ min 0 c.args.bitmap.now.width = omega arith in
    let coding = windowed_coding c.args.coding.now in
    record {
      decoded = pixels-none coding c.args.row.predicted 0 c.args.row.y (min 0 c.args.bitmap.now.width) c.args.bitmap.now c.args.decoder.now c.args.contexts.now c.args.steps.now none;
      few = omega arith;
      left = subst (λ (n : ℕ). IsLeft c.args.bitmap.now n c.args.row.y 0) none (left-none c.args.bitmap.now c.args.row.y);
      loads = omega arith;
      words = omega arith;
    }

pub loop-index-preserved : goal.loop-index-preserved
loop-index-preserved g c =
    let coding = windowed_coding c.args.coding.now in
    let here : min (c.loop-index.index * 32) c.args.bitmap.now.width ≡ c.loop-index.index * 32 = omega (arith, c.width-width.ensures.value, c.div_ceil-index-end.ensures) in
    let next : min ((c.loop-index.index + 1) * 32) c.args.bitmap.now.width ≡ min (c.loop-index.index * 32) c.args.bitmap.now.width + c.min-count.result = omega (arith, c.width-width.ensures.value, c.div_ceil-index-end.ensures, c.min-count.ensures) in
    let place : c.loop-index.index * 32 + c.min-count.result ≡ min ((c.loop-index.index + 1) * 32) c.args.bitmap.now.width = omega arith in
    let loaded = c.windows_at-windows.ensures.steps in
    let decided : c.windows_at-windows.new.steps.decisions ≡ c.loop-index.steps.decisions = ap (λ (t : Counts). t.decisions) loaded in
    let untouched : rest_of c.windows_at-windows.new.steps ≡ rest_of c.loop-index.steps = ap (λ (t : Counts). rest_of t) loaded in
    let more : c.windows_at-windows.new.steps.loads ≡ c.loop-index.steps.loads + 4 = ap (λ (t : Counts). t.loads) loaded in
    let same : c.windows_at-windows.new.steps.words ≡ c.loop-index.steps.words = ap (λ (t : Counts). t.words) loaded in
    record {
      decoded = pixels-then (min ((c.loop-index.index + 1) * 32) c.args.bitmap.now.width) c.loop-index.invariant.decoded (pixels-since c.loop-index.steps c.windows_at-windows.new.steps c.decode_block-pixels.new.steps c.decode_block-pixels.ensures.decoded decided untouched) (omega arith) next;
      few = omega arith;
      left = subst (λ (n : ℕ). IsLeft c.decode_block-pixels.new.bitmap n c.args.row.y (c.decode_block-pixels.result % 16)) place c.decode_block-pixels.ensures.left;
      loads = omega (arith, c.decode_block-pixels.ensures.loads, c.loop-index.invariant.loads);
      words = omega (arith, c.decode_block-pixels.ensures.words, c.loop-index.invariant.words);
    }
