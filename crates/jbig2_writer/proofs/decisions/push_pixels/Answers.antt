use Rattle.std.proofs.Common.{◌≡◌, ◌+◌, ◌*◌, min, arith, rules}
use Rattle.jbig2_region.specs.inner.Neighbours.{nominal_pixels}
use Rattle.jbig2_writer.proofs.RowLemmas.{pixels-all, pixels-more, pixels-none}
use Rattle.jbig2_writer.proofs.decisions.push_pixels.Goals as goal

pub loop-index-init : goal.loop-index-init
loop-index-init g c =
    let none : min 0 c.args.bitmap.now.width ≡ 0 = omega arith in
    record {
      pixels = pixels-none c.args.encoder.now (nominal_pixels c.args.neighbours) c.args.bitmap.now c.args.y (min 0 c.args.bitmap.now.width) none;
      loads = omega arith;
      steps = search rules;
    }

pub loop-index-preserved : goal.loop-index-preserved
loop-index-preserved g c =
    let here : min (c.loop-index.index * 32) c.args.bitmap.now.width ≡ c.loop-index.index * 32 = omega (arith, c.width-width.ensures.value, c.div_ceil-index-end.ensures) in
    let next : c.loop-index.index * 32 + c.min-count.result ≡ min ((c.loop-index.index + 1) * 32) c.args.bitmap.now.width = omega (arith, c.width-width.ensures.value, c.div_ceil-index-end.ensures, c.min-count.ensures) in
    record {
      pixels =
          pixels-more c.args.encoder.now c.loop-index.encoder c.push_group.new.encoder (nominal_pixels c.args.neighbours) c.args.bitmap.now c.args.y (min (c.loop-index.index * 32) c.args.bitmap.now.width) (c.loop-index.index * 32) (c.loop-index.index * 32 + c.min-count.result) (min ((c.loop-index.index + 1) * 32) c.args.bitmap.now.width)
          here next c.loop-index.invariant.pixels (c.in_ok-push_group.ensures c.args.bitmap.now (c.loop-index.index * 32) c.args.y c.windows_at-windows.ensures.value);
      loads = omega (arith, c.loop-index.invariant.loads, c.windows_at-windows.ensures.loads);
      steps = search rules;
    }

pub returns-clause-pixels : goal.returns-clause-pixels
returns-clause-pixels g c =
    let all : min (c.loop-index.index * 32) c.args.bitmap.now.width ≡ c.args.bitmap.now.width = omega (arith, c.width-width.ensures.value, c.div_ceil-index-end.ensures) in
    pixels-all c.args.encoder.now c.loop-index.encoder (nominal_pixels c.args.neighbours) c.args.bitmap.now c.args.y (min (c.loop-index.index * 32) c.args.bitmap.now.width) c.args.bitmap.now.width all c.loop-index.invariant.pixels
