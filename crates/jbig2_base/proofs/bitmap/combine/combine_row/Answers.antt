use Rattle.std.proofs.Common.{◌+◌, ◌-◌, ◌*◌, ◌/◌, min, max, arith, inl}
use Rattle.jbig2_base.proofs.BlockLemmas.{block-none, row-step}
use Rattle.jbig2_base.proofs.CountLemmas.{after_words-none, after_words-step}
use Rattle.jbig2_base.proofs.bitmap.combine.combine_row.Goals as goal

pub loop-index-init : goal.loop-index-init
loop-index-init g c =
    let s = c.args.span in
    record {
      page = block-none c.args.operator c.args.page.now c.args.source.now s.left (max s.left (min s.right (64 * (s.left / 64)))) s.row (s.row + 1) s.from s.from_row c.requires.table (inl (omega arith));
      steps = after_words-none c.args.steps.now (s.left / 64 - s.left / 64) (omega arith);
    }

pub loop-index-preserved : goal.loop-index-preserved
loop-index-preserved g c =
    let s = c.args.span in
    record {
      page = row-step c.args.operator c.args.page.now c.args.source.now c.loop-index.page c.store_pixels.new.self s.left s.right c.loop-index.index c.max-start.result c.min-count.result s.row s.from s.from_row c.load_pixels-page_bits.result c.load_pixels-source_bits.result c.combined_bits-bits.result c.requires.some c.loop-index.auto.index (omega arith) c.max-start.ensures c.min-count.ensures c.requires.row c.loop-index.invariant.page c.load_pixels-page_bits.ensures.bits c.load_pixels-source_bits.ensures.bits c.combined_bits-bits.ensures c.store_pixels.ensures.value;
      steps = after_words-step c.args.steps.now c.loop-index.steps c.load_pixels-page_bits.new.steps c.load_pixels-source_bits.new.steps c.store_pixels.new.steps (c.loop-index.index - s.left / 64) (c.loop-index.index + 1 - s.left / 64) c.loop-index.invariant.steps c.load_pixels-page_bits.ensures.steps c.load_pixels-source_bits.ensures.steps c.store_pixels.ensures.steps (omega (arith, c.loop-index.auto.index));
    }
