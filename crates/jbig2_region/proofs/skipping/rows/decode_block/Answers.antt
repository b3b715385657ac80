use Rattle.std.proofs.Common.{arith, ◌≡◌, ℕ, ◌+◌, ◌-◌, ◌*◌, false, ap, sym, subst, refl, ◌∙◌}
use Rattle.jbig2_base.specs.Counts.{Counts}
use Rattle.jbig2_base.specs.Grid.{Grid}
use Rattle.jbig2_base.specs.Bits.{bit}
use Rattle.jbig2_region.specs.{inner.RegionViews.{skip_of}, Generic.{skipping_coding}}
use Rattle.jbig2_region.specs.inner.DecodedPixels.{CountsPart, rest_of}
use Rattle.jbig2_region.specs.inner.Neighbours.{nominal_pixels}
use Rattle.jbig2_region.specs.inner.RefinementBlocks.{Block}
use Rattle.jbig2_region.proofs.RefinementKernelLemmas.{block-none, block-whole}
use Rattle.jbig2_region.proofs.SkippingLemmas.{skipping-next}
use Rattle.jbig2_region.proofs.skipping.rows.decode_block.Goals as goal
use Rattle.jbig2_region.specs.inner.RegionStates.{counted_decoder, counted_region, region_state}

pub loop-offset-init : goal.loop-offset-init
loop-offset-init g c =
    block-none (skipping_coding (nominal_pixels c.args.neighbours) (skip_of c.args.skip)) false c.args.place.x c.args.place.y c.args.place.left c.from-pixels.result c.args.bitmap.now c.args.decoder.now c.args.contexts.now c.mask_at-mask.new.steps
    c.requires.left c.requires.small c.from-pixels.ensures

pub loop-offset-preserved : goal.loop-offset-preserved
unfolding bit
loop-offset-preserved g c =
    subst (λ (n : ℕ). Block (skipping_coding (nominal_pixels c.args.neighbours) (skip_of c.args.skip)) false c.args.place.x c.args.place.y (c.loop-offset.offset + 1) (counted_region c.args.bitmap.now c.args.decoder.now c.args.contexts.now c.mask_at-mask.new.steps) (c.loop-offset.pixels * 2 + n) (counted_decoder c.decode_pixel-symbol.new.decoder c.decode_pixel-symbol.new.contexts c.decode_pixel-symbol.new.steps)) (sym c.from.ensures)
    (skipping-next c.args.neighbours (skip_of c.args.skip) c.args.place.x c.args.place.y c.loop-offset.offset c.args.bitmap.now c.windows_at-windows.result c.mask_at-mask.result
    c.args.decoder.now c.loop-offset.decoder c.decode_pixel-symbol.new.decoder c.args.contexts.now c.loop-offset.contexts c.decode_pixel-symbol.new.contexts c.mask_at-mask.new.steps c.loop-offset.steps c.decode_pixel-symbol.new.steps
    c.loop-offset.pixels c.plain_context-context.result c.decode_pixel-symbol.result (bit c.mask_at-mask.result (31 - c.loop-offset.offset))
    c.loop-offset.invariant c.requires.near c.windows_at-windows.ensures.value c.mask_at-mask.ensures.value (omega arith) (omega arith) c.requires.row c.plain_context-context.ensures.value refl c.decode_pixel-symbol.ensures.takes)

pub returns-clause-decoded : goal.returns-clause-decoded
returns-clause-decoded g c =
    let before : c.mask_at-mask.new.steps.decisions ≡ c.args.steps.now.decisions = ap (λ (t : Counts). t.decisions) c.mask_at-mask.ensures.steps ∙ ap (λ (t : Counts). t.decisions) c.windows_at-windows.ensures.steps in
    let after : c.loop-offset.steps.decisions ≡ c.store_pixels.new.steps.decisions = sym (ap (λ (t : Counts). t.decisions) c.store_pixels.ensures.steps) in
    let whole =
    block-whole (skipping_coding (nominal_pixels c.args.neighbours) (skip_of c.args.skip)) false c.args.place.x c.args.place.y c.loop-offset.offset c.args.place.count c.args.bitmap.now c.store_pixels.new.self c.args.decoder.now c.loop-offset.decoder c.args.contexts.now c.loop-offset.contexts c.mask_at-mask.new.steps c.loop-offset.steps c.loop-offset.pixels
    c.loop-offset.invariant (omega arith) c.store_pixels.ensures.value in
    record {
      has_decoded = whole.has_decoded;
      width = ap (λ (b : Grid). b.width) c.store_pixels.ensures.value;
      height = ap (λ (b : Grid). b.height) c.store_pixels.ensures.value;
      bytes = c.loop-offset.invariant.bytes;
      decisions = subst (λ (n : ℕ). CountsPart (skipping_coding (nominal_pixels c.args.neighbours) (skip_of c.args.skip)) false c.args.place.x c.args.place.y c.args.place.count (region_state c.args.bitmap.now c.args.decoder.now c.args.contexts.now) c.args.steps.now.decisions n) after (subst (λ (n : ℕ). CountsPart (skipping_coding (nominal_pixels c.args.neighbours) (skip_of c.args.skip)) false c.args.place.x c.args.place.y c.args.place.count (region_state c.args.bitmap.now c.args.decoder.now c.args.contexts.now) n c.loop-offset.steps.decisions) before whole.decisions);
      rest = ap (λ (t : Counts). rest_of t) c.store_pixels.ensures.steps ∙ ap (λ (t : Counts). rest_of t) c.loop-offset.invariant.steps ∙ ap (λ (t : Counts). rest_of t) c.mask_at-mask.ensures.steps ∙ ap (λ (t : Counts). rest_of t) c.windows_at-windows.ensures.steps;
    }

pub returns-clause-left : goal.returns-clause-left
returns-clause-left g c =
    (block-whole (skipping_coding (nominal_pixels c.args.neighbours) (skip_of c.args.skip)) false c.args.place.x c.args.place.y c.loop-offset.offset c.args.place.count c.args.bitmap.now c.store_pixels.new.self c.args.decoder.now c.loop-offset.decoder c.args.contexts.now c.loop-offset.contexts c.mask_at-mask.new.steps c.loop-offset.steps c.loop-offset.pixels
    c.loop-offset.invariant (omega arith) c.store_pixels.ensures.value).left

pub returns-clause-lanes : goal.returns-clause-lanes
returns-clause-lanes g c = record {
  groups = ap (λ (t : Counts). t.groups) c.store_pixels.ensures.steps ∙ ap (λ (t : Counts). t.groups) c.loop-offset.invariant.steps ∙ ap (λ (t : Counts). t.groups) c.mask_at-mask.ensures.steps ∙ ap (λ (t : Counts). t.groups) c.windows_at-windows.ensures.steps;
  pixels = ap (λ (t : Counts). t.pixels) c.store_pixels.ensures.steps ∙ ap (λ (t : Counts). t.pixels) c.loop-offset.invariant.steps ∙ ap (λ (t : Counts). t.pixels) c.mask_at-mask.ensures.steps ∙ ap (λ (t : Counts). t.pixels) c.windows_at-windows.ensures.steps;
  cleared = ap (λ (t : Counts). t.cleared) c.store_pixels.ensures.steps ∙ ap (λ (t : Counts). t.cleared) c.loop-offset.invariant.steps ∙ ap (λ (t : Counts). t.cleared) c.mask_at-mask.ensures.steps ∙ ap (λ (t : Counts). t.cleared) c.windows_at-windows.ensures.steps;
}
