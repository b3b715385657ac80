use Rattle.std.proofs.Common.{arith, ◌≡◌, ℕ, ◌+◌, ◌-◌, ◌*◌, ◌%◌, ◌^◌, ◌<◌, ◌≤◌, ◌∙◌, Bool, false, None, ap, sym, subst}
use Rattle.jbig2_base.specs.Counts.{Counts}
use Rattle.jbig2_base.specs.Grid.{Grid, pixel_at}
use Rattle.jbig2_base.specs.Bits.{bit}
use Rattle.jbig2_region.specs.inner.DecodedPixels.{CountsPart, rest_of, TakesPixel}
use Rattle.jbig2_region.specs.inner.RefinementBlocks.{Block}
use Rattle.jbig2_region.specs.inner.ReferenceViews.{reference_view}
use Rattle.jbig2_region.specs.inner.RefinementWindows.{context_made, known_of, nine_of, three_of, windowed_coding}
use Rattle.jbig2_region.proofs.RefinementKernelLemmas.{block-next, block-none, block-whole}
use Rattle.jbig2_region.proofs.RefinementKnownLemmas.{copied-known, decided-unknown}
use Rattle.jbig2_region.proofs.RefinementPushLemmas.{block-copied, context-white, four-white}
use Rattle.jbig2_region.proofs.StoreLemmas.{stored-inside}
use Rattle.jbig2_region.proofs.refinement_kernel.decode_block.Goals as goal
use Rattle.jbig2_region.specs.inner.RegionStates.{counted_decoder, counted_region, region_state}

pub loop-done-init : goal.loop-done-init
loop-done-init g c = record {
  within = omega arith;
  block =
      block-none (windowed_coding c.args.coding.now) c.args.row.predicted c.args.stretch.x c.args.row.y c.args.stretch.left c.from-pixels.result c.args.bitmap.now c.args.decoder.now c.args.contexts.now c.args.steps.now
      c.requires.left c.requires.small c.from-pixels.ensures;
}

pub loop-done-preserved : goal.loop-done-preserved
loop-done-preserved g c =
    let plain : c.args.row.predicted ≡ false = c.decided_columns-decided.ensures.plain (omega arith) in
    let region : three_of c.args.stretch.windows.region c.loop-done.done ≡ 0 = c.looked_for-white.ensures.region (omega arith) c.loop-done.done (omega arith) in
    let left : c.loop-done.pixels % 2 ≡ 0 = omega arith in
    record {
      within = omega arith;
      block =
          subst (λ (n : ℕ). Block (windowed_coding c.args.coding.now) c.args.row.predicted c.args.stretch.x c.args.row.y (c.loop-done.done + 1) (counted_region c.args.bitmap.now c.args.decoder.now c.args.contexts.now c.args.steps.now) (c.loop-done.pixels * 2 + n) (counted_decoder c.decide_pixel-symbol.new.decoder c.decide_pixel-symbol.new.contexts c.decide_pixel-symbol.new.steps)) (sym c.from.ensures)
          (block-next c.args.coding.now.template c.args.coding.now.typical c.args.row.predicted (reference_view c.args.coding.now.reference.now) c.args.stretch.x c.args.row.y c.loop-done.done c.args.bitmap.now c.args.stretch.windows
          c.args.decoder.now c.loop-done.decoder c.decide_pixel-symbol.new.decoder c.args.contexts.now c.loop-done.contexts c.decide_pixel-symbol.new.contexts c.args.steps.now c.loop-done.steps c.decide_pixel-symbol.new.steps
          c.loop-done.pixels 0 0 c.decide_pixel-symbol.result
          c.loop-done.invariant.block c.requires.sees (omega arith) (omega arith) c.requires.row (sym (c.looked_for-white.ensures.nine (omega arith) c.loop-done.done (omega arith))) (four-white c.args.stretch.windows c.loop-done.pixels c.loop-done.done left region) (subst (λ (q : Bool). TakesPixel (known_of q 0) (context_made c.args.coding.now.template 0 0) (counted_decoder c.loop-done.decoder c.loop-done.contexts c.loop-done.steps) c.decide_pixel-symbol.result (counted_decoder c.decide_pixel-symbol.new.decoder c.decide_pixel-symbol.new.contexts c.decide_pixel-symbol.new.steps)) (sym plain)
          (subst (λ (n : ℕ). TakesPixel None n (counted_decoder c.loop-done.decoder c.loop-done.contexts c.loop-done.steps) c.decide_pixel-symbol.result (counted_decoder c.decide_pixel-symbol.new.decoder c.decide_pixel-symbol.new.contexts c.decide_pixel-symbol.new.steps)) (sym (context-white c.args.coding.now.template)) c.decide_pixel-symbol.ensures.takes)));
    }

pub push_pixels-pixels-requires-clause-room : goal.push_pixels-pixels-requires-clause-room
push_pixels-pixels-requires-clause-room g c = c.loop-done-2.invariant.block.few

pub loop-done-2-preserved : goal.loop-done-2-preserved
loop-done-2-preserved g c =
    let plain : c.args.row.predicted ≡ false = c.decided_columns-decided.ensures.plain (omega arith) in
    let few : c.loop-done-2.done + c.min-more.result ≤ 32 = omega arith in
    record {
      within = omega arith;
      block =
          c.push_pixels-pixels.ensures.block c.args.coding.now.typical c.args.row.predicted (reference_view c.args.coding.now.reference.now) c.args.stretch.x c.args.row.y (counted_region c.args.bitmap.now c.args.decoder.now c.args.contexts.now c.args.steps.now)
          c.requires.sees few (omega arith) c.requires.row (λ i inside. ap (λ (q : Bool). known_of q (nine_of c.args.stretch.windows (c.loop-done-2.done + i))) plain) c.loop-done-2.invariant.block;
    }

pub copied_pixels-pixels-requires-clause-room : goal.copied_pixels-pixels-requires-clause-room
copied_pixels-pixels-requires-clause-room g c = c.loop-done-3.invariant.block.few

pub push_pixels-pixels-requires-in-loop-done-3-clause-room : goal.push_pixels-pixels-requires-in-loop-done-3-clause-room
push_pixels-pixels-requires-in-loop-done-3-clause-room g c =
    let n : ℕ = c.leading_ones-copied.result in
    let done : ℕ = c.loop-done-3.done in
    let copied =
    block-copied c.args.coding.now.template c.args.coding.now.typical c.args.row.predicted (reference_view c.args.coding.now.reference.now) c.args.stretch.x c.args.row.y done n c.args.bitmap.now c.args.stretch.windows
    c.args.decoder.now c.loop-done-3.decoder c.args.contexts.now c.loop-done-3.contexts c.args.steps.now c.loop-done-3.steps c.loop-done-3.pixels c.requires.sees (omega arith) (omega arith) c.requires.row
    (copied-known c.args.row.predicted c.args.stretch.windows c.known_columns-known.result done n c.known_columns-known.ensures (omega arith) c.leading_ones-copied.ensures.before) c.loop-done-3.invariant.block in
    subst (λ (m : ℕ). m < 16 * 2 ^ (done + n)) (sym c.copied_pixels-pixels.ensures) copied.few

pub loop-done-3-preserved : goal.loop-done-3-preserved
loop-done-3-preserved g c =
    let n : ℕ = c.leading_ones-copied.result in
    let done : ℕ = c.loop-done-3.done in
    let more : ℕ = c.min-more-in-loop-done-3.result in
    let few : done + n + more ≤ 32 = omega arith in
    let copied =
    block-copied c.args.coding.now.template c.args.coding.now.typical c.args.row.predicted (reference_view c.args.coding.now.reference.now) c.args.stretch.x c.args.row.y done n c.args.bitmap.now c.args.stretch.windows
    c.args.decoder.now c.loop-done-3.decoder c.args.contexts.now c.loop-done-3.contexts c.args.steps.now c.loop-done-3.steps c.loop-done-3.pixels c.requires.sees (omega arith) (omega arith) c.requires.row
    (copied-known c.args.row.predicted c.args.stretch.windows c.known_columns-known.result done n c.known_columns-known.ensures (omega arith) c.leading_ones-copied.ensures.before) c.loop-done-3.invariant.block in
    record {
      within = omega arith;
      block =
          c.push_pixels-pixels-in-loop-done-3.ensures.block c.args.coding.now.typical c.args.row.predicted (reference_view c.args.coding.now.reference.now) c.args.stretch.x c.args.row.y (counted_region c.args.bitmap.now c.args.decoder.now c.args.contexts.now c.args.steps.now)
          c.requires.sees few (omega arith) c.requires.row
          (decided-unknown c.args.row.predicted c.args.stretch.windows c.known_columns-known.result (done + n) more c.known_columns-known.ensures few (λ i inside. c.leading_zeros.ensures.before i (omega arith)))
          (subst (λ (m : ℕ). Block (windowed_coding c.args.coding.now) c.args.row.predicted c.args.stretch.x c.args.row.y (done + n) (counted_region c.args.bitmap.now c.args.decoder.now c.args.contexts.now c.args.steps.now) m (counted_decoder c.loop-done-3.decoder c.loop-done-3.contexts c.loop-done-3.steps)) (sym c.copied_pixels-pixels.ensures) copied);
    }

pub returns-clause-decoded : goal.returns-clause-decoded
returns-clause-decoded g c =
    let after : c.loop-done-3.steps.decisions ≡ c.store_pixels.new.steps.decisions = sym (ap (λ (t : Counts). t.decisions) c.store_pixels.ensures.steps) in
    let whole =
    block-whole (windowed_coding c.args.coding.now) c.args.row.predicted c.args.stretch.x c.args.row.y c.loop-done-3.done c.args.stretch.count c.args.bitmap.now c.store_pixels.new.self c.args.decoder.now c.loop-done-3.decoder c.args.contexts.now c.loop-done-3.contexts c.args.steps.now c.loop-done-3.steps c.loop-done-3.pixels
    c.loop-done-3.invariant.block (omega arith) c.store_pixels.ensures.value in
    record {
      has_decoded = whole.has_decoded;
      width = ap (λ (b : Grid). b.width) c.store_pixels.ensures.value;
      height = ap (λ (b : Grid). b.height) c.store_pixels.ensures.value;
      bytes = c.loop-done-3.invariant.block.bytes;
      decisions = subst (λ (n : ℕ). CountsPart (windowed_coding c.args.coding.now) c.args.row.predicted c.args.stretch.x c.args.row.y c.args.stretch.count (region_state c.args.bitmap.now c.args.decoder.now c.args.contexts.now) c.args.steps.now.decisions n) after whole.decisions;
      rest = ap (λ (t : Counts). rest_of t) c.store_pixels.ensures.steps ∙ ap (λ (t : Counts). rest_of t) c.loop-done-3.invariant.block.steps;
    }

pub returns-clause-left : goal.returns-clause-left
returns-clause-left g c =
    (block-whole (windowed_coding c.args.coding.now) c.args.row.predicted c.args.stretch.x c.args.row.y c.loop-done-3.done c.args.stretch.count c.args.bitmap.now c.store_pixels.new.self c.args.decoder.now c.loop-done-3.decoder c.args.contexts.now c.loop-done-3.contexts c.args.steps.now c.loop-done-3.steps c.loop-done-3.pixels
    c.loop-done-3.invariant.block (omega arith) c.store_pixels.ensures.value).left

pub returns-clause-value : goal.returns-clause-value
returns-clause-value g c = λ k few.
    let place : c.args.stretch.x + c.args.stretch.count - 1 - (c.args.stretch.x + k) ≡ c.args.stretch.count - 1 - k = omega arith in
    sym
    (ap (λ (q : Grid). pixel_at q (c.args.stretch.x + k) c.args.row.y) c.store_pixels.ensures.value
    ∙ stored-inside c.args.bitmap.now c.args.stretch.x c.args.row.y c.args.stretch.count c.loop-done-3.pixels (c.args.stretch.x + k) (omega arith) (omega arith) c.requires.columns c.requires.row
    ∙ ap (λ (n : ℕ). bit c.loop-done-3.pixels n) place)
