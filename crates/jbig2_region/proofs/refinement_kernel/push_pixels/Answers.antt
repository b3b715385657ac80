use Rattle.std.proofs.Common.{arith, ℕ, ◌≡◌, ◌+◌, ◌-◌, ◌*◌, ◌%◌, ◌^◌, ◌<◌, sym, subst}
use Rattle.jbig2_region.specs.Refinement.{refinement_coding}
use Rattle.jbig2_region.specs.inner.RefinementBlocks.{Block, MovesBlock}
use Rattle.jbig2_region.specs.inner.RefinementLanes.{Lanes}
use Rattle.jbig2_region.specs.inner.RefinementWindows.{context_made, corners, four_of, nine_of}
use Rattle.jbig2_region.proofs.RefinementLaneLemmas.{lanes-next}
use Rattle.jbig2_region.proofs.RefinementPushLemmas.{block-opening, block-pushed, context-shown, pixels-more}
use Rattle.jbig2_region.proofs.refinement_kernel.push_pixels.Goals as goal
use Rattle.jbig2_region.specs.inner.RegionStates.{counted_decoder}

pub loop-init : goal.loop-init
loop-init g c = record {
  block = λ typical p r x y start sees few wide above unknown block.
      block-opening (refinement_coding c.args.template typical corners r) p x y c.args.offset start.grid start.coder c.args.decoder.now start.contexts c.args.contexts.now start.counts c.args.steps.now c.args.pixels block;
  room = subst (λ (n : ℕ). c.args.pixels < 16 * 2 ^ n) (omega arith) c.requires.room;
  bound = c.lanes_context-context.ensures.bound;
  lanes = λ more.
      let same : c.args.offset ≡ c.args.offset + 0 = omega arith in
      subst (λ (n : ℕ). Lanes c.args.windows n 12 c.lanes_at-lanes.result) same c.lanes_at-lanes.ensures;
  context = λ more.
      let same : c.args.offset ≡ c.args.offset + 0 = omega arith in
      subst (λ (n : ℕ). c.lanes_context-context.result ≡ context_made c.args.template (nine_of c.args.windows n) (four_of c.args.windows c.args.pixels n)) same
      (context-shown c.args.template c.args.windows c.args.offset 12 c.lanes_at-lanes.result _ c.args.pixels c.lanes_context-context.result (omega (arith, more)) c.lanes_at-lanes.ensures c.lanes_context-context.ensures.value (omega arith));
}

pub loop-preserved : goal.loop-preserved
loop-preserved g c =
    let k : ℕ = c.loop.counter in
    let place : c.args.offset + (k + 1) ≡ c.args.offset + k + 1 = omega arith in
    let shown : k + 1 < c.args.count → Lanes c.args.windows (c.args.offset + (k + 1)) (12 - (k + 1)) (c.loop.lanes * 2 ^ 1 % 2 ^ 64) = λ more.
    subst (λ (n : ℕ). Lanes c.args.windows n (12 - (k + 1)) (c.loop.lanes * 2 ^ 1 % 2 ^ 64)) (sym place)
    (lanes-next c.args.windows (c.args.offset + k) (12 - k) (12 - (k + 1)) c.loop.lanes (omega arith) (omega arith) (omega arith) (c.loop.invariant.lanes (omega arith))) in
    let digit : c.decide_pixel-symbol.result ≡ (c.loop.pixels * 2 + c.from.result) % 2 = omega (arith, c.from.ensures, c.decide_pixel-symbol.ensures.digit) in
    record {
      block = λ typical p r x y start sees few wide above unknown block.
          subst (λ (n : ℕ). Block (refinement_coding c.args.template typical corners r) p x y (c.args.offset + (k + 1)) start (c.loop.pixels * 2 + n) (counted_decoder c.decide_pixel-symbol.new.decoder c.decide_pixel-symbol.new.contexts c.decide_pixel-symbol.new.steps)) (sym c.from.ensures)
          (block-pushed c.args.template typical p r x y c.args.offset k start.grid c.args.windows start.coder c.loop.decoder c.decide_pixel-symbol.new.decoder start.contexts c.loop.contexts c.decide_pixel-symbol.new.contexts start.counts c.loop.steps c.decide_pixel-symbol.new.steps c.loop.pixels c.loop.context c.decide_pixel-symbol.result
          sees few wide above (unknown k (omega arith)) (c.loop.invariant.context (omega arith)) c.decide_pixel-symbol.ensures.takes
          (c.loop.invariant.block typical p r x y start sees (omega arith) (omega arith) above (λ i inside. unknown i (omega arith)) block));
      room = pixels-more c.loop.pixels c.from.result c.args.offset k c.loop.invariant.room (omega arith);
      bound = c.lanes_context-context-in-loop.ensures.bound;
      lanes = shown;
      context = λ more.
          context-shown c.args.template c.args.windows (c.args.offset + (k + 1)) (12 - (k + 1)) _ c.decide_pixel-symbol.result (c.loop.pixels * 2 + c.from.result) c.lanes_context-context-in-loop.result (omega arith) (shown more) c.lanes_context-context-in-loop.ensures.value digit;
    }

pub returns-clause-block : goal.returns-clause-block
returns-clause-block g c =
    let all : c.loop.counter ≡ c.args.count = omega arith in
    subst (λ (n : ℕ). MovesBlock c.args.template c.args.windows c.args.offset n c.args.pixels (counted_decoder c.args.decoder.now c.args.contexts.now c.args.steps.now) c.loop.pixels (counted_decoder c.loop.decoder c.loop.contexts c.loop.steps)) all c.loop.invariant.block
