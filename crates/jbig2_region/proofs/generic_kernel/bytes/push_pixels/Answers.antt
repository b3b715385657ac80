use Rattle.std.proofs.Common.{arith, refl, set, length, ℕ, ◌≡◌, ◌<◌, ◌∙◌, ◌+◌, ◌*◌, ◌%◌, ◌^◌, ap, sym, subst, false}
use Rattle.std.proofs.lemmas.Nat.{mod_below, pow_pos}
use Rattle.jbig2_base.specs.Writes.{with_pixels}
use Rattle.jbig2_region.specs.inner.PushedPixels.{PushesPixels}
use Rattle.jbig2_region.specs.inner.Neighbours.{DecodesPixels, nominal_pixels, register_of}
use Rattle.jbig2_region.proofs.GatherLemmas.{cut-digit, fields}
use Rattle.jbig2_region.proofs.RegisterLemmas.{beside-fits, beside-next, left-whole, low-bits, register-context, register-fits, register-next}
use Rattle.jbig2_region.proofs.StepLemmas.{no-decisions, more-decisions}
use Rattle.jbig2_region.proofs.StoreLemmas.{decodes-start, decodes-bit, left-start, left-bit, stored-above, inside-states}
use Rattle.jbig2_region.proofs.generic_kernel.bytes.push_pixels.Goals as goal
use Rattle.jbig2_region.specs.inner.RegionStates.{decoder_state, region_state}
use Rattle.jbig2_region.specs.inner.Windows.{IsLeft}

pub loop-init : goal.loop-init
loop-init g c = record {
  bytes = refl;
  moved = omega (arith, c.register-register.ensures.value);
  made = omega arith;
  context = c.context-context.ensures.value;
  left = λ grid x y is_at. left-start grid x y (c.args.left % 2 ^ 0) c.args.left is_at.beside;
  has_decoded = λ grid x y is_at. decodes-start (nominal_pixels c.args.neighbours) _ x y (c.args.left % 2 ^ 0) grid c.args.decoder.now c.args.contexts.now;
  steps = no-decisions c.args.steps.now 0 refl;
}

pub loop-preserved : goal.loop-preserved
loop-preserved g c =
    let k : ℕ = c.loop.counter in
    let b : ℕ = c.loop.beside in
    let byte : ℕ = b % 2 ^ k in
    let symbol : ℕ = c.decode-symbol.result in
    let inside : c.loop.context < length c.loop.contexts = inside-states c.loop.context (length c.args.contexts.now) _ _ (rw c.loop.invariant.context (fields c.args.neighbours c.loop.register b c.requires.near)) c.requires.contexts c.loop.auto.contexts in
    let next = beside-next b c.args.left k symbol c.loop.invariant.made c.decode-symbol.ensures.digit in
    record {
      bytes = ap (λ d. d.bytes) c.decode-symbol.ensures.coder ∙ c.loop.invariant.bytes;
      moved = register-next c.loop.register (register_of c.args.neighbours c.args.windows) k c.loop.invariant.moved;
      made = next.1;
      context = ap (λ (n : ℕ). n + symbol) c.context-higher.ensures.value ∙ cut-digit c.args.neighbours (c.loop.register * 2) b symbol c.requires.near c.decode-symbol.ensures.digit;
      left = λ grid x y is_at.
          left-whole (with_pixels grid x y (k + 1) ((b * 2 + symbol) % 2 ^ (k + 1))) (x + (k + 1)) y (b * 2 + symbol)
          (subst (λ (n : ℕ). IsLeft (with_pixels grid x y (k + 1) n) (x + (k + 1)) y ((b * 2 + symbol) % 16)) (sym next.0)
          (left-bit grid x y k b byte symbol _ c.decode-symbol.ensures.value (omega (arith, is_at.columns)) is_at.row (c.loop.invariant.left grid x y is_at)));
      has_decoded = λ grid x y is_at.
          let shown = with_pixels grid x y k byte in
          let is_context =
          c.loop.invariant.context
          ∙ register-context c.args.neighbours grid shown x y k 20 c.loop.register b c.args.windows c.requires.near (omega arith) (omega arith) c.loop.invariant.moved (stored-above grid x y k byte) is_at.shows (c.loop.invariant.left grid x y is_at) in
          subst (λ (n : ℕ). DecodesPixels (nominal_pixels c.args.neighbours) false x y (k + 1) (region_state grid c.args.decoder.now c.args.contexts.now) (region_state (with_pixels grid x y (k + 1) n) c.decode-symbol.new.self (set c.loop.contexts c.loop.context c.decode-symbol.new.context))) (sym next.0)
          (decodes-bit (nominal_pixels c.args.neighbours) x y k grid c.args.decoder.now c.loop.decoder c.decode-symbol.new.self c.args.contexts.now c.loop.contexts c.loop.context byte symbol c.index-contexts-context.result c.decode-symbol.new.context
          (c.loop.invariant.has_decoded grid x y is_at) (omega (arith, is_at.columns)) is_at.row is_context inside c.decode-symbol.ensures.value c.decode-symbol.ensures.coder c.decode-symbol.ensures.context);
      steps = more-decisions c.args.steps.now c.loop.steps c.decode-symbol.new.steps k 1 (k + 1) c.loop.invariant.steps c.decode-symbol.ensures.steps refl;
    }

pub bounds-contexts-context : goal.bounds-contexts-context
bounds-contexts-context g c = inside-states c.loop.context (length c.args.contexts.now) _ _ (rw c.loop.invariant.context (fields c.args.neighbours c.loop.register c.loop.beside c.requires.near)) c.requires.contexts c.loop.auto.contexts

pub overflow_mul-register : goal.overflow_mul-register
overflow_mul-register g c =
    let below : register_of c.args.neighbours c.args.windows < 2 ^ 56 = subst (λ (n : ℕ). n < 2 ^ 56) c.register-register.ensures.value c.register-register.ensures.bound in
    let fits = register-fits c.loop.register (register_of c.args.neighbours c.args.windows) c.loop.counter below (omega arith) c.loop.invariant.moved in
    omega (arith, fits)

pub overflow_mul-beside : goal.overflow_mul-beside
overflow_mul-beside g c = omega (arith, beside-fits c.loop.beside c.args.left c.loop.counter c.requires.small (omega arith) c.loop.invariant.made)

pub overflow_add-beside : goal.overflow_add-beside
overflow_add-beside g c = omega (arith, beside-fits c.loop.beside c.args.left c.loop.counter c.requires.small (omega arith) c.loop.invariant.made)

pub returns-clause-pixels : goal.returns-clause-pixels
returns-clause-pixels g c =
    let all : c.loop.counter ≡ c.args.count = omega arith in
    let bits : c.loop.beside % 2 ^ c.loop.counter ≡ c.from.result % (1 * 2 ^ c.args.count % 2 ^ 64) = rw (all, c.from.ensures) (sym (low-bits c.loop.beside c.args.count (omega arith))) in
    subst (λ (b : ℕ). PushesPixels c.args.neighbours c.args.count c.args.left c.args.windows c.args.count b (decoder_state c.args.decoder.now c.args.contexts.now) (decoder_state c.loop.decoder c.loop.contexts)) bits
    (subst (λ (n : ℕ). PushesPixels c.args.neighbours c.args.count c.args.left c.args.windows n (c.loop.beside % 2 ^ c.loop.counter) (decoder_state c.args.decoder.now c.args.contexts.now) (decoder_state c.loop.decoder c.loop.contexts)) all c.loop.invariant.has_decoded)

pub returns-clause-bound : goal.returns-clause-bound
returns-clause-bound g c = rw (low-bits c.from.result c.args.count (omega arith)) (mod_below c.from.result (2 ^ c.args.count) (pow_pos c.args.count))
