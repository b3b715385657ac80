use Rattle.std.proofs.Common.{arith, refl, false, ℕ, ◌≡◌, ◌∙◌, ◌+◌, ◌-◌, ◌*◌, ◌/◌, ◌%◌, ◌^◌, ap, sym, subst}
use Rattle.jbig2_steps.proofs.LaneCounts.{lanes-none, lanes-then}
use Rattle.jbig2_base.specs.Counts.{Counts}
use Rattle.jbig2_base.specs.Grid.{Grid}
use Rattle.jbig2_base.specs.Writes.{with_pixels}
use Rattle.jbig2_region.specs.inner.PushedPixels.{IsAtPixels, IsAtRow}
use Rattle.jbig2_region.specs.inner.Neighbours.{DecodesPixels, nominal_pixels}
use Rattle.jbig2_region.proofs.CountLemmas.{counts-last, counts-none, counts-then}
use Rattle.jbig2_region.proofs.PushLemmas.{few-next, one-shifted, row-fits, at_pixels-next, stored-next}
use Rattle.jbig2_region.proofs.StoreLemmas.{decodes-start, decodes-then}
use Rattle.jbig2_region.proofs.generic_kernel.narrow.push_row.Goals as goal
use Rattle.jbig2_region.specs.inner.RegionStates.{region_state}
use Rattle.jbig2_region.specs.inner.Windows.{Shows}

pub loop-init : goal.loop-init
loop-init g c = record {
  bytes = refl;
  few = omega arith;
  shows = λ grid y shows. shows;
  has_decoded = λ grid y row. decodes-start (nominal_pixels c.args.neighbours) false 0 y 0 grid c.args.decoder.now c.args.contexts.now;
  decisions = λ grid y row. counts-none (nominal_pixels c.args.neighbours) 0 y grid c.args.decoder.now c.args.contexts.now c.args.steps.now.decisions;
  run_tests = omega arith;
  loads = refl;
  words = refl;
  lanes = lanes-none c.args.steps.now;
}

pub loop-preserved : goal.loop-preserved
loop-preserved g c =
    let k : ℕ = c.loop.counter in
    let pixels : ℕ = c.loop.pixels in
    let byte : ℕ = c.push_byte-byte.result in
    let sum : 8 * (k + 1) ≡ 8 * k + 8 = omega arith in
    let place : 8 * k ≡ 0 + 8 * k = omega arith in
    let is_at : (grid : Grid) (y : ℕ) → IsAtRow grid y c.args.width c.args.windows → IsAtPixels (with_pixels grid 0 y (8 * k) pixels) (8 * k) y 9 (pixels % 16) c.loop.shown = λ grid y row.
    at_pixels-next grid y c.args.width k 9 pixels c.args.windows c.loop.shown row c.loop.invariant.few (omega arith) (omega arith) (c.loop.invariant.shows grid y row.shows) in
    record {
      bytes = c.push_byte-byte.ensures.bytes ∙ c.loop.invariant.bytes;
      few = few-next pixels byte (8 * k) 8 (8 * (k + 1)) c.loop.invariant.few c.push_byte-byte.ensures.bound sum;
      shows = λ grid y shows.
          let less : 64 - 8 * k - 8 ≡ 64 - 8 * (k + 1) = omega arith in
          subst (λ (n : ℕ). Shows grid (8 * (k + 1)) y n c.right_by-shown.result) less
          (subst (λ (n : ℕ). Shows grid n y (64 - 8 * k - 8) c.right_by-shown.result) (sym sum)
          (c.right_by-shown.ensures grid (8 * k) y (64 - 8 * k) (omega arith) (c.loop.invariant.shows grid y shows)));
      has_decoded = λ grid y row.
          let mid : Grid = with_pixels grid 0 y (8 * k) pixels in
          let made : Grid = with_pixels grid 0 y (8 * (k + 1)) (pixels * 256 + byte) in
          let stored : with_pixels mid (8 * k) y 8 byte ≡ made = stored-next grid y (8 * k) 8 (8 * (k + 1)) pixels byte c.push_byte-byte.ensures.bound sum (omega (arith, row.wide)) row.row in
          decodes-then (nominal_pixels c.args.neighbours) false 0 (8 * k) y (8 * k) 8 (8 * (k + 1)) grid mid made c.args.decoder.now c.loop.decoder c.push_byte-byte.new.decoder c.args.contexts.now c.loop.contexts c.push_byte-byte.new.contexts
          (c.loop.invariant.has_decoded grid y row)
          (subst (λ (q : Grid). DecodesPixels (nominal_pixels c.args.neighbours) false (8 * k) y 8 (region_state mid c.loop.decoder c.loop.contexts) (region_state q c.push_byte-byte.new.decoder c.push_byte-byte.new.contexts)) stored (c.push_byte-byte.ensures.pixels mid (8 * k) y (is_at grid y row)))
          place sum;
      decisions = λ grid y row.
          counts-then (nominal_pixels c.args.neighbours) 0 (8 * k) y (8 * k) 8 (8 * (k + 1)) grid (with_pixels grid 0 y (8 * k) pixels) c.args.decoder.now c.loop.decoder c.args.contexts.now c.loop.contexts c.args.steps.now.decisions c.loop.steps.decisions c.push_byte-byte.new.steps.decisions
          (c.loop.invariant.decisions grid y row) (c.loop.invariant.has_decoded grid y row)
          (c.push_byte-byte.ensures.decisions (with_pixels grid 0 y (8 * k) pixels) (8 * k) y (omega arith) (is_at grid y row)) place sum;
      run_tests = omega (arith, c.push_byte-byte.ensures.run_tests, c.loop.invariant.run_tests);
      loads = c.push_byte-byte.ensures.loads ∙ c.loop.invariant.loads;
      words = c.push_byte-byte.ensures.words ∙ c.loop.invariant.words;
      lanes = lanes-then c.args.steps.now c.loop.steps c.push_byte-byte.new.steps c.loop.invariant.lanes c.push_byte-byte.ensures.lanes;
    }

pub overflow_mul-result : goal.overflow_mul-result
overflow_mul-result g c =
    let whole : c.loop.counter ≡ (c.args.width - 1) / 8 = omega arith in
    let count : ℕ = c.args.width - 8 * ((c.args.width - 1) / 8) in
    let fits = row-fits c.loop.pixels c.push_pixels-last.result (8 * c.loop.counter) count c.args.width c.loop.invariant.few c.push_pixels-last.ensures.bound (omega (arith, whole)) (omega arith) c.requires.few in
    omega (arith, fits)

pub overflow_add-result : goal.overflow_add-result
overflow_add-result g c =
    let whole : c.loop.counter ≡ (c.args.width - 1) / 8 = omega arith in
    let count : ℕ = c.args.width - 8 * ((c.args.width - 1) / 8) in
    let fits = row-fits c.loop.pixels c.push_pixels-last.result (8 * c.loop.counter) count c.args.width c.loop.invariant.few c.push_pixels-last.ensures.bound (omega (arith, whole)) (omega arith) c.requires.few in
    omega (arith, fits)

pub returns-clause-pixels : goal.returns-clause-pixels
returns-clause-pixels g c = λ grid y row.
    let k : ℕ = c.loop.counter in
    let pixels : ℕ = c.loop.pixels in
    let last : ℕ = c.push_pixels-last.result in
    let whole : k ≡ (c.args.width - 1) / 8 = omega arith in
    let count : ℕ = c.args.width - 8 * ((c.args.width - 1) / 8) in
    let sum : c.args.width ≡ 8 * k + count = omega (arith, whole) in
    let place : 8 * k ≡ 0 + 8 * k = omega arith in
    let mid : Grid = with_pixels grid 0 y (8 * k) pixels in
    let is_at : IsAtPixels mid (8 * k) y count (pixels % 16) c.loop.shown = at_pixels-next grid y c.args.width k count pixels c.args.windows c.loop.shown row c.loop.invariant.few (omega (arith, sum)) (omega (arith, whole)) (c.loop.invariant.shows grid y row.shows) in
    let made : Grid = with_pixels grid 0 y c.args.width (pixels * 2 ^ count + last) in
    let stored : with_pixels mid (8 * k) y count last ≡ made = stored-next grid y (8 * k) count c.args.width pixels last c.push_pixels-last.ensures.bound sum (omega (arith, row.wide)) row.row in
    let shifted : pixels * 2 ^ count + last ≡ pixels * (1 * 2 ^ count % 2 ^ 64) + last = ap (λ (n : ℕ). pixels * n + last) (sym (one-shifted count (omega arith))) in
    subst (λ (b : ℕ). DecodesPixels (nominal_pixels c.args.neighbours) false 0 y c.args.width (region_state grid c.args.decoder.now c.args.contexts.now) (region_state (with_pixels grid 0 y c.args.width b) c.push_pixels-last.new.decoder c.push_pixels-last.new.contexts)) shifted
    (decodes-then (nominal_pixels c.args.neighbours) false 0 (8 * k) y (8 * k) count c.args.width grid mid made c.args.decoder.now c.loop.decoder c.push_pixels-last.new.decoder c.args.contexts.now c.loop.contexts c.push_pixels-last.new.contexts
    (c.loop.invariant.has_decoded grid y row)
    (subst (λ (q : Grid). DecodesPixels (nominal_pixels c.args.neighbours) false (8 * k) y count (region_state mid c.loop.decoder c.loop.contexts) (region_state q c.push_pixels-last.new.decoder c.push_pixels-last.new.contexts)) stored (c.push_pixels-last.ensures.pixels mid (8 * k) y is_at))
    place sum)

pub returns-clause-decisions : goal.returns-clause-decisions
returns-clause-decisions g c = λ grid y row.
    let k : ℕ = c.loop.counter in
    let whole : k ≡ (c.args.width - 1) / 8 = omega arith in
    let count : ℕ = c.args.width - 8 * ((c.args.width - 1) / 8) in
    let sum : c.args.width ≡ 8 * k + count = omega (arith, whole) in
    let mid : Grid = with_pixels grid 0 y (8 * k) c.loop.pixels in
    counts-then (nominal_pixels c.args.neighbours) 0 (8 * k) y (8 * k) count c.args.width grid mid c.args.decoder.now c.loop.decoder c.args.contexts.now c.loop.contexts c.args.steps.now.decisions c.loop.steps.decisions c.push_pixels-last.new.steps.decisions
    (c.loop.invariant.decisions grid y row) (c.loop.invariant.has_decoded grid y row)
    (counts-last (nominal_pixels c.args.neighbours) (8 * k) y count mid c.loop.decoder c.loop.contexts c.loop.steps.decisions c.push_pixels-last.new.steps.decisions (ap (λ (s : Counts). s.decisions) c.push_pixels-last.ensures.steps) (omega (arith, sum, row.wide)) (omega (arith, sum, row.wide)))
    (omega arith) sum

pub returns-clause-bound : goal.returns-clause-bound
returns-clause-bound g c =
    let whole : c.loop.counter ≡ (c.args.width - 1) / 8 = omega arith in
    let count : ℕ = c.args.width - 8 * ((c.args.width - 1) / 8) in
    rw (one-shifted count (omega arith)) (few-next c.loop.pixels c.push_pixels-last.result (8 * c.loop.counter) count c.args.width c.loop.invariant.few c.push_pixels-last.ensures.bound (omega (arith, whole)))
