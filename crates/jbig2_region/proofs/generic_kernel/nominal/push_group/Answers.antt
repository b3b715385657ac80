use Rattle.std.proofs.Common.{arith, refl, false, subst, ◌≡◌, ◌≤◌, ◌+◌, ◌*◌, ◌%◌, ◌^◌, ℕ, ◌∙◌}
use Rattle.std.proofs.Math.Nat.{pow-le-pow_right}
use Rattle.jbig2_steps.proofs.LaneCounts.{lanes-none, lanes-then}
use Rattle.jbig2_base.specs.Grid.{Grid}
use Rattle.jbig2_base.specs.Writes.{with_pixels}
use Rattle.jbig2_region.specs.inner.Neighbours.{DecodesPixels, nominal_pixels}
use Rattle.jbig2_region.specs.inner.PushedPixels.{CountsGroup, PushesGroup, IsAtBytes, IsAtGroup}
use Rattle.jbig2_region.proofs.CountLemmas.{counts-none, counts-then}
use Rattle.jbig2_region.proofs.GroupLemmas.{byte-first, byte-run, group-same}
use Rattle.jbig2_region.proofs.PushLemmas.{few-next, left-stored, stored-bytes}
use Rattle.jbig2_region.proofs.StoreLemmas.{decodes-start, decodes-then, left-start, stored-above}
use Rattle.jbig2_region.proofs.generic_kernel.nominal.push_group.Goals as goal
use Rattle.jbig2_region.specs.inner.RegionStates.{decoder_state, region_state}
use Rattle.jbig2_region.specs.inner.Windows.{IsLeft}

pub loop-done-init : goal.loop-done-init
loop-done-init g c = record {
  bytes = refl;
  within = omega arith;
  small = c.requires.small;
  shown = λ some grid x y group. byte-first grid x y c.args.bytes c.args.windows group;
  few = omega arith;
  left = λ grid x y is_at. left-start grid x y 0 c.args.left is_at.beside;
  has_decoded = λ grid x y is_at. decodes-start (nominal_pixels c.args.neighbours) false x y 0 grid c.args.decoder.now c.args.contexts.now;
  decisions = λ grid x y aligned is_at. counts-none (nominal_pixels c.args.neighbours) x y grid c.args.decoder.now c.args.contexts.now c.args.steps.now.decisions;
  run_tests = omega arith;
  loads = refl;
  words = refl;
  lanes = lanes-none c.args.steps.now;
}

pub join-pixels-requires-clause-fits : goal.join-pixels-requires-clause-fits
join-pixels-requires-clause-fits g c =
    let done : ℕ = c.loop-done.done in
    let bytes : ℕ = c.push_bytes-taken.result.bytes in
    let below = few-next c.loop-done.pixels c.push_bytes-taken.result.pixels (8 * done) (8 * bytes) (8 * (done + bytes)) c.loop-done.invariant.few c.push_bytes-taken.ensures.bound (omega arith) in
    let within : 8 * (done + bytes) ≤ 64 = omega (arith, c.push_bytes-taken.ensures.most, c.most_bytes-most.ensures.within, c.requires.few) in
    let most : 2 ^ (8 * (done + bytes)) ≤ 2 ^ 64 = pow-le-pow_right (omega arith) within in
    omega (arith, below, most)

pub loop-done-preserved : goal.loop-done-preserved
loop-done-preserved g c =
    let done : ℕ = c.loop-done.done in
    let pixels : ℕ = c.loop-done.pixels in
    let bytes : ℕ = c.push_bytes-taken.result.bytes in
    let taken : ℕ = c.push_bytes-taken.result.pixels in
    let next : (x : ℕ) → x + 8 * done + 8 * bytes ≡ x + 8 * (done + bytes) = λ x. omega arith in
    let sum : 8 * (done + bytes) ≡ 8 * done + 8 * bytes = omega arith in
    let within : done + bytes ≤ c.args.bytes = omega (arith, c.push_bytes-taken.ensures.most, c.most_bytes-most.ensures.within) in
    let is_at : (grid : Grid) (x y : ℕ) → IsAtGroup grid x y c.args.bytes c.args.left c.args.windows → IsAtBytes (with_pixels grid x y (8 * done) pixels) (x + 8 * done) y c.most_bytes-most.result c.loop-done.beside c.loop-done.shown = λ grid x y group. record {
      columns = omega (arith, group.columns, c.most_bytes-most.ensures.within);
      row = group.row;
      shows =
          let mid : Grid = with_pixels grid x y (8 * done) pixels in
          let serves = group-same grid mid x y c.args.bytes c.args.windows (stored-above grid x y (8 * done) pixels) group.shows in
          byte-run mid x y c.args.bytes done c.most_bytes-most.result c.args.windows c.loop-done.shown c.most_bytes-most.ensures.within c.most_bytes-most.ensures.some c.most_bytes-most.ensures.later serves
          (c.loop-done.invariant.shown c.loop-done-test.true mid x y serves);
      beside = c.loop-done.invariant.left grid x y group;
    } in
    let stored : (grid : Grid) (x y : ℕ) → IsAtGroup grid x y c.args.bytes c.args.left c.args.windows → with_pixels (with_pixels grid x y (8 * done) pixels) (x + 8 * done) y (8 * bytes) taken ≡ with_pixels grid x y (8 * (done + bytes)) c.join-pixels.result = λ grid x y group.
    rw c.join-pixels.ensures (stored-bytes grid x y done bytes pixels taken c.push_bytes-taken.ensures.bound (omega (arith, group.columns, within)) group.row) in
    record {
      bytes = c.push_bytes-taken.ensures.bytes ∙ c.loop-done.invariant.bytes;
      within = within;
      small = omega arith;
      shown = λ some. c.moved_on-shown.ensures done refl some (c.loop-done.invariant.shown c.loop-done-test.true);
      few = rw c.join-pixels.ensures (few-next pixels taken (8 * done) (8 * bytes) (8 * (done + bytes)) c.loop-done.invariant.few c.push_bytes-taken.ensures.bound sum);
      left = λ grid x y group.
          subst (λ (n : ℕ). IsLeft (with_pixels grid x y (8 * (done + bytes)) c.join-pixels.result) n y (taken % 16)) (next x)
          (subst (λ (q : Grid). IsLeft q (x + 8 * done + 8 * bytes) y (taken % 16)) (stored grid x y group)
          (left-stored (with_pixels grid x y (8 * done) pixels) (x + 8 * done) y (8 * bytes) taken (omega (arith, c.push_bytes-taken.ensures.some)) (omega (arith, group.columns, within)) group.row));
      has_decoded = λ grid x y group.
          let mid : Grid = with_pixels grid x y (8 * done) pixels in
          let made : Grid = with_pixels grid x y (8 * (done + bytes)) c.join-pixels.result in
          decodes-then (nominal_pixels c.args.neighbours) false x (x + 8 * done) y (8 * done) (8 * bytes) (8 * (done + bytes)) grid mid made c.args.decoder.now c.loop-done.decoder c.push_bytes-taken.new.decoder c.args.contexts.now c.loop-done.contexts c.push_bytes-taken.new.contexts
          (c.loop-done.invariant.has_decoded grid x y group)
          (subst (λ (q : Grid). DecodesPixels (nominal_pixels c.args.neighbours) false (x + 8 * done) y (8 * bytes) (region_state mid c.loop-done.decoder c.loop-done.contexts) (region_state q c.push_bytes-taken.new.decoder c.push_bytes-taken.new.contexts)) (stored grid x y group) (c.push_bytes-taken.ensures.pixels mid (x + 8 * done) y (is_at grid x y group)))
          refl sum;
      decisions = λ grid x y aligned group.
          let mid : Grid = with_pixels grid x y (8 * done) pixels in
          counts-then (nominal_pixels c.args.neighbours) x (x + 8 * done) y (8 * done) (8 * bytes) (8 * (done + bytes)) grid mid c.args.decoder.now c.loop-done.decoder c.args.contexts.now c.loop-done.contexts c.args.steps.now.decisions c.loop-done.steps.decisions c.push_bytes-taken.new.steps.decisions
          (c.loop-done.invariant.decisions grid x y aligned group) (c.loop-done.invariant.has_decoded grid x y group)
          (c.push_bytes-taken.ensures.decisions mid (x + 8 * done) y (omega (arith, aligned)) (is_at grid x y group)) refl sum;
      run_tests = omega (arith, c.push_bytes-taken.ensures.run_tests, c.loop-done.invariant.run_tests);
      loads = c.push_bytes-taken.ensures.loads ∙ c.loop-done.invariant.loads;
      words = c.push_bytes-taken.ensures.words ∙ c.loop-done.invariant.words;
      lanes = lanes-then c.args.steps.now c.loop-done.steps c.push_bytes-taken.new.steps c.loop-done.invariant.lanes c.push_bytes-taken.ensures.lanes;
    }

pub returns-clause-pixels : goal.returns-clause-pixels
returns-clause-pixels g c =
    let all : c.loop-done.done ≡ c.args.bytes = omega (arith, c.loop-done.invariant.within) in
    subst (λ (n : ℕ). PushesGroup c.args.neighbours c.args.bytes c.args.left c.args.windows n c.loop-done.pixels (decoder_state c.args.decoder.now c.args.contexts.now) (decoder_state c.loop-done.decoder c.loop-done.contexts)) all c.loop-done.invariant.has_decoded

pub returns-clause-decisions : goal.returns-clause-decisions
returns-clause-decisions g c =
    let all : c.loop-done.done ≡ c.args.bytes = omega (arith, c.loop-done.invariant.within) in
    subst (λ (n : ℕ). CountsGroup c.args.neighbours c.args.bytes c.args.left c.args.windows n (decoder_state c.args.decoder.now c.args.contexts.now) c.args.steps.now.decisions c.loop-done.steps.decisions) all c.loop-done.invariant.decisions
