use Rattle.std.proofs.Common.{arith, false, ◌*◌, ◌^◌, ◌<◌, ◌≡◌, ℕ, subst}
use Rattle.jbig2_base.specs.Writes.{with_pixels}
use Rattle.jbig2_region.specs.inner.PushedPixels.{IsAtBytes}
use Rattle.jbig2_region.specs.inner.Neighbours.{DecodesPixels, nominal_pixels}
use Rattle.jbig2_region.specs.inner.RowCounts.{CountsRuns}
use Rattle.jbig2_region.proofs.PushLemmas.{shows-run}
use Rattle.jbig2_region.proofs.generic_kernel.narrow.push_byte.Goals as goal
use Rattle.jbig2_region.specs.inner.RegionStates.{region_state}

pub returns-clause-pixels : goal.returns-clause-pixels
returns-clause-pixels g c = λ grid x y is_at.
    let one : 8 * c.push_bytes.result.bytes ≡ 8 = omega (arith, c.push_bytes.ensures.some, c.push_bytes.ensures.most) in
    let tested : IsAtBytes grid x y 1 c.args.left _ = record { columns = omega (arith, is_at.columns); row = is_at.row; shows = shows-run grid x y c.args.windows is_at.shows; beside = is_at.beside } in
    subst (λ (n : ℕ). DecodesPixels (nominal_pixels c.args.neighbours) false x y n (region_state grid c.args.decoder.now c.args.contexts.now) (region_state (with_pixels grid x y n c.push_bytes.result.pixels) c.push_bytes.new.decoder c.push_bytes.new.contexts)) one
    (c.push_bytes.ensures.pixels grid x y tested)

pub returns-clause-decisions : goal.returns-clause-decisions
returns-clause-decisions g c = λ grid x y aligned is_at.
    let one : 8 * c.push_bytes.result.bytes ≡ 8 = omega (arith, c.push_bytes.ensures.some, c.push_bytes.ensures.most) in
    let tested : IsAtBytes grid x y 1 c.args.left _ = record { columns = omega (arith, is_at.columns); row = is_at.row; shows = shows-run grid x y c.args.windows is_at.shows; beside = is_at.beside } in
    subst (λ (n : ℕ). CountsRuns (nominal_pixels c.args.neighbours) x y n (region_state grid c.args.decoder.now c.args.contexts.now) c.args.steps.now.decisions c.push_bytes.new.steps.decisions) one
    (c.push_bytes.ensures.decisions grid x y aligned tested)

pub returns-clause-bound : goal.returns-clause-bound
returns-clause-bound g c =
    let one : 8 * c.push_bytes.result.bytes ≡ 8 = omega (arith, c.push_bytes.ensures.some, c.push_bytes.ensures.most) in
    subst (λ (n : ℕ). c.push_bytes.result.pixels < 2 ^ n) one c.push_bytes.ensures.bound

pub returns-clause-run_tests : goal.returns-clause-run_tests
returns-clause-run_tests g c = omega (arith, c.push_bytes.ensures.run_tests, c.push_bytes.ensures.most)
