use Rattle.std.proofs.Common.{◌≡◌, ⊎_elim, inl, inr, length, ap, ◌∙◌, arith}
use Rattle.jbig2_base.specs.Counts.{Counts, words_made}
use Rattle.jbig2_base.specs.declared.error.DecodeError.TheVariants.{OutOfMemory}
use Rattle.std.specs.Prelude.{Err}
use Rattle.jbig2_halftone.specs.GrayScale.{GrayScale, mmr_plane}
use Rattle.jbig2_halftone.specs.inner.GrayScaleViews.{gray_view}
use Rattle.jbig2_halftone.proofs.GrayCounts.{cleared-all, cleared-begin, cleared-more, cleared-most, cleared-some, mmr-all-counted, mmr-begin, mmr-more, mmr-refused-after, mmr-stopped, none-left, none-more, none-start, taken-more, taken-none}
use Rattle.jbig2_halftone.proofs.DrawSteps.{on-any}
use Rattle.jbig2_halftone.proofs.PlaneLemmas.{adds-all, adds-fault, adds-next, adds-none, image-sides, plane-sides}
use Rattle.jbig2_halftone.proofs.RowLemmas.{taken-sized, values-added, values-sized, values-small}
use Rattle.jbig2_halftone.proofs.gray_scale.planes.add_mmr_planes.Goals as goal

pub loop-init : goal.loop-init
loop-init g c = record { adds = adds-none (gray_view c.args.params.now) c.args.bytes.now c.args.values.now c.requires.none; work = mmr-begin (gray_view c.args.params.now) (length c.args.bytes.now) c.args.steps.now; lanes = taken-none (gray_view c.args.params.now) c.args.steps.now; none = none-start c.args.steps.now; cleared = cleared-begin (words_made c.args.params.now.width c.args.params.now.height) c.args.steps.now.cleared }

pub read_mmr_plane-requires-clause-columns : goal.read_mmr_plane-requires-clause-columns
read_mmr_plane-requires-clause-columns g c = (image-sides (gray_view c.args.params.now) c.loop.counter c.requires.sides (omega arith)).0

pub read_mmr_plane-requires-clause-rows : goal.read_mmr_plane-requires-clause-rows
read_mmr_plane-requires-clause-rows g c = (image-sides (gray_view c.args.params.now) c.loop.counter c.requires.sides (omega arith)).1

pub returns-in-Err-clause-value : goal.returns-in-Err-clause-value
returns-in-Err-clause-value g c =
    let p : GrayScale = gray_view c.args.params.now in
    ⊎_elim
    (λ (memory : c.in-Err.error ≡ OutOfMemory). inl memory)
    (λ (fault : mmr_plane p c.loop.rest.now ≡ Err c.in-Err.error). inr (adds-fault p c.args.bytes.now c.loop.counter c.loop.values c.loop.rest.now c.in-Err.error (omega arith) fault c.loop.invariant.adds))
    c.in-Err.ensures.value

pub returns-in-Err-clause-stopped : goal.returns-in-Err-clause-stopped
returns-in-Err-clause-stopped g c = mmr-refused-after (gray_view c.args.params.now) c.args.bytes.now c.loop.counter (length c.loop.rest.now) c.args.steps.now c.loop.steps c.read_mmr_plane.new.steps (omega arith) c.loop.invariant.work c.loop.invariant.lanes c.in-Err.ensures.stopped c.read_mmr_plane.ensures.lanes.groups c.read_mmr_plane.ensures.lanes.pixels

pub returns-in-Err-clause-no_planes : goal.returns-in-Err-clause-no_planes
returns-in-Err-clause-no_planes g c = λ none. absurd (omega arith)

pub returns-in_err-clone-clause-stopped : goal.returns-in_err-clone-clause-stopped
returns-in_err-clone-clause-stopped g c = on-any c.from_residual.result _ (mmr-stopped (gray_view c.args.params.now) c.args.bytes.now c.loop.counter (length c.loop.rest.now) c.args.steps.now c.loop.steps (omega arith) c.loop.invariant.work c.loop.invariant.lanes)

pub add_plane-requires-clause-sized : goal.add_plane-requires-clause-sized
add_plane-requires-clause-sized g c =
    let p : GrayScale = gray_view c.args.params.now in
    let sides = plane-sides p c.loop.rest.now c.in-Ok.read.0 c.in-Ok.read.1.now c.in-Ok.ensures.value in
    values-sized p.width p.height c.loop.invariant.adds.planes c.in-Ok.read.0 c.loop.values sides.0 sides.1 c.loop.invariant.adds.values

pub add_plane-requires-clause-small : goal.add_plane-requires-clause-small
add_plane-requires-clause-small g c =
    let p : GrayScale = gray_view c.args.params.now in
    values-small p.width p.height c.loop.invariant.adds.planes c.loop.counter c.loop.values c.loop.invariant.adds.many (omega arith) c.loop.invariant.adds.values

pub loop-preserved : goal.loop-preserved
loop-preserved g c =
    let p : GrayScale = gray_view c.args.params.now in
    let sides = plane-sides p c.loop.rest.now c.in-Ok.read.0 c.in-Ok.read.1.now c.in-Ok.ensures.value in
    let taken = taken-sized p.width p.height c.in-Ok.read.0 c.read_mmr_plane.new.steps c.add_plane.new.steps sides.0 sides.1 c.add_plane.ensures.steps in
    record {
      adds =
          adds-next p c.args.bytes.now c.loop.counter c.in-Ok.read.0 c.loop.values c.add_plane.new.values c.loop.rest.now c.in-Ok.read.1.now (omega arith) c.in-Ok.ensures.value c.loop.invariant.adds
          (values-added p.width p.height c.loop.invariant.adds.planes c.in-Ok.read.0 c.loop.values c.add_plane.new.values sides.0 sides.1 c.add_plane.auto.values c.loop.invariant.adds.values c.add_plane.ensures.value);
      work = mmr-more p c.loop.counter (length c.args.bytes.now) (length c.loop.rest.now) (length c.in-Ok.read.1.now) c.args.steps.now c.loop.steps c.read_mmr_plane.new.steps c.add_plane.new.steps c.loop.invariant.work c.in-Ok.ensures.work taken;
      lanes = taken-more p c.loop.counter c.args.steps.now c.loop.steps c.read_mmr_plane.new.steps c.add_plane.new.steps c.loop.invariant.lanes c.read_mmr_plane.ensures.lanes.groups c.read_mmr_plane.ensures.lanes.pixels taken;
      none = none-more c.loop.counter c.args.steps.now c.add_plane.new.steps;
      cleared =
          cleared-more c.loop.counter (words_made p.width p.height) c.args.steps.now.cleared c.loop.steps.cleared c.add_plane.new.steps.cleared c.loop.invariant.cleared
          (ap (λ (s : Counts). s.cleared) taken ∙ c.read_mmr_plane.ensures.lanes.cleared);
    }

pub returns-clause-value : goal.returns-clause-value
returns-clause-value g c = adds-all (gray_view c.args.params.now) c.args.bytes.now c.loop.counter c.loop.values c.loop.rest.now (omega arith) c.loop.invariant.adds

pub returns-clause-steps : goal.returns-clause-steps
returns-clause-steps g c = mmr-all-counted (gray_view c.args.params.now) c.args.bytes.now c.loop.counter (length c.loop.rest.now) c.args.steps.now c.loop.steps (omega arith) c.loop.invariant.work c.loop.invariant.lanes

pub returns-clause-no_planes : goal.returns-clause-no_planes
returns-clause-no_planes g c = λ none. none-left c.loop.counter c.args.steps.now c.loop.steps c.loop.invariant.none (omega arith)

pub returns-clause-cleared : goal.returns-clause-cleared
returns-clause-cleared g c = cleared-all c.loop.counter c.args.params.now.bits_per_pixel (words_made c.args.params.now.width c.args.params.now.height) c.args.steps.now.cleared c.loop.steps.cleared (omega arith) c.loop.invariant.cleared

pub returns-clause-most : goal.returns-clause-most
returns-clause-most g c = cleared-some c.loop.counter c.args.params.now.bits_per_pixel (words_made c.args.params.now.width c.args.params.now.height) c.args.steps.now.cleared c.loop.steps.cleared (omega arith) c.loop.invariant.cleared

pub returns-in_err-clone-clause-most : goal.returns-in_err-clone-clause-most
returns-in_err-clone-clause-most g c = cleared-some c.loop.counter c.args.params.now.bits_per_pixel (words_made c.args.params.now.width c.args.params.now.height) c.args.steps.now.cleared c.loop.steps.cleared (omega arith) c.loop.invariant.cleared

pub returns-in-Err-clause-most : goal.returns-in-Err-clause-most
returns-in-Err-clause-most g c = cleared-most c.loop.counter c.args.params.now.bits_per_pixel (words_made c.args.params.now.width c.args.params.now.height) c.args.steps.now.cleared c.loop.steps.cleared c.read_mmr_plane.new.steps.cleared (omega arith) c.loop.invariant.cleared c.read_mmr_plane.ensures.lanes.cleared
