use Rattle.std.proofs.Common.{◌≡◌, ◌⊎◌, ⊎_elim, ℕ, ◌<◌, false, Result, Ok, Err, ap, subst, ◌∙◌, arith, rules}
use Rattle.std.proofs.lemmas.Bool.{le-ltb}
use Rattle.jbig2_base.specs.Counts.{Counts, words_made}
use Rattle.jbig2_base.specs.Grid.{Grid, blank, blank_or_overflow}
use Rattle.jbig2_base.specs.declared.error.DecodeError.{DecodeError}
use Rattle.jbig2_base.specs.declared.error.DecodeError.TheVariants.{OutOfMemory}
use Rattle.jbig2_halftone.specs.GrayScale.{GrayScale, image_is_too_large}
use Rattle.jbig2_halftone.specs.inner.GrayScaleViews.{gray_view}
use Rattle.jbig2_halftone.specs.inner.FunctionResults.{CountsCoded, coded_planes}
use Rattle.jbig2_halftone.proofs.GrayCounts.{cleared-all, cleared-begin, cleared-more, cleared-most, cleared-some, coded-some, counts-begin, counts-made, counts-more, none-left, none-more, none-start}
use Rattle.jbig2_halftone.proofs.DrawSteps.{on-any}
use Rattle.jbig2_halftone.proofs.PatternLemmas.{blank-made}
use Rattle.jbig2_halftone.proofs.PlaneLemmas.{after-none, coded-all, coded-contexts, coded-holds, coded-many, coded-next, coded-values, image-sides, plane-height, plane-width}
use Rattle.jbig2_halftone.proofs.RowLemmas.{taken-sized, values-added, values-sized, values-small}
use Rattle.jbig2_halftone.proofs.gray_scale.planes.add_coded_planes.Goals as goal

pub loop-init : goal.loop-init
loop-init g c = record {
  after = after-none (gray_view c.args.params.now) c.args.bytes.now c.new-decoder.result c.args.contexts.now c.new-decoder.ensures.bytes c.new-decoder.ensures.registers c.requires.fresh;
  values = c.requires.none;
  counts = counts-begin (gray_view c.args.params.now) c.args.bytes.now c.args.steps.now;
  none = none-start c.args.steps.now;
  cleared = cleared-begin (words_made c.args.params.now.width c.args.params.now.height) c.args.steps.now.cleared;
}

pub add_plane-requires-clause-sized : goal.add_plane-requires-clause-sized
add_plane-requires-clause-sized g c =
    let p : GrayScale = gray_view c.args.params.now in
    let sides = image-sides p c.loop.counter c.requires.sides (omega arith) in
    let white = blank-made p.width p.height false c.in_ok-plane.plane sides.0 sides.1 c.in_ok-plane.ensures.value in
    let holds = coded-holds p c.args.bytes.now c.loop.counter c.in_ok-plane.plane c.decode_plane.new.plane c.loop.decoder c.decode_plane.new.decoder c.loop.contexts c.decode_plane.new.contexts white c.decode_plane.ensures.region c.loop.invariant.after in
    values-sized p.width p.height (coded_planes p c.args.bytes.now c.loop.counter) c.decode_plane.new.plane c.loop.values (plane-width p.width p.height _ c.decode_plane.new.plane holds.pixels) (plane-height p.width p.height _ c.decode_plane.new.plane holds.pixels) c.loop.invariant.values

pub add_plane-requires-clause-small : goal.add_plane-requires-clause-small
add_plane-requires-clause-small g c =
    let p : GrayScale = gray_view c.args.params.now in
    values-small p.width p.height (coded_planes p c.args.bytes.now c.loop.counter) c.loop.counter c.loop.values (coded-many p c.args.bytes.now c.loop.counter) (omega arith) c.loop.invariant.values

pub loop-preserved : goal.loop-preserved
loop-preserved g c =
    let p : GrayScale = gray_view c.args.params.now in
    let sides = image-sides p c.loop.counter c.requires.sides (omega arith) in
    let white = blank-made p.width p.height false c.in_ok-plane.plane sides.0 sides.1 c.in_ok-plane.ensures.value in
    let holds = coded-holds p c.args.bytes.now c.loop.counter c.in_ok-plane.plane c.decode_plane.new.plane c.loop.decoder c.decode_plane.new.decoder c.loop.contexts c.decode_plane.new.contexts white c.decode_plane.ensures.region c.loop.invariant.after in
    let wide = plane-width p.width p.height _ c.decode_plane.new.plane holds.pixels in
    let high = plane-height p.width p.height _ c.decode_plane.new.plane holds.pixels in
    let taken = taken-sized p.width p.height c.decode_plane.new.plane c.decode_plane.new.steps c.add_plane.new.steps wide high c.add_plane.ensures.steps in
    record {
      after = coded-next p c.args.bytes.now c.loop.counter c.decode_plane.new.plane c.decode_plane.new.decoder c.decode_plane.new.contexts holds;
      values =
          coded-values p c.args.bytes.now c.loop.counter c.decode_plane.new.plane c.decode_plane.new.decoder c.decode_plane.new.contexts c.add_plane.new.values holds
          (values-added p.width p.height (coded_planes p c.args.bytes.now c.loop.counter) c.decode_plane.new.plane c.loop.values c.add_plane.new.values wide high c.add_plane.auto.values c.loop.invariant.values c.add_plane.ensures.value);
      counts = counts-more p c.args.bytes.now c.loop.counter c.in_ok-plane.plane c.loop.decoder c.loop.contexts c.args.steps.now c.new.new.steps c.decode_plane.new.steps c.add_plane.new.steps white c.loop.invariant.after (counts-made p c.args.bytes.now c.loop.counter c.args.steps.now c.loop.steps c.new.new.steps c.new.ensures.steps c.loop.invariant.counts) c.decode_plane.ensures.steps taken;
      none = none-more c.loop.counter c.args.steps.now c.add_plane.new.steps;
      cleared =
          cleared-more c.loop.counter (words_made p.width p.height) c.args.steps.now.cleared c.loop.steps.cleared c.add_plane.new.steps.cleared c.loop.invariant.cleared
          (ap (λ (s : Counts). s.cleared) taken ∙ c.decode_plane.ensures.steps.lanes.cleared ∙ ap (λ (s : Counts). s.cleared) c.new.ensures.steps);
    }

pub returns-clause-value : goal.returns-clause-value
returns-clause-value g c = coded-all (gray_view c.args.params.now) c.args.bytes.now c.loop.counter c.loop.values (omega arith) c.loop.invariant.values

pub returns-clause-contexts : goal.returns-clause-contexts
returns-clause-contexts g c = coded-contexts (gray_view c.args.params.now) c.args.bytes.now c.loop.counter c.loop.decoder c.loop.contexts (omega arith) c.loop.invariant.after

pub returns-clause-steps : goal.returns-clause-steps
returns-clause-steps g c =
    let all : c.loop.counter ≡ c.args.params.now.bits_per_pixel = omega arith in
    subst (λ (n : ℕ). CountsCoded (gray_view c.args.params.now) c.args.bytes.now n c.args.steps.now c.loop.steps) all c.loop.invariant.counts

pub returns-clause-no_planes : goal.returns-clause-no_planes
returns-clause-no_planes g c = λ none. none-left c.loop.counter c.args.steps.now c.loop.steps c.loop.invariant.none (omega arith)

-- a plane fits, so memory alone can be wanting
memory-wanting : (p : GrayScale) (i : ℕ) (e : DecodeError) → image_is_too_large p ≡ false → i < p.bits_per_pixel → (e ≡ OutOfMemory) ⊎ (blank_or_overflow p.width p.height false ≡ Err e) → e ≡ OutOfMemory
memory-wanting p i e fits more result =
    let sides = image-sides p i fits more in
    ⊎_elim (λ (memory : e ≡ OutOfMemory). memory) (λ (refused : blank_or_overflow p.width p.height false ≡ Err e). absurd (apart (rw (le-ltb 65535 p.width sides.0, le-ltb 65535 p.height sides.1) at refused))) result
  where
    apart : ◌≡◌ {A = Result Grid DecodeError} (Ok (blank p.width p.height false)) (Err e) → ⊥
    apart made = cc

pub returns-in_err-plane-clause-value : goal.returns-in_err-plane-clause-value
returns-in_err-plane-clause-value g c =
    let memory = memory-wanting (gray_view c.args.params.now) c.loop.counter c.in_err-plane.field-0.0 c.requires.sides (omega arith) c.in_err-plane.ensures.value in
    grind (arith, memory)

pub returns-in_err-plane-clause-contexts : goal.returns-in_err-plane-clause-contexts
returns-in_err-plane-clause-contexts g c =
    let memory = memory-wanting (gray_view c.args.params.now) c.loop.counter c.in_err-plane.field-0.0 c.requires.sides (omega arith) c.in_err-plane.ensures.value in
    search (rules, memory)

pub returns-in_err-plane-clause-stopped : goal.returns-in_err-plane-clause-stopped
returns-in_err-plane-clause-stopped g c = on-any c.from_residual-in_err-plane.result _ (coded-some (gray_view c.args.params.now) c.args.bytes.now c.loop.counter c.args.steps.now c.new.new.steps (omega arith) (counts-made (gray_view c.args.params.now) c.args.bytes.now c.loop.counter c.args.steps.now c.loop.steps c.new.new.steps c.new.ensures.steps c.loop.invariant.counts))

pub returns-in_err-clone-clause-stopped : goal.returns-in_err-clone-clause-stopped
returns-in_err-clone-clause-stopped g c = on-any c.from_residual.result _ (coded-some (gray_view c.args.params.now) c.args.bytes.now c.loop.counter c.args.steps.now c.loop.steps (omega arith) c.loop.invariant.counts)

pub returns-in_err-plane-clause-no_planes : goal.returns-in_err-plane-clause-no_planes
returns-in_err-plane-clause-no_planes g c = λ none. absurd (omega arith)

pub returns-clause-cleared : goal.returns-clause-cleared
returns-clause-cleared g c = cleared-all c.loop.counter c.args.params.now.bits_per_pixel (words_made c.args.params.now.width c.args.params.now.height) c.args.steps.now.cleared c.loop.steps.cleared (omega arith) c.loop.invariant.cleared

pub returns-clause-most : goal.returns-clause-most
returns-clause-most g c = cleared-some c.loop.counter c.args.params.now.bits_per_pixel (words_made c.args.params.now.width c.args.params.now.height) c.args.steps.now.cleared c.loop.steps.cleared (omega arith) c.loop.invariant.cleared

pub returns-in_err-clone-clause-most : goal.returns-in_err-clone-clause-most
returns-in_err-clone-clause-most g c = cleared-some c.loop.counter c.args.params.now.bits_per_pixel (words_made c.args.params.now.width c.args.params.now.height) c.args.steps.now.cleared c.loop.steps.cleared (omega arith) c.loop.invariant.cleared

pub returns-in_err-plane-clause-most : goal.returns-in_err-plane-clause-most
returns-in_err-plane-clause-most g c = cleared-most c.loop.counter c.args.params.now.bits_per_pixel (words_made c.args.params.now.width c.args.params.now.height) c.args.steps.now.cleared c.loop.steps.cleared c.new.new.steps.cleared (omega arith) c.loop.invariant.cleared (ap (λ (s : Counts). s.cleared) c.new.ensures.steps)
