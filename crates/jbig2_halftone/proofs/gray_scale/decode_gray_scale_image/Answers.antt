use Rattle.std.proofs.Common.{◌≡◌, ℕ, ◌++◌, false, List, length, take, drop, Result, Ok, sym, ap, ◌∙◌, arith, rules}
use Rattle.std.proofs.Math.Seq.{take-append_seam}
use Rattle.jbig2_base.specs.declared.error.DecodeError.{DecodeError}
use Rattle.jbig2_base.proofs.CauseSteps.{err-gives}
use Rattle.jbig2_halftone.specs.GrayScale.{GrayScale, gray_scale_image, image_is_too_large}
use Rattle.jbig2_halftone.specs.inner.GrayScaleViews.{gray_view}
use Rattle.jbig2_halftone.proofs.CausesOfRegions.{gray_scale_cause}
use Rattle.jbig2_halftone.proofs.GrayCounts.{image-lanes, stops-none}
use Rattle.jbig2_halftone.proofs.DrawSteps.{on-any}
use Rattle.jbig2_halftone.proofs.HalftoneLemmas.{image-of-planes}
use Rattle.jbig2_halftone.proofs.Prices.{image-paid, image-stops-paid}
use Rattle.jbig2_halftone.proofs.gray_scale.decode_gray_scale_image.Goals as goal

pub returns-then-too_long-clause-stopped : goal.returns-then-too_long-clause-stopped
returns-then-too_long-clause-stopped g c = stops-none (gray_view c.args.params.now) c.args.bytes.now c.args.steps.now

pub returns-in_err-clone-clause-stopped : goal.returns-in_err-clone-clause-stopped
returns-in_err-clone-clause-stopped g c = on-any c.from_residual.result _ (stops-none (gray_view c.args.params.now) c.args.bytes.now c.args.steps.now)

pub returns-in_err-values-clause-stopped : goal.returns-in_err-values-clause-stopped
returns-in_err-values-clause-stopped g c = on-any c.from_residual-in_err-values.result _ (stops-none (gray_view c.args.params.now) c.args.bytes.now c.args.steps.now)

pub returns-then-too_long-clause-value : goal.returns-then-too_long-clause-value
unfolding gray_scale_image
returns-then-too_long-clause-value g c = search rules

pub returns-in_err-add_planes-clause-value : goal.returns-in_err-add_planes-clause-value
returns-in_err-add_planes-clause-value g c =
    let p : GrayScale = gray_view c.args.params.now in
    let fits : image_is_too_large p ≡ false = search rules in
    grind (arith, image-of-planes p c.args.bytes.now fits)

pub returns-then-too_long-clause-causes : goal.returns-then-too_long-clause-causes
unfolding gray_scale_image
returns-then-too_long-clause-causes g c = gray_scale_cause (gray_view c.args.params.now) c.args.bytes.now _ (search rules)

pub returns-in_err-clone-clause-causes : goal.returns-in_err-clone-clause-causes
unfolding gray_scale_image
returns-in_err-clone-clause-causes g c = gray_scale_cause (gray_view c.args.params.now) c.args.bytes.now _ (search rules)

pub returns-in_err-values-clause-causes : goal.returns-in_err-values-clause-causes
unfolding gray_scale_image
returns-in_err-values-clause-causes g c = gray_scale_cause (gray_view c.args.params.now) c.args.bytes.now _ (search rules)

pub returns-in_err-add_planes-clause-paid : goal.returns-in_err-add_planes-clause-paid
returns-in_err-add_planes-clause-paid g c = image-stops-paid (gray_view c.args.params.now) c.args.bytes.now c.args.steps.now c.add_planes.new.steps c.in_err-add_planes.ensures.stopped c.add_planes.ensures.most

pub returns-in_err-add_planes-clause-causes : goal.returns-in_err-add_planes-clause-causes
returns-in_err-add_planes-clause-causes g c = gray_scale_cause (gray_view c.args.params.now) c.args.bytes.now _ (err-gives _ _ _ (returns-in_err-add_planes-clause-value g c))

pub returns-clause-paid : goal.returns-clause-paid
returns-clause-paid g c = image-paid (gray_view c.args.params.now) c.args.bytes.now c.args.steps.now c.add_planes.new.steps c.in_ok-add_planes.ensures.steps c.add_planes.ensures.most

pub returns-clause-lanes : goal.returns-clause-lanes
returns-clause-lanes g c = image-lanes (gray_view c.args.params.now) c.args.bytes.now c.args.steps.now c.add_planes.new.steps c.in_ok-add_planes.ensures.steps

-- the values that are written fill the vector
filled-whole : (values items : List ℕ) (n : ℕ) → length values ≡ n → values ≡ take n (values ++ drop (length values) items)
filled-whole values items n sized = sym (take-append_seam values (drop (length values) items)) ∙ ap (λ (k : ℕ). take k (values ++ drop (length values) items)) sized

pub returns-clause-value : goal.returns-clause-value
returns-clause-value g c =
    let p : GrayScale = gray_view c.args.params.now in
    let fits : image_is_too_large p ≡ false = search rules in
    let sized : length c.add_planes.new.values ≡ c.in_ok-values.values.len = search rules in
    image-of-planes p c.args.bytes.now fits
    ∙ c.in_ok-add_planes.ensures.value
    ∙ ap (λ (values : List ℕ). (let all : Result (List ℕ) DecodeError = Ok values in all)) (filled-whole c.add_planes.new.values c.in_ok-values.values.items c.in_ok-values.values.len sized)

pub returns-clause-causes : goal.returns-clause-causes
returns-clause-causes g c = gray_scale_cause (gray_view c.args.params.now) c.args.bytes.now _ tt
