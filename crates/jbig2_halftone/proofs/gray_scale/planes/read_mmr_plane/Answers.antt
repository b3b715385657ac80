use Rattle.std.proofs.Common.{◌≤◌, false, inr, length, rules}
use Rattle.jbig2_base.specs.Counts.{words_made}
use Rattle.jbig2_halftone.specs.Steps.{words_of_plane}
use Rattle.jbig2_halftone.specs.GrayScale.{GrayScale}
use Rattle.jbig2_halftone.specs.inner.GrayScaleViews.{gray_view}
use Rattle.jbig2_halftone.proofs.GrayCounts.{mmr-one, mmr-refused, moves-before}
use Rattle.jbig2_halftone.proofs.PatternLemmas.{blank-made}
use Rattle.jbig2_halftone.proofs.PlaneLemmas.{mmr-made, drop-whole, plane-made, plane-fault}
use Rattle.jbig2_halftone.proofs.gray_scale.planes.read_mmr_plane.Goals as goal

pub returns-in-Err-clause-value : goal.returns-in-Err-clause-value
returns-in-Err-clause-value g c =
    let p : GrayScale = gray_view c.args.params.now in
    let white = blank-made p.width p.height false c.in_ok-plane.plane c.requires.columns c.requires.rows c.in_ok-plane.ensures.value in
    inr (plane-fault p c.in_ok-plane.plane c.args.bytes.now c.in-Err.error white c.in-Err.ensures.value)

pub slice_bounds-result-start : goal.slice_bounds-result-start
slice_bounds-result-start g c =
    let p : GrayScale = gray_view c.args.params.now in
    let white = blank-made p.width p.height false c.in_ok-plane.plane c.requires.columns c.requires.rows c.in_ok-plane.ensures.value in
    let within : c.in-Ok.used ≤ length c.args.bytes.now = (mmr-made p c.in_ok-plane.plane c.decode.new.bitmap c.args.bytes.now c.in-Ok.used white c.in-Ok.ensures.value).2 in
    search (rules, within)

pub slice_bounds-result-count : goal.slice_bounds-result-count
slice_bounds-result-count g c =
    let p : GrayScale = gray_view c.args.params.now in
    let white = blank-made p.width p.height false c.in_ok-plane.plane c.requires.columns c.requires.rows c.in_ok-plane.ensures.value in
    (mmr-made p c.in_ok-plane.plane c.decode.new.bitmap c.args.bytes.now c.in-Ok.used white c.in-Ok.ensures.value).2

pub returns-clause-value : goal.returns-clause-value
returns-clause-value g c =
    let p : GrayScale = gray_view c.args.params.now in
    let white = blank-made p.width p.height false c.in_ok-plane.plane c.requires.columns c.requires.rows c.in_ok-plane.ensures.value in
    plane-made p c.in_ok-plane.plane c.decode.new.bitmap c.args.bytes.now c.in-Ok.used _ white c.in-Ok.ensures.value (drop-whole c.in-Ok.used c.args.bytes.now)

pub returns-clause-work : goal.returns-clause-work
returns-clause-work g c =
    let p : GrayScale = gray_view c.args.params.now in
    let white = blank-made p.width p.height false c.in_ok-plane.plane c.requires.columns c.requires.rows c.in_ok-plane.ensures.value in
    let within : c.in-Ok.used ≤ length c.args.bytes.now = (mmr-made p c.in_ok-plane.plane c.decode.new.bitmap c.args.bytes.now c.in-Ok.used white c.in-Ok.ensures.value).2 in
    moves-before (words_made p.width p.height) (words_of_plane p) 1 _ _ 0 c.args.steps.now c.new.new.steps c.decode.new.steps c.new.ensures.steps (mmr-one p c.in_ok-plane.plane c.args.bytes.now _ c.in-Ok.used c.new.new.steps c.decode.new.steps white within (drop-whole c.in-Ok.used c.args.bytes.now) c.in-Ok.ensures.work)

pub returns-in-Err-clause-stopped : goal.returns-in-Err-clause-stopped
returns-in-Err-clause-stopped g c =
    let p : GrayScale = gray_view c.args.params.now in
    let white = blank-made p.width p.height false c.in_ok-plane.plane c.requires.columns c.requires.rows c.in_ok-plane.ensures.value in
    moves-before (words_made p.width p.height) (words_of_plane p) 1 _ _ 0 c.args.steps.now c.new.new.steps c.decode.new.steps c.new.ensures.steps (mmr-refused p c.in_ok-plane.plane (length c.args.bytes.now) c.new.new.steps c.decode.new.steps white c.in-Err.ensures.work)
