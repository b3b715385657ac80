use Rattle.std.proofs.Common.{◌≡◌, ◌-◌, ℕ, false, length, Ok, ap, sym, ◌∙◌, arith}
use Rattle.jbig2_base.specs.Counts.{words_made}
use Rattle.jbig2_halftone.specs.GrayScale.{GrayScale}
use Rattle.jbig2_halftone.specs.inner.FunctionResults.{mmr_rows_left}
use Rattle.jbig2_halftone.specs.inner.GrayScaleViews.{gray_view}
use Rattle.jbig2_halftone.proofs.GrayCounts.{cleared-begin, cleared-more, cleared-most, cleared-some, mmr-start, mmr-then, taken-kept, taken-none}
use Rattle.jbig2_halftone.proofs.PatternLemmas.{blank-made}
use Rattle.jbig2_halftone.proofs.WholeCellLemmas.{last-rows, left-next, left-none, plane-memory}
use Rattle.jbig2_halftone.proofs.WholeCellPrices.{mmr-fault-paid, mmr-last-paid, mmr-made-paid, mmr-paid}
use Rattle.jbig2_halftone.specs.Steps.{words_of_plane}
use Rattle.jbig2_halftone.proofs.gray_scale.whole_rows.count_mmr_rows.Goals as goal

pub loop-init : goal.loop-init
loop-init g c = record {
  rest = left-none (gray_view c.args.params.now) c.args.bytes.now;
  work = mmr-start (gray_view c.args.params.now) (length c.args.bytes.now) c.args.steps.now;
  lanes = taken-none (gray_view c.args.params.now) c.args.steps.now;
  cleared = cleared-begin (words_made c.args.params.now.width c.args.params.now.height) c.args.steps.now.cleared;
}

pub returns-in-Err-clause-value : goal.returns-in-Err-clause-value
returns-in-Err-clause-value g c = plane-memory (gray_view c.args.params.now) c.loop.rest.now c.in-Err.error c.requires.lenient c.in-Err.ensures.value

pub returns-in-Err-clause-paid : goal.returns-in-Err-clause-paid
returns-in-Err-clause-paid g c = mmr-fault-paid (gray_view c.args.params.now) c.args.bytes.now c.loop.counter (length c.loop.rest.now) c.args.steps.now c.loop.steps c.read_mmr_plane.new.steps c.requires.mmr (omega arith) c.loop.invariant.work c.loop.invariant.lanes c.in-Err.ensures.stopped c.read_mmr_plane.ensures.lanes.groups c.read_mmr_plane.ensures.lanes.pixels (cleared-most c.loop.counter c.args.params.now.bits_per_pixel (words_made c.args.params.now.width c.args.params.now.height) c.args.steps.now.cleared c.loop.steps.cleared c.read_mmr_plane.new.steps.cleared (omega arith) c.loop.invariant.cleared c.read_mmr_plane.ensures.lanes.cleared)

pub returns-in_err-clone-clause-paid : goal.returns-in_err-clone-clause-paid
returns-in_err-clone-clause-paid g c = mmr-paid (gray_view c.args.params.now) c.args.bytes.now c.loop.counter (length c.loop.rest.now) c.args.steps.now c.loop.steps c.requires.mmr (omega arith) c.loop.invariant.work c.loop.invariant.lanes (cleared-some c.loop.counter c.args.params.now.bits_per_pixel (words_made c.args.params.now.width c.args.params.now.height) c.args.steps.now.cleared c.loop.steps.cleared (omega arith) c.loop.invariant.cleared)

pub loop-preserved : goal.loop-preserved
loop-preserved g c =
    let p : GrayScale = gray_view c.args.params.now in
    record {
      rest = left-next p c.args.bytes.now c.loop.rest.now c.in-Ok.read.1.now c.in-Ok.read.0 c.loop.counter c.requires.lenient c.in-Ok.ensures.value c.loop.invariant.rest;
      work = mmr-then (words_of_plane p) c.loop.counter (length c.args.bytes.now) (length c.loop.rest.now) (length c.in-Ok.read.1.now) 0 c.args.steps.now c.loop.steps c.read_mmr_plane.new.steps c.loop.invariant.work c.in-Ok.ensures.work;
      lanes = taken-kept p 0 c.args.steps.now c.loop.steps c.read_mmr_plane.new.steps c.loop.invariant.lanes c.read_mmr_plane.ensures.lanes.groups c.read_mmr_plane.ensures.lanes.pixels;
      cleared = cleared-more c.loop.counter (words_made p.width p.height) c.args.steps.now.cleared c.loop.steps.cleared c.read_mmr_plane.new.steps.cleared c.loop.invariant.cleared c.read_mmr_plane.ensures.lanes.cleared;
    }

pub returns-in_err-last-clause-paid : goal.returns-in_err-last-clause-paid
returns-in_err-last-clause-paid g c = mmr-made-paid (gray_view c.args.params.now) c.args.bytes.now c.loop.counter (length c.loop.rest.now) c.args.steps.now c.loop.steps c.new.new.steps c.requires.mmr (omega arith) c.loop.invariant.work c.loop.invariant.lanes c.loop.invariant.cleared c.new.ensures.steps

pub returns-clause-value : goal.returns-clause-value
returns-clause-value g c =
    let p : GrayScale = gray_view c.args.params.now in
    let white = blank-made p.width p.height false c.in_ok-last.last c.requires.columns c.requires.rows c.in_ok-last.ensures.value in
    let last : c.loop.counter ≡ p.bits_per_pixel - 1 = omega arith in
    let counted = last-rows p c.args.bytes.now c.loop.rest.now c.loop.counter c.in_ok-last.last c.count_rows.result white c.loop.invariant.rest c.count_rows.ensures.rows in
    ap (λ (n : ℕ). Ok n) (sym (counted ∙ ap (λ (i : ℕ). mmr_rows_left p c.args.bytes.now i) last))

pub returns-clause-paid : goal.returns-clause-paid
returns-clause-paid g c =
    let p : GrayScale = gray_view c.args.params.now in
    let white = blank-made p.width p.height false c.in_ok-last.last c.requires.columns c.requires.rows c.in_ok-last.ensures.value in
    mmr-last-paid p c.args.bytes.now c.loop.counter (length c.loop.rest.now) c.in_ok-last.last c.args.steps.now c.loop.steps c.new.new.steps c.count_rows.new.steps white c.requires.mmr (omega arith) c.loop.invariant.work c.loop.invariant.lanes c.loop.invariant.cleared c.new.ensures.steps c.count_rows.ensures.work c.count_rows.ensures.lanes
