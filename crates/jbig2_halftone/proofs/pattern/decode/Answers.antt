use Rattle.std.proofs.Common.{rules, ◌≡◌, ◌+◌, ◌≤◌, length, arith}
use Rattle.jbig2_halftone.specs.inner.PatternHeaderViews.{header_view}
use Rattle.jbig2_halftone.specs.Patterns.{patterns_decoded}
use Rattle.jbig2_halftone.proofs.CausesOfRegions.{pattern_cause}
use Rattle.jbig2_halftone.proofs.DrawSteps.{on-any}
use Rattle.jbig2_halftone.proofs.PatternLemmas.{takes-none, collective-stops, cut-counts, cut-lanes, cut-length, cut-sized, dictionary-stops, few-patterns, stops-lanes}
use Rattle.jbig2_halftone.proofs.Prices.{collective-paid, cut-paid, cut-stops-paid}
use Rattle.jbig2_halftone.proofs.pattern.decode.Goals as goal

pub invariant_of-result : goal.invariant_of-result
invariant_of-result g c =
    let all : length c.in_ok-patterns.patterns.items ≡ c.args.header.now.num_patterns + 1 = cut-length c.in_ok-collective.collective c.from-width.result c.from-height.result (c.args.header.now.num_patterns + 1) c.in_ok-patterns.patterns.items c.in_ok-patterns.ensures.value in
    let few : c.from.result + 1 ≤ 65535 = few-patterns (c.from.result + 1) c.from-2.result (omega arith) (omega arith) in
    record {
      some = omega arith;
      few = omega arith;
      sized = cut-sized c.in_ok-collective.collective c.from-width.result c.from-height.result (c.args.header.now.num_patterns + 1) c.in_ok-patterns.patterns.items c.in_ok-patterns.ensures.value;
    }

pub returns-in_err-collective-clause-stopped : goal.returns-in_err-collective-clause-stopped
returns-in_err-collective-clause-stopped g c = on-any c.from_residual-in_err-collective.result _ (collective-stops (header_view c.args.header.now) c.args.steps.now c.decode_collective.new.steps c.in_err-collective.ensures.stopped)

pub returns-in_err-patterns-clause-stopped : goal.returns-in_err-patterns-clause-stopped
returns-in_err-patterns-clause-stopped g c = on-any c.from_residual-in_err-patterns.result _ (dictionary-stops (header_view c.args.header.now) c.from-width.result c.from-height.result c.args.steps.now c.decode_collective.new.steps c.cut_patterns.new.steps c.from-width.ensures c.from-height.ensures c.in_ok-collective.ensures.steps c.in_err-patterns.ensures.stopped)

pub returns-in_err-patterns-clause-lanes : goal.returns-in_err-patterns-clause-lanes
returns-in_err-patterns-clause-lanes g c = stops-lanes _ _ _ _ c.args.steps.now c.decode_collective.new.steps c.cut_patterns.new.steps c.decode_collective.ensures.lanes c.in_err-patterns.ensures.stopped

pub returns-clause-steps : goal.returns-clause-steps
returns-clause-steps g c = (c.decode_collective.new.steps, (c.in_ok-collective.ensures.steps, cut-counts (header_view c.args.header.now) (c.args.header.now.num_patterns + 1) (c.args.header.now.num_patterns + 1) c.from-width.result c.from-height.result _ _ c.from-width.ensures c.from-height.ensures c.in_ok-patterns.ensures.steps))

pub returns-clause-lanes : goal.returns-clause-lanes
returns-clause-lanes g c = cut-lanes _ _ _ _ _ c.args.steps.now c.decode_collective.new.steps c.cut_patterns.new.steps c.decode_collective.ensures.lanes c.in_ok-patterns.ensures.steps

pub returns-in_err-collective-clause-paid : goal.returns-in_err-collective-clause-paid
returns-in_err-collective-clause-paid g c = collective-paid (header_view c.args.header.now) c.args.steps.now c.decode_collective.new.steps c.decode_collective.ensures.paid

pub returns-in_err-patterns-clause-paid : goal.returns-in_err-patterns-clause-paid
returns-in_err-patterns-clause-paid g c = cut-stops-paid (header_view c.args.header.now) c.from-width.result c.from-height.result c.args.steps.now c.decode_collective.new.steps c.cut_patterns.new.steps c.from-width.ensures c.from-height.ensures c.decode_collective.ensures.paid c.in_err-patterns.ensures.stopped

pub returns-clause-paid : goal.returns-clause-paid
returns-clause-paid g c = cut-paid (header_view c.args.header.now) (c.args.header.now.num_patterns + 1) (c.args.header.now.num_patterns + 1) c.from-width.result c.from-height.result c.args.steps.now c.decode_collective.new.steps c.cut_patterns.new.steps c.from-width.ensures c.from-height.ensures (omega arith) (omega arith) c.decode_collective.ensures.paid c.in_ok-patterns.ensures.steps

pub returns-then-columns-from-clause-causes : goal.returns-then-columns-from-clause-causes
unfolding patterns_decoded
returns-then-columns-from-clause-causes g c = pattern_cause (header_view c.args.header.now) _ (search rules)

pub returns-in_err-clone-clause-causes : goal.returns-in_err-clone-clause-causes
unfolding patterns_decoded
returns-in_err-clone-clause-causes g c = pattern_cause (header_view c.args.header.now) _ (search rules)

pub returns-in_err-collective-clause-causes : goal.returns-in_err-collective-clause-causes
unfolding patterns_decoded
returns-in_err-collective-clause-causes g c = pattern_cause (header_view c.args.header.now) _ (search rules)

pub returns-in_err-patterns-clause-causes : goal.returns-in_err-patterns-clause-causes
unfolding patterns_decoded
returns-in_err-patterns-clause-causes g c = pattern_cause (header_view c.args.header.now) _ (search rules)

pub returns-clause-causes : goal.returns-clause-causes
returns-clause-causes g c = pattern_cause (header_view c.args.header.now) _ tt

pub returns-in_err-collective-clause-lanes : goal.returns-in_err-collective-clause-lanes
returns-in_err-collective-clause-lanes g c = takes-none _ c.args.steps.now c.decode_collective.new.steps c.decode_collective.ensures.lanes
