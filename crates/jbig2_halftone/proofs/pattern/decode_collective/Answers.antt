use Rattle.std.proofs.Common.{◌≡◌, arith, rules, subst}
use Rattle.jbig2_base.specs.Counts.{Counts, KeepsLanes}
use Rattle.jbig2_base.proofs.MadeLemmas.{made-counted, made-paid, words-same}
use Rattle.jbig2_base.proofs.Prices.{price-same}
use Rattle.jbig2_halftone.specs.Patterns.{collective_header}
use Rattle.jbig2_halftone.specs.Steps.{collective_made}
use Rattle.jbig2_halftone.specs.inner.PatternHeaderViews.{header_view}
use Rattle.jbig2_halftone.proofs.PatternLemmas.{refused-lanes}
use Rattle.jbig2_halftone.proofs.pattern.decode_collective.Goals as goal

pub returns-in_err-decode_into-clause-lanes : goal.returns-in_err-decode_into-clause-lanes
returns-in_err-decode_into-clause-lanes g c =
    let made : c.new.new.steps ≡ collective_made (header_view c.args.header.now) c.args.steps.now = search rules in
    subst (λ (s : Counts). KeepsLanes s c.decode_into.new.steps) made (refused-lanes (header_view c.args.header.now) c.new.new.steps c.decode_into.new.steps c.decode_into.ensures.lanes c.in_err-decode_into.ensures.stopped)

pub returns-in_err-collective-clause-paid : goal.returns-in_err-collective-clause-paid
returns-in_err-collective-clause-paid g c =
    let info = (collective_header (header_view c.args.header.now)).region_info in
    let high : c.from.result ≡ info.height = search rules in
    omega (arith, made-paid c.args.width c.from.result c.args.steps.now c.new.new.steps c.new.ensures.steps, price-same c.args.width info.width c.from.result info.height c.requires.width high)

pub returns-in_err-decode_into-clause-paid : goal.returns-in_err-decode_into-clause-paid
returns-in_err-decode_into-clause-paid g c =
    let info = (collective_header (header_view c.args.header.now)).region_info in
    let high : c.from.result ≡ info.height = search rules in
    omega (arith, c.decode_into.ensures.paid, made-counted c.args.width c.from.result c.args.steps.now c.new.new.steps c.new.ensures.steps, words-same c.args.width info.width c.from.result info.height c.requires.width high, price-same c.args.width info.width c.from.result info.height c.requires.width high)

pub returns-clause-paid : goal.returns-clause-paid
returns-clause-paid g c =
    let info = (collective_header (header_view c.args.header.now)).region_info in
    let high : c.from.result ≡ info.height = search rules in
    omega (arith, c.decode_into.ensures.paid, made-counted c.args.width c.from.result c.args.steps.now c.new.new.steps c.new.ensures.steps, words-same c.args.width info.width c.from.result info.height c.requires.width high, price-same c.args.width info.width c.from.result info.height c.requires.width high)
