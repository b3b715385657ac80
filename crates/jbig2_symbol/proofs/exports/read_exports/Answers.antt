use Rattle.std.proofs.Common.{rules, Err, inr, arith}
use Rattle.std.proofs.lemmas.Result.{err_from_is_err_and}
use Rattle.jbig2_symbol.specs.inner.SymbolViews.{all_symbols, input_view}
use Rattle.jbig2_symbol.proofs.ExportErrors.{exports-all, exports-other, exports-unread}
use Rattle.jbig2_symbol.proofs.ReadingCauses.{exports_cause}
use Rattle.jbig2_symbol.proofs.exports.read_exports.Goals as goal

pub returns-in_err-clone-clause-causes : goal.returns-in_err-clone-clause-causes
returns-in_err-clone-clause-causes g c =
    let r = g.R.ReadClasses in
    λ law. exports_cause r.causes r.readings law (input_view c.args.input.now) (all_symbols c.args.input.now.symbols.now c.args.new.items) (r.state c.args.readings.now) _ (search rules)

pub returns-in_err-runs-clause-value : goal.returns-in_err-runs-clause-value
returns-in_err-runs-clause-value g c =
    let r = g.R.ReadClasses in
    let e = err_from_is_err_and c.from_residual-in_err-runs.result c.from_residual-in_err-runs.ensures.1 in
    rw (e.1, e.2) (exports-unread r.readings (input_view c.args.input.now) c.args.input.now.symbols.now c.args.new.items _ (r.state c.args.readings.now) c.in_err-runs.field-0.0 (omega (arith, c.len.ensures)) c.in_err-runs.ensures.value)

pub returns-in_err-runs-clause-causes : goal.returns-in_err-runs-clause-causes
returns-in_err-runs-clause-causes g c =
    let r = g.R.ReadClasses in
    let d = input_view c.args.input.now in
    let s = r.state c.args.readings.now in
    let e = err_from_is_err_and c.from_residual-in_err-runs.result c.from_residual-in_err-runs.ensures.1 in
    rw (e.1, e.2) (λ law. exports_cause r.causes r.readings law d (all_symbols c.args.input.now.symbols.now c.args.new.items) s (Err c.in_err-runs.field-0.0)
    (exports-unread r.readings d c.args.input.now.symbols.now c.args.new.items _ s c.in_err-runs.field-0.0 (omega (arith, c.len.ensures)) c.in_err-runs.ensures.value))

pub returns-in_err-exported-clause-causes : goal.returns-in_err-exported-clause-causes
returns-in_err-exported-clause-causes g c =
    let r = g.R.ReadClasses in
    λ law. exports_cause r.causes r.readings law (input_view c.args.input.now) (all_symbols c.args.input.now.symbols.now c.args.new.items) (r.state c.args.readings.now) _ (search rules)

pub returns-then-len-input-clause-value : goal.returns-then-len-input-clause-value
returns-then-len-input-clause-value g c =
    let r = g.R.ReadClasses in
    let other =
    exports-other r.readings (input_view c.args.input.now) c.args.input.now.symbols.now c.args.new.items _ (r.state c.args.readings.now) (r.state c.read_runs.new.readings) c.in_ok-runs.runs.items c.deref.result.now c.in_ok-exported.exported.items c.len-2.result
    (omega (arith, c.len.ensures)) c.in_ok-runs.ensures.value c.deref.ensures.value c.in_ok-exported.ensures.value (omega (arith, c.len-2.ensures)) (search rules) in
    grind (arith, other)

pub returns-then-len-input-clause-causes : goal.returns-then-len-input-clause-causes
returns-then-len-input-clause-causes g c =
    let r = g.R.ReadClasses in
    λ law. exports_cause r.causes r.readings law (input_view c.args.input.now) (all_symbols c.args.input.now.symbols.now c.args.new.items) (r.state c.args.readings.now) _ (returns-then-len-input-clause-value g c)

pub returns-clause-value : goal.returns-clause-value
returns-clause-value g c =
    let r = g.R.ReadClasses in
    exports-all r.readings (input_view c.args.input.now) c.args.input.now.symbols.now c.args.new.items _ (r.state c.args.readings.now) (r.state c.read_runs.new.readings) c.in_ok-runs.runs.items c.deref.result.now c.in_ok-exported.exported.items c.len-2.result
    (omega (arith, c.len.ensures)) c.in_ok-runs.ensures.value c.deref.ensures.value c.in_ok-exported.ensures.value (omega (arith, c.len-2.ensures)) c.if-len-input.false

pub returns-clause-causes : goal.returns-clause-causes
returns-clause-causes g c =
    let r = g.R.ReadClasses in
    λ law. exports_cause r.causes r.readings law (input_view c.args.input.now) (all_symbols c.args.input.now.symbols.now c.args.new.items) (r.state c.args.readings.now) _ tt
