use Rattle.std.proofs.Common.{rules, w32}
use Rattle.std.proofs.lemmas.Int.{to_z-of_z}
use Rattle.jbig2_symbol.specs.HeightClasses.{height_class}
use Rattle.jbig2_symbol.specs.inner.SymbolViews.{input_view}
use Rattle.jbig2_symbol.proofs.ClassCauses.{class-error, height_class_cause}
use Rattle.jbig2_symbol.proofs.ClassLemmas.{class-fault}
use Rattle.jbig2_symbol.proofs.classes.read_height_class.Goals as goal

pub returns-in_err-pay-clause-causes : goal.returns-in_err-pay-clause-causes
unfolding height_class
returns-in_err-pay-clause-causes g c =
    λ law. height_class_cause g.R.ReadClasses.causes g.R.ReadClasses.readings law (input_view c.args.input.now) c.args.symbols.now.height c.args.symbols.now.empty c.args.symbols.now.bitmaps.items (g.R.ReadClasses.state c.args.readings.now) _ (search rules)

pub returns-in_err-difference-clause-causes : goal.returns-in_err-difference-clause-causes
unfolding height_class
returns-in_err-difference-clause-causes g c =
    λ law. height_class_cause g.R.ReadClasses.causes g.R.ReadClasses.readings law (input_view c.args.input.now) c.args.symbols.now.height c.args.symbols.now.empty c.args.symbols.now.bitmaps.items (g.R.ReadClasses.state c.args.readings.now) _ (search rules)

pub returns-in_default-clause-causes : goal.returns-in_default-clause-causes
unfolding height_class
returns-in_default-clause-causes g c =
    λ law. height_class_cause g.R.ReadClasses.causes g.R.ReadClasses.readings law (input_view c.args.input.now) c.args.symbols.now.height c.args.symbols.now.empty c.args.symbols.now.bitmaps.items (g.R.ReadClasses.state c.args.readings.now) _ (search rules)

pub returns-in_err-height-clause-causes : goal.returns-in_err-height-clause-causes
unfolding height_class
returns-in_err-height-clause-causes g c =
    λ law. height_class_cause g.R.ReadClasses.causes g.R.ReadClasses.readings law (input_view c.args.input.now) c.args.symbols.now.height c.args.symbols.now.empty c.args.symbols.now.bitmaps.items (g.R.ReadClasses.state c.args.readings.now) _ (search rules)

pub returns-in-Err-clause-value : goal.returns-in-Err-clause-value
returns-in-Err-clause-value g c =
    class-fault g.R.ReadClasses.readings (input_view c.args.input.now) c.args.symbols.now.height c.args.symbols.now.empty c.in_ok-height.height c.args.symbols.now.bitmaps.items (g.R.ReadClasses.state c.args.readings.now) (g.R.ReadClasses.state c.height_difference.new.self) c.in_ok-difference.field-0 c.in-Some.difference _ c.in-Err.error (to_z-of_z w32 c.in-Some.difference (search rules)) c.in-Some.is c.in_ok-difference.ensures.value c.in_ok-height.ensures c.in-Err.ensures.value

pub returns-in-Err-clause-causes : goal.returns-in-Err-clause-causes
returns-in-Err-clause-causes g c =
    let r = g.R.ReadClasses.readings in
    let d = input_view c.args.input.now in
    let new = c.args.symbols.now.bitmaps.items in
    let empty = c.args.symbols.now.empty in
    let s = g.R.ReadClasses.state c.args.readings.now in
    λ law. height_class_cause g.R.ReadClasses.causes r law d c.args.symbols.now.height empty new s _ (class-error new empty (height_class r d c.args.symbols.now.height empty new s) c.in-Err.error (returns-in-Err-clause-value g c))

pub returns-clause-causes : goal.returns-clause-causes
returns-clause-causes g c =
    λ law. height_class_cause g.R.ReadClasses.causes g.R.ReadClasses.readings law (input_view c.args.input.now) c.args.symbols.now.height c.args.symbols.now.empty c.args.symbols.now.bitmaps.items (g.R.ReadClasses.state c.args.readings.now) _ tt
