use Rattle.std.proofs.Common.{rules, Err}
use Rattle.std.proofs.lemmas.Result.{err_from_is_err_and}
use Rattle.jbig2_symbol.specs.SymbolHeader.{symbol_header_at}
use Rattle.jbig2_symbol.proofs.Causes.{symbol_header_cause}
use Rattle.jbig2_symbol.proofs.header.parse.Goals as goal

pub returns-in_err-u16_field-clause-causes : goal.returns-in_err-u16_field-clause-causes
unfolding symbol_header_at
returns-in_err-u16_field-clause-causes c =
    let e = err_from_is_err_and c.from_residual.result c.from_residual.ensures.1 in
    rw (e.1, e.2) (symbol_header_cause c.args.strict c.args.reader.now.bytes (Err c.in_err-u16_field.field-0.0) (search rules))

pub returns-in_err-flags-clause-causes : goal.returns-in_err-flags-clause-causes
unfolding symbol_header_at
returns-in_err-flags-clause-causes c =
    let e = err_from_is_err_and c.from_residual-in_err-flags.result c.from_residual-in_err-flags.ensures.1 in
    rw (e.1, e.2) (symbol_header_cause c.args.strict c.args.reader.now.bytes (Err c.in_err-flags.field-0.0) (search rules))

pub returns-in_err-adaptive_template_pixels-clause-causes : goal.returns-in_err-adaptive_template_pixels-clause-causes
unfolding symbol_header_at
returns-in_err-adaptive_template_pixels-clause-causes c =
    let e = err_from_is_err_and c.from_residual-in_err-adaptive_template_pixels.result c.from_residual-in_err-adaptive_template_pixels.ensures.1 in
    rw (e.1, e.2) (symbol_header_cause c.args.strict c.args.reader.now.bytes (Err c.in_err-adaptive_template_pixels.field-0.0) (search rules))

pub returns-in_err-refinement_at_pixels-clause-causes : goal.returns-in_err-refinement_at_pixels-clause-causes
unfolding symbol_header_at
returns-in_err-refinement_at_pixels-clause-causes c =
    let e = err_from_is_err_and c.from_residual-in_err-refinement_at_pixels.result c.from_residual-in_err-refinement_at_pixels.ensures.1 in
    rw (e.1, e.2) (symbol_header_cause c.args.strict c.args.reader.now.bytes (Err c.in_err-refinement_at_pixels.field-0.0) (search rules))

pub returns-in_err-num_exported_symbols-clause-causes : goal.returns-in_err-num_exported_symbols-clause-causes
unfolding symbol_header_at
returns-in_err-num_exported_symbols-clause-causes c =
    let e = err_from_is_err_and c.from_residual-in_err-num_exported_symbols.result c.from_residual-in_err-num_exported_symbols.ensures.1 in
    rw (e.1, e.2) (symbol_header_cause c.args.strict c.args.reader.now.bytes (Err c.in_err-num_exported_symbols.field-0.0) (search rules))

pub returns-in_err-num_new_symbols-clause-causes : goal.returns-in_err-num_new_symbols-clause-causes
unfolding symbol_header_at
returns-in_err-num_new_symbols-clause-causes c =
    let e = err_from_is_err_and c.from_residual-in_err-num_new_symbols.result c.from_residual-in_err-num_new_symbols.ensures.1 in
    rw (e.1, e.2) (symbol_header_cause c.args.strict c.args.reader.now.bytes (Err c.in_err-num_new_symbols.field-0.0) (search rules))

pub returns-then-num_exported_symbols-gt-MAX_SYMBOLS-clause-causes : goal.returns-then-num_exported_symbols-gt-MAX_SYMBOLS-clause-causes
unfolding symbol_header_at
returns-then-num_exported_symbols-gt-MAX_SYMBOLS-clause-causes c =
    symbol_header_cause c.args.strict c.args.reader.now.bytes _ (search rules)

pub returns-clause-causes : goal.returns-clause-causes
returns-clause-causes c = symbol_header_cause c.args.strict c.args.reader.now.bytes _ tt
