use Rattle.std.proofs.Common.{rules, Err}
use Rattle.std.proofs.lemmas.Result.{err_from_is_err_and}
use Rattle.jbig2_halftone.specs.PatternHeader.{pattern_header_at}
use Rattle.jbig2_halftone.proofs.Causes.{pattern_header_cause}
use Rattle.jbig2_halftone.proofs.pattern.header.parse.Goals as goal

pub returns-in_err-flags-clause-causes : goal.returns-in_err-flags-clause-causes
unfolding pattern_header_at
returns-in_err-flags-clause-causes c =
    let e = err_from_is_err_and c.from_residual.result c.from_residual.ensures.1 in
    rw (e.1, e.2) (pattern_header_cause c.args.strict c.args.reader.now.bytes (Err c.in_err-flags.field-0.0) (search rules))

pub returns-in_err-pattern_width-clause-causes : goal.returns-in_err-pattern_width-clause-causes
unfolding pattern_header_at
returns-in_err-pattern_width-clause-causes c =
    let e = err_from_is_err_and c.from_residual-in_err-pattern_width.result c.from_residual-in_err-pattern_width.ensures.1 in
    rw (e.1, e.2) (pattern_header_cause c.args.strict c.args.reader.now.bytes (Err c.in_err-pattern_width.field-0.0) (search rules))

pub returns-in_err-pattern_height-clause-causes : goal.returns-in_err-pattern_height-clause-causes
unfolding pattern_header_at
returns-in_err-pattern_height-clause-causes c =
    let e = err_from_is_err_and c.from_residual-in_err-pattern_height.result c.from_residual-in_err-pattern_height.ensures.1 in
    rw (e.1, e.2) (pattern_header_cause c.args.strict c.args.reader.now.bytes (Err c.in_err-pattern_height.field-0.0) (search rules))

pub returns-in_err-gray_max-clause-causes : goal.returns-in_err-gray_max-clause-causes
unfolding pattern_header_at
returns-in_err-gray_max-clause-causes c =
    let e = err_from_is_err_and c.from_residual-in_err-gray_max.result c.from_residual-in_err-gray_max.ensures.1 in
    rw (e.1, e.2) (pattern_header_cause c.args.strict c.args.reader.now.bytes (Err c.in_err-gray_max.field-0.0) (search rules))

pub returns-clause-causes : goal.returns-clause-causes
returns-clause-causes c = pattern_header_cause c.args.strict c.args.reader.now.bytes _ tt
