use Rattle.std.proofs.Common.{rules, Err}
use Rattle.std.proofs.lemmas.Result.{err_from_is_err_and}
use Rattle.jbig2_halftone.specs.HalftoneHeader.{halftone_header_at}
use Rattle.jbig2_halftone.proofs.Causes.{halftone_header_cause}
use Rattle.jbig2_halftone.proofs.halftone.header.parse.Goals as goal

pub returns-in_err-region_info-clause-causes : goal.returns-in_err-region_info-clause-causes
unfolding halftone_header_at
returns-in_err-region_info-clause-causes c =
    let e = err_from_is_err_and c.from_residual.result c.from_residual.ensures.1 in
    rw (e.1, e.2) (halftone_header_cause c.args.strict c.args.reader.now.bytes (Err c.in_err-region_info.field-0.0) (search rules))

pub returns-in_err-flags-clause-causes : goal.returns-in_err-flags-clause-causes
unfolding halftone_header_at
returns-in_err-flags-clause-causes c =
    let e = err_from_is_err_and c.from_residual-in_err-flags.result c.from_residual-in_err-flags.ensures.1 in
    rw (e.1, e.2) (halftone_header_cause c.args.strict c.args.reader.now.bytes (Err c.in_err-flags.field-0.0) (search rules))

pub returns-in_err-grid_position_and_size-clause-causes : goal.returns-in_err-grid_position_and_size-clause-causes
unfolding halftone_header_at
returns-in_err-grid_position_and_size-clause-causes c =
    let e = err_from_is_err_and c.from_residual-in_err-grid_position_and_size.result c.from_residual-in_err-grid_position_and_size.ensures.1 in
    rw (e.1, e.2) (halftone_header_cause c.args.strict c.args.reader.now.bytes (Err c.in_err-grid_position_and_size.field-0.0) (search rules))

pub returns-in_err-x_vector-clause-causes : goal.returns-in_err-x_vector-clause-causes
unfolding halftone_header_at
returns-in_err-x_vector-clause-causes c =
    let e = err_from_is_err_and c.from_residual-in_err-x_vector.result c.from_residual-in_err-x_vector.ensures.1 in
    rw (e.1, e.2) (halftone_header_cause c.args.strict c.args.reader.now.bytes (Err c.in_err-x_vector.field-0.0) (search rules))

pub returns-in_err-y_vector-clause-causes : goal.returns-in_err-y_vector-clause-causes
unfolding halftone_header_at
returns-in_err-y_vector-clause-causes c =
    let e = err_from_is_err_and c.from_residual-in_err-y_vector.result c.from_residual-in_err-y_vector.ensures.1 in
    rw (e.1, e.2) (halftone_header_cause c.args.strict c.args.reader.now.bytes (Err c.in_err-y_vector.field-0.0) (search rules))

pub returns-clause-causes : goal.returns-clause-causes
returns-clause-causes c = halftone_header_cause c.args.strict c.args.reader.now.bytes _ tt
