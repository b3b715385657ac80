use Rattle.std.proofs.Common.{rules, Err}
use Rattle.std.proofs.lemmas.Result.{err_from_is_err_and}
use Rattle.jbig2_region.specs.GenericHeader.{rows_at}
use Rattle.jbig2_region.proofs.Causes.{rows_have_cause}
use Rattle.jbig2_region.proofs.generic.header.rows.Goals as goal

pub returns-in_err-rows-clause-causes : goal.returns-in_err-rows-clause-causes
unfolding rows_at
returns-in_err-rows-clause-causes c =
    let e = err_from_is_err_and c.from_residual.result c.from_residual.ensures.1 in
    rw (e.1, e.2) (rows_have_cause c.args.unknown_length c.args.height c.args.bytes.now (Err c.in_err-rows.field-0.0) (search rules))
