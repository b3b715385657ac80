use Rattle.std.proofs.Common.{rules, Err}
use Rattle.std.proofs.lemmas.Result.{err_from_is_err_and}
use Rattle.jbig2_framing.specs.PageInfo.{information_at}
use Rattle.jbig2_framing.proofs.PageCauses.{information_cause}
use Rattle.jbig2_framing.proofs.page_info.parse_page_information.Goals as goal

pub returns-in_err-striping-clause-causes : goal.returns-in_err-striping-clause-causes
unfolding information_at
returns-in_err-striping-clause-causes c =
    let e = err_from_is_err_and c.from_residual-in_err-striping.result c.from_residual-in_err-striping.ensures.1 in
    rw (e.1, e.2) (information_cause c.args.reader.now.bytes (Err c.in_err-striping.field-0.0) (search rules))

pub returns-in_err-width-clause-causes : goal.returns-in_err-width-clause-causes
unfolding information_at
returns-in_err-width-clause-causes c = information_cause c.args.reader.now.bytes _ (search rules)

pub returns-in_err-height-clause-causes : goal.returns-in_err-height-clause-causes
unfolding information_at
returns-in_err-height-clause-causes c = information_cause c.args.reader.now.bytes _ (search rules)

pub returns-in_err-x_resolution-clause-causes : goal.returns-in_err-x_resolution-clause-causes
unfolding information_at
returns-in_err-x_resolution-clause-causes c = information_cause c.args.reader.now.bytes _ (search rules)

pub returns-in_err-y_resolution-clause-causes : goal.returns-in_err-y_resolution-clause-causes
unfolding information_at
returns-in_err-y_resolution-clause-causes c = information_cause c.args.reader.now.bytes _ (search rules)

pub returns-in_err-flags-clause-causes : goal.returns-in_err-flags-clause-causes
unfolding information_at
returns-in_err-flags-clause-causes c = information_cause c.args.reader.now.bytes _ (search rules)

pub returns-clause-causes : goal.returns-clause-causes
returns-clause-causes c = information_cause c.args.reader.now.bytes _ tt
