use Rattle.std.proofs.Common.{rules, Err, inr}
use Rattle.std.proofs.lemmas.Result.{err_from_is_err_and}
use Rattle.jbig2_text.specs.TextHeader.{text_header_at}
use Rattle.jbig2_text.proofs.CausesOfHeaders.{text_header_cause}
use Rattle.jbig2_text.proofs.header.parse.Goals as goal

pub returns-in_err-region_info-clause-causes : goal.returns-in_err-region_info-clause-causes
unfolding text_header_at
returns-in_err-region_info-clause-causes g c =
    let e = err_from_is_err_and c.from_residual.result c.from_residual.ensures.1 in
    rw (e.1, e.2) (text_header_cause c.args.num_symbols c.args.strict c.args.reader.now.bytes (Err c.in_err-region_info.field-0.0) (inr (search rules)))

pub returns-in_err-fields-clause-causes : goal.returns-in_err-fields-clause-causes
unfolding text_header_at
returns-in_err-fields-clause-causes g c =
    let e = err_from_is_err_and c.from_residual-in_err-fields.result c.from_residual-in_err-fields.ensures.1 in
    rw (e.1, e.2) (text_header_cause c.args.num_symbols c.args.strict c.args.reader.now.bytes (Err c.in_err-fields.field-0.0) (inr (search rules)))

pub returns-in_err-coding-clause-causes : goal.returns-in_err-coding-clause-causes
unfolding text_header_at
returns-in_err-coding-clause-causes g c =
    let e = err_from_is_err_and c.from_residual-in_err-coding.result c.from_residual-in_err-coding.ensures.1 in
    rw (e.1, e.2) (text_header_cause c.args.num_symbols c.args.strict c.args.reader.now.bytes (Err c.in_err-coding.field-0.0) (search rules))

pub returns-clause-causes : goal.returns-clause-causes
returns-clause-causes g c = text_header_cause c.args.num_symbols c.args.strict c.args.reader.now.bytes _ tt
