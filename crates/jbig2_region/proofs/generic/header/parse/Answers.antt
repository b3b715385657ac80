use Rattle.std.proofs.Common.{rules, Err}
use Rattle.std.proofs.lemmas.Result.{err_from_is_err_and}
use Rattle.jbig2_region.specs.GenericHeader.{generic_header_at}
use Rattle.jbig2_region.proofs.HeaderCauses.{generic_header_cause}
use Rattle.jbig2_region.proofs.generic.header.parse.Goals as goal

pub returns-in_err-region_info-clause-causes : goal.returns-in_err-region_info-clause-causes
unfolding generic_header_at
returns-in_err-region_info-clause-causes c =
    let e = err_from_is_err_and c.from_residual.result c.from_residual.ensures.1 in
    rw (e.1, e.2) (generic_header_cause c.args.unknown_length c.args.strict c.args.reader.now.bytes (Err c.in_err-region_info.field-0.0) (search rules))

pub returns-in_err-flags-clause-causes : goal.returns-in_err-flags-clause-causes
unfolding generic_header_at
returns-in_err-flags-clause-causes c =
    let e = err_from_is_err_and c.from_residual-in_err-flags.result c.from_residual-in_err-flags.ensures.1 in
    rw (e.1, e.2) (generic_header_cause c.args.unknown_length c.args.strict c.args.reader.now.bytes (Err c.in_err-flags.field-0.0) (search rules))

pub returns-in_err-adaptive_template_pixels-clause-causes : goal.returns-in_err-adaptive_template_pixels-clause-causes
unfolding generic_header_at
returns-in_err-adaptive_template_pixels-clause-causes c =
    let e = err_from_is_err_and c.from_residual-in_err-adaptive_template_pixels.result c.from_residual-in_err-adaptive_template_pixels.ensures.1 in
    rw (e.1, e.2) (generic_header_cause c.args.unknown_length c.args.strict c.args.reader.now.bytes (Err c.in_err-adaptive_template_pixels.field-0.0) (search rules))

pub returns-in_err-height-clause-causes : goal.returns-in_err-height-clause-causes
unfolding generic_header_at
returns-in_err-height-clause-causes c =
    let e = err_from_is_err_and c.from_residual-in_err-height.result c.from_residual-in_err-height.ensures.1 in
    rw (e.1, e.2) (generic_header_cause c.args.unknown_length c.args.strict c.args.reader.now.bytes (Err c.in_err-height.field-0.0) (search rules))

pub returns-then-region_info-gt-MAX_DIMENSION-clause-causes : goal.returns-then-region_info-gt-MAX_DIMENSION-clause-causes
unfolding generic_header_at
returns-then-region_info-gt-MAX_DIMENSION-clause-causes c = generic_header_cause c.args.unknown_length c.args.strict c.args.reader.now.bytes _ (search rules)

pub returns-clause-causes : goal.returns-clause-causes
returns-clause-causes c = generic_header_cause c.args.unknown_length c.args.strict c.args.reader.now.bytes _ tt
