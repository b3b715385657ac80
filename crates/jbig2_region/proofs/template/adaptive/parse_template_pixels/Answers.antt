use Rattle.std.proofs.Common.{rules, Err}
use Rattle.std.proofs.lemmas.Result.{err_from_is_err_and}
use Rattle.jbig2_region.specs.RefinementTemplates.{refinement_pixels_at}
use Rattle.jbig2_region.proofs.PixelCauses.{refinement_pixels_cause}
use Rattle.jbig2_region.proofs.template.adaptive.parse_template_pixels.Goals as goal

pub returns-in_err-second-in-Template0-clause-causes : goal.returns-in_err-second-in-Template0-clause-causes
unfolding refinement_pixels_at
returns-in_err-second-in-Template0-clause-causes c =
    let e = err_from_is_err_and c.from_residual-in_err-second-in-Template0.result c.from_residual-in_err-second-in-Template0.ensures.1 in
    rw (e.1, e.2) (refinement_pixels_cause c.args.template c.args.reader.now.bytes (Err c.in_err-second-in-Template0.field-0.0) (search rules))
