use Rattle.std.proofs.Common.{◌∙◌, ap, subst, sym}
use Rattle.jbig2_region.specs.inner.Layouts.{nominal_neighbours}
use Rattle.jbig2_region.specs.inner.NominalRows.{DecodesRow, FitsRow}
use Rattle.jbig2_region.specs.declared.template.Template.{Template}
use Rattle.jbig2_region.specs.declared.template.neighbours.Neighbours.{Neighbours}
use Rattle.jbig2_region.proofs.generic_kernel.nominal.decode_constant_row.Goals as goal
use Rattle.jbig2_region.specs.inner.RegionStates.{counted_region}

pub decode_row_by_bytes-requires : goal.decode_row_by_bytes-requires
decode_row_by_bytes-requires g c = subst (λ (n : Neighbours). FitsRow n c.args.y c.args.bitmap.now c.args.contexts.now) (c.requires.same ∙ sym (c.nominal_neighbours-constant.ensures ∙ ap (λ (t : Template). nominal_neighbours t) c.from_byte.ensures)) c.requires.fits

pub returns : goal.returns
returns g c =
    subst (λ (n : Neighbours). DecodesRow n c.args.y (counted_region c.args.bitmap.now c.args.decoder.now c.args.contexts.now c.args.steps.now) (counted_region c.decode_row_by_bytes.new.bitmap c.decode_row_by_bytes.new.decoder c.decode_row_by_bytes.new.contexts c.decode_row_by_bytes.new.steps)) (c.nominal_neighbours-constant.ensures ∙ ap (λ (t : Template). nominal_neighbours t) c.from_byte.ensures ∙ sym c.requires.same)
    c.decode_row_by_bytes.ensures
