use Rattle.std.proofs.Common.{◌∙◌, ap, subst, sym}
use Rattle.jbig2_region.specs.inner.RegionStates.{DecodesRegion, region_state}
use Rattle.jbig2_region.specs.inner.Layouts.{nominal_neighbours}
use Rattle.jbig2_region.specs.inner.Neighbours.{nominal_pixels, row_coding}
use Rattle.jbig2_region.specs.inner.NominalRows.{CountsNarrow, FitsNarrow}
use Rattle.jbig2_region.specs.declared.template.Template.{Template}
use Rattle.jbig2_region.specs.declared.template.neighbours.Neighbours.{Neighbours}
use Rattle.jbig2_region.proofs.generic_kernel.narrow.decode_constant_rows.Goals as goal

pub decode_rows-requires : goal.decode_rows-requires
decode_rows-requires g c = subst (λ (n : Neighbours). FitsNarrow n c.args.bitmap.now c.args.contexts.now) (c.requires.same ∙ sym (c.nominal_neighbours-constant.ensures ∙ ap (λ (t : Template). nominal_neighbours t) c.from_byte.ensures)) c.requires.fits

pub returns-clause-region : goal.returns-clause-region
returns-clause-region g c =
    subst (λ (n : Neighbours). DecodesRegion (row_coding (nominal_pixels n)) (region_state c.args.bitmap.now c.args.decoder.now c.args.contexts.now) (region_state c.decode_rows.new.bitmap c.decode_rows.new.decoder c.decode_rows.new.contexts)) (c.nominal_neighbours-constant.ensures ∙ ap (λ (t : Template). nominal_neighbours t) c.from_byte.ensures ∙ sym c.requires.same)
    c.decode_rows.ensures.region

pub returns-clause-steps : goal.returns-clause-steps
returns-clause-steps g c =
    subst (λ (n : Neighbours). CountsNarrow n (region_state c.args.bitmap.now c.args.decoder.now c.args.contexts.now) c.args.steps.now c.decode_rows.new.steps) (c.nominal_neighbours-constant.ensures ∙ ap (λ (t : Template). nominal_neighbours t) c.from_byte.ensures ∙ sym c.requires.same)
    c.decode_rows.ensures.steps
