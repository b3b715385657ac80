-- The extended template with its adaptive pixels where they lie by default is template 0.
use Rattle.std.proofs.Common.{refl}
use Rattle.jbig2_region.specs.Generic.{generic_region, generic_grid}
use Rattle.jbig2_second_forms.specs.ExtendedTemplate.{NominalExtendedIsTemplate0}

pub nominal_extended_is_template_0 : NominalExtendedIsTemplate0
unfolding generic_region generic_grid
nominal_extended_is_template_0 = record {
  region = λ h. refl;
  contexts = λ h before. refl;
}
