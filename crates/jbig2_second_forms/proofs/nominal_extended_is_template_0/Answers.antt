use Rattle.jbig2_second_forms.proofs.nominal_extended_is_template_0.Goals as goal
use Rattle.jbig2_second_forms.proofs.ExtendedTemplate as lemmas

pub returns : goal.returns
returns c = lemmas.nominal_extended_is_template_0
