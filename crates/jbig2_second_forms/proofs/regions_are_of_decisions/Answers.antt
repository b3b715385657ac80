use Rattle.jbig2_second_forms.proofs.regions_are_of_decisions.Goals as goal
use Rattle.jbig2_second_forms.proofs.RasterDecisions as lemmas

pub returns : goal.returns
returns c = lemmas.regions_are_of_decisions
