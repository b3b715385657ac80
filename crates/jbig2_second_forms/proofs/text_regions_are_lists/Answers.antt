use Rattle.jbig2_second_forms.proofs.text_regions_are_lists.Goals as goal
use Rattle.jbig2_second_forms.proofs.TextLists as lemmas

pub returns : goal.returns
returns c = lemmas.text_regions_are_lists
