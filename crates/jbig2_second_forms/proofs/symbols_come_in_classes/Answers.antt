use Rattle.jbig2_second_forms.proofs.symbols_come_in_classes.Goals as goal
use Rattle.jbig2_second_forms.proofs.SymbolClasses as lemmas

pub returns : goal.returns
returns c = lemmas.symbols_come_in_classes
