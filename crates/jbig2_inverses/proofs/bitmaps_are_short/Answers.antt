use Rattle.jbig2_inverses.proofs.bitmaps_are_short.Goals as goal
use Rattle.jbig2_inverses.proofs.BitmapInverse as lemmas

pub returns : goal.returns
returns c = lemmas.bitmaps_are_short
