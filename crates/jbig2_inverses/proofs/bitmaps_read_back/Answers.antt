use Rattle.jbig2_inverses.proofs.bitmaps_read_back.Goals as goal
use Rattle.jbig2_inverses.proofs.BitmapInverse as lemmas

pub returns : goal.returns
returns c = lemmas.bitmaps_read_back
