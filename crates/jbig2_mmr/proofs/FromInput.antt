-- Law: no definition of MMR returns an error that bytes cannot bring about.
use Rattle.std.proofs.Common.{ℕ, Bool, List}
use Rattle.jbig2_base.proofs.FromInput.{FromInput, from_input-if}
use Rattle.jbig2_mmr.specs.T6.{mmr_rows}

pub from_input-mmr : (strict : Bool) (w h : ℕ) (bytes : List ℕ) → FromInput (mmr_rows strict w h bytes)
unfolding mmr_rows
from_input-mmr strict w h bytes = search from_input-if
