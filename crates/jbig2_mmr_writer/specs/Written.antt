-- What MMR data that is written gives when it is read.
use Rattle.std.specs.Prelude.{◌≡◌, ℕ, ◌<◌, Bool, List, length, Ok}
use Rattle.jbig2_base.specs.Grid.{Grid}
use Rattle.jbig2_mmr.specs.T6.{mmr_rows}

-- In both modes the definition reads the bitmap of these bytes, if it has pixels, and uses all of them.
abbrev pub ReadsBack : Grid → List ℕ → Type 0
ReadsBack g bytes = (strict : Bool) → 0 < g.width → 0 < g.height
    → mmr_rows strict g.width g.height bytes ≡ Ok (record { grid = g; used = length bytes })
