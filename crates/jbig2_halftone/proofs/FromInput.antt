-- Law: no definition of patterns and halftone regions returns an error that bytes cannot bring about.
use Rattle.std.proofs.Common.{ℕ, zero, suc, ◌+◌, Bool, List, [], ◌∷◌}
use Rattle.jbig2_base.specs.Grid.{Grid}
use Rattle.jbig2_base.proofs.FromInput.{FromInput, from_input-if, from_input-next, from_input-number, from_input-operator, from_input-refusal, from_input-signed}
use Rattle.jbig2_mmr.proofs.FromInput.{from_input-mmr}
use Rattle.jbig2_region.proofs.FromInput.{from_input-region_info}
use Rattle.jbig2_halftone.specs.GrayScale.{GrayScale, gray_scale_image, mmr_plane, mmr_planes}
use Rattle.jbig2_halftone.specs.Halftone.{cells_drawn, halftone_result, halftone_decoded, pattern_for}
use Rattle.jbig2_halftone.specs.HalftoneHeader.{HalftoneHeader, halftone_flags_at, halftone_grid_at, halftone_header_at}
use Rattle.jbig2_halftone.specs.PatternHeader.{PatternHeader, pattern_header_at, side_at}
use Rattle.jbig2_halftone.specs.Patterns.{Patterns, patterns_decoded}
use Rattle.jbig2_halftone.specs.WholeCells.{halftone_part}

-- ---- headers
from_input-side : (bytes : List ℕ) → FromInput (side_at bytes)
from_input-side bytes = search (from_input-next, from_input-number, from_input-refusal)

pub from_input-pattern_header : (strict : Bool) (bytes : List ℕ) → FromInput (pattern_header_at strict bytes)
unfolding pattern_header_at
from_input-pattern_header strict bytes = search (from_input-next, from_input-number, from_input-side) depth 10

from_input-flags : (bytes : List ℕ) → FromInput (halftone_flags_at bytes)
unfolding halftone_flags_at
from_input-flags bytes = search (from_input-next, from_input-number, from_input-operator)

from_input-grid : (bytes : List ℕ) → FromInput (halftone_grid_at bytes)
unfolding halftone_grid_at
from_input-grid bytes = search (from_input-next, from_input-number, from_input-refusal, from_input-signed) depth 12

pub from_input-halftone_header : (strict : Bool) (bytes : List ℕ) → FromInput (halftone_header_at strict bytes)
unfolding halftone_header_at
from_input-halftone_header strict bytes = search (from_input-next, from_input-region_info, from_input-flags, from_input-grid, from_input-number) depth 12

-- ---- patterns
pub from_input-patterns : (h : PatternHeader) → FromInput (patterns_decoded h)
unfolding patterns_decoded
from_input-patterns h = search (from_input-next, from_input-refusal, from_input-if, from_input-mmr) depth 8

-- ---- regions
from_input-plane : (p : GrayScale) (bytes : List ℕ) → FromInput (mmr_plane p bytes)
unfolding mmr_plane
from_input-plane p bytes = search (from_input-next, from_input-mmr)

from_input-planes : (p : GrayScale) (bytes : List ℕ) (count : ℕ) → FromInput (mmr_planes p bytes count)
unfolding mmr_planes
from_input-planes p bytes zero = tt
from_input-planes p bytes (suc count) =
    let others : (left : List ℕ) → FromInput (mmr_planes p left count) = λ left. from_input-planes p left count in
    search (from_input-next, from_input-plane, others)

from_input-image : (p : GrayScale) (bytes : List ℕ) → FromInput (gray_scale_image p bytes)
unfolding gray_scale_image
from_input-image p bytes = search (from_input-next, from_input-refusal, from_input-if, from_input-planes) depth 8

from_input-pattern : (strict : Bool) (grids : List Grid) (value : ℕ) → FromInput (pattern_for strict grids value)
from_input-pattern strict grids value = search from_input-if

from_input-cells : (h : HalftoneHeader) (d : Patterns) (k : ℕ) (values : List ℕ) (region : Grid) → FromInput (cells_drawn h d k values region)
unfolding cells_drawn
from_input-cells h d k [] region = tt
from_input-cells h d k (value ∷ values) region =
    let others : (g : Grid) → FromInput (cells_drawn h d (k + 1) values g) = λ g. from_input-cells h d (k + 1) values g in
    search (from_input-next, from_input-pattern, others)

from_input-halftone_grid : (h : HalftoneHeader) (d : Patterns) → FromInput (halftone_result h d)
unfolding halftone_result
from_input-halftone_grid h d = search (from_input-next, from_input-image, from_input-cells)

pub from_input-halftone : (h : HalftoneHeader) (d : Patterns) → FromInput (halftone_decoded h d)
unfolding halftone_decoded
from_input-halftone h d = search (from_input-next, from_input-refusal, from_input-halftone_grid)

pub from_input-halftone_part : (h : HalftoneHeader) (d : Patterns) → FromInput (halftone_part h d)
unfolding halftone_part
from_input-halftone_part h d = search (from_input-next, from_input-refusal, from_input-image, from_input-cells) depth 8
