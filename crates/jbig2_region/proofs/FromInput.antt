-- Law: no definition of regions returns an error that bytes cannot bring about.
use Rattle.std.proofs.Common.{ℕ, zero, suc, Bool, true, false, List}
use Rattle.jbig2_base.proofs.FromInput.{FromInput, from_input-if, from_input-next, from_input-number, from_input-operator, from_input-refusal, from_input-signed}
use Rattle.jbig2_mmr.proofs.FromInput.{from_input-mmr}
use Rattle.jbig2_region.specs.Generic.{generic_decoded}
use Rattle.jbig2_region.specs.GenericHeader.{GenericHeader, generic_header_at, rows_at}
use Rattle.jbig2_region.specs.Refinement.{offset, refined_decoded}
use Rattle.jbig2_region.specs.RefinementHeader.{RefinementHeader, refinement_header_at}
use Rattle.jbig2_region.specs.RefinementTemplates.{refinement_pixels_at}
use Rattle.jbig2_region.specs.WholeRows.{refined_part}
use Rattle.jbig2_region.specs.RegionInfo.{PlacedRegion, region_info_at}
use Rattle.jbig2_region.specs.Templates.{adaptive_pixel_at, adaptive_pixels_at, free_pixel_at}
use Rattle.jbig2_region.specs.declared.region_info.RegionSegmentInfo.{RegionSegmentInfo}
use Rattle.jbig2_region.specs.declared.template.RefinementTemplate.{RefinementTemplate}
use Rattle.jbig2_region.specs.declared.template.RefinementTemplate.TheVariants as refinements

-- ---- headers
pub from_input-region_info : (bytes : List ℕ) → FromInput (region_info_at bytes)
unfolding region_info_at
from_input-region_info bytes = search (from_input-next, from_input-number, from_input-operator, from_input-refusal) depth 16

from_input-free : (bytes : List ℕ) → FromInput (free_pixel_at bytes)
from_input-free bytes = search (from_input-next, from_input-signed)

from_input-pixel : (bytes : List ℕ) → FromInput (adaptive_pixel_at bytes)
unfolding adaptive_pixel_at
from_input-pixel bytes = search (from_input-next, from_input-free, from_input-refusal)

pub from_input-pixels : (count : ℕ) (bytes : List ℕ) → FromInput (adaptive_pixels_at count bytes)
from_input-pixels zero bytes = tt
from_input-pixels (suc count) bytes =
    let others : (left : List ℕ) → FromInput (adaptive_pixels_at count left) = λ left. from_input-pixels count left in
    search (from_input-next, from_input-pixel, others)

from_input-rows : (unknown_length : Bool) (height : ℕ) (bytes : List ℕ) → FromInput (rows_at unknown_length height bytes)
unfolding rows_at
from_input-rows true height bytes = search (from_input-next, from_input-number, from_input-refusal)
from_input-rows false height bytes = tt

pub from_input-generic_header : (unknown_length strict : Bool) (bytes : List ℕ) → FromInput (generic_header_at unknown_length strict bytes)
unfolding generic_header_at
from_input-generic_header unknown_length strict bytes =
    search (from_input-next, from_input-region_info, from_input-number, from_input-pixels, from_input-rows, from_input-refusal) depth 12

pub from_input-refinement_pixels : (template : RefinementTemplate) (bytes : List ℕ) → FromInput (refinement_pixels_at template bytes)
unfolding refinement_pixels_at
from_input-refinement_pixels refinements.Template0 bytes = search (from_input-next, from_input-free)
from_input-refinement_pixels refinements.Template1 bytes = tt

pub from_input-refinement_header : (bytes : List ℕ) → FromInput (refinement_header_at bytes)
unfolding refinement_header_at
from_input-refinement_header bytes = search (from_input-next, from_input-region_info, from_input-number, from_input-refinement_pixels, from_input-refusal) depth 10

-- ---- regions
pub from_input-generic : (h : GenericHeader) → FromInput (generic_decoded h)
from_input-generic h = search (from_input-next, from_input-if, from_input-mmr)

pub from_input-offset : (from : PlacedRegion) (info : RegionSegmentInfo) → FromInput (offset from info)
unfolding offset
from_input-offset from info = search (from_input-next, from_input-refusal)

pub from_input-refined : (h : RefinementHeader) (from : PlacedRegion) → FromInput (refined_decoded h from)
from_input-refined h from = search (from_input-next, from_input-offset)

pub from_input-refined_part : (h : RefinementHeader) (from : PlacedRegion) → FromInput (refined_part h from)
unfolding refined_part
from_input-refined_part h from = search (from_input-next, from_input-offset)
