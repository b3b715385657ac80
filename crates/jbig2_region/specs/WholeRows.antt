-- The whole rows of coded data that is cut off (our own rule). A row is whole if the coder had not read beyond the last
-- byte when the row ended. What is decoded later is not what was written.
use Rattle.std.specs.Prelude.{ℕ, zero, suc, ◌*◌, ◌==◌, ◌&&◌, if◌then◌else◌, false, length, pos}
use Rattle.std.specs.Prelude.{Result, Ok}
use Rattle.jbig2_base.specs.Combination.{combined_grid}
use Rattle.jbig2_base.specs.Grid.{blank}
use Rattle.jbig2_base.specs.Results.{◌>>=◌}
use Rattle.jbig2_base.specs.declared.bitmap.operator.CombinationOperator.TheVariants.{Replace}
use Rattle.jbig2_base.specs.declared.error.DecodeError.{DecodeError}
use Rattle.jbig2_coder.specs.Coder.{initial_registers, is_within}
use Rattle.jbig2_mmr.specs.T6.{rows_of}
use Rattle.jbig2_region.specs.Generic.{generic_coding}
use Rattle.jbig2_region.specs.GenericHeader.{GenericHeader}
use Rattle.jbig2_region.specs.Raster.{Coding, Region, Source, first_pixels, no_pixels, source}
use Rattle.jbig2_coder.specs.Coder.{fresh_contexts}
use Rattle.jbig2_region.specs.Refinement.{offset, reference_of, refined_grid, refinement_coding}
use Rattle.jbig2_region.specs.RefinementHeader.{RefinementHeader}
use Rattle.jbig2_region.specs.RefinementTemplates.{refinement_bits}
use Rattle.jbig2_region.specs.RegionInfo.{PlacedRegion, at_location}
use Rattle.jbig2_region.specs.Templates.{context_bits}

module _ (coding : Coding) (s : Source) where
  abbrev pub after_row : ℕ → Region  -- the state after the first y rows
  after_row y = first_pixels coding s.columns s.rows s.bytes s.start (y * s.columns)

  -- how many of the first n rows are whole: all above them are whole, too
  unfoldable pub whole_rows : ℕ → ℕ
  whole_rows zero = 0
  whole_rows (suc n) =
      let above = whole_rows n in
      if above == n && is_within s.bytes (after_row (suc n)).registers then suc n else above

-- The whole rows of a generic region. MMR data has those before its first fault. A region without columns has all rows.
abbrev pub whole_generic_rows : GenericHeader → ℕ
whole_generic_rows h =
    let info = h.region_info in
    let start = no_pixels (initial_registers h.bytes) (fresh_contexts (context_bits h.template)) in
    if info.width == 0 then info.height
    else if h.mmr then length (rows_of info.width info.height h.bytes).rows
    else whole_rows (generic_coding h) (source info.width info.height h.bytes start) info.height

module _ (h : RefinementHeader) (from : PlacedRegion) where
  -- the whole rows of a refinement
  abbrev pub whole_refined_rows : ℕ
  whole_refined_rows =
      let info = h.region_info in
      let start = no_pixels (initial_registers h.bytes) (fresh_contexts (refinement_bits h.template)) in
      let coding = refinement_coding h.template h.tpgron h.adaptive_template_pixels (reference_of h from) in
      if info.width == 0 then info.height
      else whole_rows coding (source info.width info.height h.bytes start) info.height

  abbrev pub with_whole_refined_rows : RefinementHeader
  with_whole_refined_rows = record h { region_info = record h.region_info { height = whole_refined_rows } }

  -- A refinement whose data is cut off: the reference at its place, and over it the rows that are whole.
  unfoldable pub refined_part : Result PlacedRegion DecodeError
  refined_part = do
    let info = h.region_info
    (dx, dy) ← offset from info
    let reference = combined_grid Replace (blank info.width info.height false) from.grid dx dy
    let rows = refined_grid with_whole_refined_rows from
    Ok (at_location info (combined_grid Replace reference rows (pos 0) (pos 0)))
