-- Whole rows are some of a region's rows.
use Rattle.std.proofs.Common.{◌≡◌, ℕ, zero, suc, ◌+◌, ◌≤◌, ◌==◌, ◌||◌, Bool, true, false, List, [], ◌∷◌, ◌++◌, length, length-append, drop, Option, Some, None, arith}
use Rattle.std.specs.Prelude.{if◌then◌else◌}
use Rattle.jbig2_mmr.specs.T6.{Rows, bits_of, ends_block, pixel_of, row, rows_from, rows_of}
use Rattle.jbig2_coder.specs.Coder.{initial_registers}
use Rattle.jbig2_region.specs.Generic.{generic_coding}
use Rattle.jbig2_region.specs.GenericHeader.{GenericHeader, IsParsed}
use Rattle.jbig2_region.specs.Raster.{no_pixels, source}
use Rattle.jbig2_coder.specs.Coder.{fresh_contexts}
use Rattle.jbig2_region.specs.Templates.{context_bits}
use Rattle.jbig2_region.proofs.PartLemmas.{whole-most}
use Rattle.jbig2_region.specs.WholeRows.{whole_generic_rows, whole_rows}

-- MMR data has no row that the region hasn't
read-most : (n w : ℕ) (above : List ℕ) (done : List (List ℕ)) (bits : List ℕ) → length (rows_from n w above done bits).rows ≤ length done + n
unfolding rows_from
read-most zero w above done bits = omega arith
read-most (suc n) w above done bits =
    by (λ changes more left. read-most n w changes more left) (ends_block bits) (row w (pixel_of w above) bits)
  where
    by : ((changes : List ℕ) (more : List (List ℕ)) (left : List ℕ) → length (rows_from n w changes more left).rows ≤ length more + n) → (b : Bool) (r : Option (List ℕ × List ℕ)) → length (if b then (let x : Rows = record { rows = done; whole = false; left = drop 24 bits } in x) else (elim r [
      | None ↦ (let x : Rows = record { rows = done; whole = false; left = [] } in x)
      | Some (changes, left) ↦ rows_from n w changes (done ++ changes ∷ []) left
    ])).rows ≤ length done + suc n
    by others true r = omega arith
    by others false None = omega arith
    by others false (Some (changes, left)) =
        let more : length (done ++ changes ∷ []) ≡ length done + 1 = length-append done (changes ∷ []) in
        omega (arith, more, others changes (done ++ changes ∷ []) left)

rows-most : (w h : ℕ) (bytes : List ℕ) → length (rows_of w h bytes).rows ≤ h
unfolding rows_of
rows-most w h bytes = by (w == 0 || h == 0)
  where
    by : (b : Bool) → length (if b then (let x : Rows = record { rows = []; whole = true; left = bits_of bytes } in x) else rows_from h w [] [] (bits_of bytes)).rows ≤ h
    by true = omega arith
    by false = omega (arith, read-most h w [] [] (bits_of bytes))

whole-fewer : (h : GenericHeader) → whole_generic_rows h ≤ h.region_info.height
whole-fewer h = either (h.region_info.width == 0) h.mmr
  where
    rows : ℕ
    rows = whole_rows (generic_coding h) (source h.region_info.width h.region_info.height h.bytes (no_pixels (initial_registers h.bytes) (fresh_contexts (context_bits h.template)))) h.region_info.height

    read : ℕ
    read = length (rows_of h.region_info.width h.region_info.height h.bytes).rows

    either : (b mmr : Bool) → (if b then h.region_info.height else if mmr then read else rows) ≤ h.region_info.height
    either true mmr = omega arith
    either false true = rows-most h.region_info.width h.region_info.height h.bytes
    either false false = whole-most (generic_coding h) _ h.region_info.height

-- a header with the whole rows is one that can be decoded
pub whole-parsed : (h : GenericHeader) (rows : ℕ) → rows ≡ whole_generic_rows h → IsParsed h → IsParsed (record h { region_info = record h.region_info { height = rows } })
whole-parsed h rows is parsed = record {
  columns = parsed.columns;
  rows = omega (arith, is, whole-fewer h, parsed.rows);
  pixels = parsed.pixels;
}
