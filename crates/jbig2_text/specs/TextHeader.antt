-- The data of a text region segment up to its coded bytes (T.88, 7.4.3.1): region information, flags, adaptive pixels,
-- the number of instances and the codes of the ids. The bytes give the header, and the coded bytes after it.
use Rattle.std.specs.Prelude.{ℕ, ◌/◌, ◌%◌, ◌==◌, nat_lt, Bool, true, false, List, [], length, Option, Some, None}
use Rattle.std.specs.Prelude.{Result, Ok, if◌then◌else◌, ℤ, pos, ◌-ℤ◌}
use Rattle.std.specs.Int.{w16, w32}
use Rattle.jbig2_base.specs.Results.{◌>>=◌}
use Rattle.jbig2_base.specs.Fields.{number_at}
use Rattle.jbig2_base.specs.Combination.{operator_of}
use Rattle.jbig2_base.specs.declared.error.DecodeError.{DecodeError}
use Rattle.jbig2_coder.specs.PrefixCode.{Member}
use Rattle.jbig2_region.specs.RefinementTemplates.{refinement_pixels_at, refinement_template_of}
use Rattle.jbig2_region.specs.RegionInfo.{region_info_at}
use Rattle.jbig2_region.specs.declared.region_info.RegionSegmentInfo.{RegionSegmentInfo}
use Rattle.jbig2_region.specs.declared.template.AdaptiveTemplatePixel.{AdaptiveTemplatePixel}
use Rattle.jbig2_text.specs.SymbolCodes.{symbol_codes_at}
use Rattle.jbig2_text.specs.declared.header.ReferenceCorner.{ReferenceCorner}
use Rattle.jbig2_text.specs.declared.header.ReferenceCorner.TheVariants.{BottomLeft, TopLeft, BottomRight}
use Rattle.jbig2_text.specs.declared.header.ReferenceCorner.TheVariants.{TopRight}
use Rattle.jbig2_text.specs.declared.header.TextFields.{TextFields}
use Rattle.jbig2_text.specs.declared.header.TextRegionFlags.{TextRegionFlags}
use Rattle.jbig2_text.specs.declared.header.TextRegionHuffmanFlags.{TextRegionHuffmanFlags}

-- How the numbers are coded (SBHUFF): by the arithmetic coder, or by prefix codes. Prefix codes have the numbers of
-- their tables and the codes of the symbols' ids (SBSYMCODES).
pub data NumberCoding : Type 0 where
  ArithmeticCoding : NumberCoding
  HuffmanCoding : (tables : TextRegionHuffmanFlags) (ids : List Member) → NumberCoding

pub record TextHeader : Type 0 where  -- what is needed to decode a text region's coded bytes
  pub region_info : RegionSegmentInfo
  pub flags : TextRegionFlags
  pub coding : NumberCoding
  pub refinement_pixels : List AdaptiveTemplatePixel
  pub instances : ℕ
  pub data_length : ℕ
  pub bytes : List ℕ
  pub strict : Bool

abbrev pub corner_of : ℕ → ReferenceCorner
corner_of n = if n == 0 then BottomLeft else if n == 1 then TopLeft else if n == 2 then BottomRight else TopRight

abbrev pub signed_5 : ℕ → ℤ  -- five bits in two's complement
signed_5 n = if nat_lt n 16 then pos n else pos n -ℤ pos 32

-- whether prefix codes are used (SBHUFF), and the other flags (7.4.3.1.1)
unfoldable pub text_flags_at : List ℕ → Result ((Bool × TextRegionFlags) × List ℕ) DecodeError
text_flags_at bytes = do
  (flags, rest) ← number_at w16 bytes
  operator ← operator_of (flags / 128 % 4)
  let others : TextRegionFlags = record {
    use_refinement = flags / 2 % 2 == 1;
    log_strip_size = flags / 4 % 4;
    reference_corner = corner_of (flags / 16 % 4);
    transposed = flags / 64 % 2 == 1;
    combination_operator = operator;
    default_pixel = flags / 512 % 2 == 1;
    delta_s_offset = signed_5 (flags / 1024 % 32);
    refinement_template = refinement_template_of (flags / 32768);
  }
  Ok ((flags % 2 == 1, others), rest)

abbrev pub table_numbers : ℕ → TextRegionHuffmanFlags  -- the numbers of the tables (7.4.3.1.2)
table_numbers flags = record {
  first_s_table = flags % 4;
  delta_s_table = flags / 4 % 4;
  delta_t_table = flags / 16 % 4;
  refinement_width_table = flags / 64 % 4;
  refinement_height_table = flags / 256 % 4;
  refinement_x_table = flags / 1024 % 4;
  refinement_y_table = flags / 4096 % 4;
  refinement_size_table = flags / 16384 % 2;
}

-- they are there only with prefix codes
abbrev pub table_numbers_at : Bool → List ℕ → Result (Option TextRegionHuffmanFlags × List ℕ) DecodeError
table_numbers_at true bytes = number_at w16 bytes >>= λ (flags, rest). Ok (Some (table_numbers flags), rest)
table_numbers_at false bytes = Ok (None, bytes)

-- the fields between the region information and the codes of the ids; adaptive pixels only with refinement (7.4.3.1.3)
unfoldable pub text_fields_at : List ℕ → Result (TextFields × List ℕ) DecodeError
text_fields_at bytes = do
  ((has_prefix_codes, flags), after_flags) ← text_flags_at bytes
  (tables, after_tables) ← table_numbers_at has_prefix_codes after_flags
  (pixels, after_pixels) ← if flags.use_refinement then refinement_pixels_at flags.refinement_template after_tables
      else Ok ([], after_tables)
  (instances, rest) ← number_at w32 after_pixels
  Ok (
    record {
      flags = flags;
      table_numbers = tables;
      refinement_at_pixels = pixels;
      num_instances = instances;
    },
    rest,
  )

-- the codes of the ids of this many symbols, only with prefix codes
abbrev pub coding_at : Option TextRegionHuffmanFlags → ℕ → List ℕ → Result (NumberCoding × List ℕ) DecodeError
coding_at (Some tables) count bytes = symbol_codes_at count bytes >>= λ (ids, rest). Ok (HuffmanCoding tables ids, rest)
coding_at None count bytes = Ok (ArithmeticCoding, bytes)

-- the whole header, for this many symbols, and the coded bytes after it
unfoldable pub text_header_at : ℕ → Bool → List ℕ → Result (TextHeader × List ℕ) DecodeError
text_header_at symbols strict bytes = do
  (info, after_info) ← region_info_at bytes
  (fields, after_fields) ← text_fields_at after_info
  (coding, coded) ← coding_at fields.table_numbers symbols after_fields
  Ok (
    record {
      region_info = info;
      flags = fields.flags;
      coding = coding;
      refinement_pixels = fields.refinement_at_pixels;
      instances = fields.num_instances;
      data_length = length bytes;
      bytes = coded;
      strict = strict;
    },
    coded,
  )
