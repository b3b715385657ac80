-- A text region segment (T.88, 7.4.3). `text_decoded` takes the header with the coded bytes, and the symbols and the
-- custom tables that the segment refers to. It gives the region's grid at its place, decoded from fresh states.
use Rattle.std.specs.Prelude.{ℕ, ◌==◌, if◌then◌else◌, List, length, Result, Ok, Err}
use Rattle.jbig2_base.specs.Results.{◌>>=◌}
use Rattle.jbig2_base.specs.Bits.{start_of}
use Rattle.jbig2_base.specs.Grid.{Grid, blank, check_sides}
use Rattle.jbig2_base.specs.declared.error.DecodeError.{DecodeError}
use Rattle.jbig2_base.specs.declared.error.DecodeError.TheVariants.{Huffman}
use Rattle.jbig2_base.specs.declared.error.HuffmanError.TheVariants.{InvalidSelection}
use Rattle.jbig2_coder.specs.PrefixCode.{Member, prefix_code}
use Rattle.jbig2_coder.specs.Tables.{next_custom, standard, lines_a, lines_f, lines_g, lines_h, lines_i, lines_j}
use Rattle.jbig2_coder.specs.Tables.{lines_k, lines_l, lines_m, lines_n, lines_o}
use Rattle.jbig2_coder.specs.Coder.{fresh_contexts}
use Rattle.jbig2_coder.specs.CodeLength.{code_length}
use Rattle.jbig2_region.specs.RefinementTemplates.{refinement_bits}
use Rattle.jbig2_region.specs.RegionInfo.{PlacedRegion, at_location}
use Rattle.jbig2_text.specs.Refining.{Refining}
use Rattle.jbig2_text.specs.Text.{Readings, TextParams, text_region}
use Rattle.jbig2_text.specs.TextCoding.{CodedState, PrefixedState, TextTables, by_coder, by_prefix_codes, coded_start}
use Rattle.jbig2_text.specs.TextHeader.{NumberCoding, TextHeader, ArithmeticCoding, HuffmanCoding}
use Rattle.jbig2_text.specs.declared.header.TextRegionHuffmanFlags.{TextRegionHuffmanFlags}

-- ---- tables (7.4.3.1.6)
-- the table that a number names: one of two of the standard, or 3 for the next custom one; and the custom ones left
abbrev pub one_of_two : List Member → List Member → ℕ → List (List Member)
    → Result (List Member × List (List Member)) DecodeError
one_of_two first second n customs =
    if n == 0 then standard first customs else if n == 1 then standard second customs
    else if n == 3 then next_custom customs else Err (Huffman InvalidSelection)

abbrev pub one_of_three : List Member → List Member → List Member → ℕ → List (List Member)
    → Result (List Member × List (List Member)) DecodeError
one_of_three first second third n customs =
    if n == 0 then standard first customs else if n == 1 then standard second customs
    else if n == 2 then standard third customs else next_custom customs

-- all tables, in the order of the flags' bits
unfoldable pub text_tables : TextRegionHuffmanFlags → List (List Member) → Result TextTables DecodeError
text_tables flags customs = do
  (first_s, left) ← one_of_two (prefix_code lines_f) (prefix_code lines_g) flags.first_s_table customs
  (delta_s, left) ←
      one_of_three (prefix_code lines_h) (prefix_code lines_i) (prefix_code lines_j) flags.delta_s_table left
  (delta_t, left) ←
      one_of_three (prefix_code lines_k) (prefix_code lines_l) (prefix_code lines_m) flags.delta_t_table left
  (width, left) ← one_of_two (prefix_code lines_n) (prefix_code lines_o) flags.refinement_width_table left
  (height, left) ← one_of_two (prefix_code lines_n) (prefix_code lines_o) flags.refinement_height_table left
  (x, left) ← one_of_two (prefix_code lines_n) (prefix_code lines_o) flags.refinement_x_table left
  (y, left) ← one_of_two (prefix_code lines_n) (prefix_code lines_o) flags.refinement_y_table left
  (size, left) ← if flags.refinement_size_table == 0 then standard (prefix_code lines_a) left else next_custom left
  Ok (record {
    first_s = first_s;
    delta_s = delta_s;
    delta_t = delta_t;
    refinement_width = width;
    refinement_height = height;
    refinement_x = x;
    refinement_y = y;
    refinement_size = size;
  })

-- ---- the region
abbrev pub text_params : TextHeader → List Grid → TextParams
text_params h symbols = record {
  flags = h.flags;
  symbols = symbols;
  count = h.instances;
  data_length = h.data_length;
  strict = h.strict;
}

abbrev pub refining_of : TextHeader → Refining  -- with fresh contexts
refining_of h = record {
  template = h.flags.refinement_template;
  pixels = h.refinement_pixels;
  contexts = fresh_contexts (refinement_bits h.flags.refinement_template);
}

unfoldable pub region_from : {S : Type 0} → Readings S → TextHeader → List Grid → Grid → S → Result Grid DecodeError
region_from r h symbols region s =
    text_region r (text_params h symbols) region (refining_of h) s >>= λ (decoded, _, _). Ok decoded

module _ (h : TextHeader) where
  -- the coder, with ids of as many bits as the number of symbols needs (SBSYMCODELEN)
  abbrev pub coder_of : List Grid → CodedState
  coder_of symbols = coded_start h.bytes (code_length (length symbols))

  -- the coded bytes, the tables and the codes of the ids
  abbrev pub prefix_codes_of : TextRegionHuffmanFlags → List Member → List (List Member) → Result PrefixedState DecodeError
  prefix_codes_of numbers ids customs =
      text_tables numbers customs >>= λ tables. Ok (record { place = start_of h.bytes; tables = tables; ids = ids })

  abbrev pub region_by : NumberCoding → List Grid → List (List Member) → Grid → Result Grid DecodeError
  region_by ArithmeticCoding symbols customs region = region_from by_coder h symbols region (coder_of symbols)
  region_by (HuffmanCoding numbers ids) symbols customs region =
      prefix_codes_of numbers ids customs >>= λ s. region_from by_prefix_codes h symbols region s

  abbrev pub blank_region : Grid  -- a region in its default colour
  blank_region = blank h.region_info.width h.region_info.height h.flags.default_pixel

  unfoldable pub text_result : List Grid → List (List Member) → Result Grid DecodeError
  text_result symbols customs = region_by h.coding symbols customs blank_region

  -- A region at its place. A side above 65535 is refused (our own rule).
  unfoldable pub text_decoded : List Grid → List (List Member) → Result PlacedRegion DecodeError
  text_decoded symbols customs = do
    fits ← check_sides h.region_info.width h.region_info.height
    grid ← text_result symbols customs
    Ok (at_location h.region_info grid)
