-- The data of a symbol dictionary segment up to its coded bytes (T.88, 7.4.2.1): flags, the adaptive pixels, and the
-- numbers of exported and of new symbols. The bytes give the header, and the coded bytes after it.
use Rattle.std.specs.Prelude.{ℕ, ◌/◌, ◌%◌, ◌==◌, nat_lt, Bool, false, ◌||◌, List, [], Result, Ok, Err, if◌then◌else◌}
use Rattle.std.specs.Int.{w16, w32}
use Rattle.jbig2_base.specs.Results.{◌>>=◌, refuse_if}
use Rattle.jbig2_base.specs.Fields.{number_at}
use Rattle.jbig2_base.specs.declared.error.DecodeError.{DecodeError}
use Rattle.jbig2_base.specs.declared.error.DecodeError.TheVariants.{Huffman, Overflow}
use Rattle.jbig2_base.specs.declared.error.HuffmanError.TheVariants.{InvalidSelection}
use Rattle.jbig2_base.specs.declared.error.OverflowError.TheVariants.{SymbolCount}
use Rattle.jbig2_region.specs.RefinementTemplates.{refinement_pixels_at, refinement_template_of}
use Rattle.jbig2_region.specs.Templates.{adaptive_pixel_count, adaptive_pixels_at, template_of}
use Rattle.jbig2_region.specs.declared.template.AdaptiveTemplatePixel.{AdaptiveTemplatePixel}
use Rattle.jbig2_symbol.specs.declared.header.HuffmanTableSelection.{HuffmanTableSelection}
use Rattle.jbig2_symbol.specs.declared.header.HuffmanTableSelection.TheVariants.{TableB1, TableB2, TableB3}
use Rattle.jbig2_symbol.specs.declared.header.HuffmanTableSelection.TheVariants.{TableB4, TableB5, UserSupplied}
use Rattle.jbig2_symbol.specs.declared.header.SymbolDictionaryFlags.{SymbolDictionaryFlags}

abbrev pub max_new_symbols : ℕ  -- how many symbols a dictionary may add, or export (our own rule)
max_new_symbols = 1048576

pub record SymbolHeader : Type 0 where  -- what is needed to decode a dictionary's coded bytes
  pub flags : SymbolDictionaryFlags
  pub adaptive_template_pixels : List AdaptiveTemplatePixel
  pub refinement_at_pixels : List AdaptiveTemplatePixel
  pub num_exported_symbols : ℕ
  pub num_new_symbols : ℕ
  pub bytes : List ℕ
  pub strict : Bool

-- one of two tables or a custom one, by two bits of the flags (SDHUFFDH and SDHUFFDW; 7.4.2.1.6)
abbrev pub selection_of : HuffmanTableSelection → HuffmanTableSelection → ℕ → Result HuffmanTableSelection DecodeError
selection_of first second n =
    if n == 0 then Ok first else if n == 1 then Ok second
    else if n == 3 then Ok UserSupplied else Err (Huffman InvalidSelection)

abbrev pub other_selection_of : Bool → HuffmanTableSelection  -- by one bit (SDHUFFBMSIZE and SDHUFFAGGINST)
other_selection_of user_supplied = if user_supplied then UserSupplied else TableB1

-- the flags (7.4.2.1.1); the choices of tables are checked without prefix codes too (our own rule)
unfoldable pub symbol_flags_of : ℕ → Result SymbolDictionaryFlags DecodeError
symbol_flags_of flags = do
  heights ← selection_of TableB4 TableB5 (flags / 4 % 4)
  widths ← selection_of TableB2 TableB3 (flags / 16 % 4)
  Ok (record {
    use_huffman = flags % 2 == 1;
    use_refagg = flags / 2 % 2 == 1;
    delta_height_table = heights;
    delta_width_table = widths;
    collective_bitmap_size_table = other_selection_of (flags / 64 % 2 == 1);
    aggregate_instance_table = other_selection_of (flags / 128 % 2 == 1);
    bitmap_context_used = flags / 256 % 2 == 1;
    bitmap_context_retained = flags / 512 % 2 == 1;
    template = template_of (flags / 1024 % 4);
    refinement_template = refinement_template_of (flags / 4096 % 2);
  })

-- the adaptive pixels of the symbols' bitmaps (7.4.2.1.2); with prefix codes there are none
abbrev pub coded_pixels_at : SymbolDictionaryFlags → List ℕ → Result (List AdaptiveTemplatePixel × List ℕ) DecodeError
coded_pixels_at flags bytes =
    if flags.use_huffman then Ok ([], bytes)
    else adaptive_pixels_at (adaptive_pixel_count false false flags.template) bytes

-- the adaptive pixels of refinements (7.4.2.1.3), where symbols are refined with template 0
abbrev pub refined_pixels_at : SymbolDictionaryFlags → List ℕ → Result (List AdaptiveTemplatePixel × List ℕ) DecodeError
refined_pixels_at flags bytes =
    if flags.use_refagg then refinement_pixels_at flags.refinement_template bytes else Ok ([], bytes)

-- The whole header, and the coded bytes. More than 2^20 symbols of either kind are refused (our own rule).
unfoldable pub symbol_header_at : Bool → List ℕ → Result (SymbolHeader × List ℕ) DecodeError
symbol_header_at strict bytes = do
  (number, after_flags) ← number_at w16 bytes
  flags ← symbol_flags_of number
  (pixels, after_pixels) ← coded_pixels_at flags after_flags
  (refined, after_refined) ← refined_pixels_at flags after_pixels
  (exported, after_exported) ← number_at w32 after_refined
  (fresh, coded) ← number_at w32 after_exported
  few ← refuse_if (nat_lt max_new_symbols exported || nat_lt max_new_symbols fresh) (Overflow SymbolCount)
  Ok (
    record {
      flags = flags;
      adaptive_template_pixels = pixels;
      refinement_at_pixels = refined;
      num_exported_symbols = exported;
      num_new_symbols = fresh;
      bytes = coded;
      strict = strict;
    },
    coded,
  )
