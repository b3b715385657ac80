-- The bitmaps of a dictionary's symbols (T.88, 6.5.8 and 6.5.9): generic regions of their own, symbols refined or
-- aggregated with the readings of text regions, or parts of a collective bitmap. Each continues the dictionary's state.
use Rattle.std.specs.Prelude.{ℕ, suc, ◌+◌, ◌==◌, max, true, false, ◌&&◌, if◌then◌else◌, List, ◌++◌, length, Option}
use Rattle.std.specs.Prelude.{Some, None, Result, Ok, Err, ℤ, pos, ◌-◌, ◌*◌, ◌/◌, ◌%◌, nat_lt, Bool, ◌||◌, [], ◌∷◌}
use Rattle.std.specs.Prelude.{slice_index_or}
use Rattle.jbig2_base.specs.Results.{◌>>=◌, refuse_if}
use Rattle.jbig2_base.specs.Bits.{Place, byte_boundary, start_of, bit}
use Rattle.jbig2_base.specs.Fields.{end_of_bytes, bytes_at}
use Rattle.jbig2_base.specs.Grid.{Grid, blank, grid_of, part_or_overflow, wide_or_overflow, check_sides}
use Rattle.jbig2_base.specs.declared.bitmap.operator.CombinationOperator.TheVariants.{Or}
use Rattle.jbig2_base.specs.declared.error.DecodeError.{DecodeError}
use Rattle.jbig2_base.specs.declared.error.DecodeError.TheVariants.{Symbol, Huffman, Overflow}
use Rattle.jbig2_base.specs.declared.error.SymbolError.TheVariants.{Invalid, UnexpectedOob}
use Rattle.jbig2_base.specs.declared.error.OverflowError.TheVariants.{BitmapDimension}
use Rattle.jbig2_coder.specs.PrefixCode.{Member, prefix_code, table_of}
use Rattle.jbig2_coder.specs.Tables.{lines_a, lines_f, lines_h, lines_k, lines_o, uniform}
use Rattle.jbig2_coder.specs.CodeLength.{code_length}
use Rattle.jbig2_coder.specs.declared.integer_procedures.IntegerProcedure.TheVariants.{Iaai}
use Rattle.jbig2_mmr.specs.T6.{mmr_rows}
use Rattle.jbig2_region.specs.Generic.{coding_of}
use Rattle.jbig2_region.specs.Raster.{so_far, decoded_region, no_pixels}
use Rattle.jbig2_region.specs.Templates.{template_pixels}
use Rattle.jbig2_text.specs.Refining.{Refining}
use Rattle.jbig2_text.specs.Text.{Readings, TextParams, some_symbol, symbol_of, text_region}
use Rattle.jbig2_text.specs.TextCoding.{CodedState, PrefixedState, by_coder, by_prefix_codes}
use Rattle.jbig2_text.specs.TextCoding.{next_id, prefixed_bits, TextTables}
use Rattle.jbig2_coder.specs.Integers.{in_band}
use Rattle.jbig2_text.specs.declared.header.ReferenceCorner.TheVariants.{TopLeft}
use Rattle.jbig2_text.specs.declared.header.TextRegionFlags.{TextRegionFlags}
use Rattle.jbig2_symbol.specs.SymbolHeader.{SymbolHeader}
use Rattle.jbig2_symbol.specs.SymbolReading.{SymbolContexts, SymbolInput, SymbolState, by_procedure, by_table}
use Rattle.jbig2_symbol.specs.SymbolReading.{not_negative}
use Rattle.jbig2_symbol.specs.declared.header.SymbolDictionaryFlags.{SymbolDictionaryFlags}
use Rattle.jbig2_base.specs.declared.error.HuffmanError.TheVariants as huffman

-- no side of a symbol may be above 65535 (our own rule)
abbrev pub fits_symbol : ℕ → ℕ → Result (Unit {0}) DecodeError
fits_symbol w h = check_sides w h

-- A generic region of its own (6.5.8.1), without typical prediction (Table 16).
unfoldable pub coded_symbol : SymbolHeader → ℕ → ℕ → SymbolState CodedState → Result (Grid × SymbolState CodedState) DecodeError
coded_symbol h width height s =
    let template = s.contexts.template in
    let coding = coding_of false template (template_pixels false template h.adaptive_template_pixels) in
    let coder = s.coding.coder in
    let region = decoded_region coding width height coder.bytes (no_pixels coder.registers s.contexts.generic) in
    let coded : CodedState = record s.coding { coder = record coder { registers = region.registers } } in
    let contexts : SymbolContexts = record s.contexts { generic = region.contexts } in
    fits_symbol width height >>= λ fits.
    Ok (so_far width height region.pixels, record { coding = coded; contexts = contexts })

-- The number of bits of an id (SBSYMCODELEN), enough for all symbols: those referred to and all new ones, also to come.
abbrev pub id_bits : SymbolHeader → ℕ → ℕ
id_bits h symbols = code_length (symbols + h.num_new_symbols)

abbrev pub state_bits : SymbolHeader → ℕ → ℕ  -- the bits that a dictionary's coder reads; 0 without SDREFAGG
state_bits h symbols = if h.flags.use_refagg then id_bits h symbols else 0

-- the codes of the ids (SBSYMCODES) all have the same length, at least one bit; there are some only with prefix codes
abbrev pub id_codes : SymbolHeader → ℕ → Result (List Member) DecodeError
id_codes h symbols =
    let count = if h.flags.use_huffman && h.flags.use_refagg then symbols + h.num_new_symbols else 0 in
    table_of (uniform count (max 1 (id_bits h symbols)))

abbrev pub some_instances : Option ℤ → Result ℕ DecodeError  -- the number of instances (6.5.8.2.1), at least one
some_instances None = Err (Symbol UnexpectedOob)
some_instances (Some (pos (suc n))) = Ok (suc n)
some_instances (Some _) = Err (Symbol Invalid)

unfoldable pub instance_count : {S : Type 0} → Result (Option ℤ × S) DecodeError → Result (ℕ × S) DecodeError
instance_count reading = reading >>= λ (value, after). some_instances value >>= λ count. Ok (count, after)

-- One instance (6.5.8.2.2): the symbol of the id, refined. RDX and RDY are the offset of the reference.
unfoldable pub refined_alone : {S : Type 0} → Readings S → List Grid → ℤ → ℕ → ℕ → Refining → S
    → Result (Grid × Refining × S) DecodeError
refined_alone r symbols id width height f s = do
  (rdx, after_rdx) ← r.x_delta s
  (rdy, after_rdy) ← r.y_delta after_rdx
  from ← some_symbol (symbol_of symbols id)
  fits ← fits_symbol width height
  r.refined (record { grid = from; dx = rdx; dy = rdy }) width height f after_rdy

-- Several instances (6.5.8.2): a text region of the symbol's size, in strips of one row from the top left (Table 17).
abbrev pub aggregate_flags : SymbolDictionaryFlags → TextRegionFlags
aggregate_flags flags = record {
  use_refinement = true;
  log_strip_size = 0;
  reference_corner = TopLeft;
  transposed = false;
  combination_operator = Or;
  default_pixel = false;
  delta_s_offset = pos 0;
  refinement_template = flags.refinement_template;
}

-- this many instances of the symbols so far; at most 32 for each byte of the dictionary's coded data (our own rule)
abbrev pub aggregate_params : SymbolInput → List Grid → ℕ → TextParams
aggregate_params d new count = record {
  flags = aggregate_flags d.header.flags;
  symbols = d.symbols ++ new;
  count = count;
  data_length = length d.header.bytes;
  strict = d.header.strict;
}

unfoldable pub put_together : {S : Type 0} → Readings S → TextParams → ℕ → ℕ → Refining → S
    → Result (Grid × Refining × S) DecodeError
put_together r p width height f s = fits_symbol width height >>= λ fits. text_region r p (blank width height false) f s

-- `alone` reads the id where there is only one instance.
abbrev pub by_instances : {S : Type 0} → Readings S → (S → Result (ℤ × S) DecodeError) → TextParams → ℕ → ℕ → Refining
    → S → Result (Grid × Refining × S) DecodeError
by_instances r alone p width height f s =
    if p.count == 1 then (alone s >>= λ (id, after_id). refined_alone r p.symbols id width height f after_id)
    else put_together r p width height f s

abbrev pub coded_instances : TextParams → ℕ → ℕ → SymbolState CodedState → Result (Grid × SymbolState CodedState) DecodeError
coded_instances p width height s = do
  (symbol, refining, after) ← by_instances by_coder (λ c. Ok (next_id c)) p width height s.contexts.refining s.coding
  Ok (symbol, record { coding = after; contexts = record s.contexts { refining = refining } })

-- A symbol of this width and height, after these new ones; IAAI gives the number of its instances.
unfoldable pub coded_aggregate : SymbolInput → List Grid → ℕ → ℕ → SymbolState CodedState
    → Result (Grid × SymbolState CodedState) DecodeError
coded_aggregate d new width height s =
    instance_count (by_procedure Iaai s) >>= λ (count, after_count).
    coded_instances (aggregate_params d new count) width height after_count

abbrev pub aggregate_tables : TextTables  -- the tables of an aggregate symbol's instances (6.5.8.2, Table 17)
aggregate_tables = record {
  first_s = prefix_code lines_f;
  delta_s = prefix_code lines_h;
  delta_t = prefix_code lines_k;
  refinement_width = prefix_code lines_o;
  refinement_height = prefix_code lines_o;
  refinement_x = prefix_code lines_o;
  refinement_y = prefix_code lines_o;
  refinement_size = prefix_code lines_a;
}

-- by prefix codes: the id of a single instance is plain bits, not a code
abbrev pub plain_id : ℕ → PrefixedState → Result (ℤ × PrefixedState) DecodeError
plain_id bits s = prefixed_bits end_of_bytes bits s >>= λ (id, after). Ok (pos id, after)

abbrev pub prefixed_at : SymbolInput → Place → PrefixedState
prefixed_at d place = record { place = place; tables = aggregate_tables; ids = d.ids }

abbrev pub prefixed_instances : SymbolInput → TextParams → ℕ → ℕ → SymbolState Place
    → Result (Grid × SymbolState Place) DecodeError
prefixed_instances d p width height s = do
  let alone = plain_id (max 1 (id_bits d.header (length d.symbols)))
  (symbol, refining, after) ←
      by_instances by_prefix_codes alone p width height s.contexts.refining (prefixed_at d s.coding)
  Ok (symbol, record { coding = after.place; contexts = record s.contexts { refining = refining } })

-- The same by prefix codes; the table that SDHUFFAGGINST names gives the number of its instances.
unfoldable pub prefixed_aggregate : SymbolInput → List Grid → ℕ → ℕ → SymbolState Place
    → Result (Grid × SymbolState Place) DecodeError
prefixed_aggregate d new width height s =
    instance_count (by_table d.tables.counts s) >>= λ (count, after_count).
    prefixed_instances d (aggregate_params d new count) width height after_count

-- a pixel of rows that are not coded: each row begins with a byte, and the high bit of a byte comes first
abbrev pub raw_pixel : List ℕ → ℕ → ℕ → ℕ → Bool
raw_pixel bytes stride x y = bit (slice_index_or bytes (y * stride + x / 8) 0) (7 - x % 8)

abbrev pub raw_stride : ℕ → ℕ
raw_stride width = (width + 7) / 8

unfoldable pub raw_rows : ℕ → ℕ → List ℕ → Result (Grid × List ℕ) DecodeError
raw_rows width height bytes = do
  fits ← wide_or_overflow width height
  (rows, rest) ← bytes_at (height * raw_stride width) bytes
  Ok (grid_of width height (raw_pixel rows (raw_stride width)), rest)

-- or MMR data of this many bytes; both give the bytes after them
unfoldable pub mmr_bitmap : Bool → ℕ → ℕ → ℕ → List ℕ → Result (Grid × List ℕ) DecodeError
mmr_bitmap strict size width height bytes = do
  (coded, rest) ← bytes_at size bytes
  fits ← wide_or_overflow width height
  rows ← mmr_rows strict width height coded
  Ok (rows.grid, rest)

abbrev pub rows_of_size : Bool → ℕ → ℕ → ℕ → List ℕ → Result (Grid × List ℕ) DecodeError
rows_of_size strict size width height bytes =
    if size == 0 then raw_rows width height bytes else mmr_bitmap strict size width height bytes

-- The collective bitmap (6.5.9): its size, and then its rows from the next whole byte on. At size 0 they are not coded.
unfoldable pub collective_bitmap : SymbolInput → ℕ → ℕ → SymbolState Place
    → Result (Grid × SymbolState Place) DecodeError
collective_bitmap d width height s = do
  (value, after_value) ← by_table d.tables.sizes s
  number ← in_band (Huffman huffman.UnexpectedOob) value
  size ← not_negative (Overflow BitmapDimension) number
  (collective, rest) ← rows_of_size d.header.strict size width height (byte_boundary after_value.coding).bytes
  Ok (collective, record after_value { coding = start_of rest })

-- this many columns of a collective bitmap, from column `from` on
unfoldable pub symbol_cut : Grid → ℕ → ℕ → ℕ → Result Grid DecodeError
symbol_cut collective from width height =
    part_or_overflow collective (record { left = from; top = 0; width = width; height = height })

-- the symbols of these widths, which lie side by side from column `from` on
unfoldable pub symbols_cut : Grid → ℕ → ℕ → List ℕ → Result (List Grid) DecodeError
symbols_cut collective height from [] = Ok []
symbols_cut collective height from (width ∷ widths) = do
  symbol ← symbol_cut collective from width height
  others ← symbols_cut collective height (from + width) widths
  Ok (symbol ∷ others)
