-- What is needed to read a symbol dictionary (T.88, 6.5 and 7.4.2): its tables of prefix codes, and its contexts. A
-- coding has readings. Each takes a state, and gives what is read and the state after it. `SymbolCoding` has the
-- readings of the two codings.
use Rattle.std.specs.Prelude.{ℕ, Bool, true, false, not, ◌&&◌, if◌then◌else◌, List, Option, Result, Ok, Err, ℤ, pos}
use Rattle.std.specs.Prelude.{negsuc}
use Rattle.jbig2_base.specs.Results.{◌>>=◌, refuse_if, some_or}
use Rattle.jbig2_base.specs.Bits.{Place, bits_left, bits_on}
use Rattle.jbig2_base.specs.Grid.{Grid}
use Rattle.jbig2_base.specs.declared.error.DecodeError.{DecodeError}
use Rattle.jbig2_base.specs.declared.error.SymbolError.TheVariants.{Invalid}
use Rattle.jbig2_coder.specs.Coder.{Context}
use Rattle.jbig2_coder.specs.PrefixCode.{Member, decoded_value, prefix_code}
use Rattle.jbig2_coder.specs.Tables.{next_custom, standard, lines_a, lines_b, lines_c, lines_d, lines_e}
use Rattle.jbig2_coder.specs.declared.integer_procedures.IntegerProcedure.{IntegerProcedure}
use Rattle.jbig2_coder.specs.Coder.{fresh_contexts}
use Rattle.jbig2_region.specs.RefinementTemplates.{refinement_bits}
use Rattle.jbig2_region.specs.Templates.{context_bits}
use Rattle.jbig2_region.specs.declared.template.RefinementTemplate.{RefinementTemplate}
use Rattle.jbig2_region.specs.declared.template.Template.{Template}
use Rattle.jbig2_region.specs.declared.template.Template.TheVariants.{Template0, Template1, Template2, Template3}
use Rattle.jbig2_text.specs.Refining.{Refining}
use Rattle.jbig2_text.specs.TextCoding.{CodedState, next_integer}
use Rattle.jbig2_symbol.specs.SymbolHeader.{SymbolHeader}
use Rattle.jbig2_symbol.specs.declared.header.HuffmanTableSelection.{HuffmanTableSelection}
use Rattle.jbig2_symbol.specs.declared.header.HuffmanTableSelection.TheVariants.{TableB1, TableB2, TableB3}
use Rattle.jbig2_symbol.specs.declared.header.HuffmanTableSelection.TheVariants.{TableB4, TableB5, UserSupplied}
use Rattle.jbig2_symbol.specs.declared.header.SymbolDictionaryFlags.{SymbolDictionaryFlags}
use Rattle.jbig2_base.specs.declared.error.DecodeError.TheVariants as errors
use Rattle.jbig2_region.specs.declared.template.RefinementTemplate.TheVariants as refinements

pub record SymbolTables : Type 0 where  -- the tables of prefix codes of a dictionary, named for what they read
  pub heights : List Member
  pub widths : List Member
  pub sizes : List Member
  pub counts : List Member
  pub runs : List Member

-- the table that a selection names, and the custom tables that are left
unfoldable pub table_for : HuffmanTableSelection → List (List Member)
    → Result (List Member × List (List Member)) DecodeError
table_for TableB1 customs = standard (prefix_code lines_a) customs
table_for TableB2 customs = standard (prefix_code lines_b) customs
table_for TableB3 customs = standard (prefix_code lines_c) customs
table_for TableB4 customs = standard (prefix_code lines_d) customs
table_for TableB5 customs = standard (prefix_code lines_e) customs
table_for UserSupplied customs = next_custom customs

-- The tables take the custom ones in this order; runs use B.1 (7.4.2.1.6). Too few custom tables are refused in either
-- coding (our own rule).
unfoldable pub symbol_tables : SymbolDictionaryFlags → List (List Member) → Result SymbolTables DecodeError
symbol_tables flags customs = do
  (heights, left) ← table_for flags.delta_height_table customs
  (widths, left) ← table_for flags.delta_width_table left
  (sizes, left) ← table_for flags.collective_bitmap_size_table left
  (counts, left) ← table_for flags.aggregate_instance_table left
  Ok (record {
    heights = heights;
    widths = widths;
    sizes = sizes;
    counts = counts;
    runs = prefix_code lines_a;
  })

pub record BitmapContexts : Type 0 where  -- what the contexts of a dictionary's bitmaps have learned
  pub template : Template
  pub refinement_template : RefinementTemplate
  pub generic : List Context
  pub refinement : List Context

abbrev pub fresh_bitmap_contexts : SymbolDictionaryFlags → BitmapContexts
fresh_bitmap_contexts flags = record {
  template = flags.template;
  refinement_template = flags.refinement_template;
  generic = fresh_contexts (context_bits flags.template);
  refinement = fresh_contexts (refinement_bits flags.refinement_template);
}

abbrev pub is_template : Template → Template → Bool
is_template Template0 Template0 = true
is_template Template1 Template1 = true
is_template Template2 Template2 = true
is_template Template3 Template3 = true
is_template _ _ = false

abbrev pub is_refinement_template : RefinementTemplate → RefinementTemplate → Bool
is_refinement_template refinements.Template0 refinements.Template0 = true
is_refinement_template refinements.Template1 refinements.Template1 = true
is_refinement_template _ _ = false

-- The contexts at the beginning (7.4.2.2, step 3): fresh, or kept by another dictionary. Kept ones must have the same
-- templates (our own rule).
unfoldable pub first_contexts : SymbolDictionaryFlags → Option BitmapContexts → Result BitmapContexts DecodeError
first_contexts flags kept =
    if not flags.bitmap_context_used then Ok (fresh_bitmap_contexts flags)
    else (some_or (errors.Symbol Invalid) kept >>= λ c.
    let same = is_template c.template flags.template
    && is_refinement_template c.refinement_template flags.refinement_template in
    refuse_if (not same) (errors.Symbol Invalid) >>= λ _. Ok c)

-- What is needed to decode a dictionary, besides the state. `ids` are the codes of the ids in aggregate symbols.
pub record SymbolInput : Type 0 where
  pub header : SymbolHeader
  pub symbols : List Grid
  pub tables : SymbolTables
  pub ids : List Member

pub record SymbolContexts : Type 0 where  -- the contexts of bitmaps and of refinements, as they have learned so far
  pub template : Template
  pub generic : List Context
  pub refining : Refining

-- The state of reading a dictionary: the coder with its integers and ids, or the place in the bits; and the contexts.
pub record SymbolState (C : Type 0) : Type 0 where
  pub coding : C
  pub contexts : SymbolContexts

-- the contexts at the beginning of a dictionary, and the adaptive pixels of its refinements
abbrev pub start_contexts : SymbolHeader → BitmapContexts → SymbolContexts
start_contexts h contexts = record {
  template = contexts.template;
  generic = contexts.generic;
  refining = record {
    template = contexts.refinement_template;
    pixels = h.refinement_at_pixels;
    contexts = contexts.refinement;
  };
}

abbrev pub bitmap_contexts : SymbolContexts → BitmapContexts
bitmap_contexts c = record {
  template = c.template;
  refinement_template = c.refining.template;
  generic = c.generic;
  refinement = c.refining.contexts;
}

-- How the symbols of a height class are read one by one: the difference in width, where out of band ends the class
-- (6.5.7), and the bitmap of this width and height, after these new symbols (6.5.8).
pub record SymbolReadings (S : Type 0) : Type 0 where
  pub width_difference : SymbolInput → S → Result (Option ℤ × S) DecodeError
  pub symbol_bitmap : SymbolInput → List Grid → ℕ → ℕ → S → Result (Grid × S) DecodeError

-- How a dictionary is read: the difference in height of a class (6.5.6); the symbols of a class of this height, after
-- this many empty classes and these new symbols (6.5.5, step 4); a run of symbols that are exported or not (6.5.10).
pub record ClassReadings (S : Type 0) : Type 0 where
  pub height_difference : SymbolInput → S → Result (Option ℤ × S) DecodeError
  pub class_of_height : SymbolInput → ℕ → ℕ → List Grid → S → Result (List Grid × S) DecodeError
  pub export_run : SymbolInput → S → Result (Option ℤ × S) DecodeError

-- a value with a code of this table, or out of band
abbrev pub by_table : List Member → SymbolState Place → Result (Option ℤ × SymbolState Place) DecodeError
by_table table s =
    let reading = decoded_value table (bits_left s.coding) in
    reading.result >>= λ value. Ok (value, record s { coding = bits_on reading.taken s.coding })

-- a value of an integer procedure, or out of band
abbrev pub by_procedure : IntegerProcedure → SymbolState CodedState → Result (Option ℤ × SymbolState CodedState) DecodeError
by_procedure procedure s =
    let (value, after) = next_integer procedure s.coding in Ok (value, record s { coding = after })

abbrev pub not_negative : DecodeError → ℤ → Result ℕ DecodeError
not_negative e (pos n) = Ok n
not_negative e (negsuc n) = Err e
