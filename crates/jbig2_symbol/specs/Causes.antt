-- Which rule is broken where a symbol dictionary is refused (T.88, 6.5 and 7.4.2; docs/FORMAT.md, 11), one line for
-- each error. The function that refuses cites its predicate `Breaks..`. Those of widths, classes and exports are in
-- `ClassCauses`.
use Rattle.std.specs.Prelude.{◌≡◌, ◌≢◌, ◌⊎◌, ◌<◌, ◌≤◌, ℕ, ◌+◌, ◌*◌, ◌/◌, ◌%◌, ◌==◌, max, ◌&&◌, Bool, false, IsTrue}
use Rattle.std.specs.Prelude.{IsFalse, if◌then◌else◌, List, length, take, Option, Some, None, Result, Ok, ℤ, pos, negsuc}
use Rattle.std.specs.Int.{w16, w32}
use Rattle.jbig2_base.specs.Bits.{Place, byte_boundary, bits_left}
use Rattle.jbig2_base.specs.Causes.{After, BreaksSides, number_in}
use Rattle.jbig2_base.specs.Grid.{Grid, blank, max_side}
use Rattle.jbig2_base.specs.declared.error.DecodeError.{DecodeError}
use Rattle.jbig2_base.specs.declared.error.OverflowError.TheVariants.{SymbolCount, BitmapDimension}
use Rattle.jbig2_base.specs.declared.error.ParseError.TheVariants.{UnexpectedEof}
use Rattle.jbig2_base.specs.declared.error.RegionError.TheVariants.{InvalidMmrData}
use Rattle.jbig2_base.specs.declared.error.SymbolError.TheVariants.{Invalid, OutOfRange, UnexpectedOob}
use Rattle.jbig2_base.specs.declared.error.TemplateError.TheVariants.{InvalidAtPixel}
use Rattle.jbig2_coder.specs.PrefixCode.{Member}
use Rattle.jbig2_coder.specs.Causes.{BreaksValueAt}
use Rattle.jbig2_coder.specs.declared.integer_procedures.IntegerProcedure.TheVariants.{Iaai}
use Rattle.jbig2_mmr.specs.Causes.{BreaksMmr}
use Rattle.jbig2_region.specs.Causes.{BreaksPixels}
use Rattle.jbig2_region.specs.Templates.{adaptive_pixel_count, template_of}
use Rattle.jbig2_text.specs.Causes.{BreaksInstances, NamesNone, ReadingCauses, coder_causes}
use Rattle.jbig2_text.specs.Causes.{prefix_causes}
use Rattle.jbig2_text.specs.Refining.{Refining}
use Rattle.jbig2_text.specs.Text.{Readings, TextParams}
use Rattle.jbig2_text.specs.TextCoding.{CodedState, PrefixedState, by_coder, by_prefix_codes, next_id}
use Rattle.jbig2_symbol.specs.SymbolBitmaps.{aggregate_params, id_bits, instance_count, plain_id, prefixed_at}
use Rattle.jbig2_symbol.specs.SymbolBitmaps.{raw_stride}
use Rattle.jbig2_symbol.specs.SymbolHeader.{SymbolHeader, max_new_symbols}
use Rattle.jbig2_symbol.specs.SymbolReading.{BitmapContexts, SymbolInput, SymbolState}
use Rattle.jbig2_symbol.specs.SymbolReading.{by_procedure, by_table, is_refinement_template, is_template}
use Rattle.jbig2_symbol.specs.declared.header.HuffmanTableSelection.{HuffmanTableSelection}
use Rattle.jbig2_symbol.specs.declared.header.HuffmanTableSelection.TheVariants.{UserSupplied}
use Rattle.jbig2_symbol.specs.declared.header.SymbolDictionaryFlags.{SymbolDictionaryFlags}
use Rattle.jbig2_base.specs.declared.error.DecodeError.TheVariants as errors
use Rattle.jbig2_base.specs.declared.error.HuffmanError.TheVariants as huffman

-- the place of the numbers of exported and of new symbols, after the adaptive pixels of symbols and of refinements
abbrev pub counts_place : ℕ → ℕ
counts_place flags =
    2 + (if flags % 2 == 1 then 0 else if flags / 1024 % 4 == 0 then 8 else 2)
    + (if flags / 2 % 2 == 1 && flags / 4096 % 2 == 0 then 4 else 0)

-- The header (7.4.2.1). Its first two bytes are these flags, and it ends with those two numbers, of four bytes each.
-- Where two bits choose a table, 2 has no meaning.
abbrev pub BreaksSymbolFields : ℕ → List ℕ → DecodeError → Type 0
BreaksSymbolFields flags bytes (errors.Parse UnexpectedEof) = length bytes < counts_place flags + 8
BreaksSymbolFields flags bytes (errors.Huffman huffman.InvalidSelection) =
    (2 ≤ length bytes) × ((flags / 4 % 4 ≡ 2) ⊎ (flags / 16 % 4 ≡ 2))
BreaksSymbolFields flags bytes (errors.Template InvalidAtPixel) =
    (flags % 2 ≢ 1)
    × BreaksPixels (adaptive_pixel_count false false (template_of (flags / 1024 % 4))) 2 bytes
    (errors.Template InvalidAtPixel)
BreaksSymbolFields flags bytes (errors.Overflow SymbolCount) =
    (counts_place flags + 8 ≤ length bytes)
    × ((max_new_symbols < number_in w32 (counts_place flags) bytes)
    ⊎ (max_new_symbols < number_in w32 (counts_place flags + 4) bytes))
BreaksSymbolFields flags bytes _ = ⊥

abbrev pub BreaksSymbolHeader : List ℕ → DecodeError → Type 0
BreaksSymbolHeader bytes = BreaksSymbolFields (number_in w16 0 bytes) bytes

abbrev pub custom_count : HuffmanTableSelection → ℕ  -- how many custom tables a selection takes
custom_count UserSupplied = 1
custom_count _ = 0

abbrev pub BreaksTables : SymbolDictionaryFlags → List (List Member) → DecodeError → Type 0
BreaksTables flags customs (errors.Huffman huffman.MissingTables) =
    length customs < custom_count flags.delta_height_table + custom_count flags.delta_width_table
    + custom_count flags.collective_bitmap_size_table + custom_count flags.aggregate_instance_table
BreaksTables flags customs _ = ⊥

-- the other dictionary kept no contexts, or contexts of other templates (7.4.2.2)
abbrev pub BreaksContexts : SymbolDictionaryFlags → Option BitmapContexts → DecodeError → Type 0
BreaksContexts flags None (errors.Symbol Invalid) = IsTrue flags.bitmap_context_used
BreaksContexts flags (Some contexts) (errors.Symbol Invalid) =
    IsTrue flags.bitmap_context_used
    × (IsFalse (is_template contexts.template flags.template)
    ⊎ IsFalse (is_refinement_template contexts.refinement_template flags.refinement_template))
BreaksContexts flags kept _ = ⊥

-- the number of instances of a symbol (6.5.8.2.1): it is out of band, or below 1
abbrev pub BreaksCount : Option ℤ → DecodeError → Type 0
BreaksCount value (errors.Symbol UnexpectedOob) = value ≡ None
BreaksCount value (errors.Symbol Invalid) = (value ≡ Some (pos 0)) ⊎ ((n : ℕ) × (value ≡ Some (negsuc n)))
BreaksCount value _ = ⊥

-- One instance (6.5.8.2.2): its id, RDX, RDY, symbol, size or bits are refused. Several: the size or a text region.
abbrev pub BreaksByInstances : {S : Type 0} → ReadingCauses S → Readings S → (S → Result (ℤ × S) DecodeError)
    → (S → DecodeError → Type 0) → TextParams → ℕ → ℕ → Refining → S → DecodeError → Type 0
BreaksByInstances c r alone lacks p width height f s e =
    ((p.count ≡ 1) × (lacks s e
    ⊎ After (alone s) (λ (id, after_id). c.x_delta after_id e
    ⊎ After (r.x_delta after_id) (λ (_, after_rdx). c.y_delta after_rdx e
    ⊎ After (r.y_delta after_rdx) (λ (_, after_rdy).
    ((e ≡ errors.Symbol OutOfRange) × NamesNone p.symbols id) ⊎ BreaksSides width height e ⊎ c.refined after_rdy e)))))
    ⊎ ((p.count ≢ 1) × (BreaksSides width height e ⊎ BreaksInstances c r p (blank width height false) f s e))

-- The number of instances is refused, or then the instances. The arithmetic coder never refuses an id.
abbrev pub BreaksCodedAggregate : SymbolInput → List Grid → ℕ → ℕ → SymbolState CodedState → DecodeError → Type 0
BreaksCodedAggregate d new width height s e =
    After (by_procedure Iaai s) (λ (value, _). BreaksCount value e)
    ⊎ After (instance_count (by_procedure Iaai s)) (λ (count, after_count).
    BreaksByInstances coder_causes by_coder (λ c. Ok (next_id c)) (λ c _. ⊥) (aggregate_params d new count) width height
    after_count.contexts.refining after_count.coding e)

-- by prefix codes, where the id of a single instance may lack bits
abbrev pub BreaksPrefixedAggregate : SymbolInput → List Grid → ℕ → ℕ → SymbolState Place → DecodeError → Type 0
BreaksPrefixedAggregate d new width height s e =
    BreaksValueAt d.tables.counts s.coding e
    ⊎ After (by_table d.tables.counts s) (λ (value, _). BreaksCount value e)
    ⊎ After (instance_count (by_table d.tables.counts s)) (λ (count, after_count).
    let bits = max 1 (id_bits d.header (length d.symbols)) in
    let lacks : PrefixedState → DecodeError → Type 0 =
    λ c err. (err ≡ errors.Parse UnexpectedEof) × (length (bits_left c.place) < bits) in
    BreaksByInstances prefix_causes by_prefix_codes (plain_id bits) lacks (aggregate_params d new count) width height
    after_count.contexts.refining (prefixed_at d after_count.coding) e)

-- A collective bitmap (6.5.9), after the value of its size. Only strict mode requires MMR data to be complete.
abbrev pub BreaksSized : Bool → ℕ → ℕ → Option ℤ → List ℕ → DecodeError → Type 0
BreaksSized strict width height None bytes e = e ≡ errors.Huffman huffman.UnexpectedOob
BreaksSized strict width height (Some (negsuc n)) bytes e = e ≡ errors.Overflow BitmapDimension
BreaksSized strict width height (Some (pos size)) bytes (errors.Parse UnexpectedEof) =
    length bytes < (if size == 0 then height * raw_stride width else size)
BreaksSized strict width height (Some (pos size)) bytes (errors.Overflow BitmapDimension) =
    max_side * max_side < width * height
BreaksSized strict width height (Some (pos size)) bytes (errors.Region InvalidMmrData) =
    (size ≢ 0) × BreaksMmr strict width height (take size bytes) (errors.Region InvalidMmrData)
BreaksSized strict width height (Some (pos size)) bytes _ = ⊥

-- its size can't be read, or what comes after it breaks a rule
abbrev pub BreaksCollectiveBitmap : SymbolInput → ℕ → ℕ → SymbolState Place → DecodeError → Type 0
BreaksCollectiveBitmap d width height s e =
    BreaksValueAt d.tables.sizes s.coding e
    ⊎ After (by_table d.tables.sizes s) (λ (value, after_value).
    BreaksSized d.header.strict width height value (byte_boundary after_value.coding).bytes e)

-- The codes of the ids are never crowded, so only memory can run out.
abbrev pub BreaksIdCodes : SymbolHeader → ℕ → DecodeError → Type 0
BreaksIdCodes h symbols e = ⊥
