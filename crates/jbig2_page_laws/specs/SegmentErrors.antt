-- Which rule the bytes of one segment break where it is refused (docs/FORMAT.md): in its header's numbers, in the
-- fields of its data, or in its coded data at the state that the definitions reach there. `own` and `shared` are the
-- names that were kept before it, by its page and by the globals.
use Rattle.std.specs.Prelude.{◌≡◌, ◌⊎◌, ℕ, Bool, true, false, not, ◌&&◌, if◌then◌else◌, is_none, IsTrue, List, length}
use Rattle.jbig2_base.specs.Bits.{start_of}
use Rattle.jbig2_base.specs.Causes.{After, BreaksSides}
use Rattle.jbig2_base.specs.Results.{some_or}
use Rattle.jbig2_base.specs.declared.error.DecodeError.{DecodeError}
use Rattle.jbig2_base.specs.declared.error.DecodeError.TheVariants.{Segment}
use Rattle.jbig2_base.specs.declared.error.SegmentError.TheVariants.{MissingPatternDictionary, UnknownType}
use Rattle.jbig2_coder.specs.Causes.{BreaksCustom}
use Rattle.jbig2_framing.specs.Segment.{SegmentView}
use Rattle.jbig2_framing.specs.declared.segment.SegmentType.{SegmentType}
use Rattle.jbig2_framing.specs.declared.segment.SegmentType.TheVariants as types
use Rattle.jbig2_halftone.specs.Causes.{BreaksHalftone, BreaksHalftoneHeader, BreaksPatternHeader, BreaksPatterns}
use Rattle.jbig2_halftone.specs.HalftoneHeader.{HalftoneHeader, halftone_header_at}
use Rattle.jbig2_halftone.specs.PatternHeader.{pattern_header_at}
use Rattle.jbig2_mmr.specs.Causes.{BreaksMmr}
use Rattle.jbig2_region.specs.Causes.{BreaksGenericHeader}
use Rattle.jbig2_region.specs.GenericHeader.{generic_header_at}
use Rattle.jbig2_symbol.specs.Causes.{BreaksSymbolHeader}
use Rattle.jbig2_symbol.specs.SymbolHeader.{symbol_header_at}
use Rattle.jbig2_text.specs.Causes.{BreaksTextHeader, BreaksTextRegion}
use Rattle.jbig2_text.specs.TextHeader.{text_header_at}
use Rattle.jbig2_page.specs.Causes.{BreaksExtension, BreaksPatternReference, BreaksReferred, BreaksRefinement}
use Rattle.jbig2_page.specs.Names.{Names, referred_by}
use Rattle.jbig2_page.specs.Page.{Drawing}
use Rattle.jbig2_page.specs.Regions.{patterns_for, with_whole_instances, with_whole_rows}
use Rattle.jbig2_framing.specs.Segment.{is_partial}
use Rattle.jbig2_page_laws.specs.SymbolErrors.{BreaksSymbols}

module _ (strict : Bool) (own shared : Names) (p : SegmentView) (e : DecodeError) where
  -- a symbol dictionary (7.4.2): a number that it refers to, its header, or its data
  abbrev pub BreaksSymbolDictionary : Type 0
  BreaksSymbolDictionary =
      BreaksReferred strict own shared p.header.referred_to_segments e
      ⊎ BreaksSymbolHeader p.bytes e
      ⊎ After (referred_by strict own shared p.header.referred_to_segments) (λ referred.
      After (symbol_header_at strict p.bytes) (λ (header, _).
      BreaksSymbols header referred.symbols referred.codes referred.kept e))

  -- a text region (7.4.3): a number that it refers to, its header, a side, or its tables and instances
  abbrev pub BreaksText : Type 0
  BreaksText =
      BreaksReferred strict own shared p.header.referred_to_segments e
      ⊎ After (referred_by strict own shared p.header.referred_to_segments) (λ referred.
      BreaksTextHeader (length referred.symbols) p.bytes e
      ⊎ After (text_header_at (length referred.symbols) strict p.bytes) (λ (h, _).
      let header = with_whole_instances (is_partial p) h referred.symbols referred.codes in
      BreaksSides header.region_info.width header.region_info.height e
      ⊎ BreaksTextRegion header referred.symbols referred.codes e))

  -- a halftone region (7.4.5): its pattern dictionary, its header, a side, or its values; a part is read leniently
  abbrev pub BreaksHalftoneRegion : Type 0
  BreaksHalftoneRegion =
      BreaksPatternReference own shared p.header.referred_to_segments e
      ⊎ BreaksHalftoneHeader p.bytes e
      ⊎ After (some_or (Segment MissingPatternDictionary) (patterns_for own shared p.header.referred_to_segments)) (λ d.
      After (halftone_header_at strict p.bytes) (λ (h, _).
      let header : HalftoneHeader = if is_partial p then record h { strict = false } else h in
      BreaksSides h.region_info.width h.region_info.height e ⊎ BreaksHalftone header d e))

-- a generic region (7.4.6): its header, or its MMR data
abbrev pub BreaksGeneric : Bool → Bool → SegmentView → DecodeError → Type 0
BreaksGeneric strict is_intermediate p e =
    let unknown = not is_intermediate && is_none p.header.data_length in
    BreaksGenericHeader unknown p.bytes e
    ⊎ After (generic_header_at unknown strict p.bytes) (λ (h, _).
    let header = with_whole_rows (is_partial p) h in
    (header.mmr ≡ true) × BreaksMmr header.strict header.region_info.width header.region_info.height header.bytes e)

-- a pattern dictionary (7.4.4): its header, or its data
abbrev pub BreaksPatternDictionary : Bool → List ℕ → DecodeError → Type 0
BreaksPatternDictionary strict bytes e =
    BreaksPatternHeader bytes e ⊎ After (pattern_header_at strict bytes) (λ (h, _). BreaksPatterns h e)

-- A segment that draws nothing: a dictionary, a custom table, an extension, or a type without a meaning.
abbrev pub BreaksKept : Bool → Names → Names → SegmentView → DecodeError → Type 0
BreaksKept strict own shared p e = on p.header.segment_type
  where
    on : SegmentType → Type 0
    on types.SymbolDictionary = BreaksSymbolDictionary strict own shared p e
    on types.PatternDictionary = BreaksPatternDictionary strict p.bytes e
    on types.Tables = BreaksCustom (start_of p.bytes) e
    on types.Extension = BreaksExtension strict p.bytes e
    on types.Reserved = IsTrue strict × (e ≡ Segment UnknownType)
    on _ = ⊥

-- Any segment of a page, where this was drawn before it.
abbrev pub BreaksSegment : Bool → Names → SegmentView → Drawing → DecodeError → Type 0
BreaksSegment strict globals p d e = on p.header.segment_type
  where
    on : SegmentType → Type 0
    on types.IntermediateTextRegion = BreaksText strict d.names globals p e
    on types.ImmediateTextRegion = BreaksText strict d.names globals p e
    on types.ImmediateLosslessTextRegion = BreaksText strict d.names globals p e
    on types.IntermediateHalftoneRegion = BreaksHalftoneRegion strict d.names globals p e
    on types.ImmediateHalftoneRegion = BreaksHalftoneRegion strict d.names globals p e
    on types.ImmediateLosslessHalftoneRegion = BreaksHalftoneRegion strict d.names globals p e
    on types.IntermediateGenericRegion = BreaksGeneric strict true p e
    on types.ImmediateGenericRegion = BreaksGeneric strict false p e
    on types.ImmediateLosslessGenericRegion = BreaksGeneric strict false p e
    on types.IntermediateGenericRefinementRegion = BreaksRefinement strict true d.grid d.regions p e
    on types.ImmediateGenericRefinementRegion = BreaksRefinement strict false d.grid d.regions p e
    on types.ImmediateLosslessGenericRefinementRegion = BreaksRefinement strict false d.grid d.regions p e
    on _ = BreaksKept strict d.names globals p e
