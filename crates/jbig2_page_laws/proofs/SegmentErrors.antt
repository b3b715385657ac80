-- Why a segment is refused.
use Rattle.std.proofs.Common.{◌≡◌, ◌⊎◌, inl, inr, ℕ, ◌+◌, ltb, Bool, true, false, not, ◌&&◌, if◌then◌else◌, List, [], ◌∷◌, length, Result, Ok, Err, refl}
use Rattle.std.specs.Prelude.{is_none}
use Rattle.std.proofs.lemmas.Bool.{cond_both}
use Rattle.jbig2_base.specs.Bits.{Place, start_of}
use Rattle.jbig2_base.specs.Causes.{BreaksSides}
use Rattle.jbig2_base.specs.Grid.{Grid, check_sides}
use Rattle.jbig2_base.specs.Results.{◌>>=◌, refuse_if, some_or}
use Rattle.jbig2_base.specs.declared.error.DecodeError.{DecodeError}
use Rattle.jbig2_base.specs.declared.error.DecodeError.TheVariants.{Region, Segment}
use Rattle.jbig2_base.specs.declared.error.RegionError.TheVariants.{GrayScaleOutOfRange}
use Rattle.jbig2_base.specs.declared.error.SegmentError.TheVariants.{MissingPatternDictionary, UnknownType}
use Rattle.jbig2_coder.specs.Causes.{BreaksCustom}
use Rattle.jbig2_coder.specs.CustomTable.{TableStep, custom_table, result_of}
use Rattle.jbig2_coder.specs.PrefixCode.{Member}
use Rattle.jbig2_coder.proofs.CustomCauses.{custom_cause}
use Rattle.jbig2_framing.specs.Segment.{Header, SegmentView}
use Rattle.jbig2_framing.specs.declared.segment.SegmentType.{SegmentType}
use Rattle.jbig2_framing.specs.declared.segment.SegmentType.TheVariants as types
use Rattle.jbig2_halftone.specs.Causes.{BreaksGrayScale, BreaksHalftone, BreaksHalftoneHeader, BreaksPatternHeader, BreaksPatterns}
use Rattle.jbig2_halftone.specs.GrayScale.{gray_scale_image}
use Rattle.jbig2_halftone.specs.Halftone.{cells_drawn, gray_params, halftone_decoded, halftone_result, pattern_for, with_cell}
use Rattle.jbig2_halftone.specs.HalftoneHeader.{HalftoneHeader, halftone_header_at}
use Rattle.jbig2_halftone.specs.PatternHeader.{pattern_header_at}
use Rattle.jbig2_halftone.specs.Patterns.{Patterns, patterns_decoded}
use Rattle.jbig2_halftone.specs.WholeCells.{halftone_part}
use Rattle.jbig2_halftone.proofs.Causes.{halftone_header_cause, pattern_header_cause}
use Rattle.jbig2_halftone.proofs.CausesOfRegions.{gray_scale_cause, halftone_cause, pattern_cause}
use Rattle.jbig2_mmr.specs.Causes.{BreaksMmr}
use Rattle.jbig2_mmr.specs.T6.{mmr_rows}
use Rattle.jbig2_mmr.proofs.Causes.{mmr_cause}
use Rattle.jbig2_region.specs.Causes.{BreaksGenericHeader}
use Rattle.jbig2_region.specs.Generic.{generic_grid, generic_result}
use Rattle.jbig2_region.specs.GenericHeader.{GenericHeader, generic_header_at}
use Rattle.jbig2_region.specs.RegionInfo.{PlacedRegion}
use Rattle.jbig2_region.proofs.HeaderCauses.{generic_header_cause}
use Rattle.jbig2_symbol.specs.Causes.{BreaksSymbolHeader}
use Rattle.jbig2_symbol.specs.SymbolHeader.{symbol_header_at}
use Rattle.jbig2_symbol.specs.Symbols.{symbols_decoded}
use Rattle.jbig2_symbol.proofs.Causes.{symbol_header_cause}
use Rattle.jbig2_text.specs.Causes.{BreaksTextHeader, BreaksTextRegion}
use Rattle.jbig2_text.specs.TextHeader.{TextHeader, text_header_at}
use Rattle.jbig2_text.specs.TextRegion.{text_decoded, text_result}
use Rattle.jbig2_text.proofs.CausesOfHeaders.{text_header_cause}
use Rattle.jbig2_text.proofs.CausesOfRegions.{text_region_cause}
use Rattle.jbig2_page.specs.Causes.{BreaksExtension, BreaksPatternReference, BreaksReferred, BreaksRefinement}
use Rattle.jbig2_page.specs.Names.{Names, table_at, kept_by, pattern_dictionary_at, referred_by, symbol_dictionary_at, with_code, with_patterns, with_symbols}
use Rattle.jbig2_page.specs.Page.{Drawing, immediate, intermediate, segment_by, with_names}
use Rattle.jbig2_page.specs.Regions.{generic_at, halftone_at, patterns_for, refinement_at, text_at, with_whole_instances, with_whole_rows}
use Rattle.jbig2_framing.specs.Segment.{is_partial}
use Rattle.jbig2_page.proofs.SegmentCauses.{extension_cause, patterns_cause, referred_cause, refinement_cause}
use Rattle.jbig2_page.specs.OtherSegments.{extension}
use Rattle.jbig2_page_laws.specs.SegmentErrors.{BreaksGeneric, BreaksHalftoneRegion, BreaksKept, BreaksPatternDictionary, BreaksSegment, BreaksSymbolDictionary, BreaksText}
use Rattle.jbig2_page_laws.specs.SymbolErrors.{BreaksSymbols}
use Rattle.jbig2_base.proofs.ErrorSteps.{Refused, if-refused, itself, itself_or_memory, more, refusal, refused-by, refused-or, sides, step}
use Rattle.jbig2_page_laws.proofs.SegmentTypes.{of_type, shown, stored}
use Rattle.jbig2_page_laws.proofs.SymbolErrors.{dictionary}

module _ (strict : Bool) (own shared : Names) where
  referred : (numbers : List ℕ) → Refused (referred_by strict own shared numbers) (BreaksReferred strict own shared numbers)
  referred numbers =
      let r = referred_by strict own shared numbers in
      refused-or (BreaksReferred strict own shared numbers) r (referred_cause strict own shared numbers r (itself_or_memory r))

  -- ---- symbol dictionaries
  a-dictionary : (p : SegmentView) → Refused (symbol_dictionary_at strict own shared p) (BreaksSymbolDictionary strict own shared p)
  unfolding symbol_dictionary_at
  a-dictionary p =
      let P : DecodeError → Type 0 = BreaksSymbolDictionary strict own shared p in
      let numbers = p.header.referred_to_segments in
      let header = symbol_header_at strict p.bytes in
      step (BreaksReferred strict own shared numbers) P (referred_by strict own shared numbers) _ (referred numbers) (λ e no. inl no) (λ x x_is.
      step (BreaksSymbolHeader p.bytes) P header _ (refused-by (BreaksSymbolHeader p.bytes) header (symbol_header_cause strict p.bytes header (itself header))) (λ e no. inr (inl no)) (λ h h_is.
      more (BreaksSymbols h.0 x.symbols x.codes x.kept) P (symbols_decoded h.0 x.symbols x.codes x.kept) (dictionary h.0 x.symbols x.codes x.kept) (λ e no. inr (inr (x, x_is, (h, h_is, no))))))

  -- ---- text regions
  text-decoded : (h : TextHeader) (symbols : List Grid) (customs : List (List Member)) → Refused (text_decoded h symbols customs) (λ e. BreaksSides h.region_info.width h.region_info.height e ⊎ BreaksTextRegion h symbols customs e)
  unfolding text_decoded
  text-decoded h symbols customs =
      let P : DecodeError → Type 0 = λ e. BreaksSides h.region_info.width h.region_info.height e ⊎ BreaksTextRegion h symbols customs e in
      let r = text_result h symbols customs in
      step (BreaksSides h.region_info.width h.region_info.height) P (check_sides h.region_info.width h.region_info.height) _ (sides h.region_info.width h.region_info.height) (λ e no. inl no) (λ fits is.
      step (BreaksTextRegion h symbols customs) P r _ (refused-or (BreaksTextRegion h symbols customs) r (text_region_cause h symbols customs r (itself_or_memory r))) (λ e no. inr no) (λ g g_is. tt))

  a-text : (p : SegmentView) → Refused (text_at strict own shared p) (BreaksText strict own shared p)
  unfolding text_at
  a-text p =
      let P : DecodeError → Type 0 = BreaksText strict own shared p in
      let numbers = p.header.referred_to_segments in
      step (BreaksReferred strict own shared numbers) P (referred_by strict own shared numbers) _ (referred numbers) (λ e no. inl no) (λ x x_is.
      let header = text_header_at (length x.symbols) strict p.bytes in
      let H : DecodeError → Type 0 = BreaksTextHeader (length x.symbols) p.bytes in
      step H P header _ (refused-or H header (text_header_cause (length x.symbols) strict p.bytes header (itself_or_memory header))) (λ e no. inr (x, x_is, inl no)) (λ h h_is.
      let whole = with_whole_instances (is_partial p) h.0 x.symbols x.codes in
      more (λ e. BreaksSides whole.region_info.width whole.region_info.height e ⊎ BreaksTextRegion whole x.symbols x.codes e) P (text_decoded whole x.symbols x.codes) (text-decoded whole x.symbols x.codes) (λ e no. inr (x, x_is, inr (h, h_is, no)))))

-- ---- halftone regions
abbrev Halftone : HalftoneHeader → Patterns → DecodeError → Type 0
Halftone h d e = BreaksSides h.region_info.width h.region_info.height e ⊎ BreaksHalftone h d e

halftone-decoded : (h : HalftoneHeader) (d : Patterns) → Refused (halftone_decoded h d) (Halftone h d)
unfolding halftone_decoded
halftone-decoded h d =
    let r = halftone_result h d in
    step (BreaksSides h.region_info.width h.region_info.height) (Halftone h d) (check_sides h.region_info.width h.region_info.height) _ (sides h.region_info.width h.region_info.height) (λ e no. inl no) (λ fits is.
    step (BreaksHalftone h d) (Halftone h d) r _ (refused-or (BreaksHalftone h d) r (halftone_cause h d r (itself_or_memory r))) (λ e no. inr no) (λ g g_is. tt))

gray : (h : HalftoneHeader) (d : Patterns) (e : DecodeError) → BreaksGrayScale (gray_params h d) h.bytes e → BreaksHalftone h d e
gray h d (Region GrayScaleOutOfRange) broken = absurd broken
gray h d e broken = broken

-- a value without a pattern is no fault in lenient reading
some-pattern : (grids : List Grid) (value : ℕ) (P : DecodeError → Type 0) → Refused (pattern_for false grids value) P
some-pattern grids value P = cond_both (ltb value (length grids)) _ _ (λ (r : Result Grid DecodeError). Refused r P) (λ there. tt) (λ none. tt)

cells-lenient : (h : HalftoneHeader) (d : Patterns) (P : DecodeError → Type 0) (k : ℕ) (values : List ℕ) (region : Grid) → Refused (cells_drawn (record h { strict = false }) d k values region) P
unfolding cells_drawn
cells-lenient h d P k [] region = tt
cells-lenient h d P k (value ∷ values) region =
    step P P (pattern_for false d.grids value) _ (some-pattern d.grids value P) (λ e no. no) (λ pattern is. cells-lenient h d P (k + 1) values (with_cell (record h { strict = false }) k pattern region))

halftone-part : (h : HalftoneHeader) (d : Patterns) → Refused (halftone_part h d) (Halftone (record h { strict = false }) d)
unfolding halftone_part
halftone-part h d =
    let lenient : HalftoneHeader = record h { strict = false } in
    let P : DecodeError → Type 0 = Halftone lenient d in
    let image = gray_params lenient d in
    let r = gray_scale_image image h.bytes in
    step (BreaksSides h.region_info.width h.region_info.height) P (check_sides h.region_info.width h.region_info.height) _ (sides h.region_info.width h.region_info.height) (λ e no. inl no) (λ fits is.
    step (BreaksGrayScale image h.bytes) P r _ (refused-or (BreaksGrayScale image h.bytes) r (gray_scale_cause image h.bytes r (itself_or_memory r))) (λ e no. inr (gray lenient d e no)) (λ values values_is.
    step P P _ _ (cells-lenient h d P 0 _ _) (λ e no. no) (λ g g_is. tt)))

either-part : (partial : Bool) (h : HalftoneHeader) (d : Patterns)
    → Refused (if partial then halftone_part h d else halftone_decoded h d)
    (λ e. let header : HalftoneHeader = if partial then record h { strict = false } else h in BreaksSides h.region_info.width h.region_info.height e ⊎ BreaksHalftone header d e)
either-part true h d = halftone-part h d
either-part false h d = halftone-decoded h d

a-halftone : (strict : Bool) (own shared : Names) (p : SegmentView) → Refused (halftone_at strict own shared p) (BreaksHalftoneRegion strict own shared p)
unfolding halftone_at
a-halftone strict own shared p =
    let P : DecodeError → Type 0 = BreaksHalftoneRegion strict own shared p in
    let numbers = p.header.referred_to_segments in
    let patterns = some_or (Segment MissingPatternDictionary) (patterns_for own shared numbers) in
    let header = halftone_header_at strict p.bytes in
    step (BreaksPatternReference own shared numbers) P patterns _ (refused-by (BreaksPatternReference own shared numbers) patterns (patterns_cause own shared numbers patterns (itself patterns))) (λ e no. inl no) (λ d d_is.
    step (BreaksHalftoneHeader p.bytes) P header _ (refused-by (BreaksHalftoneHeader p.bytes) header (halftone_header_cause strict p.bytes header (itself header))) (λ e no. inr (inl no)) (λ h h_is.
    more _ P _ (either-part (is_partial p) h.0 d) (λ e no. inr (inr (d, d_is, (h, h_is, no))))))

-- ---- generic regions
abbrev Mmr : GenericHeader → DecodeError → Type 0
Mmr h e = (h.mmr ≡ true) × BreaksMmr h.strict h.region_info.width h.region_info.height h.bytes e

generic-grid : (h : GenericHeader) → Refused (generic_result h) (Mmr h)
generic-grid h =
    let rows = mmr_rows h.strict h.region_info.width h.region_info.height h.bytes in
    let B : DecodeError → Type 0 = BreaksMmr h.strict h.region_info.width h.region_info.height h.bytes in
    if-refused (Mmr h) h.mmr (rows >>= λ r. Ok r.grid) (Ok (generic_grid h)) (λ is.
    step B (Mmr h) rows _ (refused-by B rows (mmr_cause h.strict h.region_info.width h.region_info.height h.bytes rows (itself rows))) (λ e no. (is, no)) (λ r r_is. tt)) (λ is. tt)

a-generic : (strict is_intermediate : Bool) (p : SegmentView) → Refused (generic_at strict is_intermediate p) (BreaksGeneric strict is_intermediate p)
unfolding generic_at
a-generic strict is_intermediate p =
    let P : DecodeError → Type 0 = BreaksGeneric strict is_intermediate p in
    let unknown : Bool = not is_intermediate && is_none p.header.data_length in
    let header = generic_header_at unknown strict p.bytes in
    step (BreaksGenericHeader unknown p.bytes) P header _ (refused-by (BreaksGenericHeader unknown p.bytes) header (generic_header_cause unknown strict p.bytes header (itself header))) (λ e no. inl no) (λ h h_is.
    let whole = with_whole_rows (is_partial p) h.0 in
    step (Mmr whole) P (generic_result whole) _ (generic-grid whole) (λ e no. inr (h, h_is, no)) (λ g g_is. tt))

-- ---- a segment that draws nothing
a-pattern_dictionary : (strict : Bool) (bytes : List ℕ) → Refused (pattern_dictionary_at strict bytes) (BreaksPatternDictionary strict bytes)
unfolding pattern_dictionary_at
a-pattern_dictionary strict bytes =
    let P : DecodeError → Type 0 = BreaksPatternDictionary strict bytes in
    let header = pattern_header_at strict bytes in
    step (BreaksPatternHeader bytes) P header _ (refused-by (BreaksPatternHeader bytes) header (pattern_header_cause strict bytes header (itself header))) (λ e no. inl no) (λ h h_is.
    let r = patterns_decoded h.0 in
    more (BreaksPatterns h.0) P r (refused-or (BreaksPatterns h.0) r (pattern_cause h.0 r (itself_or_memory r))) (λ e no. inr (h, h_is, no)))

table-step : (p : Place) (s : TableStep (List Member)) → custom_table p ≡ s → Refused (result_of s) (BreaksCustom p)
table-step p (Ok x) is = tt
table-step p (Err f) is =
    let refused : Result (List Member) DecodeError = Err f.0 in
    refused-or (BreaksCustom p) refused (custom_cause (λ t. t) p f.1 refused (inr is))

kept-as : (strict : Bool) (shared : Names) (kind : SegmentType) (h : Header) (bytes : List ℕ) (own : Names) → Refused (kept_by strict shared (of_type kind h bytes) own) (BreaksKept strict own shared (of_type kind h bytes))
unfolding with_symbols with_patterns with_code
kept-as strict shared types.SymbolDictionary h bytes own =
    let p = of_type types.SymbolDictionary h bytes in
    let P : DecodeError → Type 0 = BreaksSymbolDictionary strict own shared p in
    step P P (symbol_dictionary_at strict own shared p) _ (a-dictionary strict own shared p) (λ e no. no) (λ x is. tt)
kept-as strict shared types.PatternDictionary h bytes own =
    let P : DecodeError → Type 0 = BreaksPatternDictionary strict bytes in
    step P P (pattern_dictionary_at strict bytes) _ (a-pattern_dictionary strict bytes) (λ e no. no) (λ x is. tt)
kept-as strict shared types.Tables h bytes own =
    let P : DecodeError → Type 0 = BreaksCustom (start_of bytes) in
    step P P (table_at bytes) _ (table-step (start_of bytes) (custom_table (start_of bytes)) refl) (λ e no. no) (λ x is. tt)
kept-as strict shared types.Extension h bytes own =
    let P : DecodeError → Type 0 = BreaksExtension strict bytes in
    let r = extension strict bytes in
    step P P r _ (refused-by P r (extension_cause strict bytes r (itself r))) (λ e no. no) (λ x is. tt)
kept-as strict shared types.Reserved h bytes own =
    let P : DecodeError → Type 0 = BreaksKept strict own shared (of_type types.Reserved h bytes) in
    step P P (refuse_if strict (Segment UnknownType)) _ (refusal P strict (Segment UnknownType) (λ is. (is, refl))) (λ e no. no) (λ x is. tt)
kept-as strict shared kind h bytes own = tt

pub a-kept : (strict : Bool) (shared : Names) (p : SegmentView) (own : Names) → Refused (kept_by strict shared p own) (BreaksKept strict own shared p)
a-kept strict shared p own = kept-as strict shared p.header.segment_type p.header p.bytes own

-- ---- any segment
kept-refused : (p : SegmentView) (d : Drawing) (P : DecodeError → Type 0) (r : Result PlacedRegion DecodeError) → Refused r P → Refused (stored p d r) P
kept-refused p d P (Ok region) is = tt
kept-refused p d P (Err e) is = is

drawn-refused : (strict : Bool) (p : SegmentView) (d : Drawing) (P : DecodeError → Type 0) (r : Result PlacedRegion DecodeError) → Refused r P → Refused (shown strict p d r) P
drawn-refused strict p d P (Ok region) is = tt
drawn-refused true p d P (Err e) is = is
drawn-refused false p d P (Err e) is = tt

names-refused : (d : Drawing) (P : DecodeError → Type 0) (r : Result Names DecodeError) → Refused r P → Refused (with_names d r) P
names-refused d P (Ok names) is = tt
names-refused d P (Err e) is = is

a-refinement : (strict is_intermediate : Bool) (p : SegmentView) (d : Drawing) → Refused (refinement_at strict is_intermediate d.grid d.regions p) (BreaksRefinement strict is_intermediate d.grid d.regions p)
a-refinement strict is_intermediate p d =
    let r = refinement_at strict is_intermediate d.grid d.regions p in
    refused-or (BreaksRefinement strict is_intermediate d.grid d.regions p) r (refinement_cause strict is_intermediate d.grid d.regions p r (itself_or_memory r))

module _ (strict : Bool) (globals : Names) (d : Drawing) where
  by-type : (kind : SegmentType) (h : Header) (bytes : List ℕ) → Refused (segment_by strict globals (of_type kind h bytes) d) (BreaksSegment strict globals (of_type kind h bytes) d)
  unfolding immediate intermediate
  by-type types.IntermediateTextRegion h bytes = let p = of_type types.IntermediateTextRegion h bytes in kept-refused p d (BreaksText strict d.names globals p) (text_at strict d.names globals p) (a-text strict d.names globals p)
  by-type types.ImmediateTextRegion h bytes = let p = of_type types.ImmediateTextRegion h bytes in drawn-refused strict p d (BreaksText strict d.names globals p) (text_at strict d.names globals p) (a-text strict d.names globals p)
  by-type types.ImmediateLosslessTextRegion h bytes = let p = of_type types.ImmediateLosslessTextRegion h bytes in drawn-refused strict p d (BreaksText strict d.names globals p) (text_at strict d.names globals p) (a-text strict d.names globals p)
  by-type types.IntermediateHalftoneRegion h bytes = let p = of_type types.IntermediateHalftoneRegion h bytes in kept-refused p d (BreaksHalftoneRegion strict d.names globals p) (halftone_at strict d.names globals p) (a-halftone strict d.names globals p)
  by-type types.ImmediateHalftoneRegion h bytes = let p = of_type types.ImmediateHalftoneRegion h bytes in drawn-refused strict p d (BreaksHalftoneRegion strict d.names globals p) (halftone_at strict d.names globals p) (a-halftone strict d.names globals p)
  by-type types.ImmediateLosslessHalftoneRegion h bytes = let p = of_type types.ImmediateLosslessHalftoneRegion h bytes in drawn-refused strict p d (BreaksHalftoneRegion strict d.names globals p) (halftone_at strict d.names globals p) (a-halftone strict d.names globals p)
  by-type types.IntermediateGenericRegion h bytes = let p = of_type types.IntermediateGenericRegion h bytes in kept-refused p d (BreaksGeneric strict true p) (generic_at strict true p) (a-generic strict true p)
  by-type types.ImmediateGenericRegion h bytes = let p = of_type types.ImmediateGenericRegion h bytes in drawn-refused strict p d (BreaksGeneric strict false p) (generic_at strict false p) (a-generic strict false p)
  by-type types.ImmediateLosslessGenericRegion h bytes = let p = of_type types.ImmediateLosslessGenericRegion h bytes in drawn-refused strict p d (BreaksGeneric strict false p) (generic_at strict false p) (a-generic strict false p)
  by-type types.IntermediateGenericRefinementRegion h bytes = let p = of_type types.IntermediateGenericRefinementRegion h bytes in kept-refused p d (BreaksRefinement strict true d.grid d.regions p) (refinement_at strict true d.grid d.regions p) (a-refinement strict true p d)
  by-type types.ImmediateGenericRefinementRegion h bytes = let p = of_type types.ImmediateGenericRefinementRegion h bytes in drawn-refused strict p d (BreaksRefinement strict false d.grid d.regions p) (refinement_at strict false d.grid d.regions p) (a-refinement strict false p d)
  by-type types.ImmediateLosslessGenericRefinementRegion h bytes = let p = of_type types.ImmediateLosslessGenericRefinementRegion h bytes in drawn-refused strict p d (BreaksRefinement strict false d.grid d.regions p) (refinement_at strict false d.grid d.regions p) (a-refinement strict false p d)
  by-type kind h bytes = let p = of_type kind h bytes in names-refused d (BreaksKept strict d.names globals p) (kept_by strict globals p d.names) (a-kept strict globals p d.names)

  pub a-segment : (p : SegmentView) → Refused (segment_by strict globals p d) (BreaksSegment strict globals p d)
  a-segment p = by-type p.header.segment_type p.header p.bytes
