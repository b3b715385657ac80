-- Where strict reading accepts, lenient reading gives the same, and where that accepts, salvage does: names, pages and files.
use Rattle.std.proofs.Common.{◌≡◌, ℕ, eqb, Bool, true, false, cond, not, ◌&&◌, List, [], ◌∷◌, ◌++◌, length, Option, Some, None, Result, Ok, Err, refl, sym, subst, ap, ◌∙◌}
use Rattle.std.specs.Int.{w32}
use Rattle.std.specs.Option.{option_map_or}
use Rattle.std.specs.Prelude.{if◌then◌else◌, IfOk, is_none, nat_le, option_map, slice_get}
use Rattle.jbig2_base.specs.Results.{◌>>=◌, refuse_if, some_or}
use Rattle.jbig2_base.specs.Fields.{number_at}
use Rattle.jbig2_framing.specs.File.{file_at, file_header_at}
use Rattle.jbig2_base.specs.Grid.{Grid}
use Rattle.jbig2_framing.specs.PageInfo.{first_information, height_of, information_at, initial_page_by, stripes_height}
use Rattle.jbig2_framing.specs.CutOff.{cut_off_by, file_cut_off, file_partial, first_refused, partial_by, sequence_cut_off, sequence_partial, with_partial, with_place}
use Rattle.jbig2_framing.specs.Reading.{is_salvaged, is_strict}
use Rattle.jbig2_framing.specs.declared.cut_off.CutOff.{CutOff}
use Rattle.jbig2_framing.specs.declared.file_header.FileOrganization.{FileOrganization}
use Rattle.jbig2_framing.specs.declared.file_header.FileOrganization.TheVariants.{Sequential, RandomAccess}
use Rattle.jbig2_framing.specs.declared.file_header.FileHeader.{FileHeader}
use Rattle.jbig2_framing.proofs.AgreeingCutOffs.{file-cut-salvaged, file-cut-same, sequence-cut-same}
use Rattle.jbig2_framing.specs.Segment.{Header, SegmentView, segment_at}
use Rattle.jbig2_framing.specs.Sequential.{by_number, is_end_of_file, sequential, sorted_segments}
use Rattle.jbig2_base.specs.declared.error.DecodeError.{DecodeError}
use Rattle.jbig2_base.specs.declared.error.DecodeError.TheVariants.{Format, Segment, Unsupported}
use Rattle.jbig2_base.specs.declared.error.FormatError.TheVariants.{InvalidEndOfPage, MissingPageInfo, PageCountMismatch, UnknownPageHeight}
use Rattle.jbig2_base.specs.declared.error.SegmentError.TheVariants.{InvalidReference, MissingPageAssociation, MissingPatternDictionary}
use Rattle.jbig2_framing.specs.declared.page_info.InitialPage.{InitialPage}
use Rattle.jbig2_framing.specs.declared.reading.Reading.{Reading}
use Rattle.jbig2_framing.specs.declared.reading.Reading.TheVariants.{Strict, Lenient, Salvage}
use Rattle.jbig2_framing.specs.declared.segment.SegmentType.{SegmentType}
use Rattle.jbig2_framing.specs.declared.segment.SegmentType.TheVariants as types
use Rattle.jbig2_coder.specs.PrefixCode.{Member}
use Rattle.jbig2_halftone.specs.Halftone.{halftone_decoded}
use Rattle.jbig2_halftone.specs.HalftoneHeader.{HalftoneHeader, halftone_header_at}
use Rattle.jbig2_halftone.specs.PatternHeader.{PatternHeader, pattern_header_at}
use Rattle.jbig2_halftone.specs.Patterns.{Patterns}
use Rattle.jbig2_halftone.specs.WholeCells.{halftone_part}
use Rattle.jbig2_region.specs.GenericHeader.{GenericHeader, generic_header_at}
use Rattle.jbig2_region.specs.Generic.{generic_decoded}
use Rattle.jbig2_region.specs.RegionInfo.{PlacedRegion}
use Rattle.jbig2_symbol.specs.SymbolHeader.{SymbolHeader, symbol_header_at}
use Rattle.jbig2_symbol.specs.Symbols.{Symbols}
use Rattle.jbig2_text.specs.TextHeader.{TextHeader, text_header_at}
use Rattle.jbig2_text.specs.TextRegion.{text_decoded}
use Rattle.jbig2_page.specs.Files.{PageInFile, ReadFile, association_check, book_at, by_pages, ends_of, before_pages, pages_in_file, page_in_file, cut_off_of, lacks_page, left_out_of, miscounts, of_page, page_in, page_of, part_of_file, segments_at, shared_by, with_part}
use Rattle.jbig2_page.specs.Lenient.{LenientReadingAgrees, ReadingsAgree, SalvageAgrees}
use Rattle.jbig2_page.specs.Names.{Names, ReferredValues, first_kept, kept_by, kept_of, no_names, pattern_dictionary_at, referred_by, symbol_dictionary_at, with_code, with_dictionary, with_number, with_numbers, with_patterns, with_symbols, with_table}
use Rattle.jbig2_page.specs.Page.{Drawing, ReadPage, beginning_of, drawing_of_page, page_from, page_segments, part_of_list, ends_page, immediate, intermediate, strict_fault, with_names, or_left_out, or_passed_over, or_told, blank_page, region_at, regions_height, segment_by, segment_on, segments_drawn, with_cut_off, with_drawn_region, known_height}
use Rattle.jbig2_page.specs.Regions.{generic_at, halftone_at, with_whole_instances, with_whole_rows, patterns_for, referred_region, refinement_at, text_at}
use Rattle.jbig2_framing.specs.Segment.{is_partial}
use Rattle.jbig2_page.specs.declared.kept.Kept.{Kept}
use Rattle.jbig2_page.specs.declared.region.RegionKind.{RegionKind}
use Rattle.jbig2_page.specs.declared.region.RegionKind.TheVariants as kinds
use Rattle.jbig2_framing.proofs.Agreeing.{Relates, Same, agrees-next, relates-last, relates-next, same-guard, same-if, same-itself, same-next, same-refusal, same-then}
use Rattle.jbig2_page.proofs.AgreeingRegions.{generic-header-agrees, generic-same, halftone-header-agrees, halftone-same, lenient_generic, lenient_halftone, lenient_pattern, pattern-header-agrees, patterns-same}
use Rattle.jbig2_framing.proofs.AgreeingSegments.{file-salvaged, file-same, sequential-salvaged, sequential-same, sorted-salvaged}
use Rattle.jbig2_page.proofs.AgreeingSymbols.{lenient_symbols, symbol-header-agrees, symbols-decoded-same}
use Rattle.jbig2_page.proofs.AgreeingTexts.{lenient_text, text-header-agrees, text-same}
use Rattle.jbig2_page.proofs.SegmentTypes.{of_type}
use Rattle.jbig2_page.specs.OtherSegments.{extension}
use Rattle.jbig2_page.specs.PassedOver.{fault_of}
use Rattle.jbig2_page.specs.Globals.{globals_at, KeptGlobals, nothing_shared, or_shared_without, shared_from}

-- ---- what a segment refers to
table-same : (code : Option (List Member)) (r : ReferredValues) → Same (with_table true code r) (with_table false code r)
table-same (Some code) r = refl
table-same None r = tt

either-same : (s : Option Symbols) (code : Option (List Member)) (r : ReferredValues) → Same (option_map_or (λ d. with_dictionary d r) s (with_table true code r)) (option_map_or (λ d. with_dictionary d r) s (with_table false code r))
either-same (Some s) code r = same-itself (with_dictionary s r)
either-same None code r = table-same code r

numbers-same : (own shared : Names) (numbers : List ℕ) (r : ReferredValues) → Same (with_numbers true own shared numbers r) (with_numbers false own shared numbers r)
numbers-same own shared [] r = refl
numbers-same own shared (number ∷ numbers) r =
    same-next (with_number true own shared number r) (with_number false own shared number r) _ _ (either-same (kept_of number own.symbols shared.symbols) (kept_of number own.codes shared.codes) r) (λ more. numbers-same own shared numbers more)

referred-same : (own shared : Names) (numbers : List ℕ) → Same (referred_by true own shared numbers) (referred_by false own shared numbers)
referred-same own shared numbers = numbers-same own shared numbers (record { symbols = []; codes = []; kept = None })

-- ---- dictionaries
symbols-same : (own shared : Names) (p : SegmentView) → Same (symbol_dictionary_at true own shared p) (symbol_dictionary_at false own shared p)
unfolding symbol_dictionary_at
symbols-same own shared p =
    let view : SymbolHeader × List ℕ → SymbolHeader × List ℕ = λ h. (lenient_symbols h.0, h.1) in
    same-next (referred_by true own shared p.header.referred_to_segments) (referred_by false own shared p.header.referred_to_segments) _ _ (referred-same own shared p.header.referred_to_segments) (λ referred.
    agrees-next view (λ s. s) (symbol_header_at true p.bytes) (symbol_header_at false p.bytes) _ _ (symbol-header-agrees p.bytes) (λ header. symbols-decoded-same header.0 referred.symbols referred.codes referred.kept))

with-symbols-same : (shared : Names) (p : SegmentView) (own : Names) → Same (with_symbols true shared p own) (with_symbols false shared p own)
unfolding with_symbols
with-symbols-same shared p own = same-next (symbol_dictionary_at true own shared p) (symbol_dictionary_at false own shared p) _ _ (symbols-same own shared p) (λ symbols. refl)

pattern-dictionary-same : (bytes : List ℕ) → Same (pattern_dictionary_at true bytes) (pattern_dictionary_at false bytes)
unfolding pattern_dictionary_at
pattern-dictionary-same bytes =
    let view : PatternHeader × List ℕ → PatternHeader × List ℕ = λ h. (lenient_pattern h.0, h.1) in
    agrees-next view (λ s. s) (pattern_header_at true bytes) (pattern_header_at false bytes) _ _ (pattern-header-agrees bytes) (λ header. patterns-same header.0)

with-patterns-same : (p : SegmentView) (own : Names) → Same (with_patterns true p own) (with_patterns false p own)
unfolding with_patterns
with-patterns-same p own = same-next (pattern_dictionary_at true p.bytes) (pattern_dictionary_at false p.bytes) _ _ (pattern-dictionary-same p.bytes) (λ patterns. refl)

extension-same : (bytes : List ℕ) → Same (extension true bytes) (extension false bytes)
extension-same bytes = judged (number_at w32 bytes)
  where
    judged : (n : Result (ℕ × List ℕ) DecodeError) → Same (n >>= λ kind. refuse_if (nat_le 2147483648 kind.0) Unsupported) (Ok tt)
    judged (Ok kind) = same-refusal (nat_le 2147483648 kind.0) Unsupported
    judged (Err e) = tt

kept-same : (shared : Names) (kind : SegmentType) (h : Header) (bytes : List ℕ) (own : Names) → Same (kept_by true shared (of_type kind h bytes) own) (kept_by false shared (of_type kind h bytes) own)
kept-same shared types.SymbolDictionary h bytes own = with-symbols-same shared (of_type types.SymbolDictionary h bytes) own
kept-same shared types.PatternDictionary h bytes own = with-patterns-same (of_type types.PatternDictionary h bytes) own
kept-same shared types.Tables h bytes own = same-itself (with_code (of_type types.Tables h bytes) own)
kept-same shared types.Extension h bytes own = same-next (extension true bytes) (extension false bytes) (λ known. Ok own) (λ known. Ok own) (extension-same bytes) (λ known. refl)
kept-same shared types.Reserved h bytes own = tt
kept-same shared _ h bytes own = refl

same-ok-of : {A : Type 0} (r s : Result A DecodeError) (x : A) → Same r s → r ≡ Ok x → s ≡ Ok x
same-ok-of {A = A} r s x same is = subst (λ (t : Result A DecodeError). Same t s) is same

pub kept-any : (strict : Bool) (shared : Names) (p : SegmentView) (own names : Names) → kept_by true shared p own ≡ Ok names → kept_by strict shared p own ≡ Ok names
kept-any true shared p own names is = is
kept-any false shared p own names is = same-ok-of (kept_by true shared p own) (kept_by false shared p own) names (kept-same shared p.header.segment_type p.header p.bytes own) is

without-same : (fault : Option DecodeError) (number : ℕ) (shared : KeptGlobals) (r s : Result Names DecodeError) → Same r s → Same (or_shared_without Strict fault number shared r) (or_shared_without Lenient fault number shared s)
without-same fault number shared (Ok names) s same = ap (λ (t : Result Names DecodeError). or_shared_without Lenient fault number shared t) same
without-same fault number shared (Err e) s same = tt

named-same : (ps : List SegmentView) (shared : KeptGlobals) → Same (shared_from Strict ps shared) (shared_from Lenient ps shared)
named-same [] shared = refl
named-same (p ∷ ps) shared =
    let kept : Result Names DecodeError = kept_by true no_names p shared.names in
    let other : Result Names DecodeError = kept_by false no_names p shared.names in
    let fault : Option DecodeError = fault_of (kept_by true no_names p shared.names) in
    same-next (or_shared_without Strict fault p.header.segment_number shared kept) (or_shared_without Lenient fault p.header.segment_number shared other) _ _
    (without-same fault p.header.segment_number shared kept other (kept-same no_names p.header.segment_type p.header p.bytes shared.names)) (λ more. named-same ps more)

-- salvage names what lenient reading does
without-salvaged : (fault : Option DecodeError) (number : ℕ) (shared : KeptGlobals) (r : Result Names DecodeError) → Same (or_shared_without Lenient fault number shared r) (or_shared_without Salvage fault number shared r)
without-salvaged fault number shared (Ok names) = refl
without-salvaged fault number shared (Err e) = tt

named-salvaged : (ps : List SegmentView) (shared : KeptGlobals) → Same (shared_from Lenient ps shared) (shared_from Salvage ps shared)
named-salvaged [] shared = refl
named-salvaged (p ∷ ps) shared =
    let kept : Result Names DecodeError = kept_by false no_names p shared.names in
    let fault : Option DecodeError = fault_of (kept_by true no_names p shared.names) in
    same-next (or_shared_without Lenient fault p.header.segment_number shared kept) (or_shared_without Salvage fault p.header.segment_number shared kept) _ _ (without-salvaged fault p.header.segment_number shared kept) (λ more. named-salvaged ps more)

-- ---- regions
-- whole instances don't depend on the reading
text-decoded-same : (partial : Bool) (h : TextHeader) (symbols : List Grid) (codes : List (List Member)) → Same (text_decoded (with_whole_instances partial h symbols codes) symbols codes) (text_decoded (with_whole_instances partial (lenient_text h) symbols codes) symbols codes)
text-decoded-same true h symbols codes = text-same (with_whole_instances true h symbols codes) symbols codes
text-decoded-same false h symbols codes = text-same h symbols codes

text_at-same : (own shared : Names) (p : SegmentView) → Same (text_at true own shared p) (text_at false own shared p)
unfolding text_at
text_at-same own shared p =
    let view : TextHeader × List ℕ → TextHeader × List ℕ = λ h. (lenient_text h.0, h.1) in
    same-next (referred_by true own shared p.header.referred_to_segments) (referred_by false own shared p.header.referred_to_segments) _ _ (referred-same own shared p.header.referred_to_segments) (λ referred.
    agrees-next view (λ s. s) (text_header_at (length referred.symbols) true p.bytes) (text_header_at (length referred.symbols) false p.bytes) _ _ (text-header-agrees (length referred.symbols) p.bytes) (λ header. text-decoded-same (is_partial p) header.0 referred.symbols referred.codes))

cells-same : (partial : Bool) (h : HalftoneHeader) (patterns : Patterns) → Same (if partial then halftone_part h patterns else halftone_decoded h patterns) (if partial then halftone_part (lenient_halftone h) patterns else halftone_decoded (lenient_halftone h) patterns)
unfolding halftone_part
cells-same true h patterns = same-itself (halftone_part h patterns)
cells-same false h patterns = halftone-same h patterns

halftone_at-same : (own shared : Names) (p : SegmentView) → Same (halftone_at true own shared p) (halftone_at false own shared p)
unfolding halftone_at
halftone_at-same own shared p =
    let view : HalftoneHeader × List ℕ → HalftoneHeader × List ℕ = λ h. (lenient_halftone h.0, h.1) in
    same-then (some_or (Segment MissingPatternDictionary) (patterns_for own shared p.header.referred_to_segments)) _ _ (λ patterns.
    agrees-next view (λ s. s) (halftone_header_at true p.bytes) (halftone_header_at false p.bytes) _ _ (halftone-header-agrees p.bytes) (λ header. cells-same (is_partial p) header.0 patterns))

-- whole rows don't depend on the reading
whole-same : (partial : Bool) (h : GenericHeader) → with_whole_rows partial (lenient_generic h) ≡ lenient_generic (with_whole_rows partial h)
whole-same true h = refl
whole-same false h = refl

decoded-same : (partial : Bool) (h : GenericHeader) → Same (generic_decoded (with_whole_rows partial h)) (generic_decoded (with_whole_rows partial (lenient_generic h)))
decoded-same partial h =
    subst (λ (other : GenericHeader). Same (generic_decoded (with_whole_rows partial h)) (generic_decoded other)) (sym (whole-same partial h)) (generic-same (with_whole_rows partial h))

generic_at-same : (is_intermediate : Bool) (p : SegmentView) → Same (generic_at true is_intermediate p) (generic_at false is_intermediate p)
unfolding generic_at
generic_at-same is_intermediate p =
    let view : GenericHeader × List ℕ → GenericHeader × List ℕ = λ h. (lenient_generic h.0, h.1) in
    let unknown : Bool = not is_intermediate && is_none p.header.data_length in
    agrees-next view (λ s. s) (generic_header_at unknown true p.bytes) (generic_header_at unknown false p.bytes) _ _ (generic-header-agrees unknown p.bytes) (λ header. decoded-same (is_partial p) header.0)

referred_region-same : (numbers : List ℕ) (regions : List (Kept PlacedRegion)) → Same (referred_region true numbers regions) (referred_region false numbers regions)
referred_region-same [] regions = refl
referred_region-same (number ∷ others) regions =
    same-next (refuse_if (is_none (first_kept number regions)) (Segment InvalidReference)) (Ok tt) _ _ (same-refusal (is_none (first_kept number regions)) (Segment InvalidReference)) (λ known. refl)

refinement_at-same : (is_intermediate : Bool) (page : Grid) (regions : List (Kept PlacedRegion)) (p : SegmentView) → Same (refinement_at true is_intermediate page regions p) (refinement_at false is_intermediate page regions p)
unfolding refinement_at
refinement_at-same is_intermediate page regions p =
    same-next (referred_region true p.header.referred_to_segments regions) (referred_region false p.header.referred_to_segments regions) _ _ (referred_region-same p.header.referred_to_segments regions) (λ referred.
    same-next (refuse_if (is_intermediate && is_none referred) (Segment InvalidReference)) (Ok tt) _ _ (same-refusal (is_intermediate && is_none referred) (Segment InvalidReference)) (λ known. same-itself _))

region-same : (globals : Names) (kind : RegionKind) (is_intermediate : Bool) (p : SegmentView) (d : Drawing) → Same (region_at true globals kind is_intermediate p d) (region_at false globals kind is_intermediate p d)
region-same globals kinds.Text is_intermediate p d = text_at-same d.names globals p
region-same globals kinds.Halftone is_intermediate p d = halftone_at-same d.names globals p
region-same globals kinds.Generic is_intermediate p d = generic_at-same is_intermediate p
region-same globals kinds.GenericRefinement is_intermediate p d = refinement_at-same is_intermediate d.grid d.regions p

-- ---- segments of a page
passed-same : (p : SegmentView) (d : Drawing) (r s : Result Drawing DecodeError) → Same r s → Same (or_passed_over true p d r) (or_passed_over false p d s)
passed-same p d (Ok e) s same = ap (λ (t : Result Drawing DecodeError). or_passed_over false p d t) same
passed-same p d (Err e) s same = tt

immediate-same : (globals : Names) (kind : RegionKind) (p : SegmentView) (d : Drawing) → Same (immediate true globals kind p d) (immediate false globals kind p d)
unfolding immediate
immediate-same globals kind p d =
    passed-same p d (with_drawn_region d (region_at true globals kind false p d)) (with_drawn_region d (region_at false globals kind false p d))
    (same-next (region_at true globals kind false p d) (region_at false globals kind false p d) _ _ (region-same globals kind false p d) (λ r. refl))

intermediate-same : (globals : Names) (kind : RegionKind) (p : SegmentView) (d : Drawing) → Same (intermediate true globals kind p d) (intermediate false globals kind p d)
unfolding intermediate
intermediate-same globals kind p d = same-next (region_at true globals kind true p d) (region_at false globals kind true p d) _ _ (region-same globals kind true p d) (λ r. refl)

keeping-same : (globals : Names) (kind : SegmentType) (h : Header) (bytes : List ℕ) (d : Drawing) → Same (with_names d (kept_by true globals (of_type kind h bytes) d.names)) (with_names d (kept_by false globals (of_type kind h bytes) d.names))
keeping-same globals kind h bytes d = same-next (kept_by true globals (of_type kind h bytes) d.names) (kept_by false globals (of_type kind h bytes) d.names) _ _ (kept-same globals kind h bytes d.names) (λ names. refl)

typed-same : (globals : Names) (kind : SegmentType) (h : Header) (bytes : List ℕ) (d : Drawing) → Same (segment_by true globals (of_type kind h bytes) d) (segment_by false globals (of_type kind h bytes) d)
typed-same globals types.IntermediateTextRegion h bytes d = intermediate-same globals kinds.Text (of_type types.IntermediateTextRegion h bytes) d
typed-same globals types.ImmediateTextRegion h bytes d = immediate-same globals kinds.Text (of_type types.ImmediateTextRegion h bytes) d
typed-same globals types.ImmediateLosslessTextRegion h bytes d = immediate-same globals kinds.Text (of_type types.ImmediateLosslessTextRegion h bytes) d
typed-same globals types.IntermediateHalftoneRegion h bytes d = intermediate-same globals kinds.Halftone (of_type types.IntermediateHalftoneRegion h bytes) d
typed-same globals types.ImmediateHalftoneRegion h bytes d = immediate-same globals kinds.Halftone (of_type types.ImmediateHalftoneRegion h bytes) d
typed-same globals types.ImmediateLosslessHalftoneRegion h bytes d = immediate-same globals kinds.Halftone (of_type types.ImmediateLosslessHalftoneRegion h bytes) d
typed-same globals types.IntermediateGenericRegion h bytes d = intermediate-same globals kinds.Generic (of_type types.IntermediateGenericRegion h bytes) d
typed-same globals types.ImmediateGenericRegion h bytes d = immediate-same globals kinds.Generic (of_type types.ImmediateGenericRegion h bytes) d
typed-same globals types.ImmediateLosslessGenericRegion h bytes d = immediate-same globals kinds.Generic (of_type types.ImmediateLosslessGenericRegion h bytes) d
typed-same globals types.IntermediateGenericRefinementRegion h bytes d = intermediate-same globals kinds.GenericRefinement (of_type types.IntermediateGenericRefinementRegion h bytes) d
typed-same globals types.ImmediateGenericRefinementRegion h bytes d = immediate-same globals kinds.GenericRefinement (of_type types.ImmediateGenericRefinementRegion h bytes) d
typed-same globals types.ImmediateLosslessGenericRefinementRegion h bytes d = immediate-same globals kinds.GenericRefinement (of_type types.ImmediateLosslessGenericRefinementRegion h bytes) d
typed-same globals kind h bytes d = keeping-same globals kind h bytes d

-- what strict reading draws, every reading draws
pub segment-any : (strict : Bool) (globals : Names) (p : SegmentView) (d e : Drawing) → segment_by true globals p d ≡ Ok e → segment_by strict globals p d ≡ Ok e
segment-any true globals p d e is = is
segment-any false globals p d e is = same-ok-of (segment_by true globals p d) (segment_by false globals p d) e (typed-same globals p.header.segment_type p.header p.bytes d) is

left-same : (p : SegmentView) (d : Drawing) (r s : Result Drawing DecodeError) → Same r s → Same (or_left_out Strict p d r) (or_left_out Lenient p d s)
left-same p d (Ok e) s same = ap (λ (t : Result Drawing DecodeError). or_left_out Lenient p d t) same
left-same p d (Err e) s same = tt

told-same : (fault : Option DecodeError) (number : ℕ) (d : Drawing) (r s : Result Drawing DecodeError) → Same r s → Same (or_told fault number d r) (or_told fault number d s)
told-same None number d r s same = same
told-same (Some fault) number d (Ok e) s same =
    subst (λ (t : Result Drawing DecodeError). Same (or_told (Some fault) number d (Ok e)) (or_told (Some fault) number d t)) (sym same) (same-itself (or_told (Some fault) number d (Ok e)))
told-same (Some fault) number d (Err e) s same = tt

drawn-same : (globals : Names) (ps : List SegmentView) (d : Drawing) → Same (segments_drawn Strict globals ps d) (segments_drawn Lenient globals ps d)
drawn-same globals [] d = refl
drawn-same globals (p ∷ ps) d =
    same-if (ends_page p.header.segment_type) (Ok d) (Ok d) _ _ refl
    (same-next (segment_on Strict globals p d) (segment_on Lenient globals p d) _ _
    (told-same (strict_fault globals p d) p.header.segment_number d (or_left_out Strict p d (segment_by true globals p d)) (or_left_out Lenient p d (segment_by false globals p d))
    (left-same p d (segment_by true globals p d) (segment_by false globals p d) (typed-same globals p.header.segment_type p.header p.bytes d))) (λ e. drawn-same globals ps e))

-- salvage draws what lenient reading does
left-salvaged : (p : SegmentView) (d : Drawing) (r : Result Drawing DecodeError) → Same (or_left_out Lenient p d r) (or_left_out Salvage p d r)
left-salvaged p d (Ok e) = refl
left-salvaged p d (Err e) = tt

drawn-salvaged : (globals : Names) (ps : List SegmentView) (d : Drawing) → Same (segments_drawn Lenient globals ps d) (segments_drawn Salvage globals ps d)
drawn-salvaged globals [] d = refl
drawn-salvaged globals (p ∷ ps) d =
    same-if (ends_page p.header.segment_type) (Ok d) (Ok d) _ _ refl
    (same-next (segment_on Lenient globals p d) (segment_on Salvage globals p d) _ _
    (told-same (strict_fault globals p d) p.header.segment_number d (or_left_out Lenient p d (segment_by false globals p d)) (or_left_out Salvage p d (segment_by false globals p d)) (left-salvaged p d (segment_by false globals p d))) (λ e. drawn-salvaged globals ps e))

-- ---- what a page begins as
beginning-same : (ps : List SegmentView) → Same (beginning_of Strict ps) (beginning_of Lenient ps)
unfolding beginning_of
beginning-same ps = same-itself (initial_page_by (stripes_height ps) ps)

-- a height that lenient reading finds, salvage finds
height-salvaged : (stated stripes regions : ℕ) → Same (height_of stated stripes) (height_of stated (cond (eqb stripes 0) regions stripes))
height-salvaged stated stripes regions = same-if (eqb stated 4294967295) _ _ (Ok stated) (Ok stated) (open-height (eqb stripes 0) refl) refl
  where
    open-height : (b : Bool) → eqb stripes 0 ≡ b → Same (refuse_if (eqb stripes 0) (Format UnknownPageHeight) >>= λ known. Ok stripes) (refuse_if (eqb (cond (eqb stripes 0) regions stripes) 0) (Format UnknownPageHeight) >>= λ known. Ok (cond (eqb stripes 0) regions stripes))
    open-height true none = rw none tt
    open-height false some = rw (some, some) refl

beginning-salvaged : (ps : List SegmentView) → Same (beginning_of Lenient ps) (beginning_of Salvage ps)
unfolding beginning_of
beginning-salvaged ps =
    same-then (first_information ps) _ _ (λ first. same-then (information_at first.bytes) _ _ (λ info.
    same-next (height_of info.0.height (stripes_height ps)) (height_of info.0.height (known_height Salvage ps)) _ _ (height-salvaged info.0.height (stripes_height ps) (regions_height ps)) (λ height. same-itself _)))

-- ---- associations
associated-same : (ps : List SegmentView) → Same (association_check true ps) (association_check false ps)
associated-same [] = refl
associated-same (p ∷ ps) = same-guard (lacks_page true p.header) (Segment MissingPageAssociation) (association_check true ps) (association_check false ps) (associated-same ps)

-- ---- one reading and another, which gives what the first gives
record Milder (one other : Reading) : Type 0 where
  lists : (bytes : List ℕ) → Same (sequential one bytes) (sequential other bytes)
  files : (bytes : List ℕ) → Same (file_at one bytes) (file_at other bytes)
  sequences : (bytes : List ℕ) → IfOk (sequential one bytes) (λ ps. sequence_cut_off one bytes ≡ sequence_cut_off other bytes)
  cut_files : (bytes : List ℕ) → IfOk (file_at one bytes) (λ file. file_cut_off one bytes ≡ file_cut_off other bytes)
  kept_of : (ps : List SegmentView) (shared : KeptGlobals) → Same (shared_from one ps shared) (shared_from other ps shared)
  drawn : (globals : Names) (ps : List SegmentView) (d : Drawing) → Same (segments_drawn one globals ps d) (segments_drawn other globals ps d)
  begins : (ps : List SegmentView) → Same (beginning_of one ps) (beginning_of other ps)
  strictly : (b : Bool) (e : DecodeError) → Same (refuse_if (is_strict one && b) e) (refuse_if (is_strict other && b) e)
  associations : (ps : List SegmentView) → Same (association_check (is_strict one) ps) (association_check (is_strict other) ps)
  refusals : (e : DecodeError) → is_salvaged one e ≡ false

-- ---- globals
sorted-milder : (one other : Reading) → Milder one other → (bytes : List ℕ) → Same (sorted_segments one bytes) (sorted_segments other bytes)
sorted-milder one other m bytes = same-next (sequential one bytes) (sequential other bytes) _ _ (m.lists bytes) (λ ps. refl)

-- ---- embedded pages
-- a page, and the same in the other reading
record SamePage (one other : Reading) (page twin : ReadPage) : Type 0 where
  first : page.reading ≡ one
  second : twin.reading ≡ other
  initial_page : twin.initial_page ≡ page.initial_page
  segments : twin.segments ≡ page.segments
  globals : Same page.globals twin.globals
  cut_off : twin.cut_off ≡ page.cut_off

-- what is known of a list that is read
given : {X Y : Type 0} (R : X → Y → Type 0) (C : Type 0) (r : Result (List SegmentView) DecodeError) (more : List SegmentView) (next : List SegmentView → Result X DecodeError) (right : Result Y DecodeError) → IfOk r (λ ps. C)
    → (C → Relates R ((r >>= λ ps. Ok (by_number (ps ++ more))) >>= next) right) → Relates R ((r >>= λ ps. Ok (by_number (ps ++ more))) >>= next) right
given R C (Ok ps) more next right is each = each is
given R C (Err e) more next right is each = tt

-- the part of a segment that is taken as the last one
abbrev part_of : Reading → List ℕ → List SegmentView
part_of reading bytes = part_of_list reading (sequence_partial reading bytes)

page-milder : (one other : Reading) → Milder one other → (bytes : List ℕ) → part_of one bytes ≡ part_of other bytes → Same (page_segments one bytes) (page_segments other bytes)
page-milder one other m bytes part =
    same-next (sequential one bytes) (sequential other bytes) _ _ (m.lists bytes) (λ ps.
    ap (λ (more : List SegmentView). let r : Result (List SegmentView) DecodeError = Ok (by_number (ps ++ more)) in r) (sym part))

page-relates : (one other : Reading) → Milder one other → (names : Names) (bytes : List ℕ) → part_of one bytes ≡ part_of other bytes → Relates (SamePage one other) (page_from one names bytes) (page_from other names bytes)
unfolding page_from
page-relates one other m names bytes part = given (SamePage one other) (sequence_cut_off one bytes ≡ sequence_cut_off other bytes) (sequential one bytes) (part_of one bytes) _ _ (m.sequences bytes) (λ cut.
    relates-next (SamePage one other) (page_segments one bytes) (page_segments other bytes) _ _ (page-milder one other m bytes part) (λ ps.
    relates-next (SamePage one other) (beginning_of one ps) (beginning_of other ps) _ _ (m.begins ps) (λ initial_page. (
      record { reading = other; initial_page = initial_page; segments = ps; globals = Ok names; cut_off = sequence_cut_off other bytes },
      refl,
      record { first = refl; second = refl; initial_page = refl; segments = refl; globals = refl; cut_off = sym cut },
    ))))

page-same : (one other : Reading) → Milder one other → (page twin : ReadPage) → SamePage one other page twin → Same (drawing_of_page page) (drawing_of_page twin)
page-same one other m page twin same =
    rw (same.first, same.second, same.initial_page, same.segments, same.cut_off)
    (same-next page.globals twin.globals (λ names. segments_drawn one names page.segments (blank_page page.initial_page) >>= λ d. told page.cut_off d) (λ names. segments_drawn other names page.segments (blank_page page.initial_page) >>= λ d. told page.cut_off d) same.globals (λ names.
    same-next (segments_drawn one names page.segments (blank_page page.initial_page)) (segments_drawn other names page.segments (blank_page page.initial_page)) (λ d. told page.cut_off d) (λ d. told page.cut_off d) (m.drawn names page.segments (blank_page page.initial_page)) (λ d. refl)))
  where
    told : Option CutOff → Drawing → Result Drawing DecodeError
    told c d = Ok (with_cut_off c d)

-- ---- files
filed-same : (one other : Reading) → Milder one other → (own : List SegmentView) → Same (page_in_file one own) (page_in_file other own)
unfolding page_in_file
filed-same one other m own =
    same-next (refuse_if (is_strict one && not (eqb (ends_of own) 1)) (Format InvalidEndOfPage)) (refuse_if (is_strict other && not (eqb (ends_of own) 1)) (Format InvalidEndOfPage)) _ _ (m.strictly (not (eqb (ends_of own) 1)) (Format InvalidEndOfPage)) (λ ended.
    same-next (beginning_of one own) (beginning_of other own) _ _ (m.begins own) (λ initial_page. refl))

before-same : (one other : Reading) → Milder one other → (r s : Result PageInFile DecodeError) (others more : Result (List PageInFile) DecodeError) → Same r s → Same others more → Same (before_pages one r others) (before_pages other s more)
before-same one other m (Ok page) s others more first rest =
    subst (λ (t : Result PageInFile DecodeError). Same (before_pages one (Ok page) others) (before_pages other t more)) (sym first) (same-next others more _ _ rest (λ pages. refl))
before-same one other m (Err e) s others more first rest = rw (m.refusals e) tt

each-same : (one other : Reading) → Milder one other → (all : List (List SegmentView)) → Same (pages_in_file one all) (pages_in_file other all)
each-same one other m [] = refl
each-same one other m (own ∷ others) = before-same one other m (page_in_file one own) (page_in_file other own) (pages_in_file one others) (pages_in_file other others) (filed-same one other m own) (each-same one other m others)

shared-same : (one other : Reading) → Milder one other → (pages : List PageInFile) (shared : List SegmentView) → Same (shared_by one pages shared) (shared_by other pages shared)
shared-same one other m [] shared = refl
shared-same one other m (page ∷ pages) shared = m.kept_of shared (nothing_shared None)

-- a file, and the same in the other reading
record SameFile (one other : Reading) (book twin : ReadFile) : Type 0 where
  first : book.reading ≡ one
  second : twin.reading ≡ other
  organization : twin.organization ≡ book.organization
  pages : twin.pages ≡ book.pages
  globals : Same book.globals twin.globals
  cut_off : twin.cut_off ≡ book.cut_off

-- what is known of a file that is read
given-file : {X Y : Type 0} (R : X → Y → Type 0) (C : Type 0) (r : Result (FileHeader × List SegmentView) DecodeError) (more : List SegmentView) (next : FileHeader × List SegmentView → Result X DecodeError) (right : Result Y DecodeError) → IfOk r (λ file. C)
    → (C → Relates R ((r >>= λ file. Ok (file.0, with_part more file.1)) >>= next) right) → Relates R ((r >>= λ file. Ok (file.0, with_part more file.1)) >>= next) right
given-file R C (Ok file) more next right is each = each is
given-file R C (Err e) more next right is each = tt

file-milder : (one other : Reading) → Milder one other → (bytes : List ℕ) → part_of_file one bytes ≡ part_of_file other bytes → Same (segments_at one bytes) (segments_at other bytes)
unfolding segments_at
file-milder one other m bytes part =
    same-next (file_at one bytes) (file_at other bytes) _ _ (m.files bytes) (λ file.
    ap (λ (more : List SegmentView). let r : Result (FileHeader × List SegmentView) DecodeError = Ok (file.0, with_part more file.1) in r) (sym part))

book-relates : (one other : Reading) → Milder one other → (bytes : List ℕ) → part_of_file one bytes ≡ part_of_file other bytes → Relates (SameFile one other) (book_at one bytes) (book_at other bytes)
unfolding book_at segments_at
book-relates one other m bytes part = given-file (SameFile one other) (file_cut_off one bytes ≡ file_cut_off other bytes) (file_at one bytes) (part_of_file one bytes) _ _ (m.cut_files bytes) (λ cut.
    relates-next (SameFile one other) (segments_at one bytes) (segments_at other bytes) _ _ (file-milder one other m bytes part) (λ file.
    relates-next (SameFile one other) (association_check (is_strict one) file.1) (association_check (is_strict other) file.1) _ _ (m.associations file.1) (λ known.
    relates-next (SameFile one other) (refuse_if (is_strict one && miscounts file.0.number_of_pages (length (by_pages file.1))) (Format PageCountMismatch)) (refuse_if (is_strict other && miscounts file.0.number_of_pages (length (by_pages file.1))) (Format PageCountMismatch)) _ _ (m.strictly (miscounts file.0.number_of_pages (length (by_pages file.1))) (Format PageCountMismatch)) (λ counted.
    relates-next (SameFile one other) (pages_in_file one (by_pages file.1)) (pages_in_file other (by_pages file.1)) _ _ (each-same one other m (by_pages file.1)) (λ pages. (
      record { reading = other; organization = file.0.organization; pages = pages; globals = shared_by other pages (of_page 0 file.1); left_out = left_out_of other (by_pages file.1); cut_off = file_cut_off other bytes },
      refl,
      record { first = refl; second = refl; organization = refl; pages = refl; globals = shared-same one other m pages (of_page 0 file.1); cut_off = sym cut },
    ))))))

file-page-same : (one other : Reading) → Milder one other → (book twin : ReadFile) → SameFile one other book twin → (page : Option PageInFile) → Same (some_or (Format MissingPageInfo) (option_map (page_in book) page) >>= λ p. drawing_of_page p) (some_or (Format MissingPageInfo) (option_map (page_in twin) page) >>= λ p. drawing_of_page p)
file-page-same one other m book twin same (Some page) =
    page-same one other m (page_in book page) (page_in twin page) (record {
      first = same.first;
      second = same.second;
      initial_page = refl;
      segments = refl;
      globals = same-next book.globals twin.globals _ _ same.globals (λ shared. refl);
      cut_off = ap (λ (organization : FileOrganization). cut_off_of organization page twin.cut_off) same.organization ∙ ap (λ (c : Option CutOff). cut_off_of book.organization page c) same.cut_off;
    })
file-page-same one other m book twin same None = tt

file-drawn : (one other : Reading) → Milder one other → (book twin : ReadFile) (index : ℕ) → SameFile one other book twin → Same (some_or (Format MissingPageInfo) (page_of book index) >>= λ page. drawing_of_page page) (some_or (Format MissingPageInfo) (page_of twin index) >>= λ page. drawing_of_page page)
file-drawn one other m book twin index same =
    subst (λ (pages : List PageInFile). Same (some_or (Format MissingPageInfo) (page_of book index) >>= λ page. drawing_of_page page) (some_or (Format MissingPageInfo) (option_map (page_in twin) (slice_get pages index)) >>= λ page. drawing_of_page page)) (sym same.pages)
    (file-page-same one other m book twin same (slice_get book.pages index))

-- ---- the laws
strict-lenient : Milder Strict Lenient
strict-lenient = record {
  lists = sequential-same;
  files = file-same;
  sequences = sequence-cut-same;
  cut_files = file-cut-same;
  kept_of = named-same;
  drawn = drawn-same;
  begins = beginning-same;
  strictly = λ b e. same-refusal b e;
  associations = associated-same;
  refusals = λ e. refl;
}

any-list : (r : Result (List SegmentView) DecodeError) (c : Option CutOff) → IfOk r (λ ps. c ≡ c)
any-list (Ok ps) c = refl
any-list (Err e) c = tt

lenient-salvage : Milder Lenient Salvage
lenient-salvage = record {
  lists = sequential-salvaged;
  files = file-salvaged;
  sequences = λ bytes. any-list (sequential Lenient bytes) (sequence_cut_off Lenient bytes);
  cut_files = file-cut-salvaged;
  kept_of = named-salvaged;
  drawn = drawn-salvaged;
  begins = beginning-salvaged;
  strictly = λ b e. refl;
  associations = λ ps. same-itself (association_check false ps);
  refusals = λ e. refl;
}

globals-strictly : (bytes : List ℕ) → Same (globals_at Strict bytes) (globals_at Lenient bytes)
unfolding globals_at
globals-strictly bytes = by (sequential Strict bytes) (sequential Lenient bytes) (sequence_cut_off Strict bytes) (sequence_cut_off Lenient bytes) (sequential-same bytes) (sequence-cut-same bytes)
  where
    by : (r s : Result (List SegmentView) DecodeError) (c other : Option CutOff) → Same r s → IfOk r (λ ps. c ≡ other) → Same ((r >>= λ ps. Ok (by_number ps)) >>= λ ps. shared_from Strict ps (nothing_shared c)) ((s >>= λ ps. Ok (by_number ps)) >>= λ ps. shared_from Lenient ps (nothing_shared other))
    by (Ok ps) s c other first cut =
        subst (λ (t : Result (List SegmentView) DecodeError). Same (shared_from Strict (by_number ps) (nothing_shared c)) ((t >>= λ qs. Ok (by_number qs)) >>= λ qs. shared_from Lenient qs (nothing_shared other))) (sym first)
        (subst (λ (o : Option CutOff). Same (shared_from Strict (by_number ps) (nothing_shared c)) (shared_from Lenient (by_number ps) (nothing_shared o))) cut (named-same (by_number ps) (nothing_shared c)))
    by (Err e) s c other first cut = tt

globals-salvaged : (bytes : List ℕ) → Same (globals_at Lenient bytes) (globals_at Salvage bytes)
unfolding globals_at
globals-salvaged bytes = same-next (sorted_segments Lenient bytes) (sorted_segments Salvage bytes) _ _ (sorted-salvaged bytes) (λ ps. named-salvaged ps (nothing_shared (sequence_cut_off Lenient bytes)))

-- a list that doesn't end early has no part of a segment
pub no-part : (bytes : List ℕ) → sequence_cut_off Salvage bytes ≡ None → sequence_partial Salvage bytes ≡ None
no-part bytes whole = by (first_refused (segment_at false) ends (length bytes) bytes) whole
  where
    ends : SegmentView → Bool
    ends p = is_end_of_file p.header.segment_type

    by : (place : Option (List ℕ × DecodeError)) → with_place false place ≡ None → with_partial false place ≡ None
    by None is = refl
    by (Some place) is = absurd (cc)

-- the same of a file
abbrev cut_in : Result (FileHeader × List ℕ) DecodeError → Option CutOff
cut_in (Ok header) = cut_off_by header.0.organization Lenient header.1
cut_in (Err e) = None

abbrev part_in : Result (FileHeader × List ℕ) DecodeError → Option SegmentView
part_in (Ok header) = partial_by header.0.organization Salvage header.1
part_in (Err e) = None

no-file-part : (bytes : List ℕ) → file_cut_off Lenient bytes ≡ None → file_partial Salvage bytes ≡ None
unfolding file_cut_off file_partial
no-file-part bytes whole = by (file_header_at bytes) whole
  where
    organized : (organization : FileOrganization) (rest : List ℕ) → cut_off_by organization Lenient rest ≡ None → partial_by organization Salvage rest ≡ None
    organized Sequential rest none = no-part rest none
    organized RandomAccess rest none = refl

    by : (header : Result (FileHeader × List ℕ) DecodeError) → cut_in header ≡ None → part_in header ≡ None
    by (Ok header) none = organized header.0.organization header.1 none
    by (Err e) none = refl

agree : (one other : Reading) (IsPage IsFile : List ℕ → Type 0) → Milder one other → ((bytes : List ℕ) → IsPage bytes → part_of one bytes ≡ part_of other bytes) → ((bytes : List ℕ) → IsFile bytes → part_of_file one bytes ≡ part_of_file other bytes) → ((bytes : List ℕ) → Same (globals_at one bytes) (globals_at other bytes)) → ReadingsAgree one other IsPage IsFile
agree one other IsPage IsFile m part file_part globals = record {
  globals = globals;
  page = λ names bytes of. relates-last (SamePage one other) (page_from one names bytes) (page_from other names bytes) _ _ (page-relates one other m names bytes (part bytes of)) (λ page twin same.
      ap (λ (initial_page : InitialPage). let r : Result InitialPage DecodeError = Ok initial_page in r) same.initial_page);
  drawing = λ names bytes of. relates-last (SamePage one other) (page_from one names bytes) (page_from other names bytes) _ _ (page-relates one other m names bytes (part bytes of)) (λ page twin same. page-same one other m page twin same);
  pages = λ bytes of. relates-last (SameFile one other) (book_at one bytes) (book_at other bytes) _ _ (book-relates one other m bytes (file_part bytes of)) (λ book twin same.
      ap (λ (pages : List PageInFile). let r : Result (List PageInFile) DecodeError = Ok pages in r) same.pages);
  drawings = λ bytes index of. relates-last (SameFile one other) (book_at one bytes) (book_at other bytes) _ _ (book-relates one other m bytes (file_part bytes of)) (λ book twin same. file-drawn one other m book twin index same);
}

pub lenient_reading_agrees : LenientReadingAgrees
lenient_reading_agrees = agree Strict Lenient _ _ strict-lenient (λ bytes _. refl) (λ bytes _. refl) globals-strictly

pub salvage_agrees : SalvageAgrees
salvage_agrees =
    agree Lenient Salvage _ _ lenient-salvage (λ bytes whole. sym (ap (λ (o : Option SegmentView). part_of_list Salvage o) (no-part bytes whole)))
    (λ bytes whole. sym (ap (λ (o : Option SegmentView). part_of_list Salvage o) (no-file-part bytes whole))) globals-salvaged
