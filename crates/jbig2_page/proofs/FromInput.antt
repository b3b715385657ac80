-- Law: no definition returns an error that bytes cannot bring about: that of files, of pages and of what they draw.
use Rattle.std.proofs.Common.{ℕ, eqb, Bool, true, false, List, [], ◌∷◌, length, Option, Some, None, Result, Ok, Err}
use Rattle.std.specs.Prelude.{IfOk, ◌&&◌}
use Rattle.std.specs.Option.{option_map_or}
use Rattle.jbig2_base.specs.Results.{◌>>=◌, refuse_if, some_or}
use Rattle.jbig2_framing.specs.File.{file_at}
use Rattle.jbig2_base.specs.Grid.{Grid}
use Rattle.jbig2_framing.specs.Reading.{is_salvaged, is_strict}
use Rattle.jbig2_framing.specs.Segment.{Header, SegmentView}
use Rattle.jbig2_base.specs.declared.error.DecodeError.{DecodeError}
use Rattle.jbig2_base.specs.declared.error.DecodeError.TheVariants as errors
use Rattle.jbig2_base.specs.declared.error.FormatError.TheVariants.{MissingPageInfo}
use Rattle.jbig2_base.specs.declared.error.SegmentError.TheVariants.{MissingPatternDictionary}
use Rattle.jbig2_framing.specs.declared.reading.Reading.{Reading}
use Rattle.jbig2_framing.specs.declared.segment.SegmentType.{SegmentType}
use Rattle.jbig2_framing.specs.declared.segment.SegmentType.TheVariants as types
use Rattle.jbig2_base.proofs.FromInput.{FromInput, from_input-if, from_input-next, from_input-number, from_input-refusal}
use Rattle.jbig2_framing.proofs.FromInput.{from_input-file, from_input-initial_page_by, from_input-sequential, from_input-sorted}
use Rattle.jbig2_coder.specs.PrefixCode.{Member}
use Rattle.jbig2_coder.proofs.FromInput.{from_input-custom}
use Rattle.jbig2_halftone.specs.Patterns.{Patterns}
use Rattle.jbig2_halftone.proofs.FromInput.{from_input-halftone, from_input-halftone_header, from_input-halftone_part, from_input-pattern_header, from_input-patterns}
use Rattle.jbig2_region.specs.RegionInfo.{PlacedRegion}
use Rattle.jbig2_region.proofs.FromInput.{from_input-generic, from_input-generic_header, from_input-refined, from_input-refined_part, from_input-refinement_header}
use Rattle.jbig2_symbol.specs.Symbols.{Symbols}
use Rattle.jbig2_symbol.proofs.FromInput.{from_input-symbol_header, from_input-symbols_decoded}
use Rattle.jbig2_text.proofs.RegionsFromInput.{from_input-text, from_input-text_header}
use Rattle.jbig2_page.specs.Names.{Names, ReferredValues, kept_by, no_names, pattern_dictionary_at, symbol_dictionary_at, with_code, with_dictionary, with_number, with_numbers, with_patterns, with_symbols, with_table}
use Rattle.jbig2_page.specs.Files.{PageInFile, ReadFile, association_check, book_at, by_pages, before_pages, pages_in_file, page_in_file, miscounts, of_page, shared_by, segments_at}
use Rattle.jbig2_page.specs.Page.{Drawing, ReadPage, beginning_of, page_from, grid_of_page, immediate, intermediate, strict_fault, with_names, or_left_out, or_passed_over, or_told, blank_page, drawing_of_page, region_at, segment_by, segment_on, segments_drawn, with_drawn_region, known_height}
use Rattle.jbig2_page.specs.Regions.{generic_at, halftone_at, referred_region, refinement_at, text_at}
use Rattle.jbig2_page.specs.declared.kept.Kept.{Kept}
use Rattle.jbig2_page.specs.declared.region.RegionKind.{RegionKind}
use Rattle.jbig2_page.specs.declared.region.RegionKind.TheVariants as kinds
use Rattle.jbig2_page.proofs.SegmentTypes.{of_type, of-segment}
use Rattle.jbig2_page.specs.OtherSegments.{extension}
use Rattle.jbig2_page.specs.PassedOver.{fault_of, with_passed}
use Rattle.jbig2_page.specs.Globals.{globals_at, KeptGlobals, nothing_shared, or_shared_without, shared_from}
use Rattle.jbig2_page.specs.FirstPage.{first_page}

-- ---- what a segment refers to
from_input-with_table : (strict : Bool) (code : Option (List Member)) (r : ReferredValues) → FromInput (with_table strict code r)
from_input-with_table strict (Some code) r = tt
from_input-with_table strict None r = search (from_input-next, from_input-refusal)

from_input-with_either : (strict : Bool) (s : Option Symbols) (code : Option (List Member)) (r : ReferredValues) → FromInput (option_map_or (λ d. with_dictionary d r) s (with_table strict code r))
from_input-with_either strict (Some s) code r = search (from_input-next, from_input-refusal)
from_input-with_either strict None code r = from_input-with_table strict code r

from_input-with_numbers : (strict : Bool) (own shared : Names) (numbers : List ℕ) (r : ReferredValues) → FromInput (with_numbers strict own shared numbers r)
from_input-with_numbers strict own shared [] r = tt
from_input-with_numbers strict own shared (number ∷ numbers) r =
    from_input-next (with_number strict own shared number r) _ (from_input-with_either strict _ _ r) (λ more. from_input-with_numbers strict own shared numbers more)

-- ---- dictionaries and tables
from_input-symbol_dictionary : (strict : Bool) (own shared : Names) (p : SegmentView) → FromInput (symbol_dictionary_at strict own shared p)
unfolding symbol_dictionary_at
from_input-symbol_dictionary strict own shared p = search (from_input-next, from_input-with_numbers, from_input-symbol_header, from_input-symbols_decoded)

from_input-with_symbols : (strict : Bool) (shared : Names) (p : SegmentView) (own : Names) → FromInput (with_symbols strict shared p own)
unfolding with_symbols
from_input-with_symbols strict shared p own = search (from_input-next, from_input-symbol_dictionary)

from_input-pattern_dictionary : (strict : Bool) (bytes : List ℕ) → FromInput (pattern_dictionary_at strict bytes)
unfolding pattern_dictionary_at
from_input-pattern_dictionary strict bytes = search (from_input-next, from_input-pattern_header, from_input-patterns)

from_input-with_patterns : (strict : Bool) (p : SegmentView) (own : Names) → FromInput (with_patterns strict p own)
unfolding with_patterns
from_input-with_patterns strict p own = search (from_input-next, from_input-pattern_dictionary)

from_input-with_code : (p : SegmentView) (own : Names) → FromInput (with_code p own)
unfolding with_code
from_input-with_code p own = search (from_input-next, from_input-custom)

from_input-extension : (strict : Bool) (bytes : List ℕ) → FromInput (extension strict bytes)
from_input-extension true bytes = search (from_input-next, from_input-number, from_input-refusal)
from_input-extension false bytes = tt

-- ---- regions
from_input-text_at : (strict : Bool) (own shared : Names) (p : SegmentView) → FromInput (text_at strict own shared p)
unfolding text_at
from_input-text_at strict own shared p = search (from_input-next, from_input-with_numbers, from_input-text_header, from_input-text)

from_input-some_patterns : (patterns : Option Patterns) → FromInput (some_or (errors.Segment MissingPatternDictionary) patterns)
from_input-some_patterns (Some patterns) = tt
from_input-some_patterns None = tt

from_input-halftone_at : (strict : Bool) (own shared : Names) (p : SegmentView) → FromInput (halftone_at strict own shared p)
unfolding halftone_at
from_input-halftone_at strict own shared p = search (from_input-next, from_input-if, from_input-some_patterns, from_input-halftone_header, from_input-halftone, from_input-halftone_part)

from_input-generic_at : (strict is_intermediate : Bool) (p : SegmentView) → FromInput (generic_at strict is_intermediate p)
unfolding generic_at
from_input-generic_at strict is_intermediate p = search (from_input-next, from_input-generic_header, from_input-generic)

from_input-referred_region : (strict : Bool) (numbers : List ℕ) (regions : List (Kept PlacedRegion)) → FromInput (referred_region strict numbers regions)
from_input-referred_region strict [] regions = tt
from_input-referred_region strict (number ∷ others) regions = search (from_input-next, from_input-refusal)

from_input-refinement_at : (strict is_intermediate : Bool) (page : Grid) (regions : List (Kept PlacedRegion)) (p : SegmentView) → FromInput (refinement_at strict is_intermediate page regions p)
unfolding refinement_at
from_input-refinement_at strict is_intermediate page regions p =
    search (from_input-next, from_input-if, from_input-referred_region, from_input-refusal, from_input-refinement_header, from_input-refined, from_input-refined_part) depth 10

from_input-region_at : (strict : Bool) (globals : Names) (kind : RegionKind) (is_intermediate : Bool) (p : SegmentView) (d : Drawing) → FromInput (region_at strict globals kind is_intermediate p d)
from_input-region_at strict globals kinds.Text is_intermediate p d = from_input-text_at strict d.names globals p
from_input-region_at strict globals kinds.Halftone is_intermediate p d = from_input-halftone_at strict d.names globals p
from_input-region_at strict globals kinds.Generic is_intermediate p d = from_input-generic_at strict is_intermediate p
from_input-region_at strict globals kinds.GenericRefinement is_intermediate p d = from_input-refinement_at strict is_intermediate d.grid d.regions p

from_input-shown : (strict : Bool) (p : SegmentView) (d : Drawing) (r : Result PlacedRegion DecodeError) → FromInput r → FromInput (or_passed_over strict p d (with_drawn_region d r))
from_input-shown strict p d (Ok r) is = tt
from_input-shown strict p d (Err e) is = from_input-if strict (Err e) _ is tt

from_input-immediate : (strict : Bool) (globals : Names) (kind : RegionKind) (p : SegmentView) (d : Drawing) → FromInput (immediate strict globals kind p d)
unfolding immediate
from_input-immediate strict globals kind p d = from_input-shown strict p d (region_at strict globals kind false p d) (from_input-region_at strict globals kind false p d)

from_input-intermediate : (strict : Bool) (globals : Names) (kind : RegionKind) (p : SegmentView) (d : Drawing) → FromInput (intermediate strict globals kind p d)
unfolding intermediate
from_input-intermediate strict globals kind p d = from_input-next (region_at strict globals kind true p d) _ (from_input-region_at strict globals kind true p d) (λ region. tt)

from_input-keeping : (d : Drawing) (kept : Result Names DecodeError) → FromInput kept → FromInput (with_names d kept)
from_input-keeping d kept is = from_input-next kept _ is (λ names. tt)

-- ---- segments
from_input-kept_by : (strict : Bool) (shared : Names) (kind : SegmentType) (h : Header) (bytes : List ℕ) (own : Names) → FromInput (kept_by strict shared (of_type kind h bytes) own)
from_input-kept_by strict shared types.SymbolDictionary h bytes own = from_input-with_symbols strict shared (of_type types.SymbolDictionary h bytes) own
from_input-kept_by strict shared types.PatternDictionary h bytes own = from_input-with_patterns strict (of_type types.PatternDictionary h bytes) own
from_input-kept_by strict shared types.Tables h bytes own = from_input-with_code (of_type types.Tables h bytes) own
from_input-kept_by strict shared types.Extension h bytes own = from_input-next (extension strict bytes) _ (from_input-extension strict bytes) (λ known. tt)
from_input-kept_by strict shared types.Reserved h bytes own = search (from_input-next, from_input-refusal)
from_input-kept_by strict shared _ h bytes own = tt

-- a segment that draws nothing
pub from_input-kept : (strict : Bool) (shared : Names) (p : SegmentView) (own : Names) → FromInput (kept_by strict shared p own)
from_input-kept strict shared p own = from_input-kept_by strict shared p.header.segment_type p.header p.bytes own

from_input-shared-without : (reading : Reading) (fault : Option DecodeError) (number : ℕ) (shared : KeptGlobals) (r : Result Names DecodeError) → FromInput r → FromInput (or_shared_without reading fault number shared r)
from_input-shared-without reading fault number shared (Ok names) is = tt
from_input-shared-without reading fault number shared (Err e) is = from_input-if (is_salvaged reading e) _ (Err e) tt is

pub from_input-named : (reading : Reading) (ps : List SegmentView) (shared : KeptGlobals) → FromInput (shared_from reading ps shared)
from_input-named reading [] shared = tt
from_input-named reading (p ∷ ps) shared =
    let kept : Result Names DecodeError = kept_by (is_strict reading) no_names p shared.names in
    let fault : Option DecodeError = fault_of (kept_by true no_names p shared.names) in
    from_input-next (or_shared_without reading fault p.header.segment_number shared kept) _
    (from_input-shared-without reading fault p.header.segment_number shared kept (from_input-kept_by (is_strict reading) no_names p.header.segment_type p.header p.bytes shared.names)) (λ more. from_input-named reading ps more)

pub from_input-globals : (reading : Reading) (bytes : List ℕ) → FromInput (globals_at reading bytes)
unfolding globals_at
from_input-globals reading bytes = search (from_input-next, from_input-sorted, from_input-named)

pub from_input-segment_by : (strict : Bool) (globals : Names) (p : SegmentView) (d : Drawing) → FromInput (segment_by strict globals p d)
from_input-segment_by strict globals p d =
    of-segment FromInput strict globals p d
    (record {
      nothing = λ q. from_input-keeping d _ (from_input-kept_by strict globals q.header.segment_type q.header q.bytes d.names);
      kept = λ kind q. from_input-intermediate strict globals kind q d;
      shown = λ kind q. from_input-immediate strict globals kind q d;
    })

from_input-left_out : (reading : Reading) (p : SegmentView) (d : Drawing) (r : Result Drawing DecodeError) → FromInput r → FromInput (or_left_out reading p d r)
from_input-left_out reading p d (Ok e) is = tt
from_input-left_out reading p d (Err e) is = from_input-if (is_salvaged reading e) _ (Err e) tt is

from_input-told : (fault : Option DecodeError) (number : ℕ) (d : Drawing) (r : Result Drawing DecodeError) → FromInput r → FromInput (or_told fault number d r)
from_input-told None number d r is = is
from_input-told (Some fault) number d (Ok e) is = from_input-if (eqb e.passed_over.count d.passed_over.count) (Ok (record e { passed_over = with_passed (Some number) fault e.passed_over })) (Ok e) tt tt
from_input-told (Some fault) number d (Err e) is = is

pub from_input-drawn : (reading : Reading) (globals : Names) (ps : List SegmentView) (d : Drawing) → FromInput (segments_drawn reading globals ps d)
from_input-drawn reading globals [] d = tt
from_input-drawn reading globals (p ∷ ps) d =
    from_input-if _ (Ok d) _ tt
    (from_input-next (segment_on reading globals p d) _ (from_input-told (strict_fault globals p d) p.header.segment_number d _ (from_input-left_out reading p d _ (from_input-segment_by (is_strict reading) globals p d))) (λ e. from_input-drawn reading globals ps e))

-- ---- pages and files
pub from_input-drawing : (page : ReadPage) → FromInput page.globals → FromInput (drawing_of_page page)
from_input-drawing page is = from_input-next page.globals _ is (λ globals. from_input-next (segments_drawn page.reading globals page.segments (blank_page page.initial_page)) _ (from_input-drawn page.reading globals page.segments (blank_page page.initial_page)) (λ d. tt))

-- a page whose globals gave names, or such an error
pub from_input-grid : (page : ReadPage) → FromInput page.globals → FromInput (grid_of_page page)
unfolding grid_of_page
from_input-grid page is = from_input-next (drawing_of_page page) _ (from_input-drawing page is) (λ d. tt)

pub from_input-beginning : (reading : Reading) (ps : List SegmentView) → FromInput (beginning_of reading ps)
unfolding beginning_of
from_input-beginning reading ps = from_input-initial_page_by (known_height reading ps) ps

pub from_input-embedded : (reading : Reading) (globals : Names) (bytes : List ℕ) → FromInput (page_from reading globals bytes)
unfolding page_from
from_input-embedded reading globals bytes = search (from_input-next, from_input-sequential, from_input-beginning)

pub from_input-associated : (strict : Bool) (ps : List SegmentView) → FromInput (association_check strict ps)
from_input-associated strict [] = tt
from_input-associated strict (p ∷ ps) = from_input-if _ (Err _) (association_check strict ps) tt (from_input-associated strict ps)

pub from_input-filed : (reading : Reading) (own : List SegmentView) → FromInput (page_in_file reading own)
unfolding page_in_file
from_input-filed reading own = search (from_input-next, from_input-refusal, from_input-beginning)

from_input-filed-before : (reading : Reading) (r : Result PageInFile DecodeError) (others : Result (List PageInFile) DecodeError) → FromInput r → FromInput others → FromInput (before_pages reading r others)
from_input-filed-before reading (Ok page) others is rest = from_input-next others _ rest (λ pages. tt)
from_input-filed-before reading (Err e) others is rest = from_input-if (is_salvaged reading e) others (Err e) rest is

pub from_input-each : (reading : Reading) (all : List (List SegmentView)) → FromInput (pages_in_file reading all)
from_input-each reading [] = tt
from_input-each reading (own ∷ others) = from_input-filed-before reading (page_in_file reading own) (pages_in_file reading others) (from_input-filed reading own) (from_input-each reading others)

pub from_input-shared : (reading : Reading) (pages : List PageInFile) (shared : List SegmentView) → FromInput (shared_by reading pages shared)
from_input-shared reading [] shared = tt
from_input-shared reading (page ∷ pages) shared = from_input-named reading shared (nothing_shared None)

pub from_input-segments_at : (reading : Reading) (bytes : List ℕ) → FromInput (segments_at reading bytes)
unfolding segments_at
from_input-segments_at reading bytes = from_input-next (file_at reading bytes) _ (from_input-file reading bytes) (λ file. tt)

pub from_input-book : (reading : Reading) (bytes : List ℕ) → FromInput (book_at reading bytes)
unfolding book_at segments_at
from_input-book reading bytes = search (from_input-next, from_input-file, from_input-associated, from_input-refusal, from_input-each) depth 8

-- what holds of the last step's value holds of the whole
from_input-last : {A B : Type 0} (P : B → Type 0) (r : Result A DecodeError) (next : A → Result B DecodeError) → ((x : A) → IfOk (next x) P) → IfOk (r >>= next) P
from_input-last P (Ok x) next rest = rest x
from_input-last P (Err e) next rest = tt

-- the error that a file's globals gave, for its pages
pub from_input-book_globals : (reading : Reading) (bytes : List ℕ) → IfOk (book_at reading bytes) (λ book. FromInput book.globals)
unfolding book_at
from_input-book_globals reading bytes =
    let P : ReadFile → Type 0 = λ book. FromInput book.globals in
    from_input-last P (segments_at reading bytes) _ (λ file.
    from_input-last P (association_check (is_strict reading) file.1) _ (λ known.
    from_input-last P (refuse_if (is_strict reading && miscounts file.0.number_of_pages (length (by_pages file.1))) _) _ (λ counted.
    from_input-last P (pages_in_file reading (by_pages file.1)) _ (λ pages. from_input-shared reading pages (of_page 0 file.1)))))

from_input-some_page : (page : Option ReadPage) → FromInput (some_or (errors.Format MissingPageInfo) page)
from_input-some_page (Some page) = tt
from_input-some_page None = tt

pub from_input-first_page : (bytes : List ℕ) → FromInput (first_page bytes)
unfolding first_page
from_input-first_page bytes = search (from_input-next, from_input-book, from_input-some_page)
